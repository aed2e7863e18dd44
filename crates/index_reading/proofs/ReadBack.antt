-- Lemmas on what an index stands for, as it is read back place by place.
use Rattle.std.proofs.Common.{◌≡◌, refl, sym, ap, ◌∙◌, ℕ, suc, ◌+◌, ◌<◌, ◌≤◌, List, [], ◌∷◌, ◌++◌, length, get_or, take, inl, inr, append_assoc, arith}
use Rattle.std.specs.Prelude.{Some, None, option_map, unwrap_or, slice_get, slice_index, sum, is_some, Option, true, false}
use Rattle.std.proofs.Math.Seq.{take-suc}
use Rattle.std.proofs.lemmas.List.{length_push, take_all}
use Rattle.std.proofs.lemmas.Option.{slice_get-map, slice_get-get_or, none-some}
use Rattle.std.proofs.lemmas.Bool.{cases_lt}
use Rattle.std.proofs.lemmas.List.Sums.{sum_by_more, sum_by_more_le}
use Rattle.collection_model.proofs.Lists.{freqs_of-length}
use Rattle.collection_model.specs.Collection.{Posting, postings_of, freqs_of}
use Rattle.cursor_api.proofs.FirstPosting.{doc-within}

-- ---- a list that a cursor reads

-- The documents and frequencies are those before a place of a list.
pub record AreRead (list : List Posting) (place : ℕ) (docs freqs : List ℕ) : Type 0 where
  pub same_length : length docs ≡ length freqs
  pub postings : postings_of docs freqs ≡ take place list

postings-push : (docs freqs : List ℕ) (d f : ℕ) → length docs ≡ length freqs
    → postings_of (docs ++ d ∷ []) (freqs ++ f ∷ []) ≡ postings_of docs freqs ++ record { doc = d; freq = f } ∷ []
postings-push [] [] d f same = refl
postings-push [] (y ∷ freqs) d f same = absurd (omega arith)
postings-push (x ∷ docs) [] d f same = absurd (omega arith)
postings-push (x ∷ docs) (y ∷ freqs) d f same = ap (λ l. record { doc = x; freq = y } ∷ l) (postings-push docs freqs d f (omega arith))

abbrev no_posting : Posting
no_posting = record { doc = 0; freq = 0 }

-- at the start nothing is read, and a posting more at each place
pub reading-begins : (list : List Posting) (place : ℕ) (docs freqs : List ℕ) → place ≡ 0 → docs ≡ [] → freqs ≡ [] → AreRead list place docs freqs
reading-begins list place docs freqs at no_docs no_freqs = record {
  same_length = ap length no_docs ∙ sym (ap length no_freqs);
  postings = (λ i. postings_of (no_docs i) (no_freqs i)) ∙ ap (λ k. take k list) (sym at);
}

pub reading-more : (list now : List Posting) (place next : ℕ) (docs freqs more_docs more_freqs : List ℕ) (d f : ℕ) → AreRead list place docs freqs → now ≡ list → next ≡ place + 1
    → option_map (λ p. p.doc) (slice_get now place) ≡ Some d → slice_get (freqs_of now) place ≡ Some f → more_docs ≡ docs ++ d ∷ [] → more_freqs ≡ freqs ++ f ∷ []
    → AreRead list next more_docs more_freqs
reading-more list now place next docs freqs more_docs more_freqs d f h same on doc freq docs_more freqs_more =
    let within : place < length list = omega (arith, doc-within now place d doc, ap length same) in
    let here : Posting = get_or list place no_posting in
    let at : slice_get list place ≡ Some here = slice_get-get_or list place no_posting within in
    let doc_is : Some here.doc ≡ Some d = ap (option_map (λ p. p.doc)) (sym at) ∙ ap (λ l. option_map (λ p. p.doc) (slice_get l place)) (sym same) ∙ doc in
    let freq_is : Some here.freq ≡ Some f =
    ap (option_map (λ p. p.freq)) (sym at) ∙ sym (slice_get-map (λ p. p.freq) list place) ∙ ap (λ l. slice_get (freqs_of l) place) (sym same) ∙ freq in
    let d_is : here.doc ≡ d = ap (λ o. unwrap_or o here.doc) doc_is in
    let f_is : here.freq ≡ f = ap (λ o. unwrap_or o here.freq) freq_is in
    let posting : record { doc = d; freq = f } ≡ here = λ i. record { doc = sym d_is i; freq = sym f_is i } in
    let one_on : suc place ≡ next = omega (arith, on) in
    record {
      same_length = omega (arith, ap length docs_more, ap length freqs_more, length_push docs d, length_push freqs f, h.same_length);
      postings = (λ i. postings_of (docs_more i) (freqs_more i)) ∙ postings-push docs freqs d f h.same_length ∙ (λ i. h.postings i ++ posting i ∷ [])
          ∙ sym (take-suc list place no_posting within) ∙ ap (λ k. take k list) one_on;
    }

-- at the end all of it
pub reading-ends : (list now : List Posting) (place : ℕ) (docs freqs : List ℕ) → AreRead list place docs freqs → now ≡ list
    → option_map (λ p. p.doc) (slice_get now place) ≡ None → postings_of docs freqs ≡ list
reading-ends list now place docs freqs h same none =
    elim (cases_lt place (length list)) as (λ _. postings_of docs freqs ≡ list) [
      | inl within ↦
          let some : option_map (λ p. p.doc) (slice_get list place) ≡ Some (get_or list place no_posting).doc =
          ap (option_map (λ p. p.doc)) (slice_get-get_or list place no_posting within) in
          let both : Some (get_or list place no_posting).doc ≡ None = sym some ∙ ap (λ l. option_map (λ p. p.doc) (slice_get l place)) (sym same) ∙ none in
          absurd (none-some (get_or list place no_posting).doc (sym both))
      | inr past ↦ h.postings ∙ take_all place list past
    ]

-- ---- the sizes

-- one size more
pub size-more : (all sizes more : List ℕ) (d size : ℕ) → sizes ≡ take d all → more ≡ sizes ++ size ∷ [] → size ≡ slice_index all d → d < length all → more ≡ take (d + 1) all
size-more all sizes more d size so pushed is within =
    let one_on : suc d ≡ d + 1 = omega arith in
    pushed ∙ (λ i. so i ++ is i ∷ []) ∙ sym (take-suc all d 0 within) ∙ ap (λ k. take k all) one_on

-- the same behind others
pub size-behind : (first all sizes more : List ℕ) (d size : ℕ) → sizes ≡ first ++ take d all → more ≡ sizes ++ size ∷ [] → size ≡ slice_index all d → d < length all → more ≡ first ++ take (d + 1) all
size-behind first all sizes more d size so pushed is within =
    let one_on : suc d ≡ d + 1 = omega arith in
    pushed ∙ ap (λ l. l ++ size ∷ []) so ∙ append_assoc first (take d all) (size ∷ []) ∙ ap (λ n. first ++ (take d all ++ n ∷ [])) is
    ∙ ap (λ l. first ++ l) (sym (take-suc all d 0 within)) ∙ ap (λ k. first ++ take k all) one_on

pub sizes-behind : (first all sizes : List ℕ) (d : ℕ) → sizes ≡ first ++ take d all → length all ≤ d → sizes ≡ first ++ all
sizes-behind first all sizes d so end = so ∙ ap (λ l. first ++ l) (take_all d all end)

-- ---- the frequencies of a list, summed

-- The frequencies before a place of a list are summed.
pub record AreSummed (list : List Posting) (place total : ℕ) : Type 0 where
  pub summed : total ≡ sum (take place (freqs_of list))

pub summing-begins : (list : List Posting) (place : ℕ) → place ≡ 0 → AreSummed list place 0
summing-begins list place at = record { summed = ap (λ k. sum (take k (freqs_of list))) (sym at) }

pub summing-more : (list now : List Posting) (place next total f : ℕ) → AreSummed list place total → now ≡ list → next ≡ place + 1 → place < length list
    → slice_get (freqs_of now) place ≡ Some f → AreSummed list next (total + f)
summing-more list now place next total f h same on within freq =
    let inside : place < length (freqs_of list) = omega (arith, within, freqs_of-length list) in
    let at : Some (get_or (freqs_of list) place 0) ≡ Some f = sym (slice_get-get_or (freqs_of list) place 0 inside) ∙ ap (λ l. slice_get (freqs_of l) place) (sym same) ∙ freq in
    let f_is : get_or (freqs_of list) place 0 ≡ f = ap (λ o. unwrap_or o 0) at in
    let step = sum_by_more (λ n. n) (freqs_of list) place 0 inside in
    record { summed = omega (arith, step, f_is, h.summed, ap (λ k. sum (take k (freqs_of list))) on) }

pub summing-ends : (list : List Posting) (place total : ℕ) → AreSummed list place total → length list ≤ place → total ≡ sum (freqs_of list)
summing-ends list place total h end = h.summed ∙ ap sum (take_all place (freqs_of list) (omega (arith, end, freqs_of-length list)))

pub summed-within : (list : List Posting) (place total f : ℕ) → AreSummed list place total → place < length list → slice_get (freqs_of list) place ≡ Some f → total + f ≤ sum (freqs_of list)
summed-within list place total f h within freq =
    let inside : place < length (freqs_of list) = omega (arith, within, freqs_of-length list) in
    let f_is : get_or (freqs_of list) place 0 ≡ f = ap (λ o. unwrap_or o 0) (sym (slice_get-get_or (freqs_of list) place 0 inside) ∙ freq) in
    omega (arith, sum_by_more_le (λ n. n) (freqs_of list) place 0 inside, f_is, h.summed)

-- whether there is a document at a place
pub place-within : (list : List Posting) (place : ℕ) (doc : Option ℕ) → doc ≡ option_map (λ p. p.doc) (slice_get list place) → is_some doc ≡ true → place < length list
place-within list place (Some d) is some = doc-within list place d (sym is)
place-within list place None is some = absurd cc

pub place-past : (list : List Posting) (place : ℕ) (doc : Option ℕ) → doc ≡ option_map (λ p. p.doc) (slice_get list place) → is_some doc ≡ false → length list ≤ place
place-past list place (Some d) is none = absurd cc
place-past list place None is none = elim (cases_lt place (length list)) as (λ _. length list ≤ place) [
  | inl within ↦
      let some : option_map (λ p. p.doc) (slice_get list place) ≡ Some (get_or list place no_posting).doc = ap (option_map (λ p. p.doc)) (slice_get-get_or list place no_posting within) in
      absurd (none-some (get_or list place no_posting).doc (is ∙ some))
  | inr past ↦ past
]
