-- What a list that is being drawn keeps.
use Rattle.std.proofs.Common.{◌≡◌, refl, sym, ap, ◌∙◌, ℕ, suc, ◌+◌, ◌/◌, ◌%◌, ◌^◌, ◌<◌, ◌≤◌, List, [], ◌∷◌, ◌++◌, length, arith, add-one, below_more}
use Rattle.std.proofs.lemmas.List.{length_push}
use Rattle.std.proofs.lemmas.List.FromFn.{map-range_with_len_more}
use Rattle.collection_model.specs.Collection.{Posting, postings_of}
use Rattle.pef_report.specs.Generated.{next_state, state_behind, draw, document_drawn, posting_drawn, list_drawn}
use Rattle.pef_report.proofs.Drawn.{postings_drawn, list-ends}

-- The documents and frequencies so far, the state behind them, and the next document.
pub record IsDrawing (g s n : ℕ) (docs freqs : List ℕ) (state document : ℕ) : Type 0 where
  pub same_length : length docs ≡ length freqs
  pub postings : postings_of docs freqs ≡ postings_drawn g s (length docs)
  pub state_is : state ≡ state_behind s (suc (length docs))
  pub document_is : document ≡ document_drawn g s (length docs)
  pub below : (j : ℕ) → j < length docs → document_drawn g s j < n

postings-push : (docs freqs : List ℕ) (d f : ℕ) → length docs ≡ length freqs
    → postings_of (docs ++ d ∷ []) (freqs ++ f ∷ []) ≡ postings_of docs freqs ++ record { doc = d; freq = f } ∷ []
postings-push [] [] d f same = refl
postings-push [] (y ∷ freqs) d f same = absurd (omega arith)
postings-push (x ∷ docs) [] d f same = absurd (omega arith)
postings-push (x ∷ docs) (y ∷ freqs) d f same = ap (λ l. record { doc = x; freq = y } ∷ l) (postings-push docs freqs d f (omega arith))

-- the first draw is the first document
pub drawing-begins : (g s n state number document : ℕ) (docs freqs : List ℕ) → docs ≡ [] → freqs ≡ [] → state ≡ next_state s → number ≡ state / 2 ^ 16
    → document ≡ number % g → IsDrawing g s n docs freqs state document
unfolding state_behind draw document_drawn
drawing-begins g s n state number document docs freqs no_docs no_freqs drawn high first =
    let none : length docs ≡ 0 = ap length no_docs in
    let number_is : number ≡ draw s 0 = high ∙ ap (λ x. x / 2 ^ 16) drawn in
    record {
      same_length = none ∙ sym (ap length no_freqs);
      postings = (λ i. postings_of (no_docs i) (no_freqs i)) ∙ ap (postings_drawn g s) (sym none);
      state_is = drawn ∙ ap (λ k. state_behind s (suc k)) (sym none);
      document_is = first ∙ ap (λ x. x % g) number_is ∙ ap (document_drawn g s) (sym none);
      below = λ j lt. absurd (omega arith);
    }

regroup : (d r : ℕ) → d + (1 + r) ≡ d + 1 + r
regroup d r = omega arith

-- one posting more, from the next draw
pub drawing-more : (g s n state document drawn_state number : ℕ) (docs freqs : List ℕ) → IsDrawing g s n docs freqs state document → document < n
    → drawn_state ≡ next_state state → number ≡ drawn_state / 2 ^ 16
    → IsDrawing g s n (docs ++ document ∷ []) (freqs ++ (1 + number % 8) ∷ []) drawn_state (document + (1 + number / 8 % g))
unfolding state_behind draw document_drawn
drawing-more g s n state document drawn_state number docs freqs now within drawn high =
    let k : ℕ = length docs in
    let longer : length (docs ++ document ∷ []) ≡ suc k = length_push docs document ∙ add-one k in
    let state_next : drawn_state ≡ state_behind s (suc (suc k)) = drawn ∙ ap next_state now.state_is in
    let number_is : number ≡ draw s (suc k) = high ∙ ap (λ x. x / 2 ^ 16) state_next in
    let posting : Posting = record { doc = document; freq = 1 + number % 8 } in
    let posting_is : posting ≡ posting_drawn g s k = λ i. record { doc = now.document_is i; freq = 1 + number_is i % 8 } in
    let grown : postings_drawn g s (suc k) ≡ postings_drawn g s k ++ posting_drawn g s k ∷ [] =
    ap (postings_drawn g s) (sym (add-one k)) ∙ map-range_with_len_more (posting_drawn g s) 0 k k (omega arith) in
    let document_next : document + (1 + number / 8 % g) ≡ document_drawn g s (suc k) =
    regroup document (number / 8 % g) ∙ (λ i. now.document_is i + 1 + number_is i / 8 % g) in
    record {
      same_length = omega (arith, length_push docs document, length_push freqs (1 + number % 8), now.same_length);
      postings = postings-push docs freqs document (1 + number % 8) now.same_length ∙ (λ i. now.postings i ++ posting_is i ∷ []) ∙ sym grown ∙ ap (postings_drawn g s) (sym longer);
      state_is = state_next ∙ ap (λ j. state_behind s (suc j)) (sym longer);
      document_is = document_next ∙ ap (document_drawn g s) (sym longer);
      below = λ j lt. below_more (λ j. document_drawn g s j < n) k now.below (omega (arith, now.document_is)) j (omega (arith, longer));
    }

-- behind the last document below n the list is drawn
pub drawing-ends : (g s n state document : ℕ) (docs freqs : List ℕ) → IsDrawing g s n docs freqs state document → n ≤ document
    → postings_of docs freqs ≡ list_drawn n g s
drawing-ends g s n state document docs freqs now past =
    now.postings ∙ sym (list-ends g s n (length docs) (record { below = now.below; beyond = omega (arith, now.document_is) }))

pub postings-length : (docs freqs : List ℕ) → length docs ≡ length freqs → length (postings_of docs freqs) ≡ length docs
postings-length [] freqs same = refl
postings-length (d ∷ docs) [] same = absurd (omega arith)
postings-length (d ∷ docs) (f ∷ freqs) same = ap suc (postings-length docs freqs (omega arith))
