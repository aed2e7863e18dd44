-- Lemmas on items that are put into a room.
use Rattle.std.proofs.Common.{◌≡◌, refl, sym, ap, ◌∙◌, ℕ, suc, ◌+◌, ◌<◌, ◌≤◌, List, [], ◌∷◌, ◌++◌, length, take, drop, map, get_or, inl, inr, arith, append_assoc}
use Rattle.std.specs.Prelude.{min, set, Some, option_map, unwrap_or, None}
use Rattle.std.specs.List.{slice_get}
use Rattle.std.proofs.Math.Seq.{take-suc}
use Rattle.std.proofs.lemmas.List.{take_all, drop_all, drop_more, set_at, map-set, length-take-le, length-drop, length-map, get_or-drop}
use Rattle.std.proofs.lemmas.Option.{slice_get-map, slice_get-get_or, none-some}
use Rattle.std.proofs.lemmas.Bool.{cases_lt}
use Rattle.collection_model.specs.Collection as model
use Rattle.cursor_api.proofs.FirstPosting.{doc-within}
use Rattle.pefidx_c.specs.declared.asking.Posting.{Posting}
use Rattle.pefidx_c.specs.declared.ranking.Scored.{Scored}
use Rattle.pefidx_c.specs.Rooms.{put_in, posting_of, pair_of}

-- the first items are put in, as far as there are any or there is room
pub put-all : {A : Type 0} (room items : List A) (n : ℕ) → n ≡ min (length room) (length items) → take n items ++ drop n room ≡ put_in room items
put-all room items n is =
    elim (cases_lt (length room) (length items)) as (λ _. take n items ++ drop n room ≡ put_in room items) [
      | inl less ↦
          let at : n ≡ length room = omega (arith, is) in
          let none : drop n room ≡ drop (length items) room = drop_all n room (omega arith) ∙ sym (drop_all (length items) room (omega arith)) in
          (λ i. take (at i) items ++ none i)
      | inr more ↦
          let at : n ≡ length items = omega (arith, is) in
          let all : take n items ≡ take (length room) items = take_all n items (omega arith) ∙ sym (take_all (length room) items (omega arith)) in
          (λ i. all i ++ drop (at i) room)
    ]

-- one item more is put in
pub put-more : {A : Type 0} (room now next items : List A) (n m : ℕ) (x d : A) → m ≡ n + 1 → n < length room → n < length items → now ≡ take n items ++ drop n room
    → get_or items n d ≡ x → next ≡ set now n x → next ≡ take m items ++ drop m room
put-more room now next items n m x d on in_room in_items so is put =
    let one_on : suc n ≡ m = omega (arith, on) in
    let rest : drop n room ≡ get_or room n x ∷ drop (n + 1) room = drop_more room n x in_room in
    let prefix : length (take n items) ≡ n = length-take-le n items (omega arith) in
    put ∙ ap (λ l. set l n x) (so ∙ ap (λ l. take n items ++ l) rest) ∙ set_at (take n items) (get_or room n x) (drop (n + 1) room) x n prefix
    ∙ ap (λ y. take n items ++ y ∷ drop (n + 1) room) (sym is) ∙ sym (append_assoc (take n items) (get_or items n d ∷ []) (drop (n + 1) room))
    ∙ (λ i. sym (take-suc items n d in_items) i ++ drop (n + 1) room) ∙ ap (λ k. take k items ++ drop (n + 1) room) one_on ∙ ap (λ k. take m items ++ drop k room) (sym on)

-- a document with its score more
pub best-more : (room now next : List Scored) (found : List (ℕ × ℕ)) (n m : ℕ) (d : ℕ × ℕ) → m ≡ n + 1 → n < length room → n < length found
    → map pair_of now ≡ take n found ++ drop n (map pair_of room) → next ≡ set now n (record { doc = (get_or found n d).0; score = (get_or found n d).1 })
    → map pair_of next ≡ take m found ++ drop m (map pair_of room)
best-more room now next found n m d on in_room in_found so put =
    let x : Scored = record { doc = (get_or found n d).0; score = (get_or found n d).1 } in
    let within : n < length (map pair_of room) = omega (arith, in_room, length-map room pair_of) in
    put-more (map pair_of room) (map pair_of now) (map pair_of next) found n m (pair_of x) d on within in_found so refl (ap (map pair_of) put ∙ map-set pair_of now n x)

-- the posting at a place of a list
posting-at : (list : List model.Posting) (place n doc freq : ℕ) (d : model.Posting) → option_map (λ p. p.doc) (slice_get list (place + n)) ≡ Some doc
    → slice_get (model.freqs_of list) (place + n) ≡ Some freq → get_or (drop place list) n d ≡ record { doc = doc; freq = freq }
posting-at list place n doc freq d doc_is freq_is =
    let within : place + n < length list = doc-within list (place + n) doc doc_is in
    let here : model.Posting = get_or list (place + n) d in
    let at : slice_get list (place + n) ≡ Some here = slice_get-get_or list (place + n) d within in
    let is_doc : Some here.doc ≡ Some doc = ap (option_map (λ p. p.doc)) (sym at) ∙ doc_is in
    let is_freq : Some here.freq ≡ Some freq = ap (option_map (λ p. p.freq)) (sym at) ∙ sym (slice_get-map (λ p. p.freq) list (place + n)) ∙ freq_is in
    let doc_same : here.doc ≡ doc = ap (λ o. unwrap_or o here.doc) is_doc in
    let freq_same : here.freq ≡ freq = ap (λ o. unwrap_or o here.freq) is_freq in
    get_or-drop place list n d ∙ (λ i. record { doc = doc_same i; freq = freq_same i })

-- a posting more
pub posting-more : (room now next : List Posting) (list : List model.Posting) (start place n m doc freq : ℕ) → m ≡ n + 1 → n < length room → place ≡ start + n
    → map posting_of now ≡ take n (drop start list) ++ drop n (map posting_of room)
    → option_map (λ p. p.doc) (slice_get list place) ≡ Some doc → slice_get (model.freqs_of list) place ≡ Some freq → next ≡ set now n (record { doc = doc; freq = freq })
    → map posting_of next ≡ take m (drop start list) ++ drop m (map posting_of room)
posting-more room now next list start place n m doc freq on in_room at so doc_is freq_is put =
    let x : Posting = record { doc = doc; freq = freq } in
    let doc_at : option_map (λ p. p.doc) (slice_get list (start + n)) ≡ Some doc = ap (λ k. option_map (λ p. p.doc) (slice_get list k)) (sym at) ∙ doc_is in
    let freq_at : slice_get (model.freqs_of list) (start + n) ≡ Some freq = ap (slice_get (model.freqs_of list)) (sym at) ∙ freq_is in
    put-more (map posting_of room) (map posting_of now) (map posting_of next) (drop start list) n m (posting_of x) (posting_of x) on
    (omega (arith, in_room, length-map room posting_of))
    (omega (arith, doc-within list (start + n) doc doc_at, length-drop start list))
    so (posting-at list start n doc freq (posting_of x) doc_at freq_at) (ap (map posting_of) put ∙ map-set posting_of now n x)

-- the list has no more
pub postings-end : (list : List model.Posting) (place : ℕ) → option_map (λ p. p.doc) (slice_get list place) ≡ None → length list ≤ place
postings-end list place none =
    elim (cases_lt place (length list)) as (λ _. length list ≤ place) [
      | inl within ↦
          let d : model.Posting = record { doc = 0; freq = 0 } in
          let some : option_map (λ p. p.doc) (slice_get list place) ≡ Some (get_or list place d).doc = ap (option_map (λ p. p.doc)) (slice_get-get_or list place d within) in
          absurd (none-some (get_or list place d).doc (sym (sym some ∙ none)))
      | inr past ↦ past
    ]
