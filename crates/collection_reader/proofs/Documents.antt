-- The documents of a list, as they are read one after another.
use Rattle.std.proofs.Common.{◌≡◌, refl, ◌∙◌, sym, ap, ℕ, ◌^◌, ◌<◌, ◌≤◌, ◌+◌, ◌-◌, ◌++◌, List, [], ◌∷◌, length, get_or, arith, inl, inr, IsTrue, Ok, Err, Some, true, false, nat_lt, nat_le}
use Rattle.std.specs.List.{All}
use Rattle.std.specs.List.Sorted.{IsStrictlyIncreasing}
use Rattle.std.proofs.lemmas.Bool.{cases_lt}
use Rattle.std.proofs.lemmas.Bool.Decides.{nat_tests}
use Rattle.std.proofs.lemmas.List.{get_or_append_left, get_or_push, length_push}
use Rattle.std.proofs.lemmas.List.Elements.{All-push}
use Rattle.collection_model.specs.Bytes.{le32}
use Rattle.collection_model.proofs.Numbers.{AreNumbers}
use Rattle.io_traits.specs.declared.fail.Slot.TheVariants.{Docs}
use Rattle.io_traits.specs.DepotState.{DepotState}
use Rattle.collection_reader.specs.declared.fault.Rule.{Rule}
use Rattle.collection_reader.specs.declared.fault.Rule.TheVariants.{C1, C4, C5}
use Rattle.collection_reader.specs.declared.fault.CollError.{CollError}
use Rattle.collection_reader.specs.declared.fault.CollError.TheVariants.{Broken, NoMemory}
use Rattle.collection_reader.specs.declared.position.Position.{Position}
use Rattle.collection_reader.specs.FirstFault.{number_at, lacks, doc_break}
use Rattle.held_pieces.specs.Pieces.{rest_of}
use Rattle.collection_reader.specs.OneFile.{TakesNumber, ReadsFrom}
use Rattle.collection_reader.specs.OneSequence.{IsDocsFault, ReadsDocuments}
use Rattle.collection_reader.proofs.SameAnswer.{same-fault, fault-of, no_memory-not-broken}
use Rattle.collection_reader.proofs.ReadsFrom.{answers-ok, answers-err, answers-broken, answers-no_memory, reads-then}
use Rattle.collection_reader.proofs.Numbers.{lacks-there}
use Rattle.collection_reader.proofs.Breaks.{docs-none}
use Rattle.collection_reader.proofs.Begun.{begun, begun-next, begun-claim, begun-value, begun-there, begun-cut}

-- where the document at a place stands
abbrev pub at_document : ℕ → ℕ → Position
at_document t k = record { file = Docs; term = t; place = k }

-- documents that rise below n, and fit
pub record AreDocuments (n : ℕ) (docs : List ℕ) : Type 0 where
  pub rising : IsStrictlyIncreasing docs
  pub in_range : All (λ d. d < n) docs
  pub fit : AreNumbers docs

-- the first document that breaks a rule, behind some that break none
first-broken : (n t m : ℕ) (docs rest : List ℕ) (rule : Rule) (k : ℕ) → AreDocuments n docs → length docs ≡ k → k < m → m < 2 ^ 32
    → doc_break n (begun m docs rest) k ≡ Some rule → IsDocsFault n t (begun m docs rest) (record { rule = rule; file = Docs; term = t; place = k })
first-broken n t m docs rest rule k good count lt fits is =
    rw (begun-there m docs rest 0 (omega arith)) (
    inl (
      k,
      rule,
      rw begun-claim lt,
      is,
      λ j l. docs-none n m docs rest good.fit good.rising good.in_range j (omega arith),
      refl,
    )
    )

-- which rule it breaks
breaks-C1 : (n : ℕ) (bytes : List ℕ) (k : ℕ) → lacks bytes (k + 1) ≡ true → doc_break n bytes k ≡ Some C1
breaks-C1 n bytes k cut = rw cut refl

breaks-C4 : (n : ℕ) (bytes : List ℕ) (k d : ℕ) → lacks bytes (k + 1) ≡ false → number_at bytes (k + 1) ≡ d → n ≤ d → doc_break n bytes k ≡ Some C4
breaks-C4 n bytes k d there is high =
    let is_high : nat_le n (number_at bytes (k + 1)) ≡ true = grind (arith, nat_tests) in
    rw (there, is_high) refl

breaks-C5 : (n : ℕ) (bytes : List ℕ) (k d : ℕ) → lacks bytes (k + 1) ≡ false → number_at bytes (k + 1) ≡ d → d < n → 0 < k → d ≤ number_at bytes k → doc_break n bytes k ≡ Some C5
breaks-C5 n bytes k d there is low some below =
    let not_high : nat_le n (number_at bytes (k + 1)) ≡ false = grind (arith, nat_tests) in
    let is_some : nat_lt 0 k ≡ true = grind (arith, nat_tests) in
    let is_low : nat_le (number_at bytes (k + 1)) (number_at bytes k) ≡ true = grind (arith, nat_tests) in
    rw (there, not_high, is_some, is_low) refl

cut-breaks : (n m : ℕ) (docs rest : List ℕ) (k : ℕ) → k ≡ length docs → length rest < 4 → doc_break n (begun m docs rest) k ≡ Some C1
cut-breaks n m docs rest k count short = breaks-C1 n (begun m docs rest) k (begun-cut m docs rest k count short)

high-breaks : (n m d : ℕ) (docs rest : List ℕ) (k : ℕ) → AreNumbers docs → k ≡ length docs → d < 2 ^ 32 → n ≤ d → doc_break n (begun m docs (le32 d ++ rest)) k ≡ Some C4
high-breaks n m d docs rest k fit count fits high =
    let more : AreNumbers (docs ++ d ∷ []) = All-push (λ j. j < 2 ^ 32) docs d fit fits in
    let there = begun-there m (docs ++ d ∷ []) rest (k + 1) (omega (arith, length_push docs d)) in
    let here = begun-value m (docs ++ d ∷ []) rest k more (omega (arith, length_push docs d)) ∙ get_or_push docs d 0 k (sym count) in
    ap (λ b. doc_break n b k) (begun-next m docs d rest) ∙ breaks-C4 n (begun m (docs ++ d ∷ []) rest) k d there here high

low-breaks : (n m d : ℕ) (docs rest : List ℕ) (k : ℕ) → AreNumbers docs → k ≡ length docs → d < n → n ≤ 2 ^ 32 → 0 < k → d ≤ get_or docs (k - 1) 0 → doc_break n (begun m docs (le32 d ++ rest)) k ≡ Some C5
low-breaks n m d docs rest k fit count low fits some below =
    let more : AreNumbers (docs ++ d ∷ []) = All-push (λ j. j < 2 ^ 32) docs d fit (omega arith) in
    let there = begun-there m (docs ++ d ∷ []) rest (k + 1) (omega (arith, length_push docs d)) in
    let here = begun-value m (docs ++ d ∷ []) rest k more (omega (arith, length_push docs d)) ∙ get_or_push docs d 0 k (sym count) in
    let is : k ≡ k - 1 + 1 = omega arith in
    let same : number_at (begun m (docs ++ d ∷ []) rest) k ≡ number_at (begun m (docs ++ d ∷ []) rest) (k - 1 + 1) = ap (λ j. number_at (begun m (docs ++ d ∷ []) rest) j) is in
    let before = same ∙ begun-value m (docs ++ d ∷ []) rest (k - 1) more (omega (arith, length_push docs d)) ∙ get_or_append_left docs (d ∷ []) 0 (k - 1) (omega arith) in
    ap (λ b. doc_break n b k) (begun-next m docs d rest) ∙ breaks-C5 n (begun m (docs ++ d ∷ []) rest) k d there here low some (omega (arith, before, below))

-- what is known once k of m documents were read
pub record DocumentsSoFar (n m k : ℕ) (held now_held : List ℕ) (old now : DepotState) (docs : List ℕ) : Type 0 where
  pub count : length docs ≡ k
  pub claimed : m < 2 ^ 32
  pub good : AreDocuments n docs
  pub rest : IsTrue old.tells → rest_of held old Docs ≡ begun m docs (rest_of now_held now Docs)
  pub depot : ReadsFrom (λ s. s ≡ Docs) old now (Ok k)

pub length_refused : (n t : ℕ) (held mid docs : List ℕ) (a b : DepotState) (e : CollError) → TakesNumber (at_document t 0) held mid a b (Err e) → ReadsDocuments n t held mid a b docs (Err e)
length_refused n t held mid docs a b e number = record {
  rising = tt;
  in_range = tt;
  few = tt;
  rest = λ u. tt;
  first_fault = λ u fault h. rw (lacks-there (rest_of held a Docs) 0 (number.too_short u fault (same-fault {A = Unit {0}} {B = ℕ} e fault h))) (number.cut fault (same-fault {A = Unit {0}} {B = ℕ} e fault h));
  depot = answers-err {A = ℕ} {B = Unit {0}} e number.depot;
  fault_term = λ fault h. ap (λ f. f.term) (number.cut fault (same-fault {A = Unit {0}} {B = ℕ} e fault h));
}

pub document_refused : (n m t k : ℕ) (held mid last docs : List ℕ) (a b c : DepotState) (e : CollError) → k < m → DocumentsSoFar n m k held mid a b docs
    → TakesNumber (at_document t k) mid last b c (Err e) → ReadsDocuments n t held last a c docs (Err e)
document_refused n m t k held mid last docs a b c e lt so_far number = record {
  rising = tt;
  in_range = tt;
  few = tt;
  rest = λ u. tt;
  first_fault = λ u fault h.
      let g = same-fault {A = Unit {0}} {B = ℕ} e fault h in
      let short = number.too_short (so_far.depot.only.tells ∙ u) fault g in
      rw (so_far.rest u, number.cut fault g) (first-broken n t m docs (rest_of mid b Docs) C1 k so_far.good so_far.count lt so_far.claimed (cut-breaks n m docs (rest_of mid b Docs) k (sym so_far.count) short));
  depot = reads-then so_far.depot (answers-err {A = ℕ} {B = Unit {0}} e number.depot);
  fault_term = λ fault h. ap (λ f. f.term) (number.cut fault (same-fault {A = Unit {0}} {B = ℕ} e fault h));
}

-- a document that was read breaks a rule
document_broken : (n m t k d : ℕ) (held mid last docs : List ℕ) (a b c : DepotState) (rule : Rule) → k < m → DocumentsSoFar n m k held mid a b docs
    → TakesNumber (at_document t k) mid last b c (Ok d) → ((rest : List ℕ) → doc_break n (begun m docs (le32 d ++ rest)) k ≡ Some rule)
    → ReadsDocuments n t held last a c docs (Err (Broken (record { rule = rule; file = Docs; term = t; place = k })))
document_broken n m t k d held mid last docs a b c rule lt so_far number breaks = record {
  rising = tt;
  in_range = tt;
  few = tt;
  rest = λ u. tt;
  first_fault = λ u fault h.
      let is : record { rule = rule; file = Docs; term = t; place = k } ≡ fault = fault-of {A = Unit {0}} _ fault h in
      rw (so_far.rest u, ← is, number.number (so_far.depot.only.tells ∙ u)) (first-broken n t m docs (le32 d ++ rest_of last c Docs) rule k so_far.good so_far.count lt so_far.claimed (breaks (rest_of last c Docs)));
  depot = reads-then so_far.depot (answers-broken {A = ℕ} {B = Unit {0}} _ number.depot);
  fault_term = λ fault h. ap (λ f. f.term) (sym (fault-of {A = Unit {0}} _ fault h));
}

pub document_high : (n m t k d : ℕ) (held mid last docs : List ℕ) (a b c : DepotState) → k < m → DocumentsSoFar n m k held mid a b docs
    → TakesNumber (at_document t k) mid last b c (Ok d) → n ≤ d → ReadsDocuments n t held last a c docs (Err (Broken (record { rule = C4; file = Docs; term = t; place = k })))
document_high n m t k d held mid last docs a b c lt so_far number high =
    document_broken n m t k d held mid last docs a b c C4 lt so_far number (λ rest. high-breaks n m d docs rest k so_far.good.fit (sym so_far.count) number.fits high)

pub document_low : (n m t k d : ℕ) (held mid last docs : List ℕ) (a b c : DepotState) → k < m → DocumentsSoFar n m k held mid a b docs
    → TakesNumber (at_document t k) mid last b c (Ok d) → d < n → n ≤ 2 ^ 32 → 0 < k → d ≤ get_or docs (k - 1) 0 → ReadsDocuments n t held last a c docs (Err (Broken (record { rule = C5; file = Docs; term = t; place = k })))
document_low n m t k d held mid last docs a b c lt so_far number low fits some below =
    document_broken n m t k d held mid last docs a b c C5 lt so_far number (λ rest. low-breaks n m d docs rest k so_far.good.fit (sym so_far.count) low fits some below)

pub document_not_kept : (n m t k d : ℕ) (held mid last docs more : List ℕ) (a b c : DepotState) → DocumentsSoFar n m k held mid a b docs
    → TakesNumber (at_document t k) mid last b c (Ok d) → ReadsDocuments n t held last a c more (Err NoMemory)
document_not_kept n m t k d held mid last docs more a b c so_far number = record {
  rising = tt;
  in_range = tt;
  few = tt;
  rest = λ u. tt;
  first_fault = λ u fault h. absurd (no_memory-not-broken {A = Unit {0}} fault h);
  depot = reads-then so_far.depot (answers-no_memory {A = ℕ} {B = Unit {0}} number.depot);
  fault_term = λ fault h. absurd (no_memory-not-broken {A = Unit {0}} fault h);
}

rising-more : (docs : List ℕ) (d k : ℕ) → length docs ≡ k → IsStrictlyIncreasing docs → (0 < k → get_or docs (k - 1) 0 < d) → IsStrictlyIncreasing (docs ++ d ∷ [])
rising-more docs d k count rising above j lt =
    elim (cases_lt (j + 1) (length docs)) [
      | inl within ↦ rw (get_or_append_left docs (d ∷ []) 0 j (omega arith), get_or_append_left docs (d ∷ []) 0 (j + 1) within) (rising j within)
      | inr past ↦
          let l = length_push docs d in
          let is : j ≡ k - 1 = omega arith in
          let here : get_or (docs ++ d ∷ []) (j + 1) 0 ≡ d = get_or_push docs d 0 (j + 1) (omega arith) in
          rw (here, get_or_append_left docs (d ∷ []) 0 j (omega arith), is) (above (omega arith))
    ]

pub one-more : (n m t k d : ℕ) (held mid last docs : List ℕ) (a b c : DepotState) → DocumentsSoFar n m k held mid a b docs
    → TakesNumber (at_document t k) mid last b c (Ok d) → d < n → (0 < k → get_or docs (k - 1) 0 < d) → DocumentsSoFar n m (k + 1) held last a c (docs ++ d ∷ [])
one-more n m t k d held mid last docs a b c so_far number low above = record {
  count = omega (arith, length_push docs d, so_far.count);
  claimed = so_far.claimed;
  good = record {
    rising = rising-more docs d k so_far.count so_far.good.rising above;
    in_range = All-push (λ j. j < n) docs d so_far.good.in_range low;
    fit = All-push (λ j. j < 2 ^ 32) docs d so_far.good.fit number.fits;
  };
  rest = λ u. so_far.rest u ∙ ap (λ r. begun m docs r) (number.number (so_far.depot.only.tells ∙ u)) ∙ begun-next m docs d (rest_of last c Docs);
  depot = answers-ok (k + 1) (reads-then so_far.depot number.depot);
}
