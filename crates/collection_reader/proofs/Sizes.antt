-- The sizes, as they are read one after another to the end of their file.
use Rattle.std.proofs.Common.{◌≡◌, refl, ◌∙◌, sym, ap, ℕ, ◌^◌, ◌*◌, ◌/◌, ◌<◌, ◌+◌, ◌-◌, List, [], length, arith, IsTrue, Ok, Err, Some, true, false, Bool, nat_lt, length-append}
use Rattle.std.proofs.lemmas.Bool.{lt-ltb}
use Rattle.io_traits.specs.declared.fail.Slot.TheVariants.{Sizes}
use Rattle.io_traits.specs.DepotState.{DepotState}
use Rattle.collection_reader.specs.declared.fault.Rule.TheVariants.{C1, C12}
use Rattle.collection_reader.specs.declared.fault.CollError.{CollError}
use Rattle.collection_reader.specs.declared.fault.CollError.TheVariants.{Broken}
use Rattle.collection_reader.specs.declared.position.Position.{Position}
use Rattle.collection_reader.specs.FirstFault.{number_at, lacks, end_fault}
use Rattle.held_pieces.specs.Pieces.{rest_of}
use Rattle.collection_reader.specs.OneFile.{LooksAhead, TakesNumber, ReadsFrom}
use Rattle.collection_reader.specs.OneSequence.{ReadsToEnd}
use Rattle.collection_reader.proofs.SameAnswer.{same-fault, fault-of}
use Rattle.collection_reader.proofs.ReadsFrom.{answers-err, answers-broken, reads-then}
use Rattle.collection_reader.proofs.Numbers.{lacks-there}
use Rattle.collection_reader.proofs.Breaks.{same-not}
use Rattle.collection_reader.proofs.Begun.{begun, begun-length, begun-claim, begun-there}

-- where the size at a place stands
abbrev pub at_size : ℕ → ℕ → Position
at_size t k = record { file = Sizes; term = t; place = k }

-- which fault there is behind the lists, over bytes of any kind
cut-length : (n t : ℕ) (bytes : List ℕ) → lacks bytes 0 ≡ true → end_fault n t [] bytes ≡ Some (record { rule = C1; file = Sizes; term = t; place = 0 })
cut-length n t bytes cut = rw cut refl

cut-size : (n t k : ℕ) (bytes : List ℕ) → lacks bytes 0 ≡ false → number_at bytes 0 ≡ n → lacks bytes n ≡ true → length bytes / 4 - 1 ≡ k → end_fault n t [] bytes ≡ Some (record { rule = C1; file = Sizes; term = t; place = k })
cut-size n t k bytes there is cut place = rw (there, same-not (number_at bytes 0) n is, cut, place) refl

more-behind : (n t : ℕ) (bytes : List ℕ) → lacks bytes 0 ≡ false → number_at bytes 0 ≡ n → lacks bytes n ≡ false → nat_lt (4 * (n + 1)) (length bytes) ≡ true → end_fault n t [] bytes ≡ Some (record { rule = C12; file = Sizes; term = t; place = n })
more-behind n t bytes there is whole more = rw (there, same-not (number_at bytes 0) n is, whole, more) refl

cut-in : (n t k : ℕ) (sizes rest : List ℕ) → length sizes ≡ k → k < n → n < 2 ^ 32 → length rest < 4 → end_fault n t [] (begun n sizes rest) ≡ Some (record { rule = C1; file = Sizes; term = t; place = k })
cut-in n t k sizes rest count lt fits short =
    let l = begun-length n sizes rest in
    cut-size n t k (begun n sizes rest) (begun-there n sizes rest 0 (omega arith)) (begun-claim n sizes rest fits) (lacks-there (begun n sizes rest) n (omega (arith, l))) (omega (arith, l))

left-over : (n t : ℕ) (sizes rest : List ℕ) → length sizes ≡ n → n < 2 ^ 32 → 0 < length rest → end_fault n t [] (begun n sizes rest) ≡ Some (record { rule = C12; file = Sizes; term = t; place = n })
left-over n t sizes rest count fits some =
    let l = begun-length n sizes rest in
    let lt : 4 * (n + 1) < length (begun n sizes rest) = omega (arith, l) in
    more-behind n t (begun n sizes rest) (begun-there n sizes rest 0 (omega arith)) (begun-claim n sizes rest fits) (begun-there n sizes rest n (omega arith)) (lt-ltb _ _ lt)

-- what is known once k of n sizes were read
pub record SizesSoFar (n k : ℕ) (held now_held : List ℕ) (old now : DepotState) (sizes : List ℕ) : Type 0 where
  pub count : length sizes ≡ k
  pub claimed : n < 2 ^ 32
  pub rest : IsTrue old.tells → rest_of held old Sizes ≡ begun n sizes (rest_of now_held now Sizes)
  pub depot : ReadsFrom (λ s. s ≡ Sizes) old now (Ok k)

pub length_refused : (n t : ℕ) (held mid sizes : List ℕ) (a b : DepotState) (e : CollError) → TakesNumber (at_size t 0) held mid a b (Err e) → ReadsToEnd n t held mid a b sizes (Err e)
length_refused n t held mid sizes a b e number = record {
  count = tt;
  rest = λ u. tt;
  none_left = λ u. tt;
  first_fault = λ u fault h.
      let f = same-fault {A = Unit {0}} {B = ℕ} e fault h in
      cut-length n t (rest_of held a Sizes) (lacks-there (rest_of held a Sizes) 0 (number.too_short u fault f)) ∙ ap Some (sym (number.cut fault f));
  depot = answers-err {A = ℕ} {B = Unit {0}} e number.depot;
  fault_term = λ fault h. ap (λ f. f.term) (number.cut fault (same-fault {A = Unit {0}} {B = ℕ} e fault h));
}

pub size_refused : (n t k : ℕ) (held mid last sizes : List ℕ) (a b c : DepotState) (e : CollError) → k < n → SizesSoFar n k held mid a b sizes
    → TakesNumber (at_size t k) mid last b c (Err e) → ReadsToEnd n t held last a c sizes (Err e)
size_refused n t k held mid last sizes a b c e lt so_far number = record {
  count = tt;
  rest = λ u. tt;
  none_left = λ u. tt;
  first_fault = λ u fault h.
      let f = same-fault {A = Unit {0}} {B = ℕ} e fault h in
      ap (λ r. end_fault n t [] r) (so_far.rest u) ∙ cut-in n t k sizes (rest_of mid b Sizes) so_far.count lt so_far.claimed (number.too_short (so_far.depot.only.tells ∙ u) fault f) ∙ ap Some (sym (number.cut fault f));
  depot = reads-then so_far.depot (answers-err {A = ℕ} {B = Unit {0}} e number.depot);
  fault_term = λ fault h. ap (λ f. f.term) (number.cut fault (same-fault {A = Unit {0}} {B = ℕ} e fault h));
}

pub end_refused : (n t : ℕ) (held mid last sizes : List ℕ) (a b c : DepotState) (e : CollError) → SizesSoFar n n held mid a b sizes
    → LooksAhead Sizes mid last b c (Err e) → ReadsToEnd n t held last a c sizes (Err e)
end_refused n t held mid last sizes a b c e so_far look = record {
  count = tt;
  rest = λ u. tt;
  none_left = λ u. tt;
  first_fault = λ u fault h. absurd (look.no_fault fault (same-fault {A = Unit {0}} {B = Bool} e fault h));
  depot = reads-then so_far.depot (answers-err {A = Bool} {B = Unit {0}} e look.depot);
  fault_term = λ fault h. absurd (look.no_fault fault (same-fault {A = Unit {0}} {B = Bool} e fault h));
}

pub more_left : (n t : ℕ) (held mid last sizes : List ℕ) (a b c : DepotState) → SizesSoFar n n held mid a b sizes
    → LooksAhead Sizes mid last b c (Ok true) → ReadsToEnd n t held last a c sizes (Err (Broken (record { rule = C12; file = Sizes; term = t; place = n })))
more_left n t held mid last sizes a b c so_far look = record {
  count = tt;
  rest = λ u. tt;
  none_left = λ u. tt;
  first_fault = λ u fault h.
      let is : record { rule = C12; file = Sizes; term = t; place = n } ≡ fault = fault-of {A = Unit {0}} _ fault h in
      let some : 0 < length (rest_of mid b Sizes) = omega (arith, look.more refl, length-append last (c.left Sizes), ap length (look.same_rest (so_far.depot.only.tells ∙ u))) in
      ap (λ r. end_fault n t [] r) (so_far.rest u) ∙ left-over n t sizes (rest_of mid b Sizes) so_far.count so_far.claimed some ∙ ap Some is;
  depot = reads-then so_far.depot (answers-broken {A = Bool} {B = Unit {0}} _ look.depot);
  fault_term = λ fault h. ap (λ f. f.term) (sym (fault-of {A = Unit {0}} _ fault h));
}
