-- The frequencies of a list, as they are read one after another.
use Rattle.std.proofs.Common.{◌≡◌, refl, ◌∙◌, sym, ap, ℕ, ◌^◌, ◌<◌, ◌≤◌, ◌+◌, ◌++◌, List, [], ◌∷◌, length, take, sum, arith, inl, IsTrue, Ok, Err, Some, true, false, ◌==◌, nat_lt}
use Rattle.std.specs.List.{All}
use Rattle.std.specs.Int.{sum_through}
use Rattle.std.proofs.lemmas.Bool.Decides.{nat_tests}
use Rattle.std.proofs.lemmas.List.{get_or_push, length_push, take_all}
use Rattle.std.proofs.lemmas.List.Sums.{sum_by_push}
use Rattle.std.proofs.lemmas.List.Elements.{All-push}
use Rattle.collection_model.specs.FormatNumbers.{FormatNumbers}
use Rattle.collection_model.specs.Bytes.{le32}
use Rattle.collection_model.proofs.Numbers.{AreNumbers}
use Rattle.io_traits.specs.declared.fail.Slot.TheVariants.{Freqs}
use Rattle.io_traits.specs.DepotState.{DepotState}
use Rattle.collection_reader.specs.declared.fault.Rule.{Rule}
use Rattle.collection_reader.specs.declared.fault.Rule.TheVariants.{C1, C7, C8}
use Rattle.collection_reader.specs.declared.fault.CollError.{CollError}
use Rattle.collection_reader.specs.declared.fault.CollError.TheVariants.{Broken}
use Rattle.collection_reader.specs.declared.position.Position.{Position}
use Rattle.collection_reader.specs.FirstFault.{number_at, lacks, freq_break}
use Rattle.held_pieces.specs.Pieces.{rest_of}
use Rattle.collection_reader.specs.OneFile.{TakesNumber, ReadsFrom}
use Rattle.collection_reader.specs.OneSequence.{IsFreqsFault, ReadsFrequencies}
use Rattle.collection_reader.proofs.SameAnswer.{same-fault, fault-of}
use Rattle.collection_reader.proofs.ReadsFrom.{answers-err, answers-broken, reads-then}
use Rattle.collection_reader.proofs.Numbers.{lacks-there}
use Rattle.collection_reader.proofs.Breaks.{freqs-none, same-not}
use Rattle.collection_reader.proofs.Begun.{begun, begun-next, begun-claim, begun-value, begun-there, begun-cut, begun-sum}

-- where the frequency at a place stands
abbrev pub at_frequency : ℕ → ℕ → Position
at_frequency t k = record { file = Freqs; term = t; place = k }

-- frequencies of a list, so far
pub record AreFrequencies (format : FormatNumbers) (freqs : List ℕ) : Type 0 where
  pub not_zero : All (λ f. 1 ≤ f) freqs
  pub fit : AreNumbers freqs
  pub sum_within : sum freqs ≤ format.most_sum

-- the first frequency that breaks a rule, behind some that break none
first-broken : (format : FormatNumbers) (t m : ℕ) (freqs rest : List ℕ) (rule : Rule) (k : ℕ) → AreFrequencies format freqs → length freqs ≡ k → k < m → m < 2 ^ 32
    → freq_break format (begun m freqs rest) k ≡ Some rule → IsFreqsFault format t m (begun m freqs rest) (record { rule = rule; file = Freqs; term = t; place = k })
first-broken format t m freqs rest rule k good count lt fits is =
    rw (begun-there m freqs rest 0 (omega arith), same-not (number_at (begun m freqs rest) 0) m (begun-claim m freqs rest fits)) (
    inl (
      k,
      rule,
      rw begun-claim lt,
      is,
      λ j l. freqs-none format m freqs rest good.fit good.not_zero good.sum_within j (omega arith),
      refl,
    )
    )

-- which rule it breaks
breaks-C1 : (format : FormatNumbers) (bytes : List ℕ) (k : ℕ) → lacks bytes (k + 1) ≡ true → freq_break format bytes k ≡ Some C1
breaks-C1 format bytes k cut = rw cut refl

breaks-C7 : (format : FormatNumbers) (bytes : List ℕ) (k : ℕ) → lacks bytes (k + 1) ≡ false → number_at bytes (k + 1) ≡ 0 → freq_break format bytes k ≡ Some C7
breaks-C7 format bytes k there is =
    let is_zero : number_at bytes (k + 1) == 0 ≡ true = grind (arith, nat_tests) in
    rw (there, is_zero) refl

breaks-C8 : (format : FormatNumbers) (bytes : List ℕ) (k f s : ℕ) → lacks bytes (k + 1) ≡ false → number_at bytes (k + 1) ≡ f → 0 < f → sum_through (λ j. number_at bytes (j + 1)) k ≡ s → format.most_sum < s → freq_break format bytes k ≡ Some C8
breaks-C8 format bytes k f s there is some total high =
    let not_zero : number_at bytes (k + 1) == 0 ≡ false = grind (arith, nat_tests) in
    let is_high : nat_lt format.most_sum (sum_through (λ j. number_at bytes (j + 1)) k) ≡ true = grind (arith, nat_tests) in
    rw (there, not_zero, is_high) refl

cut-breaks : (format : FormatNumbers) (m : ℕ) (freqs rest : List ℕ) (k : ℕ) → k ≡ length freqs → length rest < 4 → freq_break format (begun m freqs rest) k ≡ Some C1
cut-breaks format m freqs rest k count short = breaks-C1 format (begun m freqs rest) k (begun-cut m freqs rest k count short)

zero-breaks : (format : FormatNumbers) (m : ℕ) (freqs rest : List ℕ) (k f : ℕ) → AreNumbers freqs → k ≡ length freqs → f ≡ 0 → freq_break format (begun m freqs (le32 f ++ rest)) k ≡ Some C7
zero-breaks format m freqs rest k f fit count is =
    let more : AreNumbers (freqs ++ f ∷ []) = All-push (λ j. j < 2 ^ 32) freqs f fit (omega arith) in
    let there = begun-there m (freqs ++ f ∷ []) rest (k + 1) (omega (arith, length_push freqs f)) in
    let here = begun-value m (freqs ++ f ∷ []) rest k more (omega (arith, length_push freqs f)) ∙ get_or_push freqs f 0 k (sym count) ∙ is in
    ap (λ b. freq_break format b k) (begun-next m freqs f rest) ∙ breaks-C7 format (begun m (freqs ++ f ∷ []) rest) k there here

sum-breaks : (format : FormatNumbers) (m : ℕ) (freqs rest : List ℕ) (k f : ℕ) → AreNumbers freqs → k ≡ length freqs → f < 2 ^ 32 → 0 < f → format.most_sum < sum freqs + f → freq_break format (begun m freqs (le32 f ++ rest)) k ≡ Some C8
sum-breaks format m freqs rest k f fit count fits some high =
    let more : AreNumbers (freqs ++ f ∷ []) = All-push (λ j. j < 2 ^ 32) freqs f fit fits in
    let there = begun-there m (freqs ++ f ∷ []) rest (k + 1) (omega (arith, length_push freqs f)) in
    let here = begun-value m (freqs ++ f ∷ []) rest k more (omega (arith, length_push freqs f)) ∙ get_or_push freqs f 0 k (sym count) in
    let all : take (k + 1) (freqs ++ f ∷ []) ≡ freqs ++ f ∷ [] = take_all (k + 1) (freqs ++ f ∷ []) (omega (arith, length_push freqs f)) in
    let total = begun-sum m (freqs ++ f ∷ []) rest k more (omega (arith, length_push freqs f)) ∙ ap sum all ∙ sum_by_push (λ x. x) freqs f in
    ap (λ b. freq_break format b k) (begun-next m freqs f rest) ∙ breaks-C8 format (begun m (freqs ++ f ∷ []) rest) k f (sum freqs + f) there here some total high

-- what is known once k of m frequencies were read
pub record FrequenciesSoFar (format : FormatNumbers) (m k total : ℕ) (held now_held : List ℕ) (old now : DepotState) (freqs : List ℕ) : Type 0 where
  pub count : length freqs ≡ k
  pub claimed : m < 2 ^ 32
  pub total_is : total ≡ sum freqs
  pub good : AreFrequencies format freqs
  pub rest : IsTrue old.tells → rest_of held old Freqs ≡ begun m freqs (rest_of now_held now Freqs)
  pub depot : ReadsFrom (λ s. s ≡ Freqs) old now (Ok k)

pub length_refused : (format : FormatNumbers) (t expected : ℕ) (held mid freqs : List ℕ) (a b : DepotState) (e : CollError) → TakesNumber (at_frequency t 0) held mid a b (Err e) → ReadsFrequencies format t expected held mid a b freqs (Err e)
length_refused format t expected held mid freqs a b e number = record {
  count = tt;
  not_zero = tt;
  fit = tt;
  sum_within = tt;
  rest = λ u. tt;
  first_fault = λ u fault h. rw (lacks-there (rest_of held a Freqs) 0 (number.too_short u fault (same-fault {A = Unit {0}} {B = ℕ} e fault h))) (number.cut fault (same-fault {A = Unit {0}} {B = ℕ} e fault h));
  depot = answers-err {A = ℕ} {B = Unit {0}} e number.depot;
  fault_term = λ fault h. ap (λ f. f.term) (number.cut fault (same-fault {A = Unit {0}} {B = ℕ} e fault h));
}

pub frequency_refused : (format : FormatNumbers) (m t k total : ℕ) (held mid last freqs : List ℕ) (a b c : DepotState) (e : CollError) → k < m → FrequenciesSoFar format m k total held mid a b freqs
    → TakesNumber (at_frequency t k) mid last b c (Err e) → ReadsFrequencies format t m held last a c freqs (Err e)
frequency_refused format m t k total held mid last freqs a b c e lt so_far number = record {
  count = tt;
  not_zero = tt;
  fit = tt;
  sum_within = tt;
  rest = λ u. tt;
  first_fault = λ u fault h.
      let g = same-fault {A = Unit {0}} {B = ℕ} e fault h in
      let short = number.too_short (so_far.depot.only.tells ∙ u) fault g in
      rw (so_far.rest u, number.cut fault g) (first-broken format t m freqs (rest_of mid b Freqs) C1 k so_far.good so_far.count lt so_far.claimed (cut-breaks format m freqs (rest_of mid b Freqs) k (sym so_far.count) short));
  depot = reads-then so_far.depot (answers-err {A = ℕ} {B = Unit {0}} e number.depot);
  fault_term = λ fault h. ap (λ f. f.term) (number.cut fault (same-fault {A = Unit {0}} {B = ℕ} e fault h));
}

-- a frequency that was read breaks a rule
frequency_broken : (format : FormatNumbers) (m t k total f : ℕ) (held mid last freqs : List ℕ) (a b c : DepotState) (rule : Rule) → k < m → FrequenciesSoFar format m k total held mid a b freqs
    → TakesNumber (at_frequency t k) mid last b c (Ok f) → ((rest : List ℕ) → freq_break format (begun m freqs (le32 f ++ rest)) k ≡ Some rule)
    → ReadsFrequencies format t m held last a c freqs (Err (Broken (record { rule = rule; file = Freqs; term = t; place = k })))
frequency_broken format m t k total f held mid last freqs a b c rule lt so_far number breaks = record {
  count = tt;
  not_zero = tt;
  fit = tt;
  sum_within = tt;
  rest = λ u. tt;
  first_fault = λ u fault h.
      let is : record { rule = rule; file = Freqs; term = t; place = k } ≡ fault = fault-of {A = Unit {0}} _ fault h in
      rw (so_far.rest u, ← is, number.number (so_far.depot.only.tells ∙ u)) (first-broken format t m freqs (le32 f ++ rest_of last c Freqs) rule k so_far.good so_far.count lt so_far.claimed (breaks (rest_of last c Freqs)));
  depot = reads-then so_far.depot (answers-broken {A = ℕ} {B = Unit {0}} _ number.depot);
  fault_term = λ fault h. ap (λ f. f.term) (sym (fault-of {A = Unit {0}} _ fault h));
}

pub frequency_zero : (format : FormatNumbers) (m t k total f : ℕ) (held mid last freqs : List ℕ) (a b c : DepotState) → k < m → FrequenciesSoFar format m k total held mid a b freqs
    → TakesNumber (at_frequency t k) mid last b c (Ok f) → f ≡ 0 → ReadsFrequencies format t m held last a c freqs (Err (Broken (record { rule = C7; file = Freqs; term = t; place = k })))
frequency_zero format m t k total f held mid last freqs a b c lt so_far number is =
    frequency_broken format m t k total f held mid last freqs a b c C7 lt so_far number (λ rest. zero-breaks format m freqs rest k f so_far.good.fit (sym so_far.count) is)

pub frequency_over : (format : FormatNumbers) (m t k total f : ℕ) (held mid last freqs : List ℕ) (a b c : DepotState) → k < m → FrequenciesSoFar format m k total held mid a b freqs
    → TakesNumber (at_frequency t k) mid last b c (Ok f) → 0 < f → format.most_sum < total + f → ReadsFrequencies format t m held last a c freqs (Err (Broken (record { rule = C8; file = Freqs; term = t; place = k })))
frequency_over format m t k total f held mid last freqs a b c lt so_far number some high =
    frequency_broken format m t k total f held mid last freqs a b c C8 lt so_far number (λ rest. sum-breaks format m freqs rest k f so_far.good.fit (sym so_far.count) number.fits some (omega (arith, high, so_far.total_is)))
