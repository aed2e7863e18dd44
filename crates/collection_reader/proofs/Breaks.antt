-- That nothing breaks in a list that is there.
use Rattle.std.proofs.Common.{◌≡◌, refl, sym, ap, ◌∙◌, ℕ, ◌+◌, ◌^◌, ◌<◌, ◌≤◌, List, ◌++◌, zero, suc, inl, inr, length, get_or, sum, Bool, false, true, not, ◌&&◌, ◌==◌, nat_le, nat_lt, if◌then◌else◌, Option, Some, None, arith, add-one}
use Rattle.std.specs.List.{All}
use Rattle.std.specs.List.Sorted.{IsStrictlyIncreasing}
use Rattle.std.specs.Int.{sum_through}
use Rattle.std.proofs.Math.Bool.{and-false}
use Rattle.std.proofs.lemmas.Bool.{false≢true, le-ltb, lt-leb, MatchBool-at_false}
use Rattle.std.proofs.lemmas.Bool.Decides.{nat_tests}
use Rattle.std.proofs.lemmas.List.Elements.{All-get_or}
use Rattle.std.proofs.lemmas.List.Sums.{sum_by-take-le}
use Rattle.collection_model.specs.FormatNumbers.{FormatNumbers}
use Rattle.collection_model.specs.Bytes.{number_sequence}
use Rattle.collection_model.specs.Collection.{Posting, docs_of, freqs_of, IsPostingList}
use Rattle.collection_model.proofs.Numbers.{AreNumbers}
use Rattle.collection_model.proofs.Lists.{list-fits, docs_of-length, freqs_of-length}
use Rattle.collection_reader.specs.declared.fault.Rule.{Rule}
use Rattle.collection_reader.specs.declared.fault.Rule.TheVariants.{C1, C4, C5, C7, C8}
use Rattle.collection_reader.specs.declared.fault.Fault.{Fault}
use Rattle.collection_reader.specs.FirstFault.{number_at, lacks, FirstBreak, doc_break, freq_break, IsListFault}
use Rattle.collection_reader.proofs.Numbers.{number_at-count, sequence-lacks_not}
use Rattle.collection_reader.proofs.Begun.{begun, begun-value, begun-there, begun-sum}

-- where nothing breaks, the rest holds
pub none-breaks : {otherwise : Type 0} (at : ℕ → Option Rule) (m : ℕ) (found : ℕ → Rule → Type 0) → ((k : ℕ) → k < m → at k ≡ None) → FirstBreak at m found otherwise → otherwise
none-breaks at m found whole (inl (k, rule, within, is, before, f)) = let none = whole k within in cc
none-breaks at m found whole (inr (nothing, o)) = o

none_of_three : (a b c : Bool) (x y z : Rule) → a ≡ false → b ≡ false → c ≡ false → (if a then Some x else if b then Some y else if c then Some z else None) ≡ None
none_of_three true b c x y z p q r = absurd (false≢true (sym p))
none_of_three false true c x y z p q r = absurd (false≢true (sym q))
none_of_three false false true x y z p q r = absurd (false≢true (sym r))
none_of_three false false false x y z p q r = refl

rises-not : (k v w : ℕ) → (0 < k → v < w) → nat_lt 0 k && nat_le w v ≡ false
rises-not zero v w rises = refl
rises-not (suc k) v w rises = rw (lt-leb w v (rises (omega arith))) (and-false (nat_lt 0 (suc k)))

pub zero-not : (v : ℕ) → 0 < v → v == 0 ≡ false
zero-not v some = grind (arith, nat_tests)

pub same-not : (v w : ℕ) → v ≡ w → not (v == w) ≡ false
same-not v w same = grind (arith, nat_tests)

-- when nothing breaks at one value of a sequence of documents, or of frequencies
pub doc_break-none : (n : ℕ) (bytes : List ℕ) (k : ℕ) → lacks bytes (k + 1) ≡ false → number_at bytes (k + 1) < n → (0 < k → number_at bytes k < number_at bytes (k + 1)) → doc_break n bytes k ≡ None
doc_break-none n bytes k there below rises =
    none_of_three (lacks bytes (k + 1)) (nat_le n (number_at bytes (k + 1))) (nat_lt 0 k && nat_le (number_at bytes (k + 1)) (number_at bytes k)) C1 C4 C5
    there (lt-leb n (number_at bytes (k + 1)) below) (rises-not k (number_at bytes k) (number_at bytes (k + 1)) rises)

pub freq_break-none : (format : FormatNumbers) (bytes : List ℕ) (k : ℕ) → lacks bytes (k + 1) ≡ false → 0 < number_at bytes (k + 1) → sum_through (λ j. number_at bytes (j + 1)) k ≤ format.most_sum → freq_break format bytes k ≡ None
freq_break-none format bytes k there some within =
    none_of_three (lacks bytes (k + 1)) (number_at bytes (k + 1) == 0) (nat_lt format.most_sum (sum_through (λ j. number_at bytes (j + 1)) k)) C1 C7 C8
    there (zero-not (number_at bytes (k + 1)) some) (le-ltb format.most_sum (sum_through (λ j. number_at bytes (j + 1)) k) within)

-- No list stands next in these rests.
abbrev pub IsBlocked : FormatNumbers → ℕ → List ℕ → List ℕ → Type 0
IsBlocked format n docs freqs = (m : List Posting) (x y : List ℕ) → IsPostingList format n m → docs ≡ number_sequence (docs_of m) ++ x → freqs ≡ number_sequence (freqs_of m) ++ y → ⊥

rises-at : (m : ℕ) (ns rest : List ℕ) → AreNumbers ns → IsStrictlyIncreasing ns → (k : ℕ) → k < length ns → 0 < k → number_at (begun m ns rest) k < number_at (begun m ns rest) (k + 1)
rises-at m ns rest fit rising zero within some = absurd (omega arith)
rises-at m ns rest fit rising (suc k) within some =
    let step : get_or ns k 0 < get_or ns (k + 1) 0 = rising k (omega arith) in
    let before : number_at (begun m ns rest) (suc k) ≡ get_or ns k 0 = ap (λ j. number_at (begun m ns rest) j) (sym (add-one k)) ∙ begun-value m ns rest k fit (omega arith) in
    let here = begun-value m ns rest (suc k) fit within in
    omega (arith, ap (λ j. get_or ns j 0) (add-one k))

-- the documents that stand next do not break, whatever length is stated before them
pub docs-none : (n m : ℕ) (ns rest : List ℕ) → AreNumbers ns → IsStrictlyIncreasing ns → All (λ d. d < n) ns → (k : ℕ) → k < length ns → doc_break n (begun m ns rest) k ≡ None
docs-none n m ns rest fit rising below k within =
    doc_break-none n (begun m ns rest) k (begun-there m ns rest (k + 1) (omega arith)) (omega (arith, begun-value m ns rest k fit within, All-get_or (λ d. d < n) ns k 0 within below)) (rises-at m ns rest fit rising k within)

-- nor do the frequencies
pub freqs-none : (format : FormatNumbers) (m : ℕ) (ns rest : List ℕ) → AreNumbers ns → All (λ f. 1 ≤ f) ns → sum ns ≤ format.most_sum → (k : ℕ) → k < length ns → freq_break format (begun m ns rest) k ≡ None
freqs-none format m ns rest fit some within_sum k within =
    freq_break-none format (begun m ns rest) k (begun-there m ns rest (k + 1) (omega arith)) (omega (arith, begun-value m ns rest k fit within, All-get_or (λ f. 1 ≤ f) ns k 0 within some)) (omega (arith, begun-sum m ns rest k fit within, sum_by-take-le (λ x. x) ns (k + 1)))

-- that a first fault in the next list leaves no list there
pub blocked-by_fault : (format : FormatNumbers) (n t : ℕ) (docs freqs : List ℕ) (fault : Fault) → n < 2 ^ 32 → IsListFault format n t docs freqs fault → IsBlocked format n docs freqs
blocked-by_fault format n t docs freqs fault small broken m x y good is_docs is_freqs =
    let fits = list-fits format n m small good in
    let count_docs : number_at docs 0 ≡ length (docs_of m) = ap (λ b. number_at b 0) is_docs ∙ number_at-count (docs_of m) x fits.docs_count in
    let count_freqs : number_at freqs 0 ≡ length (freqs_of m) = ap (λ b. number_at b 0) is_freqs ∙ number_at-count (freqs_of m) y fits.freqs_count in
    let in_docs = MatchBool-at_false _ _ (ap (λ b. lacks b 0) is_docs ∙ sequence-lacks_not (docs_of m) x 0 (omega arith)) broken in
    let behind_docs = none-breaks (doc_break n docs) (number_at docs 0) _ (λ k within. ap (λ b. doc_break n b k) is_docs ∙ docs-none n (length (docs_of m)) (docs_of m) x fits.docs good.rising good.in_range k (omega arith)) in_docs in
    let in_freqs = MatchBool-at_false _ _ (ap (λ b. lacks b 0) is_freqs ∙ sequence-lacks_not (freqs_of m) y 0 (omega arith)) behind_docs in
    let same_count : number_at freqs 0 ≡ number_at docs 0 = count_freqs ∙ freqs_of-length m ∙ sym (count_docs ∙ docs_of-length m) in
    let counted = MatchBool-at_false _ _ (same-not (number_at freqs 0) (number_at docs 0) same_count) in_freqs in
    none-breaks (freq_break format freqs) (number_at freqs 0) _ (λ k within. ap (λ b. freq_break format b k) is_freqs ∙ freqs-none format (length (freqs_of m)) (freqs_of m) y fits.freqs good.not_zero good.sum_within k (omega arith)) counted
