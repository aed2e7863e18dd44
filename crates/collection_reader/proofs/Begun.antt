-- A sequence of which some numbers were read: the length that it states, those numbers, and the bytes behind them.
use Rattle.std.proofs.Common.{◌≡◌, ◌∙◌, sym, ap, ℕ, zero, suc, take, sum, ◌^◌, ◌*◌, ◌<◌, ◌≤◌, ◌+◌, ◌++◌, List, [], ◌∷◌, length, get_or, flat_map, arith, true, false, append_assoc, length-append, add-one}
use Rattle.std.proofs.lemmas.List.Concat.{flat_map-append}
use Rattle.std.proofs.lemmas.List.{append-nil}
use Rattle.std.proofs.lemmas.List.Sums.{sum_by_more}
use Rattle.std.specs.Int.{sum_through}
use Rattle.collection_model.specs.Bytes.{le32}
use Rattle.collection_model.proofs.Numbers.{AreNumbers, le32s-length, le32-length}
use Rattle.collection_reader.specs.FirstFault.{number_at, lacks}
use Rattle.collection_reader.proofs.Numbers.{number_at-first, number_at-behind, number_at-le32s, lacks-not, lacks-there}

abbrev pub begun : ℕ → List ℕ → List ℕ → List ℕ
begun m ns rest = (le32 m ++ flat_map le32 ns) ++ rest

pub begun-length : (m : ℕ) (ns rest : List ℕ) → length (begun m ns rest) ≡ 4 * (length ns + 1) + length rest
begun-length m ns rest = omega (arith, length-append (le32 m ++ flat_map le32 ns) rest, length-append (le32 m) (flat_map le32 ns), le32-length m, le32s-length ns)

pub begun-none : (m : ℕ) (rest : List ℕ) → begun m [] rest ≡ le32 m ++ rest
begun-none m rest = ap (λ b. b ++ rest) (append-nil (le32 m))

pub begun-next : (m : ℕ) (ns : List ℕ) (x : ℕ) (rest : List ℕ) → begun m ns (le32 x ++ rest) ≡ begun m (ns ++ x ∷ []) rest
begun-next m ns x rest =
    sym (append_assoc (le32 m ++ flat_map le32 ns) (le32 x) rest)
    ∙ ap (λ b. b ++ rest) (append_assoc (le32 m) (flat_map le32 ns) (le32 x) ∙ ap (λ b. le32 m ++ (flat_map le32 ns ++ b)) (sym (append-nil (le32 x))) ∙ ap (λ b. le32 m ++ b) (sym (flat_map-append le32 ns (x ∷ []))))

pub begun-claim : (m : ℕ) (ns rest : List ℕ) → m < 2 ^ 32 → number_at (begun m ns rest) 0 ≡ m
begun-claim m ns rest fits = ap (λ b. number_at b 0) (append_assoc (le32 m) (flat_map le32 ns) rest) ∙ number_at-first m (flat_map le32 ns ++ rest) fits

pub begun-value : (m : ℕ) (ns rest : List ℕ) (k : ℕ) → AreNumbers ns → k < length ns → number_at (begun m ns rest) (k + 1) ≡ get_or ns k 0
begun-value m ns rest k fit within =
    ap (λ b. number_at b (k + 1)) (append_assoc (le32 m) (flat_map le32 ns) rest)
    ∙ number_at-behind m (flat_map le32 ns ++ rest) k
    ∙ number_at-le32s ns rest k fit within

pub begun-there : (m : ℕ) (ns rest : List ℕ) (k : ℕ) → k ≤ length ns → lacks (begun m ns rest) k ≡ false
begun-there m ns rest k within = lacks-not (begun m ns rest) k (omega (arith, begun-length m ns rest))

pub begun-cut : (m : ℕ) (ns rest : List ℕ) (k : ℕ) → k ≡ length ns → length rest < 4 → lacks (begun m ns rest) (k + 1) ≡ true
begun-cut m ns rest k same short = lacks-there (begun m ns rest) (k + 1) (omega (arith, begun-length m ns rest))

-- the sum of the first numbers
pub begun-sum : (m : ℕ) (ns rest : List ℕ) (k : ℕ) → AreNumbers ns → k < length ns → sum_through (λ j. number_at (begun m ns rest) (j + 1)) k ≡ sum (take (k + 1) ns)
begun-sum m ns rest zero fit within =
    let here = begun-value m ns rest 0 fit within in
    let more : sum (take (0 + 1) ns) ≡ 0 + get_or ns 0 0 = sum_by_more (λ x. x) ns 0 0 within in
    here ∙ omega arith
begun-sum m ns rest (suc k) fit within =
    let so_far = begun-sum m ns rest k fit (omega arith) in
    let here = begun-value m ns rest (suc k) fit within in
    let more : sum (take (suc k + 1) ns) ≡ sum (take (suc k) ns) + get_or ns (suc k) 0 = sum_by_more (λ x. x) ns (suc k) 0 within in
    let same : sum (take (k + 1) ns) ≡ sum (take (suc k) ns) = ap (λ j. sum (take j ns)) (add-one k) in
    ap (λ s. s + number_at (begun m ns rest) (suc k + 1)) (so_far ∙ same) ∙ ap (λ v. sum (take (suc k) ns) + v) here ∙ sym more
