-- Lemmas on the numbers of a file, by their places.
use Rattle.std.proofs.Common.{◌≡◌, refl, sym, ap, ◌∙◌, ℕ, ◌+◌, ◌*◌, ◌^◌, ◌<◌, ◌≤◌, List, [], ◌∷◌, ◌++◌, zero, suc, length, get_or, take, drop, flat_map, false, true, arith, append_assoc, length-append}
use Rattle.std.proofs.lemmas.Bool.Decides.{nat_tests}
use Rattle.std.specs.Int.{from_le_bytes, w32}
use Rattle.std.proofs.lemmas.List.{take_at, drop_at, take-append-drop, length-take-le, drop-drop}
use Rattle.std.proofs.lemmas.List.Elements.{All-head, All-tail, All-take, All-drop}
use Rattle.collection_model.specs.Bytes.{le32, number_sequence, AreBytes}
use Rattle.collection_model.proofs.Numbers.{AreNumbers, le32-read, le32-of_bytes, number_sequence-length, number-fits}
use Rattle.collection_reader.specs.FirstFault.{number_at, lacks}

-- the first number of some bytes, and those behind it
pub number_at-first : (n : ℕ) (rest : List ℕ) → n < 2 ^ 32 → number_at (le32 n ++ rest) 0 ≡ n
number_at-first n rest fits = ap (from_le_bytes w32) (take_at (le32 n) rest 4 refl) ∙ le32-read n fits

pub number_at-drop : (bytes : List ℕ) (k : ℕ) → number_at (drop 4 bytes) k ≡ number_at bytes (k + 1)
number_at-drop bytes k =
    let same : 4 + 4 * k ≡ 4 * (k + 1) = omega arith in
    ap (λ b. from_le_bytes w32 (take 4 b)) (drop-drop (4 * k) 4 bytes ∙ ap (λ j. drop j bytes) same)

pub number_at-behind : (n : ℕ) (rest : List ℕ) (k : ℕ) → number_at (le32 n ++ rest) (k + 1) ≡ number_at rest k
number_at-behind n rest k = sym (number_at-drop (le32 n ++ rest) k) ∙ ap (λ b. number_at b k) (drop_at (le32 n) rest 4 refl)

-- number k of some numbers one after another
pub number_at-le32s : (ns : List ℕ) (rest : List ℕ) (k : ℕ) → AreNumbers ns → k < length ns → number_at (flat_map le32 ns ++ rest) k ≡ get_or ns k 0
number_at-le32s [] rest k fit within = absurd (omega arith)
number_at-le32s (n ∷ ns) rest zero fit within =
    ap (λ b. number_at b 0) (append_assoc (le32 n) (flat_map le32 ns) rest) ∙ number_at-first n (flat_map le32 ns ++ rest) (All-head (λ j. j < 2 ^ 32) n ns fit)
number_at-le32s (n ∷ ns) rest (suc k) fit within =
    ap (λ b. number_at b (suc k)) (append_assoc (le32 n) (flat_map le32 ns) rest)
    ∙ ap (λ j. number_at (le32 n ++ (flat_map le32 ns ++ rest)) j) (omega arith)
    ∙ number_at-behind n (flat_map le32 ns ++ rest) k
    ∙ number_at-le32s ns rest k (All-tail (λ j. j < 2 ^ 32) n ns fit) (omega arith)

-- a number sequence states its length, and then its numbers
pub number_at-count : (ns rest : List ℕ) → length ns < 2 ^ 32 → number_at (number_sequence ns ++ rest) 0 ≡ length ns
number_at-count ns rest fits =
    ap (λ b. number_at b 0) (append_assoc (le32 (length ns)) (flat_map le32 ns) rest) ∙ number_at-first (length ns) (flat_map le32 ns ++ rest) fits

pub number_at-value : (ns rest : List ℕ) (k : ℕ) → AreNumbers ns → k < length ns → number_at (number_sequence ns ++ rest) (k + 1) ≡ get_or ns k 0
number_at-value ns rest k fit within =
    ap (λ b. number_at b (k + 1)) (append_assoc (le32 (length ns)) (flat_map le32 ns) rest)
    ∙ number_at-behind (length ns) (flat_map le32 ns ++ rest) k
    ∙ number_at-le32s ns rest k fit within

-- the test for a number that is not there
pub lacks-not : (bytes : List ℕ) (k : ℕ) → 4 * (k + 1) ≤ length bytes → lacks bytes k ≡ false
lacks-not bytes k enough = grind (arith, nat_tests)

pub lacks-there : (bytes : List ℕ) (k : ℕ) → length bytes < 4 * (k + 1) → lacks bytes k ≡ true
lacks-there bytes k few = grind (arith, nat_tests)

-- a whole number sequence lacks no number
pub sequence-lacks_not : (ns rest : List ℕ) (k : ℕ) → k ≤ length ns → lacks (number_sequence ns ++ rest) k ≡ false
sequence-lacks_not ns rest k within =
    lacks-not (number_sequence ns ++ rest) k (omega (arith, length-append (number_sequence ns) rest, number_sequence-length ns))

-- bytes begin with their first number
pub first-number : (bytes : List ℕ) → AreBytes bytes → 4 ≤ length bytes → bytes ≡ le32 (number_at bytes 0) ++ drop 4 bytes
first-number bytes small enough =
    sym (ap (λ b. b ++ drop 4 bytes) (le32-of_bytes (take 4 bytes) (All-take (λ b. b < 256) 4 bytes small) (length-take-le 4 bytes enough)) ∙ take-append-drop 4 bytes)

pub number_at-fits : (bytes : List ℕ) (k : ℕ) → AreBytes bytes → number_at bytes k < 2 ^ 32
number_at-fits bytes k small = number-fits (take 4 (drop (4 * k) bytes)) (All-take (λ b. b < 256) 4 (drop (4 * k) bytes) (All-drop (λ b. b < 256) (4 * k) bytes small))
