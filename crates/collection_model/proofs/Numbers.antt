-- Lemmas on little-endian numbers and number sequences, over plain lists.
use Rattle.std.proofs.Common.{◌≡◌, refl, sym, ap, ◌∙◌, ℕ, ◌+◌, ◌*◌, ◌^◌, ◌<◌, List, [], ◌∷◌, ◌++◌, zero, suc, inl, inr, length, get_or, take, drop, flat_map, arith, lit<, append_assoc, length-append, length-drop}
use Rattle.std.proofs.lemmas.Bool.{cases_lt}
use Rattle.std.specs.List.{All}
use Rattle.std.specs.Int.{from_le_bytes, w32}
use Rattle.std.proofs.lemmas.Nat.{from_le_bytes-to_le_bytes_4, le_bytes_4}
use Rattle.std.proofs.lemmas.List.{take_at, drop_at, take-append-drop, nil_from_length, get_or_past, length-take-le}
use Rattle.std.proofs.lemmas.List.Elements.{All-nil, All-cons, All-head, All-tail, All-get_or, All-take, All-drop}
use Rattle.collection_model.specs.Bytes.{le32, number_sequence, AreBytes}

-- numbers that four bytes hold
abbrev pub AreNumbers : List ℕ → Type 0
AreNumbers ns = All (λ n. n < 2 ^ 32) ns

pub le32-length : (n : ℕ) → length (le32 n) ≡ 4
le32-length n = refl

pub le32-read : (n : ℕ) → n < 2 ^ 32 → from_le_bytes w32 (le32 n) ≡ n
le32-read n fits = from_le_bytes-to_le_bytes_4 n fits

pub le32-injective : (m n : ℕ) → m < 2 ^ 32 → n < 2 ^ 32 → le32 m ≡ le32 n → m ≡ n
le32-injective m n p q same = sym (le32-read m p) ∙ ap (from_le_bytes w32) same ∙ le32-read n q

-- two lists of four bytes that each stand first in the same bytes
pub prefix-same : (a b x y : List ℕ) (n : ℕ) → length a ≡ n → length b ≡ n → a ++ x ≡ b ++ y → (a ≡ b) × (x ≡ y)
prefix-same a b x y n p q same = (
  sym (take_at a x n p) ∙ ap (take n) same ∙ take_at b y n q,
  sym (drop_at a x n p) ∙ ap (drop n) same ∙ drop_at b y n q,
)

pub le32-split : (m n : ℕ) (x y : List ℕ) → m < 2 ^ 32 → n < 2 ^ 32 → le32 m ++ x ≡ le32 n ++ y → (m ≡ n) × (x ≡ y)
le32-split m n x y p q same =
    let both = prefix-same (le32 m) (le32 n) x y 4 refl refl same in
    (le32-injective m n p q both.0, both.1)

pub le32s-length : (ns : List ℕ) → length (flat_map le32 ns) ≡ 4 * length ns
le32s-length [] = refl
le32s-length (n ∷ ns) = omega (arith, length-append (le32 n) (flat_map le32 ns), le32-length n, le32s-length ns)

pub number_sequence-length : (ns : List ℕ) → length (number_sequence ns) ≡ 4 * (length ns + 1)
number_sequence-length ns = omega (arith, length-append (le32 (length ns)) (flat_map le32 ns), le32-length (length ns), le32s-length ns)

-- equally many numbers are read from the same bytes
pub le32s-split : (ms ns x y : List ℕ) → length ms ≡ length ns → AreNumbers ms → AreNumbers ns → flat_map le32 ms ++ x ≡ flat_map le32 ns ++ y → (ms ≡ ns) × (x ≡ y)
le32s-split [] [] x y l p q same = (refl, same)
le32s-split [] (n ∷ ns) x y l p q same = absurd (omega arith)
le32s-split (m ∷ ms) [] x y l p q same = absurd (omega arith)
le32s-split (m ∷ ms) (n ∷ ns) x y l p q same =
    let first = le32-split m n (flat_map le32 ms ++ x) (flat_map le32 ns ++ y) (All-head (λ k. k < 2 ^ 32) m ms p) (All-head (λ k. k < 2 ^ 32) n ns q) (sym (append_assoc (le32 m) (flat_map le32 ms) x) ∙ same ∙ append_assoc (le32 n) (flat_map le32 ns) y) in
    let rest = le32s-split ms ns x y (omega arith) (All-tail (λ k. k < 2 ^ 32) m ms p) (All-tail (λ k. k < 2 ^ 32) n ns q) first.1 in
    (λ i. first.0 i ∷ rest.0 i, rest.1)

-- bytes begin with one number sequence only
pub number_sequence-split : (ms ns x y : List ℕ) → length ms < 2 ^ 32 → length ns < 2 ^ 32 → AreNumbers ms → AreNumbers ns → number_sequence ms ++ x ≡ number_sequence ns ++ y → (ms ≡ ns) × (x ≡ y)
number_sequence-split ms ns x y fit_m fit_n p q same =
    let count = le32-split (length ms) (length ns) (flat_map le32 ms ++ x) (flat_map le32 ns ++ y) fit_m fit_n (sym (append_assoc (le32 (length ms)) (flat_map le32 ms) x) ∙ same ∙ append_assoc (le32 (length ns)) (flat_map le32 ns) y) in
    le32s-split ms ns x y count.0 p q count.1

-- each byte is small, and past the end there is 0
byte_at : (bytes : List ℕ) → AreBytes bytes → (i : ℕ) → get_or bytes i 0 < 256
byte_at bytes small i =
    elim (cases_lt i (length bytes)) [ inl within ↦ All-get_or (λ b. b < 256) bytes i 0 within small | inr past ↦ rw get_or_past (lit< tt) ]

-- four bytes are those of their number
pub le32-of_bytes : (bytes : List ℕ) → AreBytes bytes → length bytes ≡ 4 → le32 (from_le_bytes w32 bytes) ≡ bytes
le32-of_bytes bytes small l = le_bytes_4 bytes (from_le_bytes w32 bytes) l (byte_at bytes small) refl

pub number-fits : (bytes : List ℕ) → AreBytes bytes → from_le_bytes w32 bytes < 2 ^ 32
number-fits bytes small = omega (arith, byte_at bytes small 0, byte_at bytes small 1, byte_at bytes small 2, byte_at bytes small 3)

-- bytes in fours are those of some numbers
pub record AreBytesOf (bytes : List ℕ) (count : ℕ) : Type 0 where
  pub numbers : List ℕ
  pub many : length numbers ≡ count
  pub fit : AreNumbers numbers
  pub same : flat_map le32 numbers ≡ bytes

pub numbers-of_bytes : (n : ℕ) (bytes : List ℕ) → AreBytes bytes → length bytes ≡ 4 * n → AreBytesOf bytes n
numbers-of_bytes zero bytes small l = record { numbers = []; many = refl; fit = All-nil (λ k. k < 2 ^ 32); same = sym (nil_from_length bytes (omega arith)) }
numbers-of_bytes (suc n) bytes small l =
    let rest = numbers-of_bytes n (drop 4 bytes) (All-drop (λ b. b < 256) 4 bytes small) (omega (arith, length-drop 4 bytes)) in
    let prefix : AreBytes (take 4 bytes) = All-take (λ b. b < 256) 4 bytes small in
    record {
      numbers = from_le_bytes w32 (take 4 bytes) ∷ rest.numbers;
      many = omega (arith, rest.many);
      fit = All-cons (λ k. k < 2 ^ 32) _ rest.numbers (number-fits (take 4 bytes) prefix) rest.fit;
      same = ap (λ x. x ++ flat_map le32 rest.numbers) (le32-of_bytes (take 4 bytes) prefix (length-take-le 4 bytes (omega arith))) ∙ ap (λ x. take 4 bytes ++ x) rest.same ∙ take-append-drop 4 bytes;
    }
