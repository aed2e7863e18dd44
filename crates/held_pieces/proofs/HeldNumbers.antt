-- Lemmas on numbers that are read from the bytes held.
use Rattle.std.proofs.Common.{inl, inr, ◌≡◌, ◌∙◌, sym, ap, ℕ, ◌+◌, ◌-◌, ◌<◌, ◌≤◌, ◌++◌, List, length, take, drop, get_or, arith}
use Rattle.std.proofs.Math.Seq.{take-add}
use Rattle.std.proofs.lemmas.List.{length-take, length-drop, get_or-take, get_or-drop, get_or_past, drop-drop}
use Rattle.std.proofs.lemmas.Bool.{cases_lt}
use Rattle.std.proofs.lemmas.Nat.{le_bytes_4}
use Rattle.byteorder.specs.Endian.{little_number}
use Rattle.std.specs.Int.{from_le_bytes, w32}
use Rattle.collection_model.specs.Bytes.{le32}

small-prefix : (xs : List ℕ) → ((i : ℕ) → get_or xs i 0 < 256) → (i : ℕ) → get_or (take 4 xs) i 0 < 256
small-prefix xs small i = elim (cases_lt i 4) as (λ _. get_or (take 4 xs) i 0 < 256) [
  | inl lt ↦ (let same = get_or-take 4 xs i 0 lt in let below = small i in omega arith)
  | inr past ↦ (let count = length-take 4 xs in let none : get_or (take 4 xs) i 0 ≡ 0 = get_or_past (take 4 xs) i 0 (omega arith) in omega arith)
]

small-behind : (piece : List ℕ) (used i : ℕ) → ((i : ℕ) → get_or piece i 0 < 256) → get_or (drop used piece) i 0 < 256
small-behind piece used i small = let same = get_or-drop used piece i 0 in let below = small (used + i) in omega arith

-- the bytes of the number that four bytes are read as are these bytes
read_bytes : (xs : List ℕ) → 4 ≤ length xs → ((i : ℕ) → get_or xs i 0 < 256) → le32 (little_number 4 xs) ≡ take 4 xs
read_bytes xs enough small =
    let prefix : List ℕ = take 4 xs in
    let a = get_or-take 4 xs 0 0 (omega arith) in
    let b = get_or-take 4 xs 1 0 (omega arith) in
    let c = get_or-take 4 xs 2 0 (omega arith) in
    let d = get_or-take 4 xs 3 0 (omega arith) in
    let is : little_number 4 xs ≡ from_le_bytes w32 prefix = omega arith in
    le_bytes_4 prefix (little_number 4 xs) (omega (arith, length-take 4 xs)) (small-prefix xs small) is

-- the bytes held, the number of the first four apart
pub number_held : (piece : List ℕ) (used end n : ℕ) → used + 4 ≤ end → le32 n ≡ take 4 (drop used piece) → take (end - used) (drop used piece) ≡ le32 n ++ take (end - (used + 4)) (drop (used + 4) piece)
number_held piece used end n enough is =
    let xs : List ℕ = drop used piece in
    let count : end - used ≡ 4 + (end - (used + 4)) = omega arith in
    ap (λ n. take n xs) count ∙ take-add 4 (end - (used + 4)) xs ∙ ap (λ prefix. prefix ++ take (end - (used + 4)) (drop 4 xs)) (sym is)
    ∙ ap (λ rest. le32 n ++ take (end - (used + 4)) rest) (drop-drop 4 used piece)

-- the same of the bytes behind a place
pub read_behind : (bytes : List ℕ) (at n : ℕ) → at + 4 ≤ length bytes → ((i : ℕ) → get_or bytes i 0 < 256) → n ≡ little_number 4 (drop at bytes) → le32 n ≡ take 4 (drop at bytes)
read_behind bytes at n enough small is = ap le32 is ∙ read_bytes (drop at bytes) (omega (arith, length-drop at bytes)) (λ i. small-behind bytes at i small)
