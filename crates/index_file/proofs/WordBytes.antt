-- Lemmas on words and their bytes.
use Rattle.std.proofs.Common.{◌≡◌, refl, sym, ap, ◌∙◌, ℕ, zero, suc, ◌+◌, ◌*◌, ◌/◌, ◌%◌, ◌^◌, ◌<◌, ◌≤◌, List, [], ◌∷◌, ◌++◌, length, get_or, take, drop, arith, append-nil}
use Rattle.byteorder.specs.Endian.{little_number}
use Rattle.std.specs.List.{All}
use Rattle.std.specs.Int.{from_le_bytes, w64}
use Rattle.std.specs.Simd.{first_chunks}
use Rattle.std.proofs.Math.Seq.{take-add}
use Rattle.std.proofs.lemmas.List.{length-take, length-drop, drop-drop, take-append-drop, take_more}
use Rattle.std.proofs.lemmas.List.Concat.{flat_map-append}
use Rattle.std.proofs.lemmas.List.Elements.{All-nil, All-cons, All-head, All-tail, All-drop, All-take, All-from_get_or}
use Rattle.std.proofs.lemmas.Nat.{le_bytes_8, from_le_bytes-to_le_bytes_8}
use Rattle.std.proofs.lemmas.Slice.{take-put_mid}
use borrow.Rule.Slice.PartMut.{put_mid}
use Rattle.collection_model.specs.Bytes.{le64, word_bytes, AreBytes}

-- chunk i of a list in chunks of n
pub chunk-at : (n k i : ℕ) (xs : List ℕ) → i < k → get_or (first_chunks n k xs) i [] ≡ take n (drop (i * n) xs)
chunk-at n zero i xs within = absurd (omega arith)
chunk-at n (suc k) zero xs within = ap (λ j. take n (drop j xs)) (let e : 0 ≡ 0 * n = omega arith in e)
chunk-at n (suc k) (suc i) xs within = chunk-at n k i (drop n xs) (omega arith) ∙ ap (take n) (drop-drop (i * n) n xs) ∙ ap (λ j. take n (drop j xs)) (let e : n + i * n ≡ suc i * n = omega arith in e)

-- the bytes of one more word
pub bytes-more : (words bytes : List ℕ) (word i : ℕ) → word_bytes words ≡ take (i * 8) bytes → le64 word ≡ take 8 (drop (i * 8) bytes)
    → word_bytes (words ++ word ∷ []) ≡ take ((i + 1) * 8) bytes
bytes-more words bytes word i before next =
    flat_map-append le64 words (word ∷ [])
    ∙ ap (λ bs. word_bytes words ++ bs) (append-nil (le64 word))
    ∙ (λ t. before t ++ next t)
    ∙ sym (take-add (i * 8) 8 bytes)
    ∙ ap (λ n. take n bytes) (let e : i * 8 + 8 ≡ (i + 1) * 8 = omega arith in e)

-- the bytes of one more word in the prefix of a piece
pub spelled-more : (words piece bytes : List ℕ) (i k at n : ℕ) → at ≡ 8 * i → take at piece ≡ word_bytes (take i words) → at ≤ length piece → i < length words
    → bytes ≡ le64 (get_or words i 0) → n ≡ at + 8 → take n (put_mid at k piece bytes) ≡ word_bytes (take (i + 1) words)
spelled-more words piece bytes i k at n place prefix within before are next =
    let eight : length bytes ≡ 8 = rw are refl in
    take-put_mid at k piece bytes n (omega (arith, eight, next)) within
    ∙ (λ t. prefix t ++ are t)
    ∙ ap (λ bs. word_bytes (take i words) ++ bs) (sym (append-nil (le64 (get_or words i 0))))
    ∙ sym (flat_map-append le64 (take i words) (get_or words i 0 ∷ []))
    ∙ ap word_bytes (sym (take_more words i 0 before))

word-is : (w v : ℕ) → w < 2 ^ 64 → v < 2 ^ 64 → le64 w ≡ le64 v → w ≡ v
word-is w v small fits same = sym (from_le_bytes-to_le_bytes_8 w small) ∙ ap (from_le_bytes w64) same ∙ from_le_bytes-to_le_bytes_8 v fits

pub words-are_read : (ws vs : List ℕ) → All (λ w. w < 2 ^ 64) ws → All (λ v. v < 2 ^ 64) vs → word_bytes ws ≡ word_bytes vs → ws ≡ vs
words-are_read [] [] small fits same = refl
words-are_read [] (v ∷ vs) small fits same = absurd (omega (arith, ap length same))
words-are_read (w ∷ ws) [] small fits same = absurd (omega (arith, ap length same))
words-are_read (w ∷ ws) (v ∷ vs) small fits same =
    let first : w ≡ v = word-is w v (All-head (λ x. x < 2 ^ 64) w ws small) (All-head (λ x. x < 2 ^ 64) v vs fits) (ap (take 8) same) in
    let rest : ws ≡ vs = words-are_read ws vs (All-tail (λ x. x < 2 ^ 64) w ws small) (All-tail (λ x. x < 2 ^ 64) v vs fits) (ap (drop 8) same) in
    (λ t. first t ∷ rest t)

byte-below : (bytes : List ℕ) (i : ℕ) → AreBytes bytes → get_or bytes i 0 < 256
byte-below [] i are = omega arith
byte-below (b ∷ bytes) zero are = All-head (λ x. x < 256) b bytes are
byte-below (b ∷ bytes) (suc i) are = byte-below bytes i (All-tail (λ x. x < 256) b bytes are)

-- the number that eight bytes are read as
pub little-is : (piece : List ℕ) → little_number 8 piece ≡ from_le_bytes w64 piece
little-is piece = omega arith

-- eight bytes are those of the number that they are read as
pub word-at : (bytes : List ℕ) (word i : ℕ) → i < length bytes / 8 → ((k : ℕ) → get_or bytes k 0 < 256) → word ≡ from_le_bytes w64 (take 8 (drop (i * 8) bytes)) → le64 word ≡ take 8 (drop (i * 8) bytes)
word-at bytes word i within are read =
    let piece : List ℕ = take 8 (drop (i * 8) bytes) in
    let bound : AreBytes bytes = All-from_get_or (λ b. b < 256) bytes 0 (λ k _. are k) in
    let eight : length piece ≡ 8 = omega (arith, length-take 8 (drop (i * 8) bytes), length-drop (i * 8) bytes) in
    le_bytes_8 piece word eight (λ k. byte-below piece k (All-take (λ b. b < 256) 8 (drop (i * 8) bytes) (All-drop (λ b. b < 256) (i * 8) bytes bound))) read

spelled-from : (k : ℕ) (bytes : List ℕ) → AreBytes bytes → length bytes ≡ k * 8 → (words : List ℕ) × All (λ w. w < 2 ^ 64) words × (bytes ≡ word_bytes words)
spelled-from zero [] are count = ([], All-nil (λ w. w < 2 ^ 64), refl)
spelled-from zero (b ∷ bytes) are count = absurd (omega arith)
spelled-from (suc k) bytes are count =
    let prefix : length (take 8 bytes) ≡ 8 = omega (arith, length-take 8 bytes) in
    let word : ℕ = from_le_bytes w64 (take 8 bytes) in
    let bounds : (i : ℕ) → get_or (take 8 bytes) i 0 < 256 = λ i. byte-below (take 8 bytes) i (All-take (λ b. b < 256) 8 bytes are) in
    let rest = spelled-from k (drop 8 bytes) (All-drop (λ b. b < 256) 8 bytes are) (omega (arith, length-drop 8 bytes)) in
    let is : le64 word ≡ take 8 bytes = le_bytes_8 (take 8 bytes) word prefix bounds refl in (
      word ∷ rest.0,
      All-cons (λ w. w < 2 ^ 64) word rest.0 (omega (arith, bounds 0, bounds 1, bounds 2, bounds 3, bounds 4, bounds 5, bounds 6, bounds 7)) rest.1,
      sym (take-append-drop 8 bytes) ∙ (λ t. sym is t ++ rest.2 t),
    )

pub bytes-are_spelled : (bytes : List ℕ) → AreBytes bytes → length bytes % 8 ≡ 0 → (words : List ℕ) × All (λ w. w < 2 ^ 64) words × (bytes ≡ word_bytes words)
bytes-are_spelled bytes are whole = spelled-from (length bytes / 8) bytes are (omega arith)
