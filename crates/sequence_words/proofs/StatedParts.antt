-- What words state of the parts of their sequence.
use Rattle.std.proofs.Common.{◌≡◌, ℕ, zero, suc, ◌+◌, ◌*◌, ◌<◌, ◌≤◌, List, length, slice_index, refl, sym, ap, ◌∙◌, subst, arith, add-one}
use Rattle.std.specs.List.{All, range_with_len}
use Rattle.std.proofs.lemmas.List.{length-map}
use Rattle.std.proofs.lemmas.List.FromFn.{length-range_with_len, get_or-map-range_with_len}
use Rattle.std.proofs.lemmas.Nat.{mul-le}
use Rattle.collection_model.specs.FormatNumbers.{FormatNumbers, entry_words}
use Rattle.bit_words.specs.Bits.{bits_of}
use Rattle.part_cost.specs.Stored.{HoldsPart}
use Rattle.part_codec.specs.PartBits.{part_bits}
use Rattle.sequence_words.specs.SequenceFault.{stated_end, end_before, past_before}
use Rattle.sequence_words.specs.SequenceView.{sequence_stated, start_of_part}
use Rattle.sequence_words.specs.SequenceParts.{StatesPart, Restores}

pub below-bound : (least most : ℕ) (xs : List ℕ) → least ≤ most → All (λ x. x < least) xs → All (λ x. x < most) xs
below-bound least most xs le below k d lt = let small = below k d lt in omega (arith, small, le)

-- an entry ends by the end of the directory
pub entry-within : (format : FormatNumbers) (q parts : ℕ) → q < parts → entry_words format * q + entry_words format ≤ entry_words format * parts
entry-within format q parts lt = omega (arith, mul-le (entry_words format) (q + 1) (entry_words format) parts (omega arith) (omega (arith, lt)))

-- the ends that words state, by index
pub stated-ends : (format : FormatNumbers) (words : List ℕ) (parts q : ℕ) → q < parts → slice_index (sequence_stated format words parts).ends q ≡ stated_end format words q
unfolding sequence_stated
stated-ends format words parts q lt = get_or-map-range_with_len (stated_end format words) 0 parts q q 0 lt (omega arith)

-- how many ends they state
pub count-ends : (format : FormatNumbers) (words : List ℕ) (parts : ℕ) → length (sequence_stated format words parts).ends ≡ parts
unfolding sequence_stated
count-ends format words parts = length-map (range_with_len 0 parts) (stated_end format words) ∙ length-range_with_len 0 parts

pub stated-start : (format : FormatNumbers) (words : List ℕ) (parts q : ℕ) → q < parts → start_of_part (sequence_stated format words parts).ends q ≡ end_before format words q
stated-start format words parts zero lt = refl
stated-start format words parts (suc q) lt = stated-ends format words parts q (omega (arith, lt))

-- the part behind begins where this one ends
pub end-before-next : (format : FormatNumbers) (words : List ℕ) (q : ℕ) → end_before format words (q + 1) ≡ stated_end format words q
end-before-next format words q = ap (end_before format words) (add-one q)

-- the values of a part are restored where it is said to stand
pub restored-here : (format : FormatNumbers) (words xs : List ℕ) (parts q from past to : ℕ) → StatesPart format words xs parts q → from ≡ end_before format words q → past ≡ past_before format words q
    → to ≡ stated_end format words q → Restores xs from to past
restored-here format words xs parts q from past to p f b t =
    subst (Restores xs from to) (sym b)
    (subst (λ n. Restores xs from n (past_before format words q)) (sym t)
    (subst (λ n. Restores xs n (stated_end format words q) (past_before format words q)) (sym f) p.restored))

-- values are held where the same part stands
pub held-as : (words there : List ℕ) (place at u v m n : ℕ) (ys : List ℕ) → words ≡ there → place ≡ at → u ≡ v → m ≡ n
    → HoldsPart part_bits (bits_of words) place u m ys → HoldsPart part_bits (bits_of there) at v n ys
held-as words there place at u v m n ys words_are place_is universe_is count_is held =
    subst (λ ws. HoldsPart part_bits (bits_of ws) at v n ys) words_are
    (subst (λ p. HoldsPart part_bits (bits_of words) p v n ys) place_is
    (subst (λ x. HoldsPart part_bits (bits_of words) place x n ys) universe_is (subst (λ k. HoldsPart part_bits (bits_of words) place u k ys) count_is held)))
