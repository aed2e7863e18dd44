-- The bits of a sequence as they are appended piece by piece.
use Rattle.std.proofs.Common.{◌≡◌, ℕ, ◌+◌, ◌-◌, ◌≤◌, List, [], ◌∷◌, ◌++◌, length, replicate, refl, sym, ap, ◌∙◌, subst, arith}
use Rattle.std.proofs.lemmas.List.{length-append, length-replicate}
use Rattle.bit_words.specs.Bits.{AppendsBits, field_bits, bits_of, padded, padding}
use Rattle.bit_words.proofs.Value.{length-field_bits}
use Rattle.bit_words.proofs.Prefixes.{appends-prefix, appends-behind, appends-both}
use Rattle.collection_model.specs.FormatNumbers.{format_three}
use Rattle.part_cost.specs.Payload.{digits}
use Rattle.part_cost.specs.Span.{past}
use Rattle.part_cost.specs.Partition.{IsPartition}
use Rattle.part_codec.specs.PartBits.{part_bits}
use Rattle.two_level.specs.SequenceWords.{sequence_words}
use Rattle.packed_sequence.specs.declared.last_field.LastField.{LastField}
use Rattle.packed_sequence.specs.SequenceBits.{lone_part_bits, parted_bits, sequence_bits}
use Rattle.packed_list.proofs.Appending.{appends-some}

-- one part: its flag and its last value
pub lone-head : (old a b : List ℕ) (w v : ℕ) → a ≡ old ++ (0 ∷ []) → b ≡ a ++ field_bits w v → b ≡ old ++ (0 ∷ field_bits w v)
lone-head old a b w v e f = appends-both old a b (0 ∷ []) (field_bits w v) e f

-- and then the part
pub lone-whole : (old a b new xs : List ℕ) (last : LastField) (end : ℕ) → past xs (length xs) ≡ end + 1 → a ≡ old ++ (0 ∷ []) → b ≡ a ++ field_bits last.width (end - last.less)
    → new ≡ b ++ part_bits xs (end + 1) → new ≡ old ++ lone_part_bits last xs
lone-whole old a b new xs last end is e f h =
    let w : ℕ = last.width in
    let some : new ≡ old ++ ((0 ∷ field_bits w (end - last.less)) ++ part_bits xs (end + 1)) =
    appends-both old b new (0 ∷ field_bits w (end - last.less)) (part_bits xs (end + 1)) (lone-head old a b w (end - last.less) e f) h in
    let value : end - last.less ≡ past xs (length xs) - 1 - last.less = omega (arith, is) in
    subst (λ u. new ≡ old ++ ((0 ∷ field_bits w (past xs (length xs) - 1 - last.less)) ++ part_bits xs u)) (sym is)
    (subst (λ v. new ≡ old ++ ((0 ∷ field_bits w v) ++ part_bits xs (end + 1))) value some)

-- or a prefix of it
pub lone-prefix : (old a b new xs : List ℕ) (last : LastField) (end : ℕ) → past xs (length xs) ≡ end + 1 → a ≡ old ++ (0 ∷ []) → b ≡ a ++ field_bits last.width (end - last.less)
    → AppendsBits b new (part_bits xs (end + 1)) → AppendsBits old new (lone_part_bits last xs)
lone-prefix old a b new xs last end is e f h =
    let w : ℕ = last.width in
    let some : AppendsBits old new ((0 ∷ field_bits w (end - last.less)) ++ part_bits xs (end + 1)) =
    appends-behind old b new (0 ∷ field_bits w (end - last.less)) (part_bits xs (end + 1)) (lone-head old a b w (end - last.less) e f) h in
    let value : end - last.less ≡ past xs (length xs) - 1 - last.less = omega (arith, is) in
    subst (λ u. AppendsBits old new ((0 ∷ field_bits w (past xs (length xs) - 1 - last.less)) ++ part_bits xs u)) (sym is)
    (subst (λ v. AppendsBits old new ((0 ∷ field_bits w v) ++ part_bits xs (end + 1))) value some)

-- several parts: their flag, their number, and zeros up to the next word
abbrev pub parted-head : List ℕ → ℕ → ℕ → List ℕ
parted-head old w n = (1 ∷ field_bits w n) ++ replicate (padding (length old + 1 + w)) 0

pub length-head : (old : List ℕ) (w n : ℕ) → length (parted-head old w n) ≡ 1 + w + padding (length old + 1 + w)
length-head old w n =
    omega (
      arith,
      length-append (1 ∷ field_bits w n) (replicate (padding (length old + 1 + w)) 0),
      length-field_bits w n,
      length-replicate {A = ℕ} (padding (length old + 1 + w)) 0,
    )

pub length-parted : (old xs ends : List ℕ)
    → length (parted_bits (length old) xs ends) ≡ length (parted-head old (digits (length xs)) (length ends)) + length (bits_of (sequence_words format_three xs ends))
length-parted old xs ends = length-append (parted-head old (digits (length xs)) (length ends)) (bits_of (sequence_words format_three xs ends))

-- the flag and the number
pub parted-number : (old a b : List ℕ) (w n : ℕ) → a ≡ old ++ (1 ∷ []) → b ≡ a ++ field_bits w n → b ≡ old ++ (1 ∷ field_bits w n)
parted-number old a b w n e f = appends-both old a b (1 ∷ []) (field_bits w n) e f

pub length-number : (old b : List ℕ) (w n : ℕ) → b ≡ old ++ (1 ∷ field_bits w n) → length b ≡ length old + 1 + w
length-number old b w n e = omega (arith, ap length e, length-append old (1 ∷ field_bits w n), length-field_bits w n)

-- and the zeros
pub parted-padded : (old b c : List ℕ) (w n : ℕ) → b ≡ old ++ (1 ∷ field_bits w n) → c ≡ padded b → c ≡ old ++ parted-head old w n
parted-padded old b c w n e f =
    appends-both old b c (1 ∷ field_bits w n) (replicate (padding (length old + 1 + w)) 0) e
    (f ∙ ap (λ k. b ++ replicate (padding k) 0) (length-number old b w n e))

-- prefixes of it
pub prefix-flag : (old a xs ends : List ℕ) → a ≡ old ++ (1 ∷ []) → AppendsBits old a (parted_bits (length old) xs ends)
prefix-flag old a xs ends e =
    let w : ℕ = digits (length xs) in
    appends-some old a (1 ∷ []) ((field_bits w (length ends) ++ replicate (padding (length old + 1 + w)) 0) ++ bits_of (sequence_words format_three xs ends)) e

pub prefix-number : (old b xs ends : List ℕ) → b ≡ old ++ (1 ∷ field_bits (digits (length xs)) (length ends)) → AppendsBits old b (parted_bits (length old) xs ends)
prefix-number old b xs ends e =
    let w : ℕ = digits (length xs) in
    appends-prefix old b (parted-head old w (length ends)) (bits_of (sequence_words format_three xs ends))
    (appends-some old b (1 ∷ field_bits w (length ends)) (replicate (padding (length old + 1 + w)) 0) e)

pub prefix-head : (old c xs ends : List ℕ) → c ≡ old ++ parted-head old (digits (length xs)) (length ends) → AppendsBits old c (parted_bits (length old) xs ends)
prefix-head old c xs ends e = appends-some old c (parted-head old (digits (length xs)) (length ends)) (bits_of (sequence_words format_three xs ends)) e

pub prefix-words : (old c new xs ends ws : List ℕ) → c ≡ old ++ parted-head old (digits (length xs)) (length ends) → ws ≡ sequence_words format_three xs ends → AppendsBits c new (bits_of ws)
    → AppendsBits old new (parted_bits (length old) xs ends)
prefix-words old c new xs ends ws e is h =
    appends-behind old c new (parted-head old (digits (length xs)) (length ends)) (bits_of (sequence_words format_three xs ends)) e (subst (λ zs. AppendsBits c new (bits_of zs)) is h)

pub all-words : (old c new xs ends ws : List ℕ) → c ≡ old ++ parted-head old (digits (length xs)) (length ends) → ws ≡ sequence_words format_three xs ends → new ≡ c ++ bits_of ws
    → new ≡ old ++ parted_bits (length old) xs ends
all-words old c new xs ends ws e is f =
    appends-both old c new (parted-head old (digits (length xs)) (length ends)) (bits_of (sequence_words format_three xs ends)) e (f ∙ ap (λ zs. c ++ bits_of zs) is)

-- which of both a sequence is
pub as-one : (last : LastField) (at : ℕ) (xs ends : List ℕ) → length ends ≡ 1 → sequence_bits last at xs ends ≡ lone_part_bits last xs
as-one last at xs [] h = absurd (omega (arith, h))
as-one last at xs (end ∷ []) h = refl
as-one last at xs (end ∷ next ∷ ends) h = absurd (omega (arith, h))

pub as-several : (last : LastField) (at n : ℕ) (xs ends : List ℕ) → 1 ≤ n → IsPartition n ends → (length ends ≡ 1 → ⊥) → sequence_bits last at xs ends ≡ parted_bits at xs ends
as-several last at n xs [] some h not_one = absurd (omega (arith, h, some))
as-several last at n xs (end ∷ []) some h not_one = absurd (not_one (omega arith))
as-several last at n xs (end ∷ next ∷ ends) some h not_one = refl
