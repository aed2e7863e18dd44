use Rattle.std.proofs.Common.{◌≡◌, ℕ, zero, suc, ◌+◌, ◌-◌, ◌*◌, ◌<◌, ◌≤◌, Bool, false, List, length, inl, inr, refl, sym, ap, ◌∙◌, subst, arith, add-one}
use Rattle.std.specs.Prelude.{◌==◌, not}
use Rattle.std.proofs.lemmas.Bool.{cases_lt}
use Rattle.collection_model.specs.FormatNumbers.{FormatNumbers}
use Rattle.bit_words.specs.Bits.{bits_of}
use Rattle.part_cost.specs.Payload.{payload}
use Rattle.part_cost.specs.Stored.{HoldsPart}
use Rattle.part_codec.specs.PartBits.{part_bits}
use Rattle.sequence_words.specs.SequenceFault.{stated_last, stated_end, stated_offset, end_before, past_before, payload_before, stated_universe, stated_count, word_behind, first_bit, may_follow, entry_breaks}
use Rattle.sequence_words.proofs.Follows.{follows-at}
use Rattle.sequence_words.proofs.StatedParts.{held-as}

-- what stands before entry q, and the entry itself
pub record Reached (format : FormatNumbers) (words : List ℕ) (q before past : ℕ) : Type 0 where
  pub before_is : before ≡ end_before format words q
  pub past_is : past ≡ past_before format words q

pub record EntryRead (format : FormatNumbers) (words : List ℕ) (q last end offset : ℕ) : Type 0 where
  pub last_is : last ≡ stated_last format words q
  pub end_is : end ≡ stated_end format words q
  pub offset_is : offset ≡ stated_offset format words q

-- the test of an entry is that of its place
pub entry-test : (format : FormatNumbers) (words : List ℕ) (parts m bound q before past bits last end offset : ℕ) → Reached format words q before past → bits ≡ payload_before format words q → EntryRead format words q last end offset
    → not (may_follow m bound before past bits (q + 1 == parts) end last offset) ≡ entry_breaks format words parts m bound q
entry-test format words parts m bound q before past bits last end offset h b e =
    let t : Bool = q + 1 == parts in
    ap (λ x. not (may_follow m bound x past bits t end last offset)) h.before_is
    ∙ ap (λ x. not (may_follow m bound (end_before format words q) x bits t end last offset)) h.past_is
    ∙ ap (λ x. not (may_follow m bound (end_before format words q) (past_before format words q) x t end last offset)) b
    ∙ ap (λ x. not (may_follow m bound (end_before format words q) (past_before format words q) (payload_before format words q) t x last offset)) e.end_is
    ∙ ap (λ x. not (may_follow m bound (end_before format words q) (past_before format words q) (payload_before format words q) t (stated_end format words q) x offset)) e.last_is
    ∙ ap (λ x. not (may_follow m bound (end_before format words q) (past_before format words q) (payload_before format words q) t (stated_end format words q) (stated_last format words q) x)) e.offset_is

-- one entry further
pub reached-next : (format : FormatNumbers) (words : List ℕ) (q last end offset : ℕ) → EntryRead format words q last end offset → Reached format words (q + 1) end (last + 1)
reached-next format words q last end offset e = record {
  before_is = e.end_is ∙ sym (ap (end_before format words) (add-one q));
  past_is = ap (λ x. x + 1) e.last_is ∙ sym (ap (past_before format words) (add-one q));
}

pub bits-next : (format : FormatNumbers) (words : List ℕ) (q before past last end offset bits : ℕ) → Reached format words q before past → EntryRead format words q last end offset → bits ≡ payload_before format words q
    → bits + payload (last + 1 - past) (end - before) ≡ payload_before format words (q + 1)
bits-next format words q before past last end offset bits h e b =
    ap (λ x. x + payload (last + 1 - past) (end - before)) b
    ∙ ap (λ x. payload_before format words q + payload (x + 1 - past) (end - before)) e.last_is
    ∙ ap (λ x. payload_before format words q + payload (stated_last format words q + 1 - x) (end - before)) h.past_is
    ∙ ap (λ x. payload_before format words q + payload (stated_universe format words q) (x - before)) e.end_is
    ∙ ap (λ x. payload_before format words q + payload (stated_universe format words q) (stated_end format words q - x)) h.before_is
    ∙ sym (ap (payload_before format words) (add-one q))

-- a fact of each entry below q, and of q
pub each-below : (P : ℕ → Type 0) (q : ℕ) → ((r : ℕ) → r < q → P r) → P q → (r : ℕ) → r < q + 1 → P r
each-below P q all one r lt =
    elim (cases_lt r q) [ inl less ↦ all r less | inr more ↦ subst P (let e : q ≡ r = omega (arith, lt, more) in e) one ]

-- the payload never falls from part to part
pub payload-rises : (format : FormatNumbers) (words : List ℕ) (q d : ℕ) → payload_before format words q ≤ payload_before format words (q + d)
payload-rises format words q zero = omega (arith, ap (payload_before format words) (let e : q + 0 ≡ q = omega arith in e))
payload-rises format words q (suc d) =
    omega (arith, payload-rises format words q d, ap (payload_before format words) (let e : q + suc d ≡ suc (q + d) = omega arith in e))

-- a part whose entry follows begins within the words
pub place-fits : (format : FormatNumbers) (words : List ℕ) (parts m bound q offset : ℕ) → q < parts → entry_breaks format words parts m bound q ≡ false → offset ≡ stated_offset format words q
    → word_behind format words parts ≤ length words → first_bit format parts + offset ≤ 64 * length words
place-fits format words parts m bound q offset lt h e within =
    let k = follows-at format words parts m bound q h in
    let rises = payload-rises format words q (parts - q) in
    let last : q + (parts - q) ≡ parts = omega (arith, lt) in
    let most : payload_before format words q ≤ payload_before format words parts = omega (arith, rises, ap (payload_before format words) last) in
    omega (arith, most, e, k.offsets, within)

-- and the values that stand there are those of its place
pub holds-here : (format : FormatNumbers) (words : List ℕ) (parts m bound q before past last end offset : ℕ) (ys : List ℕ) → Reached format words q before past → EntryRead format words q last end offset
    → entry_breaks format words parts m bound q ≡ false → HoldsPart part_bits (bits_of words) (first_bit format parts + offset) (last + 1 - past) (end - before) ys
    → HoldsPart part_bits (bits_of words) (first_bit format parts + payload_before format words q) (stated_universe format words q) (stated_count format words q) ys
holds-here format words parts m bound q before past last end offset ys r e h held =
    let k = follows-at format words parts m bound q h in
    let place : first_bit format parts + offset ≡ first_bit format parts + payload_before format words q = omega (arith, e.offset_is, k.offsets) in
    let universe_is : last + 1 - past ≡ stated_universe format words q = ap (λ x. x + 1 - past) e.last_is ∙ ap (λ x. stated_last format words q + 1 - x) r.past_is in
    let count_is : end - before ≡ stated_count format words q = ap (λ x. x - before) e.end_is ∙ ap (λ x. stated_end format words q - x) r.before_is in
    held-as words words (first_bit format parts + offset) _ (last + 1 - past) _ (end - before) _ ys refl place universe_is count_is held
