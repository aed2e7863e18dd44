use Rattle.std.proofs.Common.{◌≡◌, ℕ, ◌+◌, ◌-◌, ◌*◌, ◌/◌, ◌^◌, ◌<◌, ◌≤◌, List, length, subst, arith}
use Rattle.bit_words.specs.Bits.{field_bits, bits_of}
use Rattle.bit_words.proofs.Value.{length-bits_of}
use Rattle.packed_list.specs.Gamma.{gamma_length, IsGammaBefore, AreGammasBefore}
use Rattle.packed_sequence.proofs.WindowFields.{IsWindow}
use Rattle.packed_list.proofs.NearGammas.{near-both}
use Rattle.packed_list.proofs.gamma.near_gammas.Goals as goal

-- what is known of the two numbers that are read off a window
read : (words : List ℕ) (at end w n taken m more : ℕ) → end ≤ 64 * length words → IsWindow (bits_of words) at 64 w → IsGammaBefore (field_bits 64 w) 0 31 n → taken ≡ gamma_length n → IsGammaBefore (field_bits 64 (w / 2 ^ taken)) 0 31 m → more ≡ gamma_length m
    → at < end → taken + more ≤ end - at → AreGammasBefore (bits_of words) at end n m
read words at end w n taken m more range is first long second also lt within =
    near-both (bits_of words) at end w n m is first (subst (λ j. IsGammaBefore (field_bits 64 (w / 2 ^ j)) 0 31 m) long second) (omega (arith, long, also, lt, within)) (omega (arith, range, length-bits_of words))

pub overflow_add-taken : goal.overflow_add-taken
overflow_add-taken c = omega (arith, c.in-Some.ensures.some.within, c.in-Some.ensures.behind, c.in-Some-lowest_gamma.ensures.some.within, c.in-Some-lowest_gamma.ensures.behind)

pub returns-clause-numbers : goal.returns-clause-numbers
returns-clause-numbers c =
    read c.args.bits.words.now c.args.at c.args.end c.window_from-window.result c.in-Some.first.number c.in-Some.first.behind c.in-Some-lowest_gamma.second.number c.in-Some-lowest_gamma.second.behind c.requires.range c.window_from-window.ensures c.in-Some.ensures.some c.in-Some.ensures.behind
    c.in-Some-lowest_gamma.ensures.some c.in-Some-lowest_gamma.ensures.behind c.requires.ordered (omega (arith, c.if-end-at.false))
