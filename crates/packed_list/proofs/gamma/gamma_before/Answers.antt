use Rattle.std.proofs.Common.{◌≡◌, ℕ, ◌+◌, ◌-◌, ◌*◌, ◌^◌, ◌%◌, ◌<◌, ◌≤◌, min, length, List, sym, subst, ap, ◌∙◌, arith}
use Rattle.bit_words.specs.Bits.{bits_of, field_at, IsFirstOne, HasNoOne}
use Rattle.bit_words.proofs.Value.{bits-bits_of, length-bits_of}
use Rattle.bit_words.proofs.Pieces.{field-below}
use Rattle.packed_list.specs.Gamma.{IsGammaBefore, gamma_length}
use Rattle.packed_list.proofs.GammaReads.{read-stands, none-near, none-fits, number-is, behind-is}
use Rattle.packed_list.proofs.gamma.gamma_before.Goals as goal

-- where the least of two numbers is known by its name
place-near : (bits : List ℕ) (at end near one : ℕ) → near ≡ min (end - at) 32 → IsFirstOne bits at (at + near) one → IsFirstOne bits at (at + min (end - at) 32) one
place-near bits at end near one is h = subst (λ k. IsFirstOne bits at (at + k) one) is h

none-at : (bits : List ℕ) (at end near : ℕ) → near ≡ min (end - at) 32 → HasNoOne bits at (at + near) → HasNoOne bits at (at + min (end - at) 32)
none-at bits at end near is h = subst (λ k. HasNoOne bits at (at + k)) is h

-- what is known of the number that is read
record IsRead (bits : List ℕ) (at end one got : ℕ) : Type 0 where
  few : one - at < 32
  fit : got < 2 ^ (one - at)
  number : 1 * 2 ^ (one - at) % 18446744073709551616 + got ≡ 2 ^ (one - at) + got
  stands : IsGammaBefore bits at end (2 ^ (one - at) + got)
  behind : one + 1 + (one - at) ≡ at + gamma_length (2 ^ (one - at) + got)

is-read : (words : List ℕ) (at end near one got : ℕ) → near ≡ min (end - at) 32 → IsFirstOne (bits_of words) at (at + near) one → one - at < end - one → end ≤ 64 * length words
    → got ≡ field_at (bits_of words) (one + 1) (one - at) → IsRead (bits_of words) at end one got
is-read words at end near one got is first room fit value =
    let bits : List ℕ = bits_of words in
    let z : ℕ = one - at in
    let f : ℕ = field_at bits (one + 1) z in
    let place : one ≡ at + z = omega (arith, first.at_or_after) in
    let few : z < 32 = omega (arith, first.before_end, is) in
    let below : f < 2 ^ z = field-below bits (one + 1) z (bits-bits_of words) in
    let here : IsFirstOne bits at (at + min (end - at) 32) one = place-near bits at end near one is first in
    subst (IsRead bits at end one) (sym value) (
    record {
      few = few;
      fit = below;
      number = number-is z f few;
      stands = read-stands bits at end one z (bits-bits_of words) here place (omega (arith, room, place)) (omega (arith, fit, length-bits_of words));
      behind = behind-is at one z f place few below;
    }
    )

pub returns-in_default-clause-none : goal.returns-in_default-clause-none
returns-in_default-clause-none c =
    let bits : List ℕ = bits_of c.args.bits.words.now in
    none-near bits c.args.at c.args.end c.requires.ordered (none-at bits c.args.at c.args.end c.min.result c.min.ensures c.in_default.ensures.none)

pub returns-then-end-one-clause-none : goal.returns-then-end-one-clause-none
returns-then-end-one-clause-none c =
    let bits : List ℕ = bits_of c.args.bits.words.now in
    let first : IsFirstOne bits c.args.at (c.args.at + c.min.result) c.in-Some.one = c.in-Some.ensures.first in
    none-fits bits c.args.at c.args.end c.in-Some.one (c.in-Some.one - c.args.at) (place-near bits c.args.at c.args.end c.min.result c.in-Some.one c.min.ensures first)
    (omega (arith, first.at_or_after)) (omega (arith, first.at_or_after, c.if-end-one.true))

read : (c : goal.After-get) → IsRead (bits_of c.args.bits.words.now) c.args.at c.args.end c.in-Some.one c.get.result
read c =
    is-read c.args.bits.words.now c.args.at c.args.end c.min.result c.in-Some.one c.get.result c.min.ensures c.in-Some.ensures.first c.if-end-one.false c.requires.range c.get.ensures

pub overflow_add-number : goal.overflow_add-number
overflow_add-number c = let r = read c in omega (arith, r.number, r.stands.few)

pub overflow_cast-result : goal.overflow_cast-result
overflow_cast-result c = let r = read c in omega (arith, r.number, r.stands.few)

pub returns-clause-some : goal.returns-clause-some
returns-clause-some c =
    let r = read c in
    subst (IsGammaBefore (bits_of c.args.bits.words.now) c.args.at c.args.end) (sym r.number) r.stands

pub returns-clause-behind : goal.returns-clause-behind
returns-clause-behind c =
    let r = read c in
    r.behind ∙ ap (λ n. c.args.at + gamma_length n) (sym r.number)
