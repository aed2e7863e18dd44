use Rattle.std.proofs.Common.{◌≡◌, ℕ, ◌-◌, ◌<◌, ◌≤◌, List, length, ap, ◌∙◌, sym, arith}
use Rattle.std.specs.Prelude.{IsTrue, nat_lt}
use Rattle.std.proofs.lemmas.Bool.Decides.{nat_tests}
use Rattle.bit_words.specs.Bits.{bits_of, field_at}
use Rattle.bit_words.proofs.Value.{bits-bits_of, length-bits_of}
use Rattle.part_cost.specs.Payload.{digits}
use Rattle.packed_list.proofs.ListPlaces.{single-found, single-facts}
use Rattle.packed_list.proofs.check.check_single.Goals as goal

lt-true : (a b : ℕ) → IsTrue (nat_lt a b) → a < b
lt-true a b h = grind (arith, nat_tests)

true-lt : (a b : ℕ) → a < b → IsTrue (nat_lt a b)
true-lt a b h = grind (arith, nat_tests)

pub returns-then-to-at : goal.returns-then-to-at
returns-then-to-at c =
    let n : ℕ = c.args.documents in (
      λ t. cc,
      λ h. (let f = single-facts n c.args.greatest (bits_of c.args.words.now) c.args.at c.args.to h.0 h.1 h.2 (omega (arith, c.ranges.documents.fits)) c.requires.ordered (omega (arith, c.requires.range, length-bits_of c.args.words.now)) h.3 in
          let e : c.from.result ≡ digits (n - 1) = c.from.ensures ∙ ap (λ l. l.width) c.last_doc-width.ensures in
          absurd (c.if-to-at.true (f.size ∙ sym e))),
    )

pub returns : goal.returns
returns c =
    let n : ℕ = c.args.documents in
    let bits : List ℕ = bits_of c.args.words.now in
    let fit : c.args.to ≤ length bits = omega (arith, c.requires.range, length-bits_of c.args.words.now) in
    let wide : c.last_doc-width.result.width ≡ digits (n - 1) = ap (λ l. l.width) c.last_doc-width.ensures in
    let size : c.args.to - c.args.at ≡ digits (n - 1) = c.if-to-at.false ∙ c.from.ensures ∙ wide in
    let value : c.get.result ≡ field_at bits c.args.at (digits (n - 1)) = c.get.ensures ∙ ap (field_at bits c.args.at) wide in (
      λ t. single-found n c.args.greatest bits c.args.at c.args.to (bits-bits_of c.args.words.now) c.requires.not_zero (omega (arith, c.ranges.greatest.fits)) c.requires.ordered fit size
          (omega (arith, lt-true c.get.result c.from-2.result t, value, c.from-2.ensures)),
      λ h. (let f = single-facts n c.args.greatest bits c.args.at c.args.to h.0 h.1 h.2 (omega (arith, c.ranges.documents.fits)) c.requires.ordered fit h.3 in
          true-lt c.get.result c.from-2.result (omega (arith, f.inside, value, c.from-2.ensures))),
    )
