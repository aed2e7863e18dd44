use Rattle.std.proofs.Common.{◌≡◌, ◌+◌, ◌-◌, ◌*◌, ◌/◌, ◌%◌, ◌≤◌, refl, sym, ap, ◌∙◌, arith, inl, inr}
use Rattle.std.proofs.lemmas.Bool.{cases_lt, eqb-true, eq-eqb}
use Rattle.std.proofs.Math.Nat.{mod-eq_of_lt}
use Rattle.bit_words.specs.Bits.{bits_of}
use Rattle.elias_fano.specs.EfPlaces.{sample_at}
use Rattle.elias_fano.proofs.Lookups.{no-sample-between, sample-number, sampled-number}
use Rattle.elias_fano.proofs.EfView.is_sampled.Goals as goal

pub returns-then-k-ne0 : goal.returns-then-k-ne0
returns-then-k-ne0 g c = (λ set j e. absurd (no-sample-between g.row.Q c.args.k j (λ none. omega (arith, none, c.if-k-ne0.true)) e), λ same. refl)

pub returns-else-k-eq0 : goal.returns-else-k-eq0
returns-else-k-eq0 g c =
    let v = c.args.self.now in
    let q = g.row.Q in
    let k = c.args.k in
    let whole : k % q ≡ 0 = omega (arith, c.if-k-ne0.false) in
    let far : q ≤ k = elim (cases_lt k q) [
      | inl less ↦ absurd (omega (arith, mod-eq_of_lt less, whole, c.if-k-eq0.false))
      | inr more ↦ more
    ] in
    let last : q * (k / q - 1 + 1) ≡ k = sampled-number q k v.spacing far whole in (
      λ set j e.
          ap (λ n. sample_at (bits_of v.part.bits.words.now) v.part.place v.part.u v.part.m v.low n) (sym (sample-number q k j v.spacing e))
          ∙ sym c.sample.ensures ∙ eqb-true c.sample.result (c.args.one - v.part.place) set,
      λ same. eq-eqb c.sample.result (c.args.one - v.part.place) (c.sample.ensures ∙ same (k / q - 1) last),
    )
