use Rattle.std.proofs.Common.{◌≡◌, inl, inr, ap, ℕ, ◌+◌, ◌-◌, ◌/◌, ◌<◌, arith}
use Rattle.std.proofs.lemmas.Bool.{cases_lt}
use Rattle.interval_max.specs.Kept.{entry_in, word_of}
use Rattle.interval_max.proofs.view.MaximaView.place_of.Goals as goal

pub loop-from-preserved-then-found-term-2 : goal.loop-from-preserved-then-found-term-2
loop-from-preserved-then-found-term-2 c =
    let term : ℕ → ℕ = λ i. (entry_in (word_of c.args.self.bytes.now) i).term in
    let middle : ℕ = c.loop-from.from + (c.loop-from.to - c.loop-from.from) / 2 in
    let within = c.loop-from.invariant.within in
    record {
      within = within;
      low = λ up i before. elim (cases_lt i middle) as (λ _. term i < c.args.term) [
        | inl under ↦ (let r : term i < term middle = up i middle under (omega (arith, within, c.loop-from-test.true)) in omega (arith, r, c.term_at-found.ensures, c.if-found-term-2.true))
        | inr from ↦ (let same : middle ≡ i = omega (arith, from, before) in let e : term middle ≡ term i = ap term same in omega (arith, e, c.term_at-found.ensures, c.if-found-term-2.true))
      ];
      high = c.loop-from.invariant.high;
    }

pub loop-from-preserved : goal.loop-from-preserved
loop-from-preserved c =
    let term : ℕ → ℕ = λ i. (entry_in (word_of c.args.self.bytes.now) i).term in
    let middle : ℕ = c.loop-from.from + (c.loop-from.to - c.loop-from.from) / 2 in
    let within = c.loop-from.invariant.within in
    record {
      within = omega (arith, within, c.loop-from-test.true);
      low = c.loop-from.invariant.low;
      high = λ up i from inside. elim (cases_lt middle i) as (λ _. c.args.term < term i) [
        | inl above ↦ (let r : term middle < term i = up middle i above inside in omega (arith, r, c.term_at-found.ensures, c.if-found-term-2.false))
        | inr le ↦ (let same : middle ≡ i = omega (arith, le, from) in let e : term middle ≡ term i = ap term same in omega (arith, e, c.term_at-found.ensures, c.if-found-term-2.false, c.if-found-term.false))
      ];
    }
