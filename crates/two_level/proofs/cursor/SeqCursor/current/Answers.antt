use Rattle.std.proofs.Common.{◌<◌, ◌≡◌, length, subst, arith}
use Rattle.std.specs.Prelude.{slice_index}
use Rattle.two_level.proofs.Fields.{lies-own}
use Rattle.two_level.proofs.cursor.SeqCursor.current.Goals as goal

pub returns-in-Some-clause-some : goal.returns-in-Some-clause-some
returns-in-Some-clause-some c =
    let s = c.self.inside in
    let there = lies-own s c.in-Some.field-0 c.in-Some.is c.self.invariant.0 c.self.invariant.1 in
    subst (λ p. (p.place < length p.sequence.values) × (s.value ≡ slice_index p.sequence.values p.place)) c.self.view_is
    (omega (arith, there.2, there.0.values.within), there.3)
