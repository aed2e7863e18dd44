use Rattle.std.proofs.Common.{ℕ, ◌∙◌, sym, List, arith}
use Rattle.std.proofs.lemmas.Bool.{lt-ltb}
use Rattle.interval_max.proofs.Kept.{absent, found, found-has, rising}
use Rattle.interval_max.proofs.view.MaximaView.bounds.Goals as goal

pub returns-in-Some-clause-known : goal.returns-in-Some-clause-known
returns-in-Some-clause-known c = λ has list n are within.
    let bytes : List ℕ = c.args.self.bytes.now in
    let told = found has list n bytes are c.in-Some.i c.args.term c.in-Some.ensures.0 c.in-Some.ensures.1 in
    lt-ltb 0 c.bounds_at.result.step (omega (arith, told.0, c.bounds_at.ensures.step)) ∙ sym (found-has has list n bytes are c.in-Some.i c.args.term c.in-Some.ensures.0 c.in-Some.ensures.1)

pub returns-in-Some-clause-bound : goal.returns-in-Some-clause-bound
returns-in-Some-clause-bound c = λ has list n are within known v.
    let bytes : List ℕ = c.args.self.bytes.now in
    let told = found has list n bytes are c.in-Some.i c.args.term c.in-Some.ensures.0 c.in-Some.ensures.1 in
    c.bounds_at.ensures.bound told.1 v ∙ told.2 v

pub returns-clause-known : goal.returns-clause-known
returns-clause-known c = λ has list n are within.
    let bytes : List ℕ = c.args.self.bytes.now in
    c.none.ensures ∙ sym (absent has list n bytes are c.args.term within (c.in_default.ensures (rising has list n bytes are)))
