use Rattle.std.proofs.Common.{◌≡◌, ℕ, ◌+◌, ◌^◌, ◌<◌, List, ◌++◌, ap, subst, arith, length}
use Rattle.std.proofs.lemmas.List.{length-append}
use Rattle.std.proofs.lemmas.Result.{on_ok_weaker, on_err_weaker}
use Rattle.bit_words.specs.Bits.{AppendsBits}
use Rattle.bit_words.proofs.Outcomes.{on-err}
use Rattle.number_source.proofs.Given.{given}
use Rattle.part_cost.specs.Span.{AreRelative}
use Rattle.part_cost.proofs.Parts.{past-is}
use Rattle.ranked_bitmap.specs.MapBits.{marks, map_bits}
use Rattle.ranked_bitmap.proofs.Writing.{length-both, marks-of, part-whole, part-prefix, part-behind}
use Rattle.ranked_bitmap.proofs.writer.map_write.Given as met
use Rattle.ranked_bitmap.proofs.writer.map_write.Goals as goal
use Rattle.ranked_bitmap.proofs.writer.map_write.Goals.{Start, In_ok-write_marks}

-- the numbers are relative values
relative : (g : met.Over) (c : Start g) (ys : List ℕ) → g.N.NumberSource.gives c.args.values ys → AreRelative c.args.u (length ys) ys
relative g c = given g.N.NumberSource.gives g.met.N.NumberSource.one_list (λ ys. AreRelative c.args.u (length ys) ys) c.args.values c.requires.values

-- there is room for their bits
room-is : (g : met.Over) (c : Start g) (ys : List ℕ) → g.N.NumberSource.gives c.args.values ys → length c.args.to.now + length (map_bits g.row.B ys c.args.u) < 2 ^ 63
room-is g c = given g.N.NumberSource.gives g.met.N.NumberSource.one_list (λ ys. length c.args.to.now + length (map_bits g.row.B ys c.args.u) < 2 ^ 63) c.args.values c.requires.room

-- the marks that are written are those of the part
marks-are : (g : met.Over) (c : In_ok-write_marks g) (ys : List ℕ) → g.N.NumberSource.gives c.args.values ys → AreRelative c.args.u (length ys) ys
    → c.write_marks.new.to ≡ c.args.to.now ++ marks ys c.args.u
marks-are g c ys h rel = marks-of c.args.u c.args.to.now c.write_marks.new.to ys rel (c.in_ok-write_marks.ensures.ok ys h)

pub write_marks-requires-clause-rising : goal.write_marks-requires-clause-rising
write_marks-requires-clause-rising g c = let r = c.requires.values in (r.0, r.1, r.2.rising)

pub write_marks-requires-clause-some : goal.write_marks-requires-clause-some
write_marks-requires-clause-some g c = let r = c.requires.values in (r.0, r.1, r.2.some)

pub write_marks-requires-clause-room : goal.write_marks-requires-clause-room
write_marks-requires-clause-room g c =
    let r = c.requires.values in
    let start = (goal.at.write_marks-requires-clause-room g c).Start in (
      r.0,
      r.1,
      omega (arith, length-both g.row.B c.args.u r.0, room-is g start r.0 r.1, ap (λ v. length (marks r.0 v)) (past-is c.args.u r.0 r.2)),
    )

pub returns-in_err-write_marks-clause-err : goal.returns-in_err-write_marks-clause-err
returns-in_err-write_marks-clause-err g c = λ ys h.
    let start = (goal.at.returns-in_err-write_marks-clause-err g c).Start in
    on-err c.from_residual.result (AppendsBits c.args.to.now c.write_marks.new.to (map_bits g.row.B ys c.args.u))
    (part-prefix g.row.B c.args.u c.args.to.now c.write_marks.new.to ys (subst (λ v. AppendsBits c.args.to.now c.write_marks.new.to (marks ys v)) (past-is c.args.u ys (relative g start ys h)) (c.in_err-write_marks.ensures.err ys h)))

pub write_samples-requires-clause-room : goal.write_samples-requires-clause-room
write_samples-requires-clause-room g c =
    let r = c.requires.values in
    let start = (goal.at.write_samples-requires-clause-room g c).Start in
    let at = (goal.at.write_samples-requires-clause-room g c).In_ok-write_marks in (
      r.0,
      r.1,
      omega (arith, length-both g.row.B c.args.u r.0, room-is g start r.0 r.1, ap length (marks-are g at r.0 r.1 r.2), length-append c.args.to.now (marks r.0 c.args.u)),
    )

pub returns-clause-ok : goal.returns-clause-ok
returns-clause-ok g c = λ ys h.
    let start = (goal.at.returns-clause-ok g c).Start in
    let at = (goal.at.returns-clause-ok g c).In_ok-write_marks in
    on_ok_weaker c.write_samples.result
    (λ e. part-whole g.row.B c.args.u c.args.to.now c.write_marks.new.to c.write_samples.new.to ys (marks-are g at ys h (relative g start ys h)) e)
    (c.write_samples.ensures.ok ys h)

pub returns-clause-err : goal.returns-clause-err
returns-clause-err g c = λ ys h.
    let start = (goal.at.returns-clause-err g c).Start in
    let at = (goal.at.returns-clause-err g c).In_ok-write_marks in
    on_err_weaker c.write_samples.result
    (λ e. part-behind g.row.B c.args.u c.args.to.now c.write_marks.new.to c.write_samples.new.to ys (marks-are g at ys h (relative g start ys h)) e)
    (c.write_samples.ensures.err ys h)
