use Rattle.std.proofs.Common.{◌≡◌, ◌+◌, ◌*◌, ◌^◌, ◌++◌, length, drop, ap, arith, ◌∙◌, sym, subst}
use Rattle.bit_words.specs.Bits.{AppendsBits, field_bits}
use Rattle.bit_words.proofs.Outcomes.{on-err}
use Rattle.number_source.proofs.Given.{given, gives-behind}
use Rattle.part_cost.specs.Payload.{digits}
use Rattle.part_cost.specs.Span.{AreRelative}
use Rattle.ranked_bitmap.specs.MapBits.{map_samples}
use Rattle.ranked_bitmap.proofs.Reading.{count-at}
use Rattle.ranked_bitmap.proofs.Writing.{sample-room, samples-prefix, samples-all, sample-more, found-below, found-behind}
use Rattle.ranked_bitmap.proofs.writer.write_samples.Goals as goal

pub put-requires-clause-room : goal.put-requires-clause-room
put-requires-clause-room g c =
    let ys = c.requires.room.0 in
    let h = c.requires.room.1 in
    sample-room g.row.B ys c.args.u c.loop-j.j c.digits-width.result (2 ^ 63) c.args.to.now c.loop-j.to c.loop-j-test.true (c.loop-j.invariant ys h).written
    (c.digits-width.ensures ∙ ap digits (c.left-all.ensures ys h)) c.requires.room.2

pub returns-in_err-put-clause-err : goal.returns-in_err-put-clause-err
returns-in_err-put-clause-err g c = λ ys h.
    on-err c.from_residual.result (AppendsBits c.args.to.now c.put.new.self (map_samples g.row.B ys c.args.u))
    (samples-prefix c.args.to.now c.put.new.self g.row.B ys c.args.u c.loop-j.j (c.in_err-put.ensures.err ∙ (c.loop-j.invariant ys h).written))

pub loop-j-preserved : goal.loop-j-preserved
loop-j-preserved g c = λ ys h.
    let known = c.loop-j.invariant ys h in
    let behind = drop c.loop-j.count ys in
    let more = c.pass_below-count.result in
    let end = g.row.B * (c.loop-j.j + 1) in
    let rel = given g.N.NumberSource.gives g.met.N.NumberSource.one_list (λ xs. AreRelative c.args.u (length xs) xs) c.args.values c.requires.values ys h in
    let found = found-behind ys end c.loop-j.count more known.within known.below (c.pass_below-count.ensures.within behind known.left) (c.pass_below-count.ensures.below behind known.left) (c.pass_below-count.ensures.next behind known.left) in
    let put =
    subst (λ w. c.put.new.self ≡ c.loop-j.to ++ field_bits w (c.loop-j.count + more)) (c.digits-width.ensures ∙ ap digits (c.left-all.ensures ys h)) c.in_ok-put.ensures.ok in
    record {
      left = gives-behind g.N.NumberSource.gives c.pass_below-count.new.values ys c.loop-j.count more (c.pass_below-count.ensures.left behind known.left);
      written = put
          ∙ sample-more c.args.to.now c.loop-j.to g.row.B ys c.args.u c.loop-j.j (c.loop-j.count + more) c.loop-j-test.true
          (found-below ys c.args.u end (c.loop-j.count + more) rel found.0 found.1 found.2 ∙ sym (count-at g.row.B ys c.args.u c.loop-j.j c.loop-j-test.true))
          known.written;
      within = found.0;
      below = λ i lt. omega (arith, found.1 i lt);
    }

pub returns-clause-ok : goal.returns-clause-ok
returns-clause-ok g c = λ ys h.
    (c.loop-j.invariant ys h).written ∙ ap (λ xs. c.args.to.now ++ xs) (samples-all g.row.B ys c.args.u c.loop-j.j (omega arith))
