use Rattle.std.proofs.Common.{rules, arith, ◌≡◌, ◌<◌, ◌≤◌, ◌+◌, ◌/◌, ◌%◌, [], ◌∷◌, ◌++◌}
use Rattle.pef_report.proofs.Drawing.{drawing-begins, drawing-more, drawing-ends}
use Rattle.pef_report.proofs.draws.draw_list.Goals as goal

pub loop-document-init : goal.loop-document-init
loop-document-init c =
    drawing-begins c.args.gap c.args.state c.args.n c.draw.new.self.state c.draw.result c.from-document.result c.clear.new.self.items c.clear-2.new.self.items
    c.clear.ensures.items c.clear-2.ensures.items c.draw.ensures.state c.draw.ensures.number c.from-document.ensures

pub loop-document-preserved : goal.loop-document-preserved
loop-document-preserved c =
    let pushed : c.push.new.self.items ≡ c.loop-document.docs.items ++ c.loop-document.document ∷ [] = search rules in
    let counted : c.push-in-loop-document.new.self.items ≡ c.loop-document.freqs.items ++ (1 + c.draw-number.result % 8) ∷ [] = search rules in
    let gap : c.from-document-in-loop-document.result ≡ 1 + c.draw-number.result / 8 % c.args.gap = c.from-document-in-loop-document.ensures in
    let within : c.loop-document.document < c.args.n = omega arith in
    rw (pushed, counted, gap)
    (drawing-more c.args.gap c.args.state c.args.n c.loop-document.draws.state c.loop-document.document c.draw-number.new.self.state c.draw-number.result
    c.loop-document.docs.items c.loop-document.freqs.items c.loop-document.invariant within c.draw-number.ensures.state c.draw-number.ensures.number)

pub returns-clause-list : goal.returns-clause-list
returns-clause-list c =
    let past : c.args.n ≤ c.loop-document.document = omega arith in
    drawing-ends c.args.gap c.args.state c.args.n c.loop-document.draws.state c.loop-document.document c.loop-document.docs.items c.loop-document.freqs.items
    c.loop-document.invariant past
