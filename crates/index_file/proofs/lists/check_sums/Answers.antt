use Rattle.std.proofs.Common.{◌≡◌, ◌+◌, false, ap, sym, ◌∙◌, arith}
use Rattle.part_cost.specs.Formats.{numbers_of}
use Rattle.index_file.specs.FirstBroken.{stated_doc_parts}
use Rattle.index_file.proofs.TermFaults.{fault-is, freqs_cannot_begin, freqs-test, freqs-found, freqs-fault, greatest-breaks, freqs-break}
use Rattle.index_file.proofs.lists.check_sums.Goals as goal

pub returns-in-Ok-2-clause-first : goal.returns-in-Ok-2-clause-first
returns-in-Ok-2-clause-first c =
    let a = c.args in
    let words = a.words.now in
    let sums = c.in-Ok.sums in
    let found = c.in-Ok.ensures in
    let test : freqs_cannot_begin (numbers_of c.args.format) c.args.words.now c.args.at.t c.args.at.p ≡ false =
    freqs-test (numbers_of a.format) words a.at.t a.at.p a.frame a.list c.sums_cannot_begin.result false c.requires.numbers c.requires.entry c.sums_cannot_begin.ensures c.if-sums_cannot_begin.false in
    greatest-breaks (numbers_of a.format) (c.sequence_laws.ensures a.format) words a.at.t a.at.p sums.view.values sums.view.ends sums.used test
    (freqs-found (numbers_of a.format) words a.at.t a.at.p c.most_sum.result a.frame a.list found.ok.0 sums.used sums.view c.requires.numbers c.requires.entry c.most_sum.ensures found.format found.used found.ok.1)
    (λ e. c.if-check_steps-greatest.false (found.step ∙ e ∙ sym c.requires.entry.greatest_is ∙ sym c.from-greatest.ensures))

pub returns-in-Err-clause-first : goal.returns-in-Err-clause-first
returns-in-Err-clause-first c =
    let a = c.args in
    let words = a.words.now in
    let fault = c.in-Err.fault in
    let test : freqs_cannot_begin (numbers_of c.args.format) c.args.words.now c.args.at.t c.args.at.p ≡ false =
    freqs-test (numbers_of a.format) words a.at.t a.at.p a.frame a.list c.sums_cannot_begin.result false c.requires.numbers c.requires.entry c.sums_cannot_begin.ensures c.if-sums_cannot_begin.false in
    freqs-break (numbers_of a.format) words a.at.t a.at.p c.fault_in.result fault.check fault.part (omega (arith, c.requires.frame.whole)) c.requires.fit test
    (freqs-fault (numbers_of a.format) words a.at.t a.at.p c.most_sum.result a.frame a.list fault.check fault.part c.requires.numbers c.requires.entry c.most_sum.ensures c.in-Err.ensures.first)
    (fault-is c.fault_in.result fault.check a.at.t (stated_doc_parts words a.at.t + fault.part) c.fault_in.ensures.check c.fault_in.ensures.term
    (c.fault_in.ensures.part ∙ ap (λ n. n + fault.part) c.requires.entry.doc_parts))
