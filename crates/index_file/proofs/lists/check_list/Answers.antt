use Rattle.std.proofs.Common.{◌≡◌, ◌+◌, false, ◌∙◌, List, ℕ, arith}
use Rattle.std.proofs.lemmas.Result.{IfOk-weaker, IfErr-weaker}
use Rattle.part_cost.specs.Formats.{numbers_of}
use Rattle.part_cost.proofs.Rooms.{formats-have-room}
use Rattle.index_file.specs.FileWords.{CutList}
use Rattle.index_file.specs.FirstBroken.{IsFreqsFault, IsTermFault}
use Rattle.index_file.specs.ListAt.{DocsBegin, FreqsStandAt, StandsAt, word_after}
use Rattle.index_file.proofs.OneList.{list-of, list-stands}
use Rattle.index_file.proofs.TermFaults.{fault-is, docs_cannot_begin, begin-test, can-begin, docs-found, docs-fault, docs-break, behind-breaks}
use Rattle.index_file.proofs.lists.check_list.Goals as goal

pub returns-in-Ok-clause-ok : goal.returns-in-Ok-clause-ok
returns-in-Ok-clause-ok c =
    let a = c.args in
    let words = a.words.now in
    let list = c.list_entry-list in
    let docs = c.in-Ok.docs in
    let found = c.in-Ok.ensures in
    let test : docs_cannot_begin (numbers_of c.args.format) c.args.words.now c.args.t c.args.p ≡ false =
    begin-test (numbers_of a.format) words a.t a.p a.frame list.result c.cannot_begin.result false c.requires.numbers list.ensures c.cannot_begin.ensures c.if-cannot_begin.false in
    let begin = can-begin (numbers_of a.format) words a.t a.p test in
    let stands : DocsBegin (numbers_of c.args.format) c.args.words.now c.args.t c.args.p c.in-Ok.docs.view.values c.in-Ok.docs.view.ends c.in-Ok.docs.used =
    docs-found (numbers_of a.format) words a.t a.p a.frame list.result found.ok.0 docs.used docs.view c.requires.numbers list.ensures found.format found.used found.ok.1 in
    IfOk-weaker c.check_sums.result (λ behind. (ys : List ℕ) × (cuts : List ℕ) × (taken : ℕ) × FreqsStandAt (numbers_of a.format) words a.t (a.p + docs.used) ys cuts taken × (behind ≡ a.p + docs.used + taken))
    (λ next. (x : CutList) × StandsAt (numbers_of a.format) words a.t a.p x × (next ≡ word_after (numbers_of a.format) a.p x))
    (λ next h.
    let l = list-stands (numbers_of a.format) c.sequences_are_a_list.ensures words a.t a.p docs.view.values docs.view.ends docs.used h.0 h.1 h.2 c.requires.before begin.first stands h.3 in
    (list-of docs.view.values docs.view.ends h.0 h.1, l.0, h.4 ∙ l.1))
    c.check_sums.ensures.ok

pub returns-in-Ok-clause-first : goal.returns-in-Ok-clause-first
returns-in-Ok-clause-first c =
    let a = c.args in
    let words = a.words.now in
    let list = c.list_entry-list in
    let docs = c.in-Ok.docs in
    let found = c.in-Ok.ensures in
    let test : docs_cannot_begin (numbers_of c.args.format) c.args.words.now c.args.t c.args.p ≡ false =
    begin-test (numbers_of a.format) words a.t a.p a.frame list.result c.cannot_begin.result false c.requires.numbers list.ensures c.cannot_begin.ensures c.if-cannot_begin.false in
    let stands : DocsBegin (numbers_of c.args.format) c.args.words.now c.args.t c.args.p c.in-Ok.docs.view.values c.in-Ok.docs.view.ends c.in-Ok.docs.used =
    docs-found (numbers_of a.format) words a.t a.p a.frame list.result found.ok.0 docs.used docs.view c.requires.numbers list.ensures found.format found.used found.ok.1 in
    IfErr-weaker c.check_sums.result (λ f. IsFreqsFault (numbers_of a.format) words a.t (a.p + docs.used) f) (λ f. IsTermFault (numbers_of a.format) words a.t a.p f)
    (λ f h. behind-breaks (numbers_of a.format) (formats-have-room a.format) (c.sequence_laws.ensures a.format) words a.t a.p docs.view.values docs.view.ends docs.used f c.requires.frame test stands h)
    c.check_sums.ensures.first

pub returns-in-Err-clause-first : goal.returns-in-Err-clause-first
returns-in-Err-clause-first c =
    let a = c.args in
    let words = a.words.now in
    let list = c.list_entry-list in
    let fault = c.in-Err.fault in
    let test : docs_cannot_begin (numbers_of c.args.format) c.args.words.now c.args.t c.args.p ≡ false =
    begin-test (numbers_of a.format) words a.t a.p a.frame list.result c.cannot_begin.result false c.requires.numbers list.ensures c.cannot_begin.ensures c.if-cannot_begin.false in
    docs-break (numbers_of a.format) words a.t a.p c.fault_in.result fault.check fault.part (omega (arith, c.requires.frame.whole)) test
    (docs-fault (numbers_of a.format) words a.t a.p a.frame list.result fault.check fault.part c.requires.numbers list.ensures c.in-Err.ensures.first)
    (fault-is c.fault_in.result fault.check a.t fault.part c.fault_in.ensures.check c.fault_in.ensures.term (omega (arith, c.fault_in.ensures.part)))
