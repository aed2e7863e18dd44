use Rattle.std.proofs.Common.{◌≡◌, sym, subst, rules, arith, ℕ, List, length, Result, Err, refl, string_bytes}
use Rattle.std.proofs.lemmas.Result.{err_from_is_err_and}
use Rattle.io_traits.specs.declared.fail.IoFail.{IoFail}
use Rattle.io_traits.specs.declared.fail.IoFail.TheVariants.{NoMemory}
use Rattle.io_traits.specs.Helpers.{WritesAll}
use Rattle.pef_report.specs.AuditLine.{audit_end}
use Rattle.index_printing.specs.PrintAudit.{PrintsAudit, IsAudited}
use Rattle.index_printing.proofs.Auditing.{audit-ends, audited-rest}
use Rattle.index_printing.proofs.PrintedLine.{not-made, printed-or-not}
use Rattle.index_printing.proofs.audit.print_audit.Goals.{After-loop-term}
use Rattle.index_printing.proofs.audit.print_audit.Given as given
use Rattle.index_printing.proofs.audit.print_audit.Goals as goal

pub returns-in_err-more : goal.returns-in_err-more
returns-in_err-more g c =
    let p = err_from_is_err_and c.from_residual.result c.from_residual.ensures.1 in
    rw (p.1, p.2) (c.in_err-more.ensures.stops (g.O.Sink.state c.args.out.now) c.args.steps.now c.loop-term.tally.shown c.loop-term.tally.longer c.loop-term.invariant)

pub overflow_add-tally : goal.overflow_add-tally
overflow_add-tally g c =
    omega (arith, (c.in_ok-more.ensures.goes_on (g.O.Sink.state c.args.out.now) c.args.steps.now c.loop-term.tally.shown c.loop-term.tally.longer c.loop-term.invariant).few, c.loop-term-test.true)

pub overflow_add-tally-in-loop-term : goal.overflow_add-tally-in-loop-term
overflow_add-tally-in-loop-term g c =
    omega (arith, (c.in_ok-more.ensures.goes_on (g.O.Sink.state c.args.out.now) c.args.steps.now c.loop-term.tally.shown c.loop-term.tally.longer c.loop-term.invariant).few, c.loop-term-test.true)

-- all lists are audited, since those that were not looked at have no postings
all-audited : (g : given.Over) (c : After-loop-term g)
    → IsAudited c.args.index.now (length c.args.index.now.collection.lists) (g.O.Sink.state c.args.out.now) (g.O.Sink.state c.loop-term.out) c.args.steps.now c.loop-term.steps c.loop-term.tally.shown c.loop-term.tally.longer
all-audited g c =
    audited-rest c.args.index.now c.stands_for_a_collection.ensures.partitions c.loop-term.term _ _ _ _ _ _ (omega (arith, c.walked_terms-term-end.ensures.within, c.loop-term.auto.term-end))
    (λ s le. c.walked_terms-term-end.ensures.rest s (omega (arith, le, c.loop-term-test.false))) c.loop-term.invariant

pub returns-in_err-end : goal.returns-in_err-end
returns-in_err-end g c =
    let is : c.from_residual-in_err-end.result ≡ Err NoMemory = search rules in
    let end = audit_end c.loop-term.tally.shown c.loop-term.tally.longer in
    let P : Result (Unit {0}) IoFail → Type 0 = λ r. PrintsAudit c.args.index.now (g.O.Sink.state c.args.out.now) (g.O.Sink.state c.loop-term.out) c.args.steps.now c.loop-term.steps r in
    subst P (sym is) (audit-ends c.args.index.now c.stands_for_a_collection.ensures.partitions (length c.args.index.now.collection.lists) _ _ _ _ _ c.loop-term.tally.shown c.loop-term.tally.longer (Err NoMemory) end
    (omega arith) (all-audited g (goal.at.returns-in_err-end g c).After-loop-term) refl (not-made end _))

pub returns : goal.returns
returns g c =
    let made : string_bytes c.in_ok-end.end ≡ audit_end c.loop-term.tally.shown c.loop-term.tally.longer = search rules in
    let P : List ℕ → Type 0 = λ line. WritesAll (g.O.Sink.state c.loop-term.out) (g.O.Sink.state c.write_all_own.new.sink) line c.write_all_own.result in
    audit-ends c.args.index.now c.stands_for_a_collection.ensures.partitions (length c.args.index.now.collection.lists) _ _ _ _ _ c.loop-term.tally.shown c.loop-term.tally.longer c.write_all_own.result (string_bytes c.in_ok-end.end)
    (omega arith) (all-audited g (goal.at.returns g c).After-loop-term) made (printed-or-not (string_bytes c.in_ok-end.end) _ _ _ (subst P c.as_bytes.ensures.value c.write_all_own.ensures))
