-- The lists so far, and one more: without lines, or with both, or refused.
use Rattle.std.proofs.Common.{◌≡◌, ℕ, ◌+◌, ap, subst, arith, length}
use Rattle.std.proofs.lemmas.Result.{err_from_is_err_and}
use Rattle.io_traits.specs.SinkState.{SinkState}
use Rattle.index_file.specs.IndexView.{IndexView}
use Rattle.index_printing.specs.PrintAudit.{IsAudited}
use Rattle.index_printing.proofs.Auditing.{index-has, audited-empty, audited-longer, audited-shown, audit-stopped}
use Rattle.index_printing.proofs.audit.audit_list.Goals as goal

-- what is told of one more list is added to what is told of those before it
told : (i : IndexView) (t : ℕ) (old now : SinkState) (before after s l a b x y : ℕ) → a ≡ s + x → b ≡ l + y → IsAudited i t old now before after a b
    → IsAudited i t old now before after (s + x) (l + y)
told i t old now before after s l a b x y shown longer h =
    subst (λ n. IsAudited i t old now before after n (l + y)) shown (subst (λ n. IsAudited i t old now before after a n) longer h)

pub returns-then-count-eq0-clause-goes_on : goal.returns-then-count-eq0-clause-goes_on
returns-then-count-eq0-clause-goes_on g c = λ old before shown longer h.
    told _ _ _ _ _ _ shown longer shown longer 0 0 (omega arith) (omega arith)
    (audited-empty c.args.index.now c.stands_for_a_collection.ensures.partitions c.args.term old (g.O.Sink.state c.args.out.now) before c.args.steps.now shown longer
    c.requires.within (omega (arith, ap length c.cursor.ensures.list, c.len-count.ensures, c.if-count-eq0.true)) h)

pub returns-then-count-gt-LONGEST-clause-goes_on : goal.returns-then-count-gt-LONGEST-clause-goes_on
returns-then-count-gt-LONGEST-clause-goes_on g c = λ old before shown longer h.
    told _ _ _ _ _ _ shown longer shown (longer + 2) 0 2 (omega arith) (omega arith)
    (audited-longer c.args.index.now c.stands_for_a_collection.ensures.partitions c.args.term old (g.O.Sink.state c.args.out.now) before c.args.steps.now shown longer
    c.requires.within (omega (arith, ap length c.cursor.ensures.list, c.len-count.ensures, c.if-count-gt-LONGEST.true)) h)

pub returns-in_err-print_lines-clause-stops : goal.returns-in_err-print_lines-clause-stops
returns-in_err-print_lines-clause-stops g c =
    let i = c.args.index.now in
    let p = err_from_is_err_and c.from_residual.result c.from_residual.ensures.1 in
    let have = index-has i (c.formats_have_room.ensures i.format) c.sequences_of_a_list_rise.ensures c.single_is_allowed.ensures.allowed c.least_stored.ensures c.stands_for_a_collection.ensures.well_formed in
    rw (p.1, p.2) (λ old before shown longer h.
    audit-stopped i c.stands_for_a_collection.ensures.partitions c.args.term old (g.O.Sink.state c.args.out.now) (g.O.Sink.state c.print_lines.new.out) before c.args.steps.now c.print_lines.new.steps
    shown longer c.requires.within (omega (arith, ap length c.cursor.ensures.list, c.len-count.ensures, c.if-count-eq0.false))
    (omega (arith, ap length c.cursor.ensures.list, c.len-count.ensures, c.if-count-gt-LONGEST.false)) h have c.in_err-print_lines.field-0.0 c.in_err-print_lines.ensures)

pub returns-clause-goes_on : goal.returns-clause-goes_on
returns-clause-goes_on g c = λ old before shown longer h.
    told _ _ _ _ _ _ shown longer (shown + 2) longer 2 0 (omega arith) (omega arith)
    (audited-shown c.args.index.now c.stands_for_a_collection.ensures.partitions c.args.term old (g.O.Sink.state c.args.out.now) (g.O.Sink.state c.print_lines.new.out) before c.args.steps.now c.print_lines.new.steps
    shown longer c.requires.within (omega (arith, ap length c.cursor.ensures.list, c.len-count.ensures, c.if-count-eq0.false))
    (omega (arith, ap length c.cursor.ensures.list, c.len-count.ensures, c.if-count-gt-LONGEST.false)) h c.in_ok-print_lines.ensures)
