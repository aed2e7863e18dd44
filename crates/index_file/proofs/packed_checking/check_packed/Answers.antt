use Rattle.std.proofs.Common.{refl, sym, ◌∙◌, arith, rules}
use Rattle.std.proofs.lemmas.Result.{IfErr-weaker}
use Rattle.sequence_words.specs.declared.check.Check.TheVariants.{K12}
use Rattle.index_file.specs.PackedFaults.{IsFirstPackedListFault, IsFirstBrokenPacked}
use Rattle.index_file.proofs.FirstFaults.{from-err}
use Rattle.index_file.proofs.PackedFrames.{packed-frame-stands}
use Rattle.index_file.proofs.PackedFirst.{packed-frame-breaks, starts-break, list-breaks, closing-breaks}
use Rattle.index_file.proofs.PackedChecks.{not-both}
use Rattle.index_file.proofs.packed_checking.check_packed.Goals as goal

pub returns-in-Some-clause-first : goal.returns-in-Some-clause-first
returns-in-Some-clause-first g c =
    packed-frame-breaks c.args.words.now c.in-Some.check (record { check = c.in-Some.check; term = 0; part = 0 }) (sym c.packed_frame_fault.ensures ∙ c.in-Some.is) refl

pub packed_frame_of-frame-requires : goal.packed_frame_of-frame-requires
packed_frame_of-frame-requires g c =
    let frame = packed-frame-stands c.args.words.now (sym c.packed_frame_fault.ensures ∙ c.in_default.is) in
    omega (arith, frame.some)

pub has_starts-requires-clause-frame : goal.has_starts-requires-clause-frame
has_starts-requires-clause-frame g c = packed-frame-stands c.args.words.now (sym c.packed_frame_fault.ensures ∙ c.in_default.is)

pub returns-then-not-has_starts-clause-first : goal.returns-then-not-has_starts-clause-first
returns-then-not-has_starts-clause-first g c =
    let words = c.args.words.now in
    starts-break words (record { check = K12; term = 0; part = 0 }) (packed-frame-stands words (sym c.packed_frame_fault.ensures ∙ c.in_default.is))
    (λ h. not-both c.has_starts.result (c.has_starts.ensures.1 h) c.if-not-has_starts.true) refl

pub check_packed_lists-requires-clause-frame : goal.check_packed_lists-requires-clause-frame
check_packed_lists-requires-clause-frame g c = packed-frame-stands c.args.words.now (sym c.packed_frame_fault.ensures ∙ c.in_default.is)

pub check_packed_lists-requires-clause-starts : goal.check_packed_lists-requires-clause-starts
check_packed_lists-requires-clause-starts g c = c.has_starts.ensures.0 c.if-not-has_starts.false

pub returns-in_err-check_packed_lists-clause-first : goal.returns-in_err-check_packed_lists-clause-first
returns-in_err-check_packed_lists-clause-first g c =
    let words = c.args.words.now in
    let frame = packed-frame-stands words (sym c.packed_frame_fault.ensures ∙ c.in_default.is) in
    let starts = c.has_starts.ensures.0 c.if-not-has_starts.false in
    from-err c.check_packed_lists.result c.from_residual.result c.in_err-check_packed_lists.field-0.0 (λ f. IsFirstBrokenPacked c.args.words.now f) (first_of (search rules, cc)) (first_of (search rules, cc))
    (IfErr-weaker c.check_packed_lists.result (λ f. IsFirstPackedListFault words f) (λ f. IsFirstBrokenPacked words f) (λ f h. list-breaks words f frame starts h) c.check_packed_lists.ensures.first)

pub packed_closing_fault-requires-clause-frame : goal.packed_closing_fault-requires-clause-frame
packed_closing_fault-requires-clause-frame g c = packed-frame-stands c.args.words.now (sym c.packed_frame_fault.ensures ∙ c.in_default.is)

pub returns-in-Some-packed_closing_fault-clause-first : goal.returns-in-Some-packed_closing_fault-clause-first
returns-in-Some-packed_closing_fault-clause-first g c =
    let words = c.args.words.now in
    let frame = packed-frame-stands words (sym c.packed_frame_fault.ensures ∙ c.in_default.is) in
    let starts = c.has_starts.ensures.0 c.if-not-has_starts.false in
    closing-breaks words c.in-Some-packed_closing_fault.fault frame starts c.in_ok-check_packed_lists.ensures.ok c.in-Some-packed_closing_fault.ensures.some

pub returns-in-None-clause-ok : goal.returns-in-None-clause-ok
returns-in-None-clause-ok g c =
    let words = c.args.words.now in
    record {
      frame = packed-frame-stands words (sym c.packed_frame_fault.ensures ∙ c.in_default.is);
      starts = c.has_starts.ensures.0 c.if-not-has_starts.false;
      lists = c.in_ok-check_packed_lists.ensures.ok;
      closing = c.packed_closing_fault.ensures.none c.in-None.is;
    }

pub returns-in-None-clause-took : goal.returns-in-None-clause-took
returns-in-None-clause-took g c = c.in_ok-check_packed_lists.ensures.took
