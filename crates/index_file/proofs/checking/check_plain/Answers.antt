use Rattle.std.proofs.Common.{◌≡◌, refl, subst, arith, rules, None, Some}
use Rattle.std.specs.Prelude.{IfErr}
use Rattle.std.proofs.lemmas.Result.{IfErr-weaker}
use Rattle.part_cost.specs.Formats.{numbers_of}
use Rattle.index_file.specs.declared.fault.OpenFault.{OpenFault}
use Rattle.index_file.specs.FirstBroken.{frame_broken, IsFirstBrokenPlain}
use Rattle.index_file.specs.ListAt.{IsFirstListFault, PassesClosing}
use Rattle.index_file.proofs.Frames.{frame-stands, frame-breaks}
use Rattle.index_file.proofs.FirstFaults.{list-first, from-err}
use Rattle.index_file.proofs.Spelling.{is-index}
use Rattle.index_file.proofs.checking.check_plain.Goals as goal

pub check_lists-requires-clause-frame : goal.check_lists-requires-clause-frame
check_lists-requires-clause-frame c =
    let none : frame_broken (numbers_of c.args.format) c.args.words.now ≡ None = first_of (search rules, cc) in
    frame-stands (numbers_of c.args.format) c.args.words.now none

pub closing_fault-requires-clause-frame : goal.closing_fault-requires-clause-frame
closing_fault-requires-clause-frame c =
    let none : frame_broken (numbers_of c.args.format) c.args.words.now ≡ None = first_of (search rules, cc) in
    (c.args.format, frame-stands (numbers_of c.args.format) c.args.words.now none)

pub returns-in_err-p-clause-first : goal.returns-in_err-p-clause-first
returns-in_err-p-clause-first c =
    let format = numbers_of c.args.format in
    let words = c.args.words.now in
    let none : frame_broken (numbers_of c.args.format) c.args.words.now ≡ None = first_of (search rules, cc) in
    let first : IfErr c.check_lists.result (λ f. IsFirstBrokenPlain (numbers_of c.args.format) c.args.words.now f) =
    IfErr-weaker c.check_lists.result (λ f. IsFirstListFault format words f) (λ f. IsFirstBrokenPlain format words f)
    (λ f h. list-first format words f (frame-stands format words none) h)
    c.check_lists.ensures.first in
    from-err c.check_lists.result c.from_residual.result c.in_err-p.field-0.0 (λ f. IsFirstBrokenPlain format words f) (first_of (search rules, cc)) (first_of (search rules, cc)) first

pub returns-in-Some-clause-first : goal.returns-in-Some-clause-first
returns-in-Some-clause-first c =
    let words = c.args.words.now in
    let fault : OpenFault = record { check = c.in-Some.check; term = 0; part = 0 } in
    let some : frame_broken (numbers_of c.args.format) c.args.words.now ≡ Some c.in-Some.check = first_of (search rules, cc) in
    frame-breaks (numbers_of c.args.format) words c.in-Some.check fault some refl

pub returns-in-None-clause-ok : goal.returns-in-None-clause-ok
returns-in-None-clause-ok c =
    let format = numbers_of c.args.format in
    let words = c.args.words.now in
    let none : frame_broken (numbers_of c.args.format) c.args.words.now ≡ None = first_of (search rules, cc) in
    let lists = c.in_ok-p.ensures.ok in
    let pass : PassesClosing c.args.words.now c.in_ok-p.p = c.closing_fault.ensures.none (search rules) in
    is-index format words lists.0 (λ k. omega (arith, c.type_inv.words k)) (frame-stands format words none) lists.1 lists.2 (subst (λ i. PassesClosing words i) lists.3 pass)
