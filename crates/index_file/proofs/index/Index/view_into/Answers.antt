use Rattle.std.proofs.Common.{rules, arith, inl, refl, subst}
use Rattle.std.proofs.lemmas.Result.{IfErr-weaker}
use Rattle.index_file.specs.FileWords.{IsIndex}
use Rattle.index_file.specs.FirstBroken.{IsFirstBroken}
use Rattle.index_file.specs.IndexView.{index_stated}
use Rattle.index_file.proofs.FileKinds.{spells-stated, stated-hold, narrow-words, none-given}
use Rattle.index_file.proofs.FirstFaults.{from-err}
use Rattle.index_file.proofs.Both.{one-broken-check}
use Rattle.index_file.proofs.index.Index.view_into.Goals as goal

pub returns-in_err-check_file-clause-no_index : goal.returns-in_err-check_file-clause-no_index
returns-in_err-check_file-clause-no_index g c =
    from-err c.check_file.result c.from_residual.result c.in_err-check_file.field-0.0 (λ f. ¬ IsIndex c.args.words.now) (first_of (search rules, cc)) (first_of (search rules, cc))
    (IfErr-weaker c.check_file.result (λ f. IsFirstBroken c.args.words.now f) (λ f. ¬ IsIndex c.args.words.now)
    (λ f h is. (one-broken-check c.file_laws.ensures).none_in_index c.args.words.now f is h)
    c.check_file.ensures.first)

pub returns-in_err-check_file-clause-first : goal.returns-in_err-check_file-clause-first
returns-in_err-check_file-clause-first g c =
    from-err c.check_file.result c.from_residual.result c.in_err-check_file.field-0.0 (λ f. IsFirstBroken c.args.words.now f) (first_of (search rules, cc)) (first_of (search rules, cc))
    c.check_file.ensures.first

pub invariant_of-result : goal.invariant_of-result
invariant_of-result g c =
    let words = c.args.words.now in
    let narrow = narrow-words words (λ k. omega (arith, c.type_inv.words k)) in
    (spells-stated c.file_laws.ensures words narrow c.in_ok-check_file.ensures.ok, c.requires.words, narrow, inl refl)

pub returns-clause-ok : goal.returns-clause-ok
returns-clause-ok g c =
    let words = c.args.words.now in
    spells-stated c.file_laws.ensures words (narrow-words words (λ k. omega (arith, c.type_inv.words k))) c.in_ok-check_file.ensures.ok

pub returns-clause-stated : goal.returns-clause-stated
returns-clause-stated g c = none-given c.args.words.now

pub returns-clause-took : goal.returns-clause-took
returns-clause-took g c packed took =
    let words = c.args.words.now in
    let hold = stated-hold c.file_laws.ensures words (narrow-words words (λ k. omega (arith, c.type_inv.words k))) c.in_ok-check_file.ensures.ok packed in
    subst (g.L.ListSink.took c.check_file.new.lists (index_stated words).collection) hold.terms
    (c.in_ok-check_file.ensures.took hold.frame (index_stated words).collection hold.lists took)
