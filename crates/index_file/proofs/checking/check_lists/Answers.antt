use Rattle.std.proofs.Common.{◌≡◌, ◌<◌, [], ◌∷◌, ◌++◌, length, subst, arith, rules}
use Rattle.std.specs.Result.{IfErr}
use Rattle.std.proofs.lemmas.Result.{IfErr-weaker}
use Rattle.part_cost.specs.Formats.{numbers_of}
use Rattle.part_cost.proofs.Rooms.{formats-have-room}
use Rattle.index_file.specs.FirstBroken.{stated_terms, IsTermFault}
use Rattle.index_file.specs.ListAt.{IsFirstListFault}
use Rattle.index_file.proofs.Prefixes.{reached-first, reached-next, reached-prefix, reached-fault}
use Rattle.index_file.proofs.checking.check_lists.Goals as goal

pub loop-t-init : goal.loop-t-init
loop-t-init c = ([], reached-first (numbers_of c.args.format) c.args.words.now c.requires.frame)

pub loop-t-preserved : goal.loop-t-preserved
loop-t-preserved c =
    let r = c.loop-t.invariant in
    let next = c.in_ok-p.ensures.ok in
    (r.0 ++ next.0 ∷ [], reached-next (numbers_of c.args.format) c.args.words.now c.loop-t.t c.loop-t.p c.in_ok-p.p r.0 next.0 r.1 next.1 next.2)

pub returns-in_err-p-clause-first : goal.returns-in_err-p-clause-first
returns-in_err-p-clause-first c =
    let r = c.loop-t.invariant in
    let laws = c.sequence_laws.ensures c.args.format in
    let same : c.check_list.result ≡ c.from_residual.result = first_of (search rules, cc) in
    let within : c.loop-t.t < stated_terms c.args.words.now = omega (arith, c.loop-t-test.true, c.requires.numbers.terms) in
    subst (λ x. IfErr x (λ f. IsFirstListFault (numbers_of c.args.format) c.args.words.now f)) same
    (IfErr-weaker c.check_list.result (λ f. IsTermFault (numbers_of c.args.format) c.args.words.now c.loop-t.t c.loop-t.p f) (λ f. IsFirstListFault (numbers_of c.args.format) c.args.words.now f)
    (λ f h. reached-fault (numbers_of c.args.format) (formats-have-room c.args.format) laws c.args.words.now c.loop-t.t c.loop-t.p r.0 f c.requires.frame within r.1 h)
    c.check_list.ensures.first)

pub returns-clause-ok : goal.returns-clause-ok
returns-clause-ok c =
    let r = c.loop-t.invariant in
    let all : length c.loop-t.invariant.0 ≡ stated_terms c.args.words.now = omega (arith, r.1.count, c.loop-t-test.false, c.loop-t.auto.t-end, c.requires.numbers.terms) in
    (r.0, reached-prefix (numbers_of c.args.format) c.args.words.now c.loop-t.t c.loop-t.p r.0 c.requires.frame (omega (arith, r.1.count, all)) r.1, all, r.1.place)
