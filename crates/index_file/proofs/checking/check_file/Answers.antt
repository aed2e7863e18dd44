use Rattle.std.proofs.Common.{◌≡◌, refl, ◌∙◌, subst, arith}
use Rattle.std.proofs.lemmas.Result.{IfErr-weaker, on_ok_weaker}
use Rattle.part_cost.specs.declared.formats.Format.TheVariants.{One, Two, Three}
use Rattle.part_cost.specs.Formats.{numbers_of}
use Rattle.index_file.specs.FirstBroken.{IsFirstBrokenIn, IsFirstBroken}
use Rattle.index_file.proofs.FileKinds.{of-plain, of-packed, packed-read}
use Rattle.index_file.proofs.PackedIndex.{passes-are-file}
use Rattle.index_file.proofs.checking.check_file.Goals as goal

pub returns-in-One-clause-ok : goal.returns-in-One-clause-ok
returns-in-One-clause-ok g c =
    let words = c.args.words.now in
    on_ok_weaker c.check_plain.result (λ i. (One, (i.0, i.1, of-plain One words i.0 i.1 refl i.2))) c.check_plain.ensures.ok

pub returns-in-One-clause-first : goal.returns-in-One-clause-first
returns-in-One-clause-first g c =
    let words = c.args.words.now in
    IfErr-weaker c.check_plain.result (λ f. IsFirstBrokenIn (numbers_of One) words f) (λ f. IsFirstBroken words f)
    (λ f h. subst (λ v. IsFirstBrokenIn (numbers_of v) words f) c.in-One.ensures h)
    c.check_plain.ensures.first

pub returns-in-Two-clause-ok : goal.returns-in-Two-clause-ok
returns-in-Two-clause-ok g c =
    let words = c.args.words.now in
    on_ok_weaker c.check_plain-in-Two.result (λ i. (Two, (i.0, i.1, of-plain Two words i.0 i.1 refl i.2))) c.check_plain-in-Two.ensures.ok

pub returns-in-Two-clause-first : goal.returns-in-Two-clause-first
returns-in-Two-clause-first g c =
    let words = c.args.words.now in
    IfErr-weaker c.check_plain-in-Two.result (λ f. IsFirstBrokenIn (numbers_of Two) words f) (λ f. IsFirstBroken words f)
    (λ f h. subst (λ v. IsFirstBrokenIn (numbers_of v) words f) c.in-Two.ensures h)
    c.check_plain-in-Two.ensures.first

pub returns-in-Three-clause-ok : goal.returns-in-Three-clause-ok
returns-in-Three-clause-ok g c =
    let words = c.args.words.now in
    let laws = c.file_laws.ensures in
    on_ok_weaker c.check_packed.result
    (λ pass.
    (let i = passes-are-file laws.appended laws.whole laws.same laws.part laws.takes laws.values words (λ k. omega (arith, c.type_inv.words k)) pass in
    (Three, (i.0, i.1, of-packed words i.0 i.1 i.2))))
    c.check_packed.ensures.ok

pub returns-in-Three-clause-first : goal.returns-in-Three-clause-first
returns-in-Three-clause-first g c =
    let words = c.args.words.now in
    IfErr-weaker c.check_packed.result (λ f. IsFirstBrokenIn (numbers_of Three) words f) (λ f. IsFirstBroken words f)
    (λ f h. subst (λ v. IsFirstBrokenIn (numbers_of v) words f) c.in-Three.ensures h)
    c.check_packed.ensures.first

-- they have not the frame of a packed file
pub returns-in-One-clause-took : goal.returns-in-One-clause-took
returns-in-One-clause-took g c =
    let words = c.args.words.now in
    on_ok_weaker c.check_plain.result (λ i frame. let e : One ≡ Three = c.in-One.ensures ∙ packed-read words frame in cc) c.check_plain.ensures.ok

pub returns-in-Two-clause-took : goal.returns-in-Two-clause-took
returns-in-Two-clause-took g c =
    let words = c.args.words.now in
    on_ok_weaker c.check_plain-in-Two.result (λ i frame. let e : Two ≡ Three = c.in-Two.ensures ∙ packed-read words frame in cc) c.check_plain-in-Two.ensures.ok
