use Rattle.std.proofs.Common.{refl, sym, ap, ◌∙◌, subst}
use Rattle.part_cost.specs.declared.formats.Format.TheVariants.{One, Two, Three}
use Rattle.part_cost.specs.Formats.{numbers_of}
use Rattle.index_file.specs.FileWords.{IsIndexIn}
use Rattle.index_file.specs.IndexView.{list_of_kind}
use Rattle.index_file.proofs.FileKinds.{to-plain, to-packed}
use Rattle.index_file.proofs.Both.{file-passes}
use Rattle.index_file.proofs.views.list_views.Goals as goal

pub plain_list_views-requires-clause-index : goal.plain_list_views-requires-clause-index
plain_list_views-requires-clause-index c =
    let words = c.args.words.now in
    let i : IsIndexIn (numbers_of One) c.args.words.now = subst (λ v. IsIndexIn (numbers_of v) words) c.in-One.is c.requires.index in
    (i.0, i.1, to-plain One words i.0 i.1 refl i.2)

pub returns-in-One-clause-docs : goal.returns-in-One-clause-docs
returns-in-One-clause-docs c = c.plain_list_views.ensures.docs ∙ ap (λ v. (list_of_kind (numbers_of v).kind (numbers_of v) c.args.words.now c.args.t).docs) (sym c.in-One.is)

pub returns-in-One-clause-freqs : goal.returns-in-One-clause-freqs
returns-in-One-clause-freqs c = c.plain_list_views.ensures.freqs ∙ ap (λ v. (list_of_kind (numbers_of v).kind (numbers_of v) c.args.words.now c.args.t).freqs) (sym c.in-One.is)

pub returns-in-One-clause-greatest : goal.returns-in-One-clause-greatest
returns-in-One-clause-greatest c = c.plain_list_views.ensures.greatest ∙ ap (λ v. (list_of_kind (numbers_of v).kind (numbers_of v) c.args.words.now c.args.t).most) (sym c.in-One.is)

pub plain_list_views-requires-in-Two-clause-index : goal.plain_list_views-requires-in-Two-clause-index
plain_list_views-requires-in-Two-clause-index c =
    let words = c.args.words.now in
    let i : IsIndexIn (numbers_of Two) c.args.words.now = subst (λ v. IsIndexIn (numbers_of v) words) c.in-Two.is c.requires.index in
    (i.0, i.1, to-plain Two words i.0 i.1 refl i.2)

pub returns-in-Two-clause-docs : goal.returns-in-Two-clause-docs
returns-in-Two-clause-docs c = c.plain_list_views-in-Two.ensures.docs ∙ ap (λ v. (list_of_kind (numbers_of v).kind (numbers_of v) c.args.words.now c.args.t).docs) (sym c.in-Two.is)

pub returns-in-Two-clause-freqs : goal.returns-in-Two-clause-freqs
returns-in-Two-clause-freqs c = c.plain_list_views-in-Two.ensures.freqs ∙ ap (λ v. (list_of_kind (numbers_of v).kind (numbers_of v) c.args.words.now c.args.t).freqs) (sym c.in-Two.is)

pub returns-in-Two-clause-greatest : goal.returns-in-Two-clause-greatest
returns-in-Two-clause-greatest c = c.plain_list_views-in-Two.ensures.greatest ∙ ap (λ v. (list_of_kind (numbers_of v).kind (numbers_of v) c.args.words.now c.args.t).most) (sym c.in-Two.is)

pub packed_list_views-requires-clause-passes : goal.packed_list_views-requires-clause-passes
packed_list_views-requires-clause-passes c =
    let words = c.args.words.now in
    let i : IsIndexIn (numbers_of Three) c.args.words.now = subst (λ v. IsIndexIn (numbers_of v) words) c.in-Three.is c.requires.index in
    file-passes c.file_laws.ensures words i.0 i.1 (to-packed words i.0 i.1 i.2)

pub returns-in-Three-clause-docs : goal.returns-in-Three-clause-docs
returns-in-Three-clause-docs c =
    c.packed_list_views.ensures.docs ∙ ap (λ v. (list_of_kind (numbers_of v).kind (numbers_of v) c.args.words.now c.args.t).docs) (sym c.in-Three.is)

pub returns-in-Three-clause-freqs : goal.returns-in-Three-clause-freqs
returns-in-Three-clause-freqs c =
    c.packed_list_views.ensures.freqs ∙ ap (λ v. (list_of_kind (numbers_of v).kind (numbers_of v) c.args.words.now c.args.t).freqs) (sym c.in-Three.is)

pub returns-in-Three-clause-greatest : goal.returns-in-Three-clause-greatest
returns-in-Three-clause-greatest c =
    c.packed_list_views.ensures.greatest ∙ ap (λ v. (list_of_kind (numbers_of v).kind (numbers_of v) c.args.words.now c.args.t).most) (sym c.in-Three.is)
