-- All lists were added; the last words are the file's.
use Rattle.std.proofs.Common.{◌≡◌, sym, ap, ◌∙◌, rules, ℕ, length, List}
use Rattle.part_cost.specs.declared.formats.Format.TheVariants.{Two}
use Rattle.pef_report.specs.Generated.{generated}
use Rattle.index_building.specs.AddedFromFiles.{AreAdded}
use Rattle.index_building.proofs.AddedFromLists.{made-or-not, made-too_many}
use Rattle.index_building.proofs.Generating.{generated-fits}
use Rattle.index_building.proofs.generate.generated_words.Goals as goal

pub finish-requires : goal.finish-requires
finish-requires g c =
    let all = generated c.args.seed c.args.documents c.args.terms in
    let good = generated-fits c.generated_are_well_formed.ensures c.args.seed c.args.documents c.args.terms c.ranges.documents.fits c.ranges.terms.fits in
    let added : AreAdded Two c.in_ok-builder.builder all.documents all.lists c.args.steps.now c.add_generated.new.steps = search rules in
    let sizes : (seed t : ℕ) → ◌≡◌ {A = List ℕ} c.in_ok-sizes.sizes.items (generated seed c.args.documents t).sizes = search rules in
    record { sizes = ap length (c.deref.ensures.value ∙ sizes c.args.seed c.args.terms) ∙ good.size_each ∙ sym added.documents }

pub returns : goal.returns
returns g c =
    let all = generated c.args.seed c.args.documents c.args.terms in
    let good = generated-fits c.generated_are_well_formed.ensures c.args.seed c.args.documents c.args.terms c.ranges.documents.fits c.ranges.terms.fits in
    let added : AreAdded Two c.in_ok-builder.builder all.documents all.lists c.args.steps.now c.add_generated.new.steps = search rules in
    let sizes : (seed t : ℕ) → ◌≡◌ {A = List ℕ} c.in_ok-sizes.sizes.items (generated seed c.args.documents t).sizes = search rules in record {
      words = made-or-not Two c.files_spell_collections.ensures all _ _ _ _ added good (c.deref.ensures.value ∙ sizes c.args.seed c.args.terms) c.finish.result c.finish.ensures.words c.finish.ensures.within;
      too_large = λ n is. made-too_many Two c.files_spell_collections.ensures all _ _ _ _ n added (c.deref.ensures.value ∙ sizes c.args.seed c.args.terms) (c.finish.ensures.too_large n is) (c.finish.ensures.would_be n is);
    }
