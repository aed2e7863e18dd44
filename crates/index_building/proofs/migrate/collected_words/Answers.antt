-- All lists were added; the last words are the file's.
use Rattle.std.proofs.Common.{◌≡◌, sym, ap, ◌∙◌, rules, ℕ, length, List}
use Rattle.part_cost.specs.Formats.{numbers_of}
use Rattle.index_building.specs.AddedFromFiles.{AreAdded}
use Rattle.index_building.proofs.AddedFromLists.{made-or-not, made-too_many}
use Rattle.index_building.proofs.migrate.collected_words.Goals as goal

pub finish-requires : goal.finish-requires
finish-requires g c =
    let good = c.requires in
    let added : AreAdded c.args.format c.in_ok-builder.builder (g.S.ListSource.collection c.args.source.now).documents (g.S.ListSource.collection c.args.source.now).lists c.args.steps.now c.add_lists_of.new.steps = search rules in
    let sizes : ◌≡◌ {A = List ℕ} c.in_ok-sizes.sizes.items (g.S.ListSource.collection c.args.source.now).sizes = search rules in
    record { sizes = ap length (c.deref.ensures.value ∙ sizes) ∙ good.size_each ∙ sym added.documents }

pub returns : goal.returns
returns g c =
    let good = c.requires in
    let added : AreAdded c.args.format c.in_ok-builder.builder (g.S.ListSource.collection c.args.source.now).documents (g.S.ListSource.collection c.args.source.now).lists c.args.steps.now c.add_lists_of.new.steps = search rules in
    let sizes : ◌≡◌ {A = List ℕ} c.in_ok-sizes.sizes.items (g.S.ListSource.collection c.args.source.now).sizes = search rules in record {
      words = made-or-not c.args.format c.files_spell_collections.ensures (g.S.ListSource.collection c.args.source.now) _ _ _ _ added good (c.deref.ensures.value ∙ sizes) c.finish.result c.finish.ensures.words c.finish.ensures.within;
      too_large = λ n is. made-too_many c.args.format c.files_spell_collections.ensures (g.S.ListSource.collection c.args.source.now) _ _ _ _ n added (c.deref.ensures.value ∙ sizes) (c.finish.ensures.too_large n is) (c.finish.ensures.would_be n is);
    }
