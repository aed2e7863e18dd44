use Rattle.std.proofs.Common.{◌≡◌, sym, ◌∙◌, subst, ℕ, length}
use Rattle.collection_model.specs.Collection.{WellFormed, list_of}
use Rattle.collection_model.specs.FormatNumbers.{format_three}
use Rattle.index_file.specs.IndexView.{IndexView, word_count}
use Rattle.part_cost.specs.Formats.{numbers_of}
use Rattle.part_cost.specs.declared.formats.Format.{Format}
use Rattle.part_cost.specs.declared.formats.Format.TheVariants.{Three}
use Rattle.index_intervals.specs.LongLists.{AreIndexMaxima, has_maxima}
use Rattle.index_intervals.proofs.taking.ListMaxima.of.Goals as goal

pub returns-in_ok-bytes-in-Three : goal.returns-in_ok-bytes-in-Three
returns-in_ok-bytes-in-Three c =
    let i : IndexView = c.args.index.now in
    let three : i.format ≡ Three = sym c.format.ensures ∙ c.in-Three.is in
    let good : WellFormed format_three i.collection = subst (λ (f : Format). WellFormed (numbers_of f) i.collection) three c.stands_for_a_collection.ensures.well_formed in
    let held = c.requires.given three good c.if-self.false in
    let same : c.args.self.words ≡ word_count i = c.if-self-word_count.false ∙ c.word_count.ensures in
    subst (λ (words : ℕ). AreIndexMaxima words i.collection c.in_ok-bytes-in-Three.bytes.items) same
    (c.in_ok-bytes-in-Three.ensures (has_maxima c.args.self.words i.collection) (list_of i.collection) (length i.collection.lists) held.maxima)
