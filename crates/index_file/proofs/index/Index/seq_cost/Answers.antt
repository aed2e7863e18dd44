use Rattle.std.proofs.Common.{◌≡◌, length, ap, sym, subst, ◌∙◌}
use Rattle.part_cost.specs.Formats.{numbers_of}
use Rattle.part_cost.specs.Partition.{IsPartition}
use Rattle.two_level.specs.SequenceView.{SequenceView}
use Rattle.index_file.specs.IndexView.{cost_of_view, sequence_cost}
use Rattle.index_file.proofs.StoredCosts.{docs-cut, freqs-cut}
use Rattle.index_file.proofs.index.Index.seq_cost.Goals as goal

pub stored_cost-requires-clause-format : goal.stored_cost-requires-clause-format
stored_cost-requires-clause-format c = ap (λ (v : SequenceView). v.format) c.list-list.ensures.docs ∙ ap numbers_of (sym c.format-format.ensures)

pub stored_cost-requires-in-Freqs-clause-format : goal.stored_cost-requires-in-Freqs-clause-format
stored_cost-requires-in-Freqs-clause-format c = ap (λ (v : SequenceView). v.format) (c.into_view.ensures ∙ c.list-list.ensures.freqs) ∙ ap numbers_of (sym c.format-format.ensures)

pub stored_cost-requires-clause-cut : goal.stored_cost-requires-clause-cut
stored_cost-requires-clause-cut c = subst (λ (v : SequenceView). IsPartition (length v.values) v.ends) (sym c.list-list.ensures.docs) (docs-cut c.args.self.now c.stands_for_a_collection.ensures.partitions c.args.t c.requires.within)

pub stored_cost-requires-in-Freqs-clause-cut : goal.stored_cost-requires-in-Freqs-clause-cut
stored_cost-requires-in-Freqs-clause-cut c = subst (λ (v : SequenceView). IsPartition (length v.values) v.ends) (sym (c.into_view.ensures ∙ c.list-list.ensures.freqs)) (freqs-cut c.args.self.now c.stands_for_a_collection.ensures.partitions c.args.t c.requires.within)

pub returns-in-Docs : goal.returns-in-Docs
returns-in-Docs c =
    subst (λ w. c.stored_cost.result ≡ sequence_cost c.args.self.now c.args.t w) (sym c.in-Docs.is) (c.stored_cost.ensures ∙ ap cost_of_view c.list-list.ensures.docs)

pub returns-in-Freqs : goal.returns-in-Freqs
returns-in-Freqs c =
    subst (λ w. c.stored_cost-in-Freqs.result ≡ sequence_cost c.args.self.now c.args.t w) (sym c.in-Freqs.is) (c.stored_cost-in-Freqs.ensures ∙ ap cost_of_view (c.into_view.ensures ∙ c.list-list.ensures.freqs))
