use Rattle.std.proofs.Common.{◌≡◌, sym, ◌∙◌, subst}
use Rattle.collection_model.specs.FormatNumbers.{part_charge}
use Rattle.part_cost.specs.Span.{cost_of_part}
use Rattle.part_cost.specs.Partition.{partition_cost}
use Rattle.sequence_words.specs.SequenceView.{sequence_stated}
use Rattle.two_level.proofs.view.SeqView.cost.Goals as goal

pub returns : goal.returns
unfolding sequence_stated
returns c =
    let s = c.self.inside in
    let d = s.directory.stated in
    subst (λ v. c.bits_taken.result ≡ partition_cost (cost_of_part (part_charge v.format) v.values) v.ends) c.self.view_is (c.bits_taken.ensures ∙ sym d.cost)
