use Rattle.std.proofs.Common.{◌≡◌, ◌∙◌, ap}
use Rattle.std.specs.Prelude.{sum_by}
use Rattle.part_cost.specs.declared.kinds.Kind.{Kind}
use Rattle.part_cost.specs.declared.kinds.Kind.TheVariants.{Ones, Bitmap, Ef}
use Rattle.index_file.specs.IndexView.{cut_lists, parts_of_kind}
use Rattle.index_file.specs.Measures.{Payload, PartsOf, counted, measure_of_list}
use Rattle.index_file.proofs.ListStarts.{of-index}
use Rattle.index_file.proofs.Measured.{kinds-are}
use Rattle.index_file.proofs.index.Index.part_counts.Goals as goal
use Rattle.index_file.proofs.index.Index.part_counts.Goals.{After-of_index}

pub of_index-requires-clause-starts : goal.of_index-requires-clause-starts
of_index-requires-clause-starts c is = of-index c.self.inside.words.now c.self.inside.starts.now c.args.self.now c.format.result c.self.invariant.3 c.self.view_is c.format.ensures is

-- the parts of a kind
of_kind : (c : After-of_index) (kind : Kind) → counted c.of_index.result (PartsOf kind) ≡ parts_of_kind c.args.self.now kind
of_kind c kind =
    c.of_index.ensures (PartsOf kind)
    ∙ ap (λ i. sum_by (measure_of_list (PartsOf kind)) (cut_lists i)) c.self.view_is
    ∙ kinds-are kind (cut_lists c.args.self.now)

pub returns-clause-ones : goal.returns-clause-ones
returns-clause-ones c = of_kind (goal.at.returns-clause-ones c).After-of_index Ones

pub returns-clause-bitmaps : goal.returns-clause-bitmaps
returns-clause-bitmaps c = of_kind (goal.at.returns-clause-bitmaps c).After-of_index Bitmap

pub returns-clause-efs : goal.returns-clause-efs
returns-clause-efs c = of_kind (goal.at.returns-clause-efs c).After-of_index Ef

pub returns-clause-bits : goal.returns-clause-bits
returns-clause-bits c = c.of_index.ensures Payload ∙ ap (λ i. sum_by (measure_of_list Payload) (cut_lists i)) c.self.view_is
