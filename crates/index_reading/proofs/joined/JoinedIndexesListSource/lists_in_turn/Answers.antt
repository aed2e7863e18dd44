use Rattle.std.proofs.Common.{◌≡◌, List, ap, map, ◌∙◌}
use Rattle.std.proofs.lemmas.Result.{IfOk-weaker}
use Rattle.segments.specs.Joined.{joined_wide}
use Rattle.index_reading.specs.declared.part.Part.{Part}
use Rattle.index_reading.specs.declared.turn.JoinedLists.{JoinedLists}
use Rattle.index_reading.specs.InTurn.{placed_in, collections_placed}
use Rattle.index_reading.specs.JoinedSegments.{collections_in}
use Rattle.index_reading.proofs.InTurn.{segment-place, placed-from, collections-from}
use Rattle.index_reading.proofs.joined.JoinedIndexesListSource.lists_in_turn.Goals as goal

pub new-requires : goal.new-requires
new-requires c =
    placed-from c.args.self.now.segments.items (placed_in c.in_ok-parts.parts.items) (c.in_ok-parts.ensures.placed ∙ ap (map segment-place) c.deref.ensures.value) c.args.self.now.follow

pub returns-clause-collection : goal.returns-clause-collection
returns-clause-collection c =
    let segments = c.args.self.now.segments.items in
    let placed = placed_in c.in_ok-parts.parts.items in
    let are = collections-from segments placed (c.in_ok-parts.ensures.placed ∙ ap (map segment-place) c.deref.ensures.value) in
    IfOk-weaker c.new.result (λ (r : JoinedLists). r.parts.items ≡ c.in_ok-parts.parts.items)
    (λ (r : JoinedLists). joined_wide (collections_placed (placed_in r.parts.items)) ≡ joined_wide (collections_in c.args.self.now.segments.items))
    (λ r same. ap (λ (parts : List Part). joined_wide (collections_placed (placed_in parts))) same ∙ ap joined_wide are) c.new.ensures
