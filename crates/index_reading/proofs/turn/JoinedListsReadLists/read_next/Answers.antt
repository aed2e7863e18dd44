use Rattle.std.proofs.Common.{◌≡◌, ◌+◌, sym, ap, subst, ◌∙◌, length, arith, List}
use Rattle.std.specs.List.{All}
use Rattle.std.proofs.lemmas.Result.{on_ok_weaker}
use Rattle.collection_model.specs.Collection.{docs_of, freqs_of}
use Rattle.segments.specs.Joined.{joined_list, most_joined, EndsBelow}
use Rattle.index_reading.specs.declared.part.Part.{Part}
use Rattle.index_reading.specs.InTurn.{placed_in, lists_placed, StandsBefore}
use Rattle.index_reading.proofs.InTurn.{few-read, joined-read, on-both, written}
use Rattle.index_reading.proofs.turn.JoinedListsReadLists.read_next.Goals as goal

pub add_all-requires-clause-few : goal.add_all-requires-clause-few
add_all-requires-clause-few c =
    subst (λ (parts : List Part). All (λ q. EndsBelow q most_joined) (lists_placed (placed_in parts) c.args.term)) (sym c.as_mut_slice.ensures.value)
    (few-read (placed_in c.args.self.now.parts.items) c.args.term c.joined_lists_follow.ensures.follow c.args.self.now.are_placed)

pub returns-clause-next : goal.returns-clause-next
returns-clause-next c =
    let new : List Part = c.add_all.new.parts in
    let parts = c.args.self.now.parts in
    let as_many : c.args.self.now.parts.len ≡ length c.add_all.new.parts = omega (arith, c.as_mut_slice.ensures.len, c.add_all.auto.parts) in
    on_ok_weaker c.add_all.result (λ all. subst (All (StandsBefore (c.args.term + 1))) (sym (written parts.len new parts.items as_many)) all) c.add_all.ensures.next

pub returns-clause-list : goal.returns-clause-list
returns-clause-list c =
    on-both c.add_all.result (λ docs freqs. joined-read (placed_in c.args.self.now.parts.items) c.args.term _ _ c.joined_lists_follow.ensures.list c.args.self.now.are_placed
    (docs ∙ ap (λ (parts : List Part). docs_of (joined_list (lists_placed (placed_in parts) c.args.term))) c.as_mut_slice.ensures.value)
    (freqs ∙ ap (λ (parts : List Part). freqs_of (joined_list (lists_placed (placed_in parts) c.args.term))) c.as_mut_slice.ensures.value))
    c.add_all.ensures.docs c.add_all.ensures.freqs
