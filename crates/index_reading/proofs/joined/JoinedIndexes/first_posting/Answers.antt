use Rattle.std.proofs.Common.{◌∙◌, sym, ap, subst, List}
use Rattle.std.specs.Option.{option_map}
use Rattle.collection_model.specs.Collection.{first_at_least}
use Rattle.segments.specs.Joined.{joined_list}
use Rattle.index_reading.specs.declared.joined.Segment.{Segment}
use Rattle.index_reading.specs.JoinedSegments.{AreSegments, lists_in}
use Rattle.index_reading.proofs.Joining.{parts-follow, parts-joined}
use Rattle.index_reading.proofs.FirstJoined.{pair_of}
use Rattle.index_reading.proofs.joined.JoinedIndexes.first_posting.Goals as goal

pub first_in-requires : goal.first_in-requires
first_in-requires c =
    let are : AreSegments c.deref.result.now = subst AreSegments (sym c.deref.ensures.value) c.args.self.now.follow in
    record {
      in_range = are.in_range;
      follow = parts-follow c.deref.result.now c.args.term (lists_in c.deref.result.now c.args.term) c.joined_lists_follow.ensures.follow are (λ _. lists_in c.deref.result.now c.args.term);
    }

pub returns : goal.returns
returns c =
    c.first_in.ensures
    ∙ ap (λ (s : List Segment). option_map pair_of (first_at_least (joined_list (lists_in s c.args.term)) c.args.doc)) c.deref.ensures.value
    ∙ ap (λ list. option_map pair_of (first_at_least list c.args.doc))
    (parts-joined c.args.self.now.segments.items c.args.term (lists_in c.args.self.now.segments.items c.args.term) c.joined_lists_follow.ensures.list c.args.self.now.follow (λ _. lists_in c.args.self.now.segments.items c.args.term))
