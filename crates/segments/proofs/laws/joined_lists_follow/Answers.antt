use Rattle.segments.proofs.JoinedLists.{lists-follow, lists-are_joined, joined-in_range, wide-is_joined}
use Rattle.segments.proofs.laws.joined_lists_follow.Goals as goal

pub returns : goal.returns
returns c = record {
  follow = lists-follow;
  list = lists-are_joined;
  in_range = joined-in_range;
  wide = wide-is_joined;
}
