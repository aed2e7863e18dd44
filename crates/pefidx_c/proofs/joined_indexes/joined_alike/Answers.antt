use Rattle.pefidx_c.specs.Segments.{collections_in}
use Rattle.pefidx_c.proofs.JoinedSegments.{joined-alike}
use Rattle.pefidx_c.proofs.joined_indexes.joined_alike.Goals as goal

pub returns : goal.returns
returns c =
    joined-alike c.joined_lists_follow.ensures.wide (collections_in c.args.words.now c.args.segments.now) c.joined_of.result c.requires.segments.together c.joined_of.ensures
