use Rattle.part_codec.proofs.Values.{one-list-at-place, values-stand-at}
use Rattle.part_codec.proofs.laws.one_list_at_place.Goals as goal

pub returns : goal.returns
returns c = record { one = one-list-at-place; values = values-stand-at }
