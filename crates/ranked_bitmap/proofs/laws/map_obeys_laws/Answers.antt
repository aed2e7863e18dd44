use Rattle.ranked_bitmap.proofs.OneList.{one-list}
use Rattle.ranked_bitmap.proofs.Reading.{length-part, takes-its-payload}
use Rattle.ranked_bitmap.proofs.Views.{part-is-bits}
use Rattle.ranked_bitmap.proofs.laws.map_obeys_laws.Goals as goal

pub returns : goal.returns
returns c = record {
  one_list = one-list;
  are_bits = part-is-bits;
  takes_its_size = length-part;
  takes_its_payload = λ u m ys all. takes-its-payload u m ys;
}
