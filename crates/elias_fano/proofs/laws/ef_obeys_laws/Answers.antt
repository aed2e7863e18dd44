use Rattle.elias_fano.proofs.OneList.{one-list}
use Rattle.elias_fano.proofs.Reading.{length-part}
use Rattle.elias_fano.proofs.Views.{part-is-bits, takes-its-payload}
use Rattle.elias_fano.proofs.laws.ef_obeys_laws.Goals as goal

pub returns : goal.returns
returns c = record {
  one_list = one-list;
  are_bits = part-is-bits;
  takes_its_size = length-part;
  takes_its_payload = takes-its-payload c.low_width_is_best.ensures;
}
