use Rattle.std.proofs.Common.{refl}
use Rattle.collection_model.specs.Collection.{list_of}
use Rattle.index_intervals.specs.LongLists.{has_maxima}
use Rattle.index_intervals.proofs.taking.ListMaxima.new.Goals as goal

pub returns : goal.returns
returns c = λ col good kept. record {
  postings = refl;
  maxima = c.new.ensures (has_maxima c.args.words col) (list_of col);
}
