use Rattle.std.proofs.Common.{rules}
use Rattle.collection_reader.proofs.start.start_file.Goals as goal

pub returns : goal.returns
returns g c = record {
  started = tt;
  whole_file = λ t. tt;
  no_fault = search rules;
  depot = search rules;
  started_once = search rules;
  not_twice = search rules;
}
