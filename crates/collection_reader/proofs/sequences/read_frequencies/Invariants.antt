use Rattle.part_cost.specs.Formats.{numbers_of}
use Rattle.collection_reader.proofs.Frequencies.{FrequenciesSoFar}
use Rattle.collection_reader.proofs.sequences.read_frequencies.Given as goal

abbrev pub invariant-loop-place : goal.invariant-loop-place
invariant-loop-place g l =
    FrequenciesSoFar (numbers_of l.fn.format) l.length l.place l.sum l.fn.held l.held (g.D.Depot.state l.fn.depot) (g.D.Depot.state l.depot) l.freqs.items
