use Rattle.std.proofs.Common.{◌≡◌, ◌+◌, ◌^◌, ◌<◌, ◌++◌, drop}
use Rattle.std.specs.List.{sum}
use Rattle.collection_model.specs.Sequences.{lessened, sums_from}
use Rattle.postings.proofs.write.freq_sums.Given as goal

abbrev pub invariant-loop-freq : goal.invariant-loop-freq
invariant-loop-freq l = record {
  whole : l.sum + sum (drop l.freq-index l.freqs) < 2 ^ 64;
  sums : l.sums.items ++ lessened (sums_from l.sum (drop l.freq-index l.freqs)) ≡ lessened (sums_from 0 l.freqs);
}
