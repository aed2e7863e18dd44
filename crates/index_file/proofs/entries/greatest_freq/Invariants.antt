use Rattle.std.proofs.Common.{◌≡◌, max, drop}
use Rattle.collection_model.specs.Collection.{greatest}
use Rattle.index_file.proofs.entries.greatest_freq.Given as goal

abbrev pub invariant-loop-freq : goal.invariant-loop-freq
invariant-loop-freq l = max l.most (greatest (drop l.freq-index l.freqs)) ≡ greatest l.freqs
