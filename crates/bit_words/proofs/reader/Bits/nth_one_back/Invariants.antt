use Rattle.std.proofs.Common.{◌≡◌, ◌≤◌, ◌-◌}
use Rattle.bit_words.specs.Bits.{bits_of, ones_between}
use Rattle.bit_words.proofs.reader.Bits.nth_one_back.Given as goal

abbrev pub invariant-words : goal.invariant-words
invariant-words l = record {
  started : l.from ≤ l.at;
  reached : l.at ≤ l.to;
  counted : l.behind ≡ ones_between (bits_of l.self.words.now) l.at l.to;
}

abbrev pub decreases-words : goal.decreases-words
decreases-words l = l.at - l.from
