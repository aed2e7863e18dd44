use Rattle.part_cost.specs.Formats.{numbers_of}
use Rattle.pefidx_c.proofs.Prefixes.{IsGoodUpTo}
use Rattle.pefidx_c.proofs.given_lists.good_prefix.Given as goal

abbrev pub invariant-loop-place : goal.invariant-loop-place
invariant-loop-place l = IsGoodUpTo (numbers_of l.format) l.documents l.docs l.freqs l.place l.least l.sum
