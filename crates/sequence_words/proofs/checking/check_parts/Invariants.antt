use Rattle.std.proofs.Common.{◌≡◌, ℕ, ◌<◌, ◌≤◌, length, take}
use Rattle.part_cost.specs.Formats.{numbers_of}
use Rattle.sequence_words.specs.SequenceFault.{IsPartStored}
use Rattle.sequence_words.proofs.Entries.{Reached}
use Rattle.sequence_words.proofs.PartSteps.{StepsOf, prefix_stated}
use Rattle.sequence_words.proofs.checking.check_parts.Given as goal

abbrev pub invariant-loop-part : goal.invariant-loop-part
invariant-loop-part l = record {
  reached : Reached (numbers_of l.format) l.words l.part l.before l.past;
  stored : (q : ℕ) → q < l.part → IsPartStored (numbers_of l.format) l.words l.parts q;
  steps : StepsOf (numbers_of l.format) l.words l.parts l.part l.with_steps l.most;
  -- the values of the parts so far are given
  given : 1 ≤ length l.to → take l.before l.to ≡ prefix_stated (numbers_of l.format) l.words l.parts l.part;
}
