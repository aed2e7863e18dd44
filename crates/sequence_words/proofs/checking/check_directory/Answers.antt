use Rattle.std.proofs.Common.{◌≡◌, ◌+◌, ◌-◌, true, false, sym, ap, ◌∙◌, arith}
use Rattle.std.specs.Prelude.{◌==◌, not}
use Rattle.part_cost.specs.Formats.{numbers_of}
use Rattle.sequence_words.specs.SequenceFault.{may_follow, entry_breaks}
use Rattle.sequence_words.proofs.Follows.{follows-from}
use Rattle.part_cost.proofs.Growth.{payload-short}
use Rattle.sequence_words.proofs.Entries.{Reached, EntryRead, entry-test, reached-next, bits-next, each-below}
use Rattle.sequence_words.proofs.checking.check_directory.Goals as goal

pub overflow_add-passed-in-loop-part : goal.overflow_add-passed-in-loop-part
overflow_add-passed-in-loop-part c =
    let raw : may_follow c.args.m c.args.bound c.loop-part.passed.values c.loop-part.passed.past c.loop-part.passed.bits (c.loop-part.part + 1 == c.args.parts) c.entry_at-entry.result.end c.entry_at-entry.result.last c.entry_at-entry.result.offset ≡ true =
    sym c.may_follow.ensures ∙ c.if-not-may_follow.false in
    let k = follows-from c.args.m c.args.bound c.loop-part.passed.values c.loop-part.passed.past c.loop-part.passed.bits (c.loop-part.part + 1 == c.args.parts) c.entry_at-entry.result.end c.entry_at-entry.result.last c.entry_at-entry.result.offset raw in
    let sums = (c.formats_have_room.ensures c.args.format).sums in
    omega (
      arith,
      sums,
      k.below,
      k.above,
      c.requires.bound,
      c.loop-part.invariant.few,
      c.payload_bits.ensures,
      payload-short (c.entry_at-entry.result.last + 1 - c.loop-part.passed.past) (c.entry_at-entry.result.end - c.loop-part.passed.values),
    )

pub loop-part-preserved : goal.loop-part-preserved
loop-part-preserved c =
    let words = c.args.words.now in
    let q = c.loop-part.part in
    let offset = c.entry_at-entry.result.offset in
    let raw : may_follow c.args.m c.args.bound c.loop-part.passed.values c.loop-part.passed.past c.loop-part.passed.bits (c.loop-part.part + 1 == c.args.parts) c.entry_at-entry.result.end c.entry_at-entry.result.last offset ≡ true =
    sym c.may_follow.ensures ∙ c.if-not-may_follow.false in
    let k = follows-from c.args.m c.args.bound c.loop-part.passed.values c.loop-part.passed.past c.loop-part.passed.bits (c.loop-part.part + 1 == c.args.parts) c.entry_at-entry.result.end c.entry_at-entry.result.last offset raw in
    let e : EntryRead (numbers_of c.args.format) c.args.words.now c.loop-part.part c.entry_at-entry.result.last c.entry_at-entry.result.end c.entry_at-entry.result.offset =
    record { last_is = c.entry_at-entry.ensures.last; end_is = c.entry_at-entry.ensures.end; offset_is = c.entry_at-entry.ensures.offset } in
    let r : Reached (numbers_of c.args.format) c.args.words.now c.loop-part.part c.loop-part.passed.values c.loop-part.passed.past = c.loop-part.invariant.reached in
    record {
      reached = reached-next (numbers_of c.args.format) words q c.entry_at-entry.result.last c.entry_at-entry.result.end offset e;
      bits_are = ap (λ x. c.loop-part.passed.bits + x) c.payload_bits.ensures ∙ bits-next (numbers_of c.args.format) words q c.loop-part.passed.values c.loop-part.passed.past c.entry_at-entry.result.last c.entry_at-entry.result.end offset c.loop-part.passed.bits r e c.loop-part.invariant.bits_are;
      few = omega (arith, k.below, k.above, c.loop-part.invariant.few, c.payload_bits.ensures, payload-short (c.entry_at-entry.result.last + 1 - c.loop-part.passed.past) (c.entry_at-entry.result.end - c.loop-part.passed.values));
      past_within = omega (arith, k.below, c.requires.bound);
      entries =
          each-below (λ n. entry_breaks (numbers_of c.args.format) c.args.words.now c.args.parts c.args.m c.args.bound n ≡ false) q c.loop-part.invariant.entries
          (sym (entry-test (numbers_of c.args.format) words c.args.parts c.args.m c.args.bound q c.loop-part.passed.values c.loop-part.passed.past c.loop-part.passed.bits c.entry_at-entry.result.last c.entry_at-entry.result.end offset r c.loop-part.invariant.bits_are e) ∙ ap not raw);
    }
