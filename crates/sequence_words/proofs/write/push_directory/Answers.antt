use Rattle.std.proofs.Common.{◌≡◌, ℕ, ◌+◌, ◌-◌, List, ◌++◌, drop, get_or, ap, ◌∙◌, arith}
use Rattle.bit_words.proofs.Outcomes.{on-err}
use Rattle.part_cost.specs.Formats.{numbers_of}
use Rattle.part_cost.specs.Payload.{payload}
use Rattle.part_cost.specs.Span.{payload_of_part}
use Rattle.part_cost.specs.Partition.{partition_cost}
use Rattle.sequence_words.specs.EntryWords.{entry}
use Rattle.sequence_words.specs.SequenceWords.{directory_from}
use Rattle.sequence_words.proofs.Writing.{NextPart, next-part, past-less, past-most, directory-more, directory-all, payloads-more, payloads-short, extends-twice, extends-more}
use Rattle.sequence_words.proofs.write.push_directory.Goals as goal
use Rattle.sequence_words.proofs.write.push_directory.Goals.{In-loop-end, After-payload_bits-offset}

-- the end at which the loop is
next : (c : In-loop-end) → NextPart c.args.values.now c.args.ends.now c.loop-end.from (get_or c.args.ends.now c.loop-end.end-index 0) c.loop-end.end-index
next c = next-part c.args.values.now c.args.ends.now c.loop-end.from c.loop-end.end-index c.loop-end-test.true c.loop-end.invariant.parts

pub universe_of_part-universe-requires-clause-within : goal.universe_of_part-universe-requires-clause-within
universe_of_part-universe-requires-clause-within c = (next (goal.at.universe_of_part-universe-requires-clause-within c).In-loop-end).within

pub past_value-last-requires-clause-within : goal.past_value-last-requires-clause-within
past_value-last-requires-clause-within c = (next (goal.at.past_value-last-requires-clause-within c).In-loop-end).within

pub push_entry-requires-clause-last : goal.push_entry-requires-clause-last
push_entry-requires-clause-last c =
    let n = next (goal.at.push_entry-requires-clause-last c).In-loop-end in
    let most = past-most c.part_is_relative.ensures.within (numbers_of c.args.format).most_sum c.args.values.now c.requires.below (get_or c.args.ends.now c.loop-end.end-index 0) n.within in
    let less = past-less c.part_is_relative.ensures.room c.args.values.now c.requires.rising c.loop-end.from (get_or c.args.ends.now c.loop-end.end-index 0) n.some n.within in
    omega (arith, most, less, n.some, c.past_value-last.ensures)

pub push_entry-requires-clause-end : goal.push_entry-requires-clause-end
push_entry-requires-clause-end c =
    omega (arith, (next (goal.at.push_entry-requires-clause-end c).In-loop-end).within, c.requires.few)

pub push_entry-requires-clause-offset : goal.push_entry-requires-clause-offset
push_entry-requires-clause-offset c =
    let short = payloads-short c.parts_are_short.ensures.all (numbers_of c.args.format) (c.formats_have_room.ensures c.args.format) c.args.values.now c.args.ends.now c.requires.rising c.requires.below c.requires.few c.requires.partition in
    omega (arith, short, c.loop-end.invariant.sums)

pub payload_bits-offset-requires-clause-fit : goal.payload_bits-offset-requires-clause-fit
payload_bits-offset-requires-clause-fit c =
    let n = next (goal.at.payload_bits-offset-requires-clause-fit c).In-loop-end in
    let less = past-less c.part_is_relative.ensures.room c.args.values.now c.requires.rising c.loop-end.from (get_or c.args.ends.now c.loop-end.end-index 0) n.some n.within in
    omega (arith, less, c.universe_of_part-universe.ensures)

pub payload_bits-offset-requires-clause-in_range : goal.payload_bits-offset-requires-clause-in_range
payload_bits-offset-requires-clause-in_range c =
    let most = past-most c.part_is_relative.ensures.within (numbers_of c.args.format).most_sum c.args.values.now c.requires.below (get_or c.args.ends.now c.loop-end.end-index 0) (next (goal.at.payload_bits-offset-requires-clause-in_range c).In-loop-end).within in
    let sums = (c.formats_have_room.ensures c.args.format).sums in
    omega (arith, most, sums, c.universe_of_part-universe.ensures)

-- what the part costs
paid : (c : After-payload_bits-offset) → c.payload_bits-offset.result ≡ payload_of_part c.args.values.now c.loop-end.from (get_or c.args.ends.now c.loop-end.end-index 0)
paid c = c.payload_bits-offset.ensures ∙ ap (λ u. payload u (get_or c.args.ends.now c.loop-end.end-index 0 - c.loop-end.from)) c.universe_of_part-universe.ensures

pub overflow_add-offset : goal.overflow_add-offset
overflow_add-offset c =
    let short = payloads-short c.parts_are_short.ensures.all (numbers_of c.args.format) (c.formats_have_room.ensures c.args.format) c.args.values.now c.args.ends.now c.requires.rising c.requires.below c.requires.few c.requires.partition in
    omega (arith, short, paid (goal.at.overflow_add-offset c).After-payload_bits-offset, payloads-more c.args.values.now c.args.ends.now c.loop-end.from c.loop-end.offset c.loop-end.end-index (partition_cost (payload_of_part c.args.values.now) c.args.ends.now) c.loop-end-test.true c.loop-end.invariant.sums)

pub loop-end-preserved : goal.loop-end-preserved
loop-end-preserved c =
    let xs : List ℕ = c.args.values.now in
    let end : ℕ = get_or c.args.ends.now c.loop-end.end-index 0 in
    let last : ℕ = c.past_value-last.result - 1 in
    let whole : List ℕ = c.args.to.now.items ++ directory_from (numbers_of c.args.format) xs 0 0 c.args.ends.now in
    let pay = paid (goal.at.loop-end-preserved c).After-payload_bits-offset in
    record {
      parts = (next (goal.at.loop-end-preserved c).In-loop-end).rest;
      sums = omega (arith, pay, payloads-more xs c.args.ends.now c.loop-end.from c.loop-end.offset c.loop-end.end-index (partition_cost (payload_of_part xs) c.args.ends.now) c.loop-end-test.true c.loop-end.invariant.sums);
      words =
          ap (λ ws. ws ++ directory_from (numbers_of c.args.format) xs end (c.loop-end.offset + c.payload_bits-offset.result) (drop (c.loop-end.end-index + 1) c.args.ends.now)) c.in_ok-push_entry.ensures.ok
          ∙ ap (λ p. (c.loop-end.to.items ++ entry (numbers_of c.args.format) last end c.loop-end.offset) ++ directory_from (numbers_of c.args.format) xs end (c.loop-end.offset + p) (drop (c.loop-end.end-index + 1) c.args.ends.now)) pay
          ∙ directory-more (numbers_of c.args.format) xs c.args.ends.now c.loop-end.to.items whole c.loop-end.from c.loop-end.offset last c.loop-end.end-index c.loop-end-test.true (ap (λ p. p - 1) c.past_value-last.ensures) c.loop-end.invariant.words;
      grown = extends-more c.args.to.now.items c.loop-end.to.items c.push_entry.new.words.items (entry (numbers_of c.args.format) last end c.loop-end.offset) c.loop-end.invariant.grown c.in_ok-push_entry.ensures.ok;
    }

pub returns-in_err-push_entry-clause-err : goal.returns-in_err-push_entry-clause-err
returns-in_err-push_entry-clause-err c =
    on-err _ _ (extends-twice c.args.to.now.items c.loop-end.to.items c.push_entry.new.words.items c.loop-end.invariant.grown.0 c.loop-end.invariant.grown.1 c.in_err-push_entry.ensures.err)

pub returns-clause-ok : goal.returns-clause-ok
returns-clause-ok c =
    let whole : List ℕ = c.args.to.now.items ++ directory_from (numbers_of c.args.format) c.args.values.now 0 0 c.args.ends.now in
    directory-all (numbers_of c.args.format) c.args.values.now c.args.ends.now c.loop-end.to.items whole c.loop-end.from c.loop-end.offset c.loop-end.end-index (omega arith) c.loop-end.invariant.words
