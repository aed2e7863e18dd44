use Rattle.std.proofs.Common.{◌≡◌, ℕ, ◌+◌, ◌^◌, ◌<◌, List, ◌++◌, length, drop, get_or, refl, sym, ap, subst, ◌∙◌, arith}
use Rattle.std.proofs.lemmas.List.{length-append}
use Rattle.bit_words.specs.Bits.{AppendsBits}
use Rattle.bit_words.proofs.Outcomes.{on-err}
use Rattle.part_cost.specs.Payload.{widest_low}
use Rattle.part_cost.specs.Span.{relative_values, universe}
use Rattle.part_codec.specs.PartBits.{part_bits}
use Rattle.sequence_words.specs.SequenceWords.{payload_from}
use Rattle.sequence_words.proofs.Writing.{NextPart, next-part, past-most, relative-given, part-fits, prefix-of, prefix-part, payload-more, payload-all}
use Rattle.sequence_words.proofs.write.write_parts.Goals as goal
use Rattle.sequence_words.proofs.write.write_parts.Goals.{In-loop-end}

-- the end at which the loop is
next : (c : In-loop-end) → NextPart c.args.values.now c.args.ends.now c.loop-end.from (get_or c.args.ends.now c.loop-end.end-index 0) c.loop-end.end-index
next c = next-part c.args.values.now c.args.ends.now c.loop-end.from c.loop-end.end-index c.loop-end-test.true c.loop-end.invariant.parts

pub fill_part-requires-clause-within : goal.fill_part-requires-clause-within
fill_part-requires-clause-within c = (next (goal.at.fill_part-requires-clause-within c).In-loop-end).within

pub universe_of_part-requires-clause-within : goal.universe_of_part-requires-clause-within
universe_of_part-requires-clause-within c = (next (goal.at.universe_of_part-requires-clause-within c).In-loop-end).within

pub write_part-requires-clause-values : goal.write_part-requires-clause-values
write_part-requires-clause-values c =
    let n = next (goal.at.write_part-requires-clause-values c).In-loop-end in (
      c.as_slice.result.now,
      refl,
      relative-given c.part_is_relative.ensures.relative c.args.values.now c.requires.rising c.loop-end.from (get_or c.args.ends.now c.loop-end.end-index 0) c.universe_of_part.result c.as_slice.result.now n.some n.within c.universe_of_part.ensures
          (c.as_slice.ensures.value ∙ c.in_ok-fill_part.ensures),
    )

pub write_part-requires-clause-in_range : goal.write_part-requires-clause-in_range
write_part-requires-clause-in_range c =
    let most = past-most c.part_is_relative.ensures.within (2 ^ widest_low) c.args.values.now c.requires.below (get_or c.args.ends.now c.loop-end.end-index 0) (next (goal.at.write_part-requires-clause-in_range c).In-loop-end).within in
    omega (arith, most, c.universe_of_part.ensures)

pub write_part-requires-clause-room : goal.write_part-requires-clause-room
write_part-requires-clause-room c =
    let end : ℕ = get_or c.args.ends.now c.loop-end.end-index 0 in
    let whole : List ℕ = c.args.bits.now ++ payload_from c.args.values.now 0 c.args.ends.now in
    let fits = part-fits c.args.values.now c.args.ends.now c.loop-end.bits whole c.loop-end.from c.loop-end.end-index (2 ^ 63) c.loop-end-test.true c.loop-end.invariant.bits
    (omega (arith, c.requires.room, length-append c.args.bits.now (payload_from c.args.values.now 0 c.args.ends.now))) in (
      c.as_slice.result.now,
      refl,
      subst (λ zs. length c.loop-end.bits + length (part_bits zs c.universe_of_part.result) < 2 ^ 63) (sym (c.as_slice.ensures.value ∙ c.in_ok-fill_part.ensures))
          (subst (λ w. length c.loop-end.bits + length (part_bits (relative_values c.args.values.now c.loop-end.from end) w) < 2 ^ 63) (sym c.universe_of_part.ensures) fits),
    )

pub returns-in_err-fill_part-clause-err : goal.returns-in_err-fill_part-clause-err
returns-in_err-fill_part-clause-err c =
    on-err _ _ (prefix-of c.args.bits.now (payload_from c.args.values.now 0 c.args.ends.now) c.loop-end.bits (payload_from c.args.values.now c.loop-end.from (drop c.loop-end.end-index c.args.ends.now)) c.loop-end.invariant.bits c.loop-end.invariant.grown)

-- what is written is the part of the values
written : (xs : List ℕ) (from end u : ℕ) (ys : List ℕ) → ys ≡ relative_values xs from end → u ≡ universe xs from end → part_bits ys u ≡ part_bits (relative_values xs from end) (universe xs from end)
written xs from end u ys values is = ap (λ zs. part_bits zs u) values ∙ ap (part_bits (relative_values xs from end)) is

pub returns-in_err-write_part-clause-err : goal.returns-in_err-write_part-clause-err
returns-in_err-write_part-clause-err c =
    on-err _ _ (prefix-part c.args.values.now c.args.ends.now c.args.bits.now c.loop-end.bits c.write_part.new.to (payload_from c.args.values.now 0 c.args.ends.now) c.loop-end.from c.loop-end.end-index c.loop-end-test.true c.loop-end.invariant.bits c.loop-end.invariant.grown
    (subst (AppendsBits c.loop-end.bits c.write_part.new.to) (written c.args.values.now c.loop-end.from (get_or c.args.ends.now c.loop-end.end-index 0) c.universe_of_part.result c.as_slice.result.now (c.as_slice.ensures.value ∙ c.in_ok-fill_part.ensures) c.universe_of_part.ensures) (c.in_err-write_part.ensures.err c.as_slice.result.now refl)))

pub loop-end-preserved : goal.loop-end-preserved
loop-end-preserved c =
    let xs : List ℕ = c.args.values.now in
    let ends : List ℕ = c.args.ends.now in
    let k : ℕ = c.loop-end.end-index in
    let end : ℕ = get_or c.args.ends.now c.loop-end.end-index 0 in
    let whole : List ℕ = c.args.bits.now ++ payload_from xs 0 ends in
    let more : c.write_part.new.to ≡ c.loop-end.bits ++ part_bits (relative_values xs c.loop-end.from end) (universe xs c.loop-end.from end) =
    c.in_ok-write_part.ensures.ok c.as_slice.result.now refl ∙ ap (λ p. c.loop-end.bits ++ p) (written c.args.values.now c.loop-end.from (get_or c.args.ends.now c.loop-end.end-index 0) c.universe_of_part.result c.as_slice.result.now (c.as_slice.ensures.value ∙ c.in_ok-fill_part.ensures) c.universe_of_part.ensures) in
    record {
      parts = (next (goal.at.loop-end-preserved c).In-loop-end).rest;
      bits = ap (λ b. b ++ payload_from xs end (drop (k + 1) ends)) more ∙ payload-more xs ends c.loop-end.bits whole c.loop-end.from k c.loop-end-test.true c.loop-end.invariant.bits;
      grown = omega (arith, c.loop-end.invariant.grown, ap length more, length-append c.loop-end.bits (part_bits (relative_values xs c.loop-end.from end) (universe xs c.loop-end.from end)));
    }

pub returns-clause-ok : goal.returns-clause-ok
returns-clause-ok c =
    payload-all c.args.values.now c.args.ends.now c.loop-end.bits (c.args.bits.now ++ payload_from c.args.values.now 0 c.args.ends.now) c.loop-end.from c.loop-end.end-index (omega arith) c.loop-end.invariant.bits
