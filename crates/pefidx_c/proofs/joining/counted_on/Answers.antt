use Rattle.std.proofs.Common.{◌≡◌, refl, sym, ap, ◌∙◌, subst, ℕ, ◌+◌, ◌<◌, ◌++◌, List, length, map}
use Rattle.std.proofs.Common.{take, drop, get_or, arith}
use Rattle.std.specs.List.{All}
use Rattle.std.proofs.lemmas.List.{take-map, drop-map}
use Rattle.std.proofs.lemmas.List.Sums.{sum_by_more, sum_by_more_le}
use Rattle.pefidx_c.specs.Rooms.{pair_of}
use Rattle.pefidx_c.specs.declared.ranking.Scored.{Scored}
use Rattle.pefidx_c.proofs.Firsts.{Pair}
use Rattle.pefidx_c.proofs.Ranges.{shift, next-below, range-added}
use Rattle.pefidx_c.proofs.joining.counted_on.Goals as goal

-- a part of what was given, as pairs
part-mapped : (given part : List Scored) (from m : ℕ) → part ≡ take m (drop from given)
    → take m (drop from (map pair_of given)) ≡ map pair_of part
part-mapped given part from m is =
    ap (take m) (drop-map pair_of from given) ∙ take-map pair_of m (drop from given)
    ∙ ap (map pair_of) (sym is)

pub add_range-requires : goal.add_range-requires
add_range-requires c =
    let documents : List ℕ = c.args.ranges.documents.now in
    let counts : List ℕ = c.args.ranges.counts.now in
    let t : ℕ = c.loop-range.range in
    let first : ℕ = c.loop-range.first in
    let below = next-below documents counts (map pair_of c.args.ranges.given.now)
    c.loop-range.pairs.items t first c.loop-range.from
    (get_or documents t 0) (get_or counts t 0) 4294967295 c.loop-range-test.true
    (omega (arith, c.loop-range-test.true, c.requires.each)) refl refl
    c.loop-range.invariant.pairs_are c.requires.once in
    subst (All (λ (e : Pair). first + e.0 < 4294967295))
    (part-mapped c.args.ranges.given.now c.part.result.now c.loop-range.from (get_or counts t 0)
    c.part.ensures) below

pub overflow_add-first : goal.overflow_add-first
overflow_add-first c =
    omega (
      arith,
      c.loop-range.invariant.first_is,
      c.requires.few,
      sum_by_more_le (λ x. x) c.args.ranges.documents.now c.loop-range.range 0
          c.loop-range-test.true,
    )

pub loop-range-preserved : goal.loop-range-preserved
loop-range-preserved c =
    let documents : List ℕ = c.args.ranges.documents.now in
    let counts : List ℕ = c.args.ranges.counts.now in
    let t : ℕ = c.loop-range.range in
    let first : ℕ = c.loop-range.first in
    let from : ℕ = c.loop-range.from in
    let in_counts : t < length counts = omega (arith, c.loop-range-test.true, c.requires.each) in
    let part = part-mapped c.args.ranges.given.now c.part.result.now from (get_or counts t 0)
    c.part.ensures in
    record {
      first_is = omega (
        arith,
        c.loop-range.invariant.first_is,
        sum_by_more (λ x. x) documents t 0 c.loop-range-test.true,
      );
      from_is = omega (
        arith,
        c.loop-range.invariant.from_is,
        sum_by_more (λ x. x) counts t 0 in_counts,
      );
      pairs_are = range-added documents counts (map pair_of c.args.ranges.given.now)
          c.loop-range.pairs.items c.add_range.new.pairs.items t first from
          (get_or documents t 0) (get_or counts t 0) c.loop-range-test.true in_counts refl refl
          c.loop-range.invariant.pairs_are
          (c.in_ok-add_range.ensures
          ∙ ap (λ l. c.loop-range.pairs.items ++ map (shift first) l) (sym part));
    }
