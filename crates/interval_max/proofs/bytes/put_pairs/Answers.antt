use Rattle.std.proofs.Common.{rules, ◌≡◌, sym, ap, ◌∙◌, subst, cond, eqb, ℕ, ◌+◌, ◌-◌, ◌<◌, ◌≤◌, ◌++◌, List, take, drop, length, get_or, arith}
use Rattle.std.proofs.Math.Seq.{take-append_seam}
use Rattle.interval_max.specs.Bytes.{ArePairs, paired_byte, pairs_in, reach}
use Rattle.interval_max.specs.declared.peaks.Peak.{Peak}
use Rattle.interval_max.proofs.Room.{pairs-more, low-more}
use Rattle.interval_max.proofs.Rounded.{byte-added}
use Rattle.interval_max.proofs.Steps.{no_peak}
use Rattle.interval_max.proofs.bytes.put_pairs.Goals as goal

pub loop-peak-preserved : goal.loop-peak-preserved
loop-peak-preserved c =
    let peaks : List Peak = c.args.peaks.now in
    let k : ℕ = c.loop-peak.peak-index in
    let p : Peak = get_or peaks k no_peak in
    let so_far = c.loop-peak.invariant in
    let inside : k < length peaks = c.loop-peak-test.true in
    let low : c.loop-peak.behind ≤ p.interval = so_far.low k no_peak (omega arith) inside in
    record {
      left = omega (arith, so_far.left, pairs-more peaks k c.loop-peak.behind inside);
      few = omega (arith, so_far.few, low);
      small = search rules;
      low = low-more peaks k c.requires.rising;
    }

pub loop-peak-2-preserved : goal.loop-peak-2-preserved
loop-peak-2-preserved c =
    let peaks : List Peak = c.args.peaks.now in
    let k : ℕ = c.loop-peak-2.peak-index in
    let p : Peak = get_or peaks k no_peak in
    let at : ℕ = c.loop-peak-2.at in
    let next : ℕ = c.loop-peak-2.next in
    let old : List ℕ = c.loop-peak-2.bytes.items in
    let bytes : List ℕ = c.put_pair-at.new.bytes in
    let new : List ℕ = take c.loop-peak-2.bytes.len (bytes ++ drop (length bytes) old) in
    let so_far = c.loop-peak-2.invariant in
    let inside : k < length peaks = c.loop-peak-2-test.true in
    let low : next ≤ p.interval = so_far.low k no_peak (omega arith) inside in
    let all : length bytes ≡ c.loop-peak-2.bytes.len = omega (arith, c.put_pair-at.ensures.count, c.as_mut_slice.ensures.len) in
    let whole : new ≡ bytes = ap (λ (n : ℕ). take n (bytes ++ drop (length bytes) old)) (sym all) ∙ take-append_seam bytes (drop (length bytes) old) in
    let read : c.as_mut_slice.result.now ≡ old = c.as_mut_slice.ensures.value in
    let pairs : List (ℕ × ℕ) = pairs_in (take at old) in
    let before : pairs_in (take at c.as_mut_slice.result.now) ≡ pairs = ap (λ (bs : List ℕ). pairs_in (take at bs)) read in
    let there : reach pairs + (p.interval - next) ≡ p.interval = omega (arith, so_far.reach_is, low) in
    let now : List ℕ = take c.put_pair-at.result bytes in
    let reached : reach (pairs_in now) ≡ reach pairs + (p.interval - next) + 1 = c.put_pair-at.ensures.reach ∙ ap (λ (ps : List (ℕ × ℕ)). reach ps + (p.interval - next) + 1) before in
    let given : (v : ℕ) → paired_byte 0 (pairs_in now) v ≡ paired_byte 0 pairs v + cond (eqb (reach pairs + (p.interval - next)) v) c.steps_to-byte.result 0 = λ v.
    c.put_pair-at.ensures.byte v ∙ ap (λ (ps : List (ℕ × ℕ)). paired_byte 0 ps v + cond (eqb (reach ps + (p.interval - next)) v) c.steps_to-byte.result 0) before in
    record {
      left = omega (arith, so_far.left, c.put_pair-at.ensures.behind, pairs-more peaks k next inside, ap length whole, c.put_pair-at.ensures.count, ap length read);
      pairs = subst (λ (bs : List ℕ). ArePairs (take c.put_pair-at.result bs)) (sym whole) c.put_pair-at.ensures.pairs;
      reach_is = ap (λ (bs : List ℕ). reach (pairs_in (take c.put_pair-at.result bs))) whole ∙ omega (arith, reached, there);
      each = λ v. ap (λ (bs : List ℕ). paired_byte 0 (pairs_in (take c.put_pair-at.result bs)) v) whole
          ∙ byte-added peaks k c.args.step v (reach pairs + (p.interval - next)) c.steps_to-byte.result (paired_byte 0 pairs v) (paired_byte 0 (pairs_in now) v) c.requires.rising inside there c.steps_to-byte.ensures (so_far.each v) (given v);
      low = low-more peaks k c.requires.rising;
    }
