use Rattle.std.proofs.Common.{◌≡◌, ℕ, ◌+◌, ap, ◌∙◌, cond, eqb, List, take, arith}
use Rattle.interval_max.specs.Bytes.{paired_byte, pairs_in, reach}
use Rattle.interval_max.proofs.Pairs.{paired-push, pairs-push, pairs-stay, reach-push, nothing}
use Rattle.interval_max.proofs.bytes.put_pair.Goals as goal

pub loop-left-preserved : goal.loop-left-preserved
loop-left-preserved c =
    let bytes : List ℕ = take c.loop-left.at c.loop-left.bytes in
    let before : List (ℕ × ℕ) = pairs_in bytes in
    let are = c.loop-left.invariant.pairs in
    let items = ap pairs_in c.put_two.ensures.front ∙ pairs-push bytes 255 0 are in
    record {
      count_is = c.put_two.ensures.count ∙ c.loop-left.invariant.count_is;
      room = omega (arith, c.loop-left.invariant.room, c.loop-left-test.true);
      pairs = pairs-stay bytes _ 255 0 are c.put_two.ensures.front;
      reach_is = omega (arith, ap reach items, reach-push before (255, 0), c.loop-left.invariant.reach_is);
      same = λ v. ap (λ (ps : List (ℕ × ℕ)). paired_byte 0 ps v) items ∙ omega (arith, paired-push 0 before (255, 0) v, nothing (eqb (0 + (reach before + 255)) v) 0 (omega arith), c.loop-left.invariant.same v);
    }

pub returns-clause-pairs : goal.returns-clause-pairs
returns-clause-pairs c = pairs-stay (take c.loop-left.at c.loop-left.bytes) _ c.loop-left.left c.args.byte c.loop-left.invariant.pairs c.put_two-2.ensures.front

pub returns-clause-reach : goal.returns-clause-reach
returns-clause-reach c =
    let bytes : List ℕ = take c.loop-left.at c.loop-left.bytes in
    let before : List (ℕ × ℕ) = pairs_in bytes in
    let items = ap pairs_in c.put_two-2.ensures.front ∙ pairs-push bytes c.loop-left.left c.args.byte c.loop-left.invariant.pairs in
    omega (arith, ap reach items, reach-push before (c.loop-left.left, c.args.byte), c.loop-left.invariant.reach_is)

pub returns-clause-byte : goal.returns-clause-byte
returns-clause-byte c = λ v.
    let bytes : List ℕ = take c.loop-left.at c.loop-left.bytes in
    let before : List (ℕ × ℕ) = pairs_in bytes in
    let items = ap pairs_in c.put_two-2.ensures.front ∙ pairs-push bytes c.loop-left.left c.args.byte c.loop-left.invariant.pairs in
    let e : 0 + (reach before + c.loop-left.left) ≡ reach (pairs_in (take c.args.from c.args.bytes.now)) + c.args.far = omega (arith, c.loop-left.invariant.reach_is) in
    ap (λ (ps : List (ℕ × ℕ)). paired_byte 0 ps v) items
    ∙ omega (arith, paired-push 0 before (c.loop-left.left, c.args.byte) v, ap (λ (n : ℕ). cond (eqb n v) c.args.byte 0) e, c.loop-left.invariant.same v)
