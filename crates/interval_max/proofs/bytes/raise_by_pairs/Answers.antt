use Rattle.std.proofs.Common.{◌≡◌, ◌∙◌, sym, ap, subst, ℕ, ◌+◌, ◌*◌, ◌/◌, ◌%◌, ◌^◌, ◌<◌, ◌≤◌, List, take, length, get_or, arith}
use Rattle.std.proofs.lemmas.List.{take_all}
use Rattle.interval_max.specs.Bytes.{paired_byte, pairs_in, reach}
use Rattle.interval_max.proofs.Pairs.{first-byte, first-far, last-byte, last-far, last-inside, none-left, pair-room, pair-step, paired-before, reach-more, second-byte, second-far, second-inside}
use Rattle.interval_max.proofs.bytes.raise_by_pairs.Goals as goal

pub raise_if-requires : goal.raise_if-requires
raise_if-requires c = record {
  room = λ lt.
      let bytes : List ℕ = c.args.bytes.now in
      let pairs : List (ℕ × ℕ) = pairs_in bytes in
      let j : ℕ = c.loop-four.four-index in
      let fours : List (List ℕ) = c.as_chunks.result.0.now in
      let are = c.as_chunks.ensures.front in
      let inside : j < length bytes / 4 = omega (arith, c.loop-four-test.true, c.loop-four.auto.four-index-end, c.as_chunks.ensures.front_len) in
      let at : ℕ = c.loop-four.next + c.from.result in
      let short : at < length c.args.bounds.now = omega (arith, lt, c.loop-four.auto.bounds) in
      let is : at ≡ reach (take (2 * j) pairs) + (get_or pairs (2 * j) (0, 0)).0 = omega (arith, first-far bytes fours j are inside, c.from.ensures, c.loop-four.invariant.next_is) in
      let room : get_or c.loop-four.bounds at 0 + c.args.times * (get_or pairs (2 * j) (0, 0)).1 < 2 ^ 64 = pair-room pairs (2 * j) c.args.times (omega (arith, second-inside bytes fours j are inside)) (2 ^ 64) at (get_or c.args.bounds.now at 0) (get_or c.loop-four.bounds at 0) is (c.loop-four.invariant.bytes at short) (c.requires.room at short) in
      rw (← first-byte bytes fours j are inside) at room;
}

pub returns-then-second-bounds-clause-raised : goal.returns-then-second-bounds-clause-raised
returns-then-second-bounds-clause-raised c = λ v within.
    let bytes : List ℕ = c.args.bytes.now in
    let pairs : List (ℕ × ℕ) = pairs_in bytes in
    let j : ℕ = c.loop-four.four-index in
    let fours : List (List ℕ) = c.as_chunks.result.0.now in
    let are = c.as_chunks.ensures.front in
    let inside : j < length bytes / 4 = omega (arith, c.loop-four-test.true, c.loop-four.auto.four-index-end, c.as_chunks.ensures.front_len) in
    let second : 2 * j + 1 < length pairs = second-inside bytes fours j are inside in
    let first : 2 * j < length pairs = omega (arith, second) in
    let is : c.loop-four.next + c.from.result ≡ reach (take (2 * j) pairs) + (get_or pairs (2 * j) (0, 0)).0 = omega (arith, first-far bytes fours j are inside, c.from.ensures, c.loop-four.invariant.next_is) in
    let before : v < 0 + reach (take (2 * j + 1) pairs) + (get_or pairs (2 * j + 1) (0, 0)).0 = omega (arith, within, is, reach-more pairs (2 * j) (0, 0) first, second-far bytes fours j are inside, c.from-in-loop-four.ensures, c.if-second-bounds.true, c.loop-four.auto.bounds) in
    pair-step pairs (2 * j) c.args.times first (c.loop-four.next + c.from.result) v (get_or c.args.bounds.now v 0) (get_or c.loop-four.bounds v 0) (get_or c.raise_if.new.bounds v 0) is (c.loop-four.invariant.bytes v within)
    (rw (first-byte bytes fours j are inside) at (c.raise_if.ensures.raised v (omega (arith, within, c.loop-four.auto.bounds))))
    ∙ ap (λ (n : ℕ). get_or c.args.bounds.now v 0 + c.args.times * n) (sym (paired-before 0 pairs (2 * j + 1) v second before))

pub raise_at-requires-clause-room : goal.raise_at-requires-clause-room
raise_at-requires-clause-room c =
    let bytes : List ℕ = c.args.bytes.now in
    let pairs : List (ℕ × ℕ) = pairs_in bytes in
    let j : ℕ = c.loop-four.four-index in
    let fours : List (List ℕ) = c.as_chunks.result.0.now in
    let are = c.as_chunks.ensures.front in
    let inside : j < length bytes / 4 = omega (arith, c.loop-four-test.true, c.loop-four.auto.four-index-end, c.as_chunks.ensures.front_len) in
    let at : ℕ = c.loop-four.next + c.from.result in
    let short : at < length c.args.bounds.now = omega (arith, c.if-second-bounds.false, c.loop-four.auto.bounds) in
    let is : at ≡ reach (take (2 * j) pairs) + (get_or pairs (2 * j) (0, 0)).0 = omega (arith, first-far bytes fours j are inside, c.from.ensures, c.loop-four.invariant.next_is) in
    let room : get_or c.loop-four.bounds at 0 + c.args.times * (get_or pairs (2 * j) (0, 0)).1 < 2 ^ 64 = pair-room pairs (2 * j) c.args.times (omega (arith, second-inside bytes fours j are inside)) (2 ^ 64) at (get_or c.args.bounds.now at 0) (get_or c.loop-four.bounds at 0) is (c.loop-four.invariant.bytes at short) (c.requires.room at short) in
    rw (← first-byte bytes fours j are inside) at room

pub raise_at-requires-in-loop-four-clause-room : goal.raise_at-requires-in-loop-four-clause-room
raise_at-requires-in-loop-four-clause-room c =
    let bytes : List ℕ = c.args.bytes.now in
    let pairs : List (ℕ × ℕ) = pairs_in bytes in
    let j : ℕ = c.loop-four.four-index in
    let fours : List (List ℕ) = c.as_chunks.result.0.now in
    let are = c.as_chunks.ensures.front in
    let inside : j < length bytes / 4 = omega (arith, c.loop-four-test.true, c.loop-four.auto.four-index-end, c.as_chunks.ensures.front_len) in
    let second : 2 * j + 1 < length pairs = second-inside bytes fours j are inside in
    let is_first : c.loop-four.next + c.from.result ≡ reach (take (2 * j) pairs) + (get_or pairs (2 * j) (0, 0)).0 = omega (arith, first-far bytes fours j are inside, c.from.ensures, c.loop-four.invariant.next_is) in
    let after : (k : ℕ) → k < length c.args.bounds.now → get_or c.raise_at.new.bounds k 0 ≡ get_or c.args.bounds.now k 0 + c.args.times * paired_byte 0 (take (2 * j + 1) pairs) k = λ k within.
    pair-step pairs (2 * j) c.args.times (omega (arith, second)) (c.loop-four.next + c.from.result) k (get_or c.args.bounds.now k 0) (get_or c.loop-four.bounds k 0) (get_or c.raise_at.new.bounds k 0) is_first (c.loop-four.invariant.bytes k within)
    (rw (first-byte bytes fours j are inside) at (c.raise_at.ensures.raised k (omega (arith, within, c.loop-four.auto.bounds)))) in
    let at : ℕ = c.loop-four.next + c.from.result + 1 + c.from-in-loop-four.result in
    let short : at < length c.args.bounds.now = omega (arith, c.if-second-bounds.false, c.loop-four.auto.bounds) in
    let is : at ≡ reach (take (2 * j + 1) pairs) + (get_or pairs (2 * j + 1) (0, 0)).0 = omega (arith, first-far bytes fours j are inside, second-far bytes fours j are inside, c.from.ensures, c.from-in-loop-four.ensures, c.loop-four.invariant.next_is, reach-more pairs (2 * j) (0, 0) (omega (arith, second))) in
    let room : get_or c.raise_at.new.bounds at 0 + c.args.times * (get_or pairs (2 * j + 1) (0, 0)).1 < 2 ^ 64 = pair-room pairs (2 * j + 1) c.args.times second (2 ^ 64) at (get_or c.args.bounds.now at 0) (get_or c.raise_at.new.bounds at 0) is (after at short) (c.requires.room at short) in
    rw (← second-byte bytes fours j are inside) at room

pub loop-four-preserved : goal.loop-four-preserved
loop-four-preserved c =
    let bytes : List ℕ = c.args.bytes.now in
    let pairs : List (ℕ × ℕ) = pairs_in bytes in
    let j : ℕ = c.loop-four.four-index in
    let fours : List (List ℕ) = c.as_chunks.result.0.now in
    let are = c.as_chunks.ensures.front in
    let inside : j < length bytes / 4 = omega (arith, c.loop-four-test.true, c.loop-four.auto.four-index-end, c.as_chunks.ensures.front_len) in
    let second : 2 * j + 1 < length pairs = second-inside bytes fours j are inside in
    let is_first : c.loop-four.next + c.from.result ≡ reach (take (2 * j) pairs) + (get_or pairs (2 * j) (0, 0)).0 = omega (arith, first-far bytes fours j are inside, c.from.ensures, c.loop-four.invariant.next_is) in
    let after : (k : ℕ) → k < length c.args.bounds.now → get_or c.raise_at.new.bounds k 0 ≡ get_or c.args.bounds.now k 0 + c.args.times * paired_byte 0 (take (2 * j + 1) pairs) k = λ k within.
    pair-step pairs (2 * j) c.args.times (omega (arith, second)) (c.loop-four.next + c.from.result) k (get_or c.args.bounds.now k 0) (get_or c.loop-four.bounds k 0) (get_or c.raise_at.new.bounds k 0) is_first (c.loop-four.invariant.bytes k within)
    (rw (first-byte bytes fours j are inside) at (c.raise_at.ensures.raised k (omega (arith, within, c.loop-four.auto.bounds)))) in
    let at : ℕ = c.loop-four.next + c.from.result + 1 + c.from-in-loop-four.result in
    let is : at ≡ reach (take (2 * j + 1) pairs) + (get_or pairs (2 * j + 1) (0, 0)).0 = omega (arith, first-far bytes fours j are inside, second-far bytes fours j are inside, c.from.ensures, c.from-in-loop-four.ensures, c.loop-four.invariant.next_is, reach-more pairs (2 * j) (0, 0) (omega (arith, second))) in
    let two : 2 * j + 1 + 1 ≡ 2 * (j + 1) = omega arith in
    let more : at + 1 ≡ reach (take (2 * j + 1 + 1) pairs) = omega (arith, is, reach-more pairs (2 * j + 1) (0, 0) second) in
    record {
      next_is = subst (λ (n : ℕ). at + 1 ≡ reach (take n pairs)) two more;
      low = omega (arith, c.if-second-bounds.false, c.loop-four.auto.bounds);
      bytes = λ k within.
          subst (λ (n : ℕ). get_or c.raise_at-in-loop-four.new.bounds k 0 ≡ get_or c.args.bounds.now k 0 + c.args.times * paired_byte 0 (take n pairs) k) two
          (pair-step pairs (2 * j + 1) c.args.times second at k (get_or c.args.bounds.now k 0) (get_or c.raise_at.new.bounds k 0) (get_or c.raise_at-in-loop-four.new.bounds k 0) is (after k within)
          (rw (second-byte bytes fours j are inside) at (c.raise_at-in-loop-four.ensures.raised k (omega (arith, within, c.loop-four.auto.bounds, c.raise_at.ensures.count)))));
    }

pub raise_if-requires-then-rest-ge2 : goal.raise_if-requires-then-rest-ge2
raise_if-requires-then-rest-ge2 c = record {
  room = λ lt.
      let bytes : List ℕ = c.args.bytes.now in
      let pairs : List (ℕ × ℕ) = pairs_in bytes in
      let j : ℕ = c.loop-four.four-index in
      let rest : List ℕ = c.as_chunks.result.1.now in
      let are = c.as_chunks.ensures.back in
      let end : j ≡ length bytes / 4 = omega (arith, c.loop-four-test.false, c.loop-four.auto.four-index-end, c.as_chunks.ensures.front_len) in
      let some : 2 ≤ length bytes % 4 = omega (arith, c.if-rest-ge2.true, c.as_chunks.ensures.back_len) in
      let at : ℕ = c.loop-four.next + c.from-then-rest-ge2.result in
      let short : at < length c.args.bounds.now = omega (arith, lt, c.loop-four.auto.bounds) in
      let is : at ≡ reach (take (2 * j) pairs) + (get_or pairs (2 * j) (0, 0)).0 = omega (arith, last-far bytes rest j are end some, c.from-then-rest-ge2.ensures, c.loop-four.invariant.next_is) in
      let room : get_or c.loop-four.bounds at 0 + c.args.times * (get_or pairs (2 * j) (0, 0)).1 < 2 ^ 64 = pair-room pairs (2 * j) c.args.times (omega (arith, last-inside bytes rest j are end some)) (2 ^ 64) at (get_or c.args.bounds.now at 0) (get_or c.loop-four.bounds at 0) is (c.loop-four.invariant.bytes at short) (c.requires.room at short) in
      rw (← last-byte bytes rest j are end some) at room;
}

pub returns-then-rest-ge2-clause-raised : goal.returns-then-rest-ge2-clause-raised
returns-then-rest-ge2-clause-raised c = λ v within.
    let bytes : List ℕ = c.args.bytes.now in
    let pairs : List (ℕ × ℕ) = pairs_in bytes in
    let j : ℕ = c.loop-four.four-index in
    let rest : List ℕ = c.as_chunks.result.1.now in
    let are = c.as_chunks.ensures.back in
    let end : j ≡ length bytes / 4 = omega (arith, c.loop-four-test.false, c.loop-four.auto.four-index-end, c.as_chunks.ensures.front_len) in
    let some : 2 ≤ length bytes % 4 = omega (arith, c.if-rest-ge2.true, c.as_chunks.ensures.back_len) in
    let is : c.loop-four.next + c.from-then-rest-ge2.result ≡ reach (take (2 * j) pairs) + (get_or pairs (2 * j) (0, 0)).0 = omega (arith, last-far bytes rest j are end some, c.from-then-rest-ge2.ensures, c.loop-four.invariant.next_is) in
    let whole : take (2 * j + 1) pairs ≡ pairs = take_all (2 * j + 1) pairs (omega (arith, last-inside bytes rest j are end some)) in
    pair-step pairs (2 * j) c.args.times (omega (arith, last-inside bytes rest j are end some)) (c.loop-four.next + c.from-then-rest-ge2.result) v (get_or c.args.bounds.now v 0) (get_or c.loop-four.bounds v 0) (get_or c.raise_if-then-rest-ge2.new.bounds v 0) is (c.loop-four.invariant.bytes v within)
    (rw (last-byte bytes rest j are end some) at (c.raise_if-then-rest-ge2.ensures.raised v (omega (arith, within, c.loop-four.auto.bounds))))
    ∙ ap (λ (ps : List (ℕ × ℕ)). get_or c.args.bounds.now v 0 + c.args.times * paired_byte 0 ps v) whole

pub returns-else-rest-ge2-clause-raised : goal.returns-else-rest-ge2-clause-raised
returns-else-rest-ge2-clause-raised c = λ v within.
    let bytes : List ℕ = c.args.bytes.now in
    let pairs : List (ℕ × ℕ) = pairs_in bytes in
    let j : ℕ = c.loop-four.four-index in
    let end : j ≡ length bytes / 4 = omega (arith, c.loop-four-test.false, c.loop-four.auto.four-index-end, c.as_chunks.ensures.front_len) in
    let few : length bytes % 4 < 2 = omega (arith, c.if-rest-ge2.false, c.as_chunks.ensures.back_len) in
    let whole : take (2 * j) pairs ≡ pairs = take_all (2 * j) pairs (omega (arith, none-left bytes c.as_chunks.result.1.now j c.as_chunks.ensures.back end few)) in
    c.loop-four.invariant.bytes v within ∙ ap (λ (ps : List (ℕ × ℕ)). get_or c.args.bounds.now v 0 + c.args.times * paired_byte 0 ps v) whole
