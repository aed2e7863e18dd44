use Rattle.std.proofs.Common.{◌≡◌, ℕ, ◌+◌, ◌-◌, ◌/◌, ◌^◌, ◌<◌, List, ◌++◌, length, take, drop, get_or, refl, sym, subst, ap, ◌∙◌, arith}
use Rattle.std.specs.List.Sorted.{IsStrictlyIncreasing}
use Rattle.std.proofs.lemmas.List.{append-nil}
use Rattle.bit_words.specs.Bits.{AppendsBits, one_after}
use Rattle.bit_words.proofs.OnesWritten.{IsOneNext, ones-more, ones-prefix, ones-room, ones-all}
use Rattle.bit_words.proofs.Outcomes.{on-err}
use Rattle.number_source.proofs.Given.{given, gives-next}
use Rattle.part_cost.specs.Span.{past}
use Rattle.elias_fano.specs.EfBits.{high_place, high_bits}
use Rattle.elias_fano.specs.EfPlaces.{past_place}
use Rattle.elias_fano.proofs.Rising.{past-before, past_place-next}
use Rattle.elias_fano.proofs.Writing.{next-high, high-gap, high-end}
use Rattle.elias_fano.proofs.writer.write_high_bits.Given as met
use Rattle.elias_fano.proofs.writer.write_high_bits.Goals as goal
use Rattle.elias_fano.proofs.writer.write_high_bits.Goals.{After-take}

-- the numbers rise
rises : (g : met.Over) (c : After-take g) (ys : List ℕ) → g.N.NumberSource.gives c.args.values ys → IsStrictlyIncreasing ys
rises g c = given g.N.NumberSource.gives g.met.N.NumberSource.one_list IsStrictlyIncreasing c.args.values c.requires.rising

-- the number that is taken, and what is left behind it
taken : (g : met.Over) (c : After-take g) (ys : List ℕ) → g.N.NumberSource.gives c.args.values ys
    → (c.loop.counter < length ys) × (c.take.result ≡ get_or ys c.loop.counter 0) × g.N.NumberSource.gives c.take.new.self (drop (c.loop.counter + 1) ys)
taken g c ys h =
    let k = c.loop.counter in
    let lt : k < length ys = omega (arith, c.left-count.ensures ys h) in
    let one = c.take.ensures (get_or ys k 0) (drop (k + 1) ys) (gives-next g.N.NumberSource.gives c.loop.values ys k lt (c.loop.invariant ys h).left) in
    (lt, one.0, one.1)

-- its one is the next
one-next : (g : met.Over) (c : After-take g) (ys : List ℕ) → g.N.NumberSource.gives c.args.values ys
    → IsOneNext (high_bits c.args.low (past ys (length ys)) ys) (past_place c.args.low ys c.loop.counter) (high_place c.args.low c.loop.counter (get_or ys c.loop.counter 0) - past_place c.args.low ys c.loop.counter)
one-next g c ys h = next-high c.args.low c.loop.counter ys (rises g c ys h) (omega (arith, (taken g c ys h).0)) (taken g c ys h).0

-- as many zeros lie before it
gap-is : (g : met.Over) (c : After-take g) (ys : List ℕ) → g.N.NumberSource.gives c.args.values ys
    → c.take.result / 2 ^ c.args.low - c.loop.last ≡ high_place c.args.low c.loop.counter (get_or ys c.loop.counter 0) - past_place c.args.low ys c.loop.counter
gap-is g c ys h =
    ap (λ v. v / 2 ^ c.args.low - c.loop.last) (taken g c ys h).1 ∙ high-gap c.args.low c.loop.counter c.loop.last ys (c.loop.invariant ys h).last

pub loop-init : goal.loop-init
loop-init g c = λ ys h. record { left = h; last = refl; written = sym (append-nil c.args.to.now) }

pub take-requires : goal.take-requires
take-requires g c =
    let ys = c.requires.room.0 in
    let h = c.requires.room.1 in
    let k = c.loop.counter in
    let lt : k < length ys = omega (arith, c.left-count.ensures ys h) in
    record { some = (get_or ys k 0, drop (k + 1) ys, gives-next g.N.NumberSource.gives c.loop.values ys k lt (c.loop.invariant ys h).left) }

pub overflow_sub-high : goal.overflow_sub-high
overflow_sub-high g c =
    let at = (goal.at.overflow_sub-high g c).After-take in
    let ys = c.requires.room.0 in
    let h = c.requires.room.1 in
    omega (
      arith,
      (c.loop.invariant ys h).last,
      ap (λ v. v / 2 ^ c.args.low) (taken g at ys h).1,
      past-before ys c.args.low (rises g at ys h) c.loop.counter (taken g at ys h).0,
    )

pub put_one_after-requires : goal.put_one_after-requires
put_one_after-requires g c =
    let at = (goal.at.put_one_after-requires g c).After-take in
    let ys = c.requires.room.0 in
    let h = c.requires.room.1 in
    let gap : ℕ = high_place c.args.low c.loop.counter (get_or ys c.loop.counter 0) - past_place c.args.low ys c.loop.counter in
    let room : length c.loop.to + gap + 1 < 2 ^ 63 =
    ones-room c.args.to.now c.loop.to (high_bits c.args.low (past ys (length ys)) ys) (past_place c.args.low ys c.loop.counter) gap (2 ^ 63) (one-next g at ys h) (c.loop.invariant ys h).written c.requires.room.2 in
    record { room = subst (λ n. length c.loop.to + n + 1 < 2 ^ 63) (sym (gap-is g at ys h)) room }

pub returns-in_err-put_one_after-clause-err : goal.returns-in_err-put_one_after-clause-err
returns-in_err-put_one_after-clause-err g c = λ ys h.
    let at = (goal.at.returns-in_err-put_one_after-clause-err g c).After-take in
    let gap : ℕ = high_place c.args.low c.loop.counter (get_or ys c.loop.counter 0) - past_place c.args.low ys c.loop.counter in
    on-err _ _
    (ones-prefix c.args.to.now c.loop.to c.put_one_after.new.self (high_bits c.args.low (past ys (length ys)) ys) (past_place c.args.low ys c.loop.counter) gap (one-next g at ys h) (c.loop.invariant ys h).written
    (subst (λ n. AppendsBits c.loop.to c.put_one_after.new.self (one_after n)) (gap-is g at ys h) c.in_err-put_one_after.ensures.err))

pub loop-preserved : goal.loop-preserved
loop-preserved g c = λ ys h.
    let at = (goal.at.loop-preserved g c).After-take in
    let l = c.args.low in
    let k = c.loop.counter in
    let bits = high_bits l (past ys (length ys)) ys in
    let gap : ℕ = high_place l k (get_or ys k 0) - past_place l ys k in
    let after = past_place-next l ys k in
    let number = ap (λ v. v / 2 ^ l) (taken g at ys h).1 in
    let more =
    ones-more c.args.to.now c.loop.to c.put_one_after.new.self bits (past_place l ys k) gap (one-next g at ys h) (c.loop.invariant ys h).written
    (c.in_ok-put_one_after.ensures.ok ∙ ap (λ n. c.loop.to ++ one_after n) (gap-is g at ys h)) in
    let place : past_place l ys k + gap + 1 ≡ past_place l ys (k + 1) = omega (arith, after, past-before ys l (rises g at ys h) k (taken g at ys h).0) in
    record {
      left = (taken g at ys h).2;
      last = omega (arith, after, number);
      written = more ∙ ap (λ n. c.args.to.now ++ take n bits) place;
    }

pub returns-clause-ok : goal.returns-clause-ok
returns-clause-ok g c = λ ys h.
    let some = given g.N.NumberSource.gives g.met.N.NumberSource.one_list (λ xs. 0 < length xs) c.args.values c.requires.some ys h in
    let bits = high_bits c.args.low (past ys (length ys)) ys in
    let all : c.loop.counter ≡ length ys = omega (arith, c.left-count.ensures ys h) in
    let end : past_place c.args.low ys c.loop.counter ≡ length bits = ap (past_place c.args.low ys) all ∙ high-end c.args.low ys some in
    ones-all c.args.to.now c.loop.to bits (past_place c.args.low ys c.loop.counter) end (c.loop.invariant ys h).written
