use Rattle.std.proofs.Common.{◌≡◌, ℕ, suc, ◌+◌, ◌-◌, ◌^◌, ◌<◌, List, ◌++◌, length, take, drop, get_or, refl, sym, subst, ap, ◌∙◌, arith}
use Rattle.std.specs.List.Sorted.{IsStrictlyIncreasing}
use Rattle.std.proofs.lemmas.List.{append-nil}
use Rattle.bit_words.specs.Bits.{AppendsBits, one_after}
use Rattle.bit_words.proofs.OnesWritten.{IsOneNext, ones-more, ones-prefix, ones-room, ones-all}
use Rattle.bit_words.proofs.Outcomes.{on-err}
use Rattle.number_source.proofs.Given.{given, gives-next}
use Rattle.part_cost.specs.Span.{past}
use Rattle.part_cost.proofs.Parts.{past-number}
use Rattle.ranked_bitmap.specs.MapBits.{marks}
use Rattle.ranked_bitmap.proofs.Marks.{length-marks}
use Rattle.ranked_bitmap.proofs.Writing.{next-mark}
use Rattle.ranked_bitmap.proofs.writer.write_marks.Given as met
use Rattle.ranked_bitmap.proofs.writer.write_marks.Goals as goal
use Rattle.ranked_bitmap.proofs.writer.write_marks.Goals.{After-take-value}

-- the numbers rise
rises : (g : met.Over) (c : After-take-value g) (ys : List ℕ) → g.N.NumberSource.gives c.args.values ys → IsStrictlyIncreasing ys
rises g c = given g.N.NumberSource.gives g.met.N.NumberSource.one_list IsStrictlyIncreasing c.args.values c.requires.rising

-- the number that is taken, and what is left behind it
taken : (g : met.Over) (c : After-take-value g) (ys : List ℕ) → g.N.NumberSource.gives c.args.values ys
    → (c.loop.counter < length ys) × (c.take-value.result ≡ get_or ys c.loop.counter 0) × g.N.NumberSource.gives c.take-value.new.self (drop (c.loop.counter + 1) ys)
taken g c ys h =
    let k = c.loop.counter in
    let lt : k < length ys = omega (arith, c.left-count.ensures ys h) in
    let one = c.take-value.ensures (get_or ys k 0) (drop (k + 1) ys) (gives-next g.N.NumberSource.gives c.loop.values ys k lt (c.loop.invariant ys h).left) in
    (lt, one.0, one.1)

-- its one is the next
one-next : (g : met.Over) (c : After-take-value g) (ys : List ℕ) → g.N.NumberSource.gives c.args.values ys
    → IsOneNext (marks ys (past ys (length ys))) (past ys c.loop.counter) (get_or ys c.loop.counter 0 - past ys c.loop.counter)
one-next g c ys h = next-mark ys c.loop.counter (rises g c ys h) (omega (arith, (taken g c ys h).0)) (taken g c ys h).0

-- as many zeros lie before it
gap-is : (g : met.Over) (c : After-take-value g) (ys : List ℕ) → g.N.NumberSource.gives c.args.values ys
    → c.take-value.result - c.loop.past ≡ get_or ys c.loop.counter 0 - past ys c.loop.counter
gap-is g c ys h = ap (λ v. v - c.loop.past) (taken g c ys h).1 ∙ ap (λ n. get_or ys c.loop.counter 0 - n) (c.loop.invariant ys h).past

pub loop-init : goal.loop-init
loop-init g c = λ ys h. record { left = h; past = refl; written = sym (append-nil c.args.to.now) }

pub take-value-requires : goal.take-value-requires
take-value-requires g c =
    let ys = c.requires.room.0 in
    let h = c.requires.room.1 in
    let k = c.loop.counter in
    let lt : k < length ys = omega (arith, c.left-count.ensures ys h) in
    record { some = (get_or ys k 0, drop (k + 1) ys, gives-next g.N.NumberSource.gives c.loop.values ys k lt (c.loop.invariant ys h).left) }

pub overflow_sub-value : goal.overflow_sub-value
overflow_sub-value g c =
    let at = (goal.at.overflow_sub-value g c).After-take-value in
    let ys = c.requires.room.0 in
    let h = c.requires.room.1 in
    omega (arith, (c.loop.invariant ys h).past, (taken g at ys h).1, past-number ys (rises g at ys h) c.loop.counter (taken g at ys h).0)

pub put_one_after-requires : goal.put_one_after-requires
put_one_after-requires g c =
    let at = (goal.at.put_one_after-requires g c).After-take-value in
    let ys = c.requires.room.0 in
    let h = c.requires.room.1 in
    let room =
    ones-room c.args.to.now c.loop.to (marks ys (past ys (length ys))) (past ys c.loop.counter) (get_or ys c.loop.counter 0 - past ys c.loop.counter) (2 ^ 63) (one-next g at ys h) (c.loop.invariant ys h).written c.requires.room.2 in
    record { room = subst (λ n. length c.loop.to + n + 1 < 2 ^ 63) (sym (gap-is g at ys h)) room }

pub returns-in_err-put_one_after-clause-err : goal.returns-in_err-put_one_after-clause-err
returns-in_err-put_one_after-clause-err g c = λ ys h.
    let at = (goal.at.returns-in_err-put_one_after-clause-err g c).After-take-value in
    on-err _ _
    (ones-prefix c.args.to.now c.loop.to c.put_one_after.new.self (marks ys (past ys (length ys))) (past ys c.loop.counter) (get_or ys c.loop.counter 0 - past ys c.loop.counter) (one-next g at ys h) (c.loop.invariant ys h).written
    (subst (λ n. AppendsBits c.loop.to c.put_one_after.new.self (one_after n)) (gap-is g at ys h) c.in_err-put_one_after.ensures.err))

pub overflow_add-past : goal.overflow_add-past
overflow_add-past g c =
    let at = (goal.at.overflow_add-past g c).After-take-value in
    let ys = c.requires.room.0 in
    let h = c.requires.room.1 in
    let one = one-next g at ys h in
    omega (arith, one.within, (taken g at ys h).1, past-number ys (rises g at ys h) c.loop.counter (taken g at ys h).0, c.requires.room.2)

pub loop-preserved : goal.loop-preserved
loop-preserved g c = λ ys h.
    let at = (goal.at.loop-preserved g c).After-take-value in
    let k = c.loop.counter in
    let bits = marks ys (past ys (length ys)) in
    let after : past ys (k + 1) ≡ get_or ys k 0 + 1 = ap (past ys) (let e : k + 1 ≡ suc k = omega arith in e) in
    let more =
    ones-more c.args.to.now c.loop.to c.put_one_after.new.self bits (past ys k) (get_or ys k 0 - past ys k) (one-next g at ys h) (c.loop.invariant ys h).written
    (c.in_ok-put_one_after.ensures.ok ∙ ap (λ n. c.loop.to ++ one_after n) (gap-is g at ys h)) in
    let place : past ys k + (get_or ys k 0 - past ys k) + 1 ≡ past ys (k + 1) = omega (arith, after, past-number ys (rises g at ys h) k (taken g at ys h).0) in
    record {
      left = (taken g at ys h).2;
      past = ap (λ v. v + 1) (taken g at ys h).1 ∙ sym after;
      written = more ∙ ap (λ n. c.args.to.now ++ take n bits) place;
    }

pub returns-clause-ok : goal.returns-clause-ok
returns-clause-ok g c = λ ys h.
    let bits = marks ys (past ys (length ys)) in
    let all : c.loop.counter ≡ length ys = omega (arith, c.left-count.ensures ys h) in
    let end : past ys c.loop.counter ≡ length bits = ap (past ys) all ∙ sym (length-marks ys (past ys (length ys))) in
    ones-all c.args.to.now c.loop.to bits (past ys c.loop.counter) end (c.loop.invariant ys h).written
