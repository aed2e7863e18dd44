use Rattle.std.proofs.Common.{◌≡◌, ap, ◌∙◌, subst, ℕ, ◌+◌, ◌^◌, ◌<◌, [], ◌∷◌, ◌++◌, arith}
use Rattle.scan_plans.proofs.Marks.{IsRest, rest-all, rest-more, rest-less, lowest, lowest-from, lowest-one, none-between, taken-none, taken-more, taken-all}
use Rattle.scan_plans.proofs.docs.append_word.Goals as goal
use Rattle.scan_plans.proofs.docs.append_word.Goals.{After-from}

pub loop-rest-init : goal.loop-rest-init
loop-rest-init c = record { low = 0; rest = rest-all c.args.word; taken = taken-none c.args.base c.args.word c.args.docs.now.items }

-- the document of the lowest bit is one of 32 bits
fits : (c : After-from) → c.args.base + c.from.result < 2 ^ 32
fits c =
    let is = lowest-one c.args.word c.loop-rest.invariant.low c.loop-rest.rest (omega (arith, c.loop-rest-test.true)) (omega (arith, c.loop-rest.auto.rest-fits)) c.loop-rest.invariant.rest in
    let fit = c.requires.fit _ is.0 is.1 in
    let one = c.from.ensures in
    omega arith

pub overflow_add-base : goal.overflow_add-base
overflow_add-base c = omega (arith, fits (goal.at.overflow_add-base c).After-from)

pub overflow_cast-base : goal.overflow_cast-base
overflow_cast-base c = omega (arith, fits (goal.at.overflow_cast-base c).After-from)

pub loop-rest-smaller : goal.loop-rest-smaller
loop-rest-smaller c = rest-less c.args.word c.loop-rest.invariant.low c.loop-rest.rest (omega (arith, c.loop-rest-test.true)) (omega (arith, c.loop-rest.auto.rest-fits)) c.loop-rest.invariant.rest

pub loop-rest-preserved : goal.loop-rest-preserved
loop-rest-preserved c =
    let so_far = c.loop-rest.invariant in
    let word : ℕ = c.args.word in
    let rest : ℕ = c.loop-rest.rest in
    let low : ℕ = so_far.low in
    let test = c.loop-rest-test.true in
    let auto = c.loop-rest.auto.rest-fits in
    let some : 0 < rest = omega arith in
    let fits : rest < 2 ^ 64 = omega arith in
    let one : ℕ = lowest word low rest some fits so_far.rest in
    let is = lowest-one word low rest some fits so_far.rest in
    let adds = c.in_ok-push.ensures.items ∙ ap (λ (n : ℕ). c.loop-rest.docs.items ++ (c.args.base + n) ∷ []) c.from.ensures in
    record {
      low = one + 1;
      rest = rest-more word low rest some fits so_far.rest;
      taken = taken-more c.args.base low one word c.args.docs.now.items c.loop-rest.docs.items c.push.new.self.items (lowest-from word low rest some fits so_far.rest) is.0 (none-between word low rest some fits so_far.rest) is.1 adds so_far.taken;
    }

pub returns : goal.returns
returns c =
    let zero : c.loop-rest.rest ≡ 0 = omega (arith, c.loop-rest-test.false) in
    record { docs = (taken-all c.args.base c.loop-rest.invariant.low c.args.word c.args.docs.now.items c.loop-rest.docs.items (subst (IsRest c.args.word c.loop-rest.invariant.low) zero c.loop-rest.invariant.rest) c.loop-rest.invariant.taken).docs }
