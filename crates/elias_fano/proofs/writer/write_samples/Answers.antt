use Rattle.std.proofs.Common.{◌≡◌, ℕ, ◌+◌, ◌-◌, ◌*◌, ◌/◌, ◌^◌, ◌<◌, ◌≤◌, List, ◌∷◌, ◌++◌, length, drop, get_or, sym, subst, ap, ◌∙◌, arith}
use Rattle.std.proofs.Math.Nat.{div-le_self}
use Rattle.std.proofs.lemmas.List.{length-drop}
use Rattle.bit_words.specs.Bits.{field_bits}
use Rattle.bit_words.proofs.Outcomes.{on-err}
use Rattle.number_source.proofs.Given.{given, gives-next, gives-behind}
use Rattle.part_cost.specs.Payload.{digits, widest_low, low_width_of}
use Rattle.part_cost.specs.Span.{past, AreRelative}
use Rattle.part_cost.proofs.Numbers.{sampled-within}
use Rattle.elias_fano.proofs.Rising.{place-within, relative-fit}
use Rattle.elias_fano.proofs.Writing.{samples-room, samples-more, samples-prefix, samples-all}
use Rattle.elias_fano.proofs.writer.write_samples.Given as met
use Rattle.elias_fano.proofs.writer.write_samples.Goals as goal
use Rattle.elias_fano.proofs.writer.write_samples.Goals.{After-pass-in-loop-j, After-take}

-- the turn is that of a sample, and the number of the sample comes next
sampled : (g : met.Over) (c : After-pass-in-loop-j g) (ys : List ℕ) → g.N.NumberSource.gives c.args.values ys
    → (c.loop-j.j < (length ys - 1) / g.row.Q) × (g.row.Q * (c.loop-j.j + 1) < length ys)
    × g.N.NumberSource.gives c.pass-in-loop-j.new.self (get_or ys (g.row.Q * (c.loop-j.j + 1)) 0 ∷ drop (g.row.Q * (c.loop-j.j + 1) + 1) ys)
sampled g c ys h =
    let q = g.row.Q in
    let j = c.loop-j.j in
    let gives = g.N.NumberSource.gives in
    let rel = given gives g.met.N.NumberSource.one_list (λ xs. AreRelative (past xs (length xs)) (length xs) xs) c.args.values c.requires.values ys h in
    let turn : j < (length ys - 1) / q = subst (λ n. j < (n - 1) / q) (c.left-count.ensures ys h) c.loop-j-test.true in
    let within : q * (j + 1) < length ys = sampled-within q (length ys) j c.requires.spacing (omega (arith, rel.some)) turn in
    let behind = gives-behind gives c.pass-in-loop-j.new.self ys (q * j + 1) (q - 1) (c.pass-in-loop-j.ensures (drop (q * j + 1) ys) (c.loop-j.invariant ys h).left) in
    let place : q * j + 1 + (q - 1) ≡ q * (j + 1) = omega (arith, c.requires.spacing) in
    (turn, within, gives-next gives c.pass-in-loop-j.new.self ys (q * (j + 1)) within (subst (λ n. gives c.pass-in-loop-j.new.self (drop n ys)) place behind))

-- what is taken is that number
taken : (g : met.Over) (c : After-take g) (ys : List ℕ)
    → g.N.NumberSource.gives c.pass-in-loop-j.new.self (get_or ys (g.row.Q * (c.loop-j.j + 1)) 0 ∷ drop (g.row.Q * (c.loop-j.j + 1) + 1) ys)
    → (c.take.result ≡ get_or ys (g.row.Q * (c.loop-j.j + 1)) 0) × g.N.NumberSource.gives c.take.new.self (drop (g.row.Q * (c.loop-j.j + 1) + 1) ys)
taken g c ys h = c.take.ensures (get_or ys (g.row.Q * (c.loop-j.j + 1)) 0) (drop (g.row.Q * (c.loop-j.j + 1) + 1) ys) h

-- the width is that of a sample
width-is : (g : met.Over) (c : After-take g) (ys : List ℕ) → g.N.NumberSource.gives c.args.values ys → c.digits-width.result ≡ digits (3 * length ys)
width-is g c ys h = c.digits-width.ensures ∙ ap (λ n. digits (3 * n)) (c.left-count.ensures ys h)

pub overflow_mul-count : goal.overflow_mul-count
overflow_mul-count g c =
    let r = c.requires.values in
    let range = given g.N.NumberSource.gives g.met.N.NumberSource.one_list (λ xs. past xs (length xs) ≤ 2 ^ widest_low) c.args.values c.requires.in_range r.0 r.1 in
    omega (arith, c.left-count.ensures r.0 r.1, relative-fit (past r.0 (length r.0)) (length r.0) r.0 r.2, range)

pub pass-requires-in-loop-j : goal.pass-requires-in-loop-j
pass-requires-in-loop-j g c =
    let q = g.row.Q in
    let j = c.loop-j.j in
    let r = c.requires.values in
    let turn : j < (length r.0 - 1) / q = subst (λ n. j < (n - 1) / q) (c.left-count.ensures r.0 r.1) c.loop-j-test.true in
    let within = sampled-within q (length r.0) j c.requires.spacing (omega (arith, r.2.some)) turn in
    record { many = (drop (q * j + 1) r.0, (c.loop-j.invariant r.0 r.1).left, omega (arith, within, length-drop (q * j + 1) r.0)) }

pub take-requires : goal.take-requires
take-requires g c =
    let r = c.requires.values in
    let k = g.row.Q * (c.loop-j.j + 1) in
    record { some = (get_or r.0 k 0, drop (k + 1) r.0, (sampled g (goal.at.take-requires g c).After-pass-in-loop-j r.0 r.1).2) }

pub overflow_add-place-in-loop-j : goal.overflow_add-place-in-loop-j
overflow_add-place-in-loop-j g c =
    let at = (goal.at.overflow_add-place-in-loop-j g c).After-take in
    let turn = (goal.at.overflow_add-place-in-loop-j g c).After-pass-in-loop-j in
    let ys = c.requires.values.0 in
    let h = c.requires.values.1 in
    let rel = c.requires.values.2 in
    let u = past ys (length ys) in
    let range = given g.N.NumberSource.gives g.met.N.NumberSource.one_list (λ xs. past xs (length xs) ≤ 2 ^ widest_low) c.args.values c.requires.in_range ys h in
    let within = (sampled g turn ys h).1 in
    omega (
      arith,
      ap (λ v. v / 2 ^ c.args.low) (taken g at ys (sampled g turn ys h).2).0,
      place-within u (length ys) c.args.low ys rel (g.row.Q * (c.loop-j.j + 1)) within,
      within,
      relative-fit u (length ys) ys rel,
      div-le_self (u - 1) (2 ^ c.args.low),
      range,
    )

pub put-requires-clause-fits : goal.put-requires-clause-fits
put-requires-clause-fits g c =
    let at = (goal.at.put-requires-clause-fits g c).After-take in
    let turn = (goal.at.put-requires-clause-fits g c).After-pass-in-loop-j in
    let ys = c.requires.values.0 in
    let h = c.requires.values.1 in
    let range = given g.N.NumberSource.gives g.met.N.NumberSource.one_list (λ xs. past xs (length xs) ≤ 2 ^ widest_low) c.args.values c.requires.in_range ys h in
    let low = given g.N.NumberSource.gives g.met.N.NumberSource.one_list (λ xs. c.args.low ≡ low_width_of (past xs (length xs)) (length xs)) c.args.values c.requires.low ys h in
    let fits = c.places_fit_samples.ensures (past ys (length ys)) (length ys) ys range c.requires.values.2 (g.row.Q * (c.loop-j.j + 1)) (sampled g turn ys h).1 in
    let narrow = subst (λ l. get_or ys (g.row.Q * (c.loop-j.j + 1)) 0 / 2 ^ l + g.row.Q * (c.loop-j.j + 1) < 2 ^ digits (3 * length ys)) (sym low) fits in
    let wide = subst (λ w. get_or ys (g.row.Q * (c.loop-j.j + 1)) 0 / 2 ^ c.args.low + g.row.Q * (c.loop-j.j + 1) < 2 ^ w) (sym (width-is g at ys h)) narrow in
    subst (λ v. v / 2 ^ c.args.low + g.row.Q * (c.loop-j.j + 1) < 2 ^ c.digits-width.result) (sym (taken g at ys (sampled g turn ys h).2).0) wide

pub put-requires-clause-room : goal.put-requires-clause-room
put-requires-clause-room g c =
    let at = (goal.at.put-requires-clause-room g c).After-take in
    let turn = (goal.at.put-requires-clause-room g c).After-pass-in-loop-j in
    let ys = c.requires.room.0 in
    let h = c.requires.room.1 in
    let room = samples-room g.row.Q c.args.low ys c.loop-j.j (2 ^ 63) c.args.to.now c.loop-j.to (sampled g turn ys h).0 (c.loop-j.invariant ys h).written c.requires.room.2 in
    subst (λ w. length c.loop-j.to + w < 2 ^ 63) (sym (width-is g at ys h)) room

pub returns-in_err-put-clause-err : goal.returns-in_err-put-clause-err
returns-in_err-put-clause-err g c = λ ys h.
    on-err _ _ (samples-prefix g.row.Q c.args.low ys c.loop-j.j c.args.to.now c.loop-j.to c.put.new.self (c.loop-j.invariant ys h).written c.in_err-put.ensures.err)

pub loop-j-preserved : goal.loop-j-preserved
loop-j-preserved g c = λ ys h.
    let at = (goal.at.loop-j-preserved g c).After-take in
    let turn = (goal.at.loop-j-preserved g c).After-pass-in-loop-j in
    let put = subst (λ v. c.put.new.self ≡ c.loop-j.to ++ field_bits c.digits-width.result (v / 2 ^ c.args.low + g.row.Q * (c.loop-j.j + 1))) (taken g at ys (sampled g turn ys h).2).0 c.in_ok-put.ensures.ok in
    record {
      left = (taken g at ys (sampled g turn ys h).2).1;
      written = samples-more g.row.Q c.args.low ys c.loop-j.j c.digits-width.result c.args.to.now c.loop-j.to c.put.new.self (sampled g turn ys h).0 (width-is g at ys h) (c.loop-j.invariant ys h).written put;
    }

pub returns-clause-ok : goal.returns-clause-ok
returns-clause-ok g c = λ ys h.
    samples-all g.row.Q c.args.low ys c.loop-j.j c.args.to.now c.loop-j.to (c.loop-j.invariant ys h).written
    (subst (λ n. (n - 1) / g.row.Q ≤ c.loop-j.j) (c.left-count.ensures ys h) c.loop-j-test.false)
