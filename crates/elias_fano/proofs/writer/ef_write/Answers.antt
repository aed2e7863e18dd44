use Rattle.std.proofs.Common.{◌≡◌, ℕ, ◌+◌, ◌^◌, ◌≤◌, ◌<◌, List, ◌++◌, length, sym, ap, ◌∙◌, subst, arith}
use Rattle.std.proofs.lemmas.List.{length-append}
use Rattle.std.proofs.lemmas.Result.{on_ok_weaker, on_err_weaker}
use Rattle.bit_words.specs.Bits.{AppendsBits}
use Rattle.bit_words.proofs.Prefixes.{appends-prefix, appends-behind, appends-both}
use Rattle.bit_words.proofs.Outcomes.{on-err}
use Rattle.number_source.proofs.Given.{given}
use Rattle.part_cost.specs.Payload.{widest_low, low_width_of}
use Rattle.part_cost.specs.Span.{AreRelative}
use Rattle.elias_fano.specs.EfBits.{high_bits, low_fields, ef_samples, ef_bits}
use Rattle.part_cost.proofs.Parts.{past-is}
use Rattle.elias_fano.proofs.Rising.{relative-fit}
use Rattle.elias_fano.proofs.Reading.{pieces, part-is}
use Rattle.elias_fano.proofs.writer.ef_write.Given as met
use Rattle.elias_fano.proofs.writer.ef_write.Goals as goal
use Rattle.elias_fano.proofs.writer.ef_write.Goals.{After-low_width-low, In_ok-write_high_bits}

whole : (q u low : ℕ) (ys : List ℕ) → low ≡ low_width_of u (length ys) → ef_bits q ys u ≡ pieces q low ys u
whole q u low ys e = part-is q u ys ∙ ap (λ l. pieces q l ys u) (sym e)

rooms : (q u low : ℕ) (ys : List ℕ) → low ≡ low_width_of u (length ys)
    → length (ef_bits q ys u) ≡ length (high_bits low u ys) + length (low_fields low ys) + length (ef_samples q low ys)
rooms q u low ys e =
    omega (arith, ap length (whole q u low ys e), length-append (high_bits low u ys ++ low_fields low ys) (ef_samples q low ys), length-append (high_bits low u ys) (low_fields low ys))

-- the numbers are relative values
relative : (g : met.Over) (c : After-low_width-low g) (ys : List ℕ) → g.N.NumberSource.gives c.args.values ys → AreRelative c.args.u (length ys) ys
relative g c = given g.N.NumberSource.gives g.met.N.NumberSource.one_list (λ ys. AreRelative c.args.u (length ys) ys) c.args.values c.requires.values

-- the low width is theirs
low-is : (g : met.Over) (c : After-low_width-low g) (ys : List ℕ) → g.N.NumberSource.gives c.args.values ys → c.low_width-low.result ≡ low_width_of c.args.u (length ys)
low-is g c ys h = c.low_width-low.ensures.value ∙ ap (low_width_of c.args.u) (c.left.ensures ys h)

-- there is room for all bits
room-is : (g : met.Over) (c : After-low_width-low g) (ys : List ℕ) → g.N.NumberSource.gives c.args.values ys
    → length c.args.to.now + (length (high_bits c.low_width-low.result c.args.u ys) + length (low_fields c.low_width-low.result ys) + length (ef_samples g.row.Q c.low_width-low.result ys)) < 2 ^ 63
room-is g c ys h =
    let room = given g.N.NumberSource.gives g.met.N.NumberSource.one_list (λ ys. length c.args.to.now + length (ef_bits g.row.Q ys c.args.u) < 2 ^ 63) c.args.values c.requires.room ys h in
    subst (λ n. length c.args.to.now + n < 2 ^ 63) (rooms g.row.Q c.args.u c.low_width-low.result ys (low-is g c ys h)) room

-- the high bits that are written are those of the part
highs : (g : met.Over) (c : In_ok-write_high_bits g) (ys : List ℕ) → g.N.NumberSource.gives c.args.values ys → AreRelative c.args.u (length ys) ys
    → c.write_high_bits.new.to ≡ c.args.to.now ++ high_bits c.low_width-low.result c.args.u ys
highs g c ys h rel =
    c.in_ok-write_high_bits.ensures.ok ys h
    ∙ ap (λ v. c.args.to.now ++ high_bits c.low_width-low.result v ys) (past-is c.args.u ys rel)

pub low_width-low-requires-clause-some : goal.low_width-low-requires-clause-some
low_width-low-requires-clause-some g c =
    let r = c.requires.values in
    omega (arith, c.left.ensures r.0 r.1, r.2.some)

pub low_width-low-requires-clause-fit : goal.low_width-low-requires-clause-fit
low_width-low-requires-clause-fit g c =
    let r = c.requires.values in
    omega (arith, c.left.ensures r.0 r.1, relative-fit c.args.u (length r.0) r.0 r.2)

pub write_high_bits-requires-clause-rising : goal.write_high_bits-requires-clause-rising
write_high_bits-requires-clause-rising g c = let r = c.requires.values in (r.0, r.1, r.2.rising)

pub write_high_bits-requires-clause-some : goal.write_high_bits-requires-clause-some
write_high_bits-requires-clause-some g c = let r = c.requires.values in (r.0, r.1, r.2.some)

pub write_high_bits-requires-clause-room : goal.write_high_bits-requires-clause-room
write_high_bits-requires-clause-room g c =
    let at = (goal.at.write_high_bits-requires-clause-room g c).After-low_width-low in
    let r = c.requires.values in
    (r.0, r.1, omega (arith, room-is g at r.0 r.1, ap (λ v. length (high_bits c.low_width-low.result v r.0)) (past-is c.args.u r.0 r.2)))

pub returns-in_err-write_high_bits-clause-err : goal.returns-in_err-write_high_bits-clause-err
returns-in_err-write_high_bits-clause-err g c = λ ys h.
    let at = (goal.at.returns-in_err-write_high_bits-clause-err g c).After-low_width-low in
    on-err _ _
    (subst (λ xs. AppendsBits c.args.to.now c.write_high_bits.new.to xs) (sym (whole g.row.Q c.args.u c.low_width-low.result ys (low-is g at ys h)))
    (appends-prefix c.args.to.now c.write_high_bits.new.to (high_bits c.low_width-low.result c.args.u ys ++ low_fields c.low_width-low.result ys) (ef_samples g.row.Q c.low_width-low.result ys)
    (appends-prefix c.args.to.now c.write_high_bits.new.to (high_bits c.low_width-low.result c.args.u ys) (low_fields c.low_width-low.result ys)
    (subst (λ v. AppendsBits c.args.to.now c.write_high_bits.new.to (high_bits c.low_width-low.result v ys)) (past-is c.args.u ys (relative g at ys h)) (c.in_err-write_high_bits.ensures.err ys h)))))

pub write_low_fields-requires-clause-room : goal.write_low_fields-requires-clause-room
write_low_fields-requires-clause-room g c =
    let at = (goal.at.write_low_fields-requires-clause-room g c).In_ok-write_high_bits in
    let start = (goal.at.write_low_fields-requires-clause-room g c).After-low_width-low in
    let r = c.requires.values in
    (r.0, r.1, omega (arith, room-is g start r.0 r.1, ap length (highs g at r.0 r.1 r.2), length-append c.args.to.now (high_bits c.low_width-low.result c.args.u r.0)))

pub returns-in_err-write_low_fields-clause-err : goal.returns-in_err-write_low_fields-clause-err
returns-in_err-write_low_fields-clause-err g c = λ ys h.
    let at = (goal.at.returns-in_err-write_low_fields-clause-err g c).In_ok-write_high_bits in
    let start = (goal.at.returns-in_err-write_low_fields-clause-err g c).After-low_width-low in
    on-err _ _
    (subst (λ xs. AppendsBits c.args.to.now c.write_low_fields.new.to xs) (sym (whole g.row.Q c.args.u c.low_width-low.result ys (low-is g start ys h)))
    (appends-prefix c.args.to.now c.write_low_fields.new.to (high_bits c.low_width-low.result c.args.u ys ++ low_fields c.low_width-low.result ys) (ef_samples g.row.Q c.low_width-low.result ys)
    (appends-behind c.args.to.now c.write_high_bits.new.to c.write_low_fields.new.to (high_bits c.low_width-low.result c.args.u ys) (low_fields c.low_width-low.result ys) (highs g at ys h (relative g start ys h)) (c.in_err-write_low_fields.ensures.err ys h))))

pub write_samples-requires-clause-values : goal.write_samples-requires-clause-values
write_samples-requires-clause-values g c =
    let r = c.requires.values in
    (r.0, r.1, subst (λ v. AreRelative v (length r.0) r.0) (sym (past-is c.args.u r.0 r.2)) r.2)

pub write_samples-requires-clause-in_range : goal.write_samples-requires-clause-in_range
write_samples-requires-clause-in_range g c =
    let r = c.requires.values in
    (r.0, r.1, subst (λ v. v ≤ 2 ^ widest_low) (sym (past-is c.args.u r.0 r.2)) c.requires.in_range)

pub write_samples-requires-clause-low : goal.write_samples-requires-clause-low
write_samples-requires-clause-low g c =
    let at = (goal.at.write_samples-requires-clause-low g c).After-low_width-low in
    let r = c.requires.values in
    (r.0, r.1, subst (λ v. c.low_width-low.result ≡ low_width_of v (length r.0)) (sym (past-is c.args.u r.0 r.2)) (low-is g at r.0 r.1))

pub write_samples-requires-clause-room : goal.write_samples-requires-clause-room
write_samples-requires-clause-room g c =
    let at = (goal.at.write_samples-requires-clause-room g c).In_ok-write_high_bits in
    let start = (goal.at.write_samples-requires-clause-room g c).After-low_width-low in
    let r = c.requires.values in (
      r.0,
      r.1,
      omega (
        arith,
        room-is g start r.0 r.1,
        ap length (highs g at r.0 r.1 r.2),
        length-append c.args.to.now (high_bits c.low_width-low.result c.args.u r.0),
        ap length (c.in_ok-write_low_fields.ensures.ok r.0 r.1),
        length-append c.write_high_bits.new.to (low_fields c.low_width-low.result r.0),
      ),
    )

pub returns-clause-ok : goal.returns-clause-ok
returns-clause-ok g c = λ ys h.
    let at = (goal.at.returns-clause-ok g c).In_ok-write_high_bits in
    let start = (goal.at.returns-clause-ok g c).After-low_width-low in
    on_ok_weaker c.write_samples.result
    (λ e.
    appends-both c.args.to.now c.write_low_fields.new.to c.write_samples.new.to (high_bits c.low_width-low.result c.args.u ys ++ low_fields c.low_width-low.result ys) (ef_samples g.row.Q c.low_width-low.result ys)
    (appends-both c.args.to.now c.write_high_bits.new.to c.write_low_fields.new.to (high_bits c.low_width-low.result c.args.u ys) (low_fields c.low_width-low.result ys) (highs g at ys h (relative g start ys h)) (c.in_ok-write_low_fields.ensures.ok ys h)) e
    ∙ ap (λ xs. c.args.to.now ++ xs) (sym (whole g.row.Q c.args.u c.low_width-low.result ys (low-is g start ys h))))
    (c.write_samples.ensures.ok ys h)

pub returns-clause-err : goal.returns-clause-err
returns-clause-err g c = λ ys h.
    let at = (goal.at.returns-clause-err g c).In_ok-write_high_bits in
    let start = (goal.at.returns-clause-err g c).After-low_width-low in
    on_err_weaker c.write_samples.result
    (λ e.
    subst (λ xs. AppendsBits c.args.to.now c.write_samples.new.to xs) (sym (whole g.row.Q c.args.u c.low_width-low.result ys (low-is g start ys h)))
    (appends-behind c.args.to.now c.write_low_fields.new.to c.write_samples.new.to (high_bits c.low_width-low.result c.args.u ys ++ low_fields c.low_width-low.result ys) (ef_samples g.row.Q c.low_width-low.result ys)
    (appends-both c.args.to.now c.write_high_bits.new.to c.write_low_fields.new.to (high_bits c.low_width-low.result c.args.u ys) (low_fields c.low_width-low.result ys) (highs g at ys h (relative g start ys h)) (c.in_ok-write_low_fields.ensures.ok ys h)) e))
    (c.write_samples.ensures.err ys h)
