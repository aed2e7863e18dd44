use Rattle.std.proofs.Common.{◌≡◌, ◌+◌, ◌-◌, ◌*◌, ◌%◌, ◌^◌, ◌<◌, ◌++◌, length, drop, get_or, bit_and, sym, ap, subst, ◌∙◌, arith}
use Rattle.std.proofs.lemmas.List.{append-nil, take_all}
use Rattle.bit_words.specs.Bits.{field_bits}
use Rattle.bit_words.proofs.Outcomes.{on-err}
use Rattle.number_source.proofs.Given.{gives-next}
use Rattle.elias_fano.specs.EfBits.{low_fields}
use Rattle.elias_fano.proofs.Writing.{low-room, low-prefix, low-more}
use Rattle.elias_fano.proofs.writer.write_low_fields.Goals as goal

pub loop-init : goal.loop-init
loop-init g c = λ ys h. record { left = h; written = sym (append-nil c.args.to.now) }

pub take-requires : goal.take-requires
take-requires g c =
    let ys = c.requires.room.0 in
    let h = c.requires.room.1 in
    let k = c.loop.counter in
    let lt : k < length ys = omega (arith, c.left-count.ensures ys h) in
    record { some = (get_or ys k 0, drop (k + 1) ys, gives-next g.N.NumberSource.gives c.loop.values ys k lt (c.loop.invariant ys h).left) }

pub put-requires-clause-room : goal.put-requires-clause-room
put-requires-clause-room g c =
    let ys = c.requires.room.0 in
    let h = c.requires.room.1 in
    let lt : c.loop.counter < length ys = omega (arith, c.left-count.ensures ys h) in
    low-room c.args.low ys c.loop.counter (2 ^ 63) c.args.to.now c.loop.to lt (c.loop.invariant ys h).written c.requires.room.2

pub returns-in_err-put-clause-err : goal.returns-in_err-put-clause-err
returns-in_err-put-clause-err g c = λ ys h.
    on-err _ _ (low-prefix c.args.low ys c.loop.counter c.args.to.now c.loop.to c.put.new.self (c.loop.invariant ys h).written c.in_err-put.ensures.err)

pub loop-preserved : goal.loop-preserved
loop-preserved g c = λ ys h.
    let k = c.loop.counter in
    let lt : k < length ys = omega (arith, c.left-count.ensures ys h) in
    let taken = c.take.ensures (get_or ys k 0) (drop (k + 1) ys) (gives-next g.N.NumberSource.gives c.loop.values ys k lt (c.loop.invariant ys h).left) in
    record {
      left = taken.1;
      written = low-more c.args.low ys k c.args.to.now c.loop.to c.put.new.self c.requires.low lt (c.loop.invariant ys h).written
          (subst (λ v. c.put.new.self ≡ c.loop.to ++ field_bits c.args.low (bit_and v (1 * 2 ^ c.args.low % 18446744073709551616 - 1))) taken.0 c.in_ok-put.ensures.ok);
    }

pub returns-clause-ok : goal.returns-clause-ok
returns-clause-ok g c = λ ys h.
    (c.loop.invariant ys h).written ∙ ap (λ xs. c.args.to.now ++ low_fields c.args.low xs) (take_all c.loop.counter ys (omega (arith, c.left-count.ensures ys h)))
