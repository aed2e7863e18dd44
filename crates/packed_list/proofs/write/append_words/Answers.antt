use Rattle.std.proofs.Common.{ℕ, List, ◌++◌, length, take, sym, ap, ◌∙◌, arith, append-nil}
use Rattle.std.proofs.lemmas.List.{length-append, length-take, take_all}
use Rattle.bit_words.specs.Bits.{field_bits, bits_of}
use Rattle.bit_words.proofs.Value.{length-bits_of}
use Rattle.bit_words.proofs.Prefixes.{pieces-more, pieces-prefix}
use Rattle.bit_words.proofs.Outcomes.{on-err}
use Rattle.packed_list.proofs.write.append_words.Goals as goal

pub loop-word-init : goal.loop-word-init
loop-word-init c = sym (append-nil c.args.to.now)

pub put-requires-clause-room : goal.put-requires-clause-room
put-requires-clause-room c =
    let words : List ℕ = c.args.words.now in
    let prefix : List ℕ = take c.loop-word.word-index words in
    omega (
      arith,
      ap length c.loop-word.invariant,
      length-append c.args.to.now (bits_of prefix),
      length-bits_of prefix,
      length-bits_of words,
      length-take c.loop-word.word-index words,
    )

pub returns-in_err-put-clause-err : goal.returns-in_err-put-clause-err
returns-in_err-put-clause-err c =
    on-err _ _ (pieces-prefix (field_bits 64) c.args.to.now c.put.new.self c.args.words.now c.loop-word.word-index (c.in_err-put.ensures.err ∙ c.loop-word.invariant))

pub loop-word-preserved : goal.loop-word-preserved
loop-word-preserved c =
    c.in_ok-put.ensures.ok ∙ pieces-more (field_bits 64) c.args.to.now c.loop-word.to c.args.words.now c.loop-word.word-index 0 c.loop-word-test.true c.loop-word.invariant

pub returns : goal.returns
returns c =
    let words : List ℕ = c.args.words.now in
    record { ok = c.loop-word.invariant ∙ ap (λ ws. c.args.to.now ++ bits_of ws) (take_all c.loop-word.word-index words c.loop-word-test.false); err = tt }
