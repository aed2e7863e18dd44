use Rattle.std.proofs.Common.{◌≡◌, ℕ, List, length, take, ap, ◌∙◌, arith}
use Rattle.std.proofs.lemmas.List.{take_at}
use Rattle.bit_words.specs.Bits.{AppendsBits}
use Rattle.packed_list.proofs.write.write_list.Goals as goal

-- a prefix taken away again
back : (old new bits : List ℕ) (first : ℕ) → first ≡ length old → AppendsBits old new bits → take first new ≡ old
back old new bits first is h = ap (take first) h.2 ∙ take_at old (take h.0 bits) first (let e : length old ≡ first = omega (arith, is) in e)

pub returns-in-Err-clause-err : goal.returns-in-Err-clause-err
returns-in-Err-clause-err c =
    let l = c.requires.list in
    c.truncate.ensures ∙ back c.args.to.now c.append_list.new.to _ c.len-first.result c.len-first.ensures (c.in-Err.ensures.err l.0 l.1)
