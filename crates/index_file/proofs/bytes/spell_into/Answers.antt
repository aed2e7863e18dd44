use Rattle.std.proofs.Common.{◌∙◌, ◌+◌, ◌-◌, ◌++◌, take, drop, sym, ap, refl, get_or, append-nil, arith}
use Rattle.std.proofs.lemmas.List.{drop_all, length-take, take_all}
use Rattle.collection_model.specs.Bytes.{le64, word_bytes}
use Rattle.index_file.proofs.WordBytes.{spelled-more}
use Rattle.index_file.proofs.bytes.spell_into.Goals as goal

pub loop-word-preserved : goal.loop-word-preserved
loop-word-preserved c =
    let words = c.args.words.now in
    let at = c.loop-word.at in
    let i = c.loop-word.word-index in
    let before = c.loop-word.invariant in (
      omega (arith, before.0),
      spelled-more words c.loop-word.piece _ i _ at _ before.0 before.1 (omega (arith, before.0)) (omega arith) (c.write_u64.ensures ∙ ap (λ rest. le64 (get_or words i 0) ++ rest) (drop_all 8 (take (at + 8 - at) (drop at c.loop-word.piece)) (omega (arith, length-take (at + 8 - at) (drop at c.loop-word.piece)))) ∙ append-nil (le64 (get_or words i 0))) refl,
    )

pub returns : goal.returns
returns c =
    let words = c.args.words.now in
    let before = c.loop-word.invariant in
    sym (take_all c.loop-word.at c.loop-word.piece (omega (arith, before.0))) ∙ before.1 ∙ ap word_bytes (take_all c.loop-word.word-index words (omega arith))
