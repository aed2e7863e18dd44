use Rattle.std.proofs.Common.{arith, inl, refl}
use Rattle.index_file.proofs.FileKinds.{spells-stated, narrow-words, none-given}
use Rattle.index_file.proofs.index.Index.known.Goals as goal

pub invariant_of-result : goal.invariant_of-result
invariant_of-result c =
    let words = c.args.words.now in
    let narrow = narrow-words words (λ k. omega (arith, c.type_inv.words k)) in
    (spells-stated c.file_laws.ensures words narrow c.requires.index, c.requires.words, narrow, inl refl)

pub returns-clause-spells : goal.returns-clause-spells
returns-clause-spells c =
    let words = c.args.words.now in
    spells-stated c.file_laws.ensures words (narrow-words words (λ k. omega (arith, c.type_inv.words k))) c.requires.index

pub returns-clause-stated : goal.returns-clause-stated
returns-clause-stated c = none-given c.args.words.now
