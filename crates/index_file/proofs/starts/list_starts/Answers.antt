use Rattle.std.proofs.Common.{arith}
use Rattle.index_file.proofs.FileKinds.{narrow-words}
use Rattle.index_file.proofs.ListStarts.{kept-of-index, passes}
use Rattle.index_file.proofs.starts.list_starts.Goals as goal

pub packed_starts-requires-clause-passes : goal.packed_starts-requires-clause-passes
packed_starts-requires-clause-passes c = passes c.file_laws.ensures c.args.words.now c.format_of.result c.requires.index c.format_of.ensures c.in-Three.is

pub returns-in-One-clause-of_index : goal.returns-in-One-clause-of_index
returns-in-One-clause-of_index c = kept-of-index c.file_laws.ensures c.args.words.now (narrow-words c.args.words.now (λ k. omega (arith, c.type_inv.words k))) c.requires.index

pub returns-in-Two-clause-of_index : goal.returns-in-Two-clause-of_index
returns-in-Two-clause-of_index c = kept-of-index c.file_laws.ensures c.args.words.now (narrow-words c.args.words.now (λ k. omega (arith, c.type_inv.words k))) c.requires.index

pub returns-in-Three-clause-of_index : goal.returns-in-Three-clause-of_index
returns-in-Three-clause-of_index c = kept-of-index c.file_laws.ensures c.args.words.now (narrow-words c.args.words.now (λ k. omega (arith, c.type_inv.words k))) c.requires.index
