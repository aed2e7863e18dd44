use Rattle.std.proofs.Common.{arith}
use Rattle.index_file.specs.IndexView.{index_stated}
use Rattle.index_file.specs.ListWalk.{HasTerms}
use Rattle.index_file.proofs.FileKinds.{framed, narrow-words}
use Rattle.index_file.proofs.walk.ListWalk.over.Goals as goal
use Rattle.index_file.proofs.walk.ListWalk.over.Goals.{After-frame_of-terms}

pub frame_of-terms-requires : goal.frame_of-terms-requires
frame_of-terms-requires c =
    let i = index_stated c.args.words.now in
    record { some = omega (arith, (framed c.file_laws.ensures.takes c.args.format c.args.words.now i.collection i.parts c.requires.index).some) }

pub overflow_cast-terms : goal.overflow_cast-terms
overflow_cast-terms c =
    let i = index_stated c.args.words.now in
    omega (arith, (framed c.file_laws.ensures.takes c.args.format c.args.words.now i.collection i.parts c.requires.index).few_terms, c.frame_of-terms.ensures.terms)

-- the words have so many lists
has : (c : After-frame_of-terms) → HasTerms c.args.words.now c.args.format c.frame_of-terms.result.terms
has c = record {
  spells = c.requires.index;
  few_words = c.requires.words;
  narrow = narrow-words c.args.words.now (λ k. omega (arith, c.type_inv.words k));
  terms_are = c.frame_of-terms.ensures.terms;
}

pub go_to_first-run-requires-clause-index : goal.go_to_first-run-requires-clause-index
go_to_first-run-requires-clause-index c = has (goal.at.go_to_first-run-requires-clause-index c).After-frame_of-terms

pub invariant_of-result : goal.invariant_of-result
invariant_of-result c = (
  has (goal.at.invariant_of-result c).After-frame_of-terms,
  c.go_to_first-run.ensures.numbers,
  c.go_to_first-run.ensures.stands,
  c.go_to_first-run.ensures.next,
)
