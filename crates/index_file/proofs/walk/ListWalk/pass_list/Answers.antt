use Rattle.std.proofs.Common.{◌+◌, ◌<◌, ap, length, arith}
use Rattle.index_file.specs.Gaps.{place_in}
use Rattle.index_file.specs.IndexView.{index_stated}
use Rattle.index_file.specs.ListWalk.{ListsInTurn}
use Rattle.index_file.proofs.FileKinds.{framed}
use Rattle.index_file.proofs.ListsInTurn.{step-kept}
use Rattle.index_file.proofs.walk.ListWalk.pass_list.Goals as goal
use Rattle.index_file.proofs.walk.ListWalk.pass_list.Goals.{After-self}

-- there is a next list
within : (c : After-self) → place_in c.self.inside.run < c.self.inside.terms
within c =
    let s = c.self.inside in
    let i = index_stated c.self.inside.words.now in
    let h = c.self.invariant.0 in
    let f = framed c.file_laws.ensures.takes s.format s.words.now i.collection i.parts h.spells in
    omega (arith, c.requires.within, f.terms, h.terms_are, ap (λ (v : ListsInTurn). v.next) c.self.view_is, ap (λ (v : ListsInTurn). length v.collection.lists) c.self.view_is)

pub go_to_list-self-inside-requires-clause-numbers : goal.go_to_list-self-inside-requires-clause-numbers
go_to_list-self-inside-requires-clause-numbers c =
    let s = c.self.inside in
    step-kept s.words.now s.format s.terms s.directory s.numbers s.run _ c.self.invariant.1 c.self.invariant.3 (within (goal.at.go_to_list-self-inside-requires-clause-numbers c).After-self)
    (λ _. c.self.inside.run.first) (λ _. c.self.inside.run.at + 1) (λ _. c.self.inside.run.count) (λ _. c.self.inside.run.marks)

pub go_to_list-self-inside-requires-clause-within : goal.go_to_list-self-inside-requires-clause-within
go_to_list-self-inside-requires-clause-within c = omega (arith, within (goal.at.go_to_list-self-inside-requires-clause-within c).After-self)
