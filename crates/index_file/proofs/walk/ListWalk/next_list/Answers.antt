use Rattle.std.proofs.Common.{◌<◌, ap, subst, length, arith}
use Rattle.collection_model.specs.Collection.{list_of}
use Rattle.index_file.specs.Gaps.{place_in}
use Rattle.index_file.specs.IndexView.{index_stated}
use Rattle.index_file.specs.ListWalk.{AreOfList, ListsInTurn}
use Rattle.index_file.proofs.FileKinds.{framed}
use Rattle.index_file.proofs.ListsInTurn.{viewed}
use Rattle.index_file.proofs.walk.ListWalk.next_list.Goals as goal
use Rattle.index_file.proofs.walk.ListWalk.next_list.Goals.{After-self}

-- there is a next list
within : (c : After-self) → place_in c.self.inside.run < c.self.inside.terms
within c =
    let s = c.self.inside in
    let i = index_stated c.self.inside.words.now in
    let h = c.self.invariant.0 in
    let f = framed c.file_laws.ensures.takes s.format s.words.now i.collection i.parts h.spells in
    omega (arith, c.requires.within, f.terms, h.terms_are, ap (λ (v : ListsInTurn). v.next) c.self.view_is, ap (λ (v : ListsInTurn). length v.collection.lists) c.self.view_is)

pub list_here-requires-clause-within : goal.list_here-requires-clause-within
list_here-requires-clause-within c = within (goal.at.list_here-requires-clause-within c).After-self

pub returns : goal.returns
returns c =
    let s = c.self.inside in
    let list = c.list_here in
    subst (λ (v : ListsInTurn). AreOfList c.list_here.result.docs c.list_here.result.freqs c.list_here.result.greatest (list_of v.collection v.next)) c.self.view_is
    (viewed c.file_laws.ensures s.format s.words.now s.terms (place_in s.run) c.self.invariant.0 (within (goal.at.returns c).After-self) list.result.docs list.result.freqs list.result.greatest list.ensures.docs list.ensures.freqs list.ensures.greatest)
