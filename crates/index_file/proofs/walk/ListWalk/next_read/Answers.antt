use Rattle.std.proofs.Common.{◌<◌, refl, ap, subst, length, arith}
use Rattle.collection_model.specs.Collection.{list_of}
use Rattle.index_file.specs.Gaps.{place_in}
use Rattle.part_cost.specs.Formats.{numbers_of}
use Rattle.packed_list.specs.ListStated.{ListStated}
use Rattle.index_file.specs.IndexView.{index_stated, list_of_kind}
use Rattle.index_file.specs.ListWalk.{AreOfList, IsReadOf, ListsInTurn}
use Rattle.index_file.proofs.FileKinds.{framed}
use Rattle.index_file.proofs.ListsInTurn.{read-is, viewed}
use Rattle.index_file.proofs.walk.ListWalk.next_read.Goals as goal
use Rattle.index_file.proofs.walk.ListWalk.next_read.Goals.{After-self}

-- there is a next list
within : (c : After-self) → place_in c.self.inside.run < c.self.inside.terms
within c =
    let s = c.self.inside in
    let i = index_stated c.self.inside.words.now in
    let h = c.self.invariant.0 in
    let f = framed c.file_laws.ensures.takes s.format s.words.now i.collection i.parts h.spells in
    omega (arith, c.requires.within, f.terms, h.terms_are, ap (λ (v : ListsInTurn). v.next) c.self.view_is, ap (λ (v : ListsInTurn). length v.collection.lists) c.self.view_is)

pub read_here-requires-clause-within : goal.read_here-requires-clause-within
read_here-requires-clause-within c = within (goal.at.read_here-requires-clause-within c).After-self

-- what is stated of it
abbrev stated : (c : After-self) → ListStated
stated c = list_of_kind (numbers_of c.self.inside.format).kind (numbers_of c.self.inside.format) c.self.inside.words.now (place_in c.self.inside.run)

here : (c : After-self) → AreOfList (stated c).docs (stated c).freqs (stated c).most (list_of (index_stated c.self.inside.words.now).collection (place_in c.self.inside.run))
here c =
    let s = c.self.inside in
    viewed c.file_laws.ensures s.format s.words.now s.terms (place_in s.run) c.self.invariant.0 (within c) (stated c).docs (stated c).freqs (stated c).most refl refl refl

pub returns : goal.returns
returns c =
    let a = (goal.at.returns c).After-self in
    subst (λ (v : ListsInTurn). IsReadOf c.read_here.result (list_of v.collection v.next)) c.self.view_is
    (read-is c.read_here.result (stated a) _ (here a) c.read_here.ensures)
