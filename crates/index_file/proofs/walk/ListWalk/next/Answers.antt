use Rattle.std.proofs.Common.{◌^◌, ◌<◌, ap, arith}
use Rattle.index_file.specs.IndexView.{index_stated}
use Rattle.index_file.specs.ListWalk.{ListsInTurn}
use Rattle.index_file.specs.Gaps.{place_in}
use Rattle.index_file.proofs.FileKinds.{framed}
use Rattle.index_file.proofs.walk.ListWalk.next.Goals as goal
use Rattle.index_file.proofs.walk.ListWalk.next.Goals.{After-self}

-- the place is no farther than the last list
small : (c : After-self) → place_in c.self.inside.run < 2 ^ 32
small c =
    let s = c.self.inside in
    let i = index_stated c.self.inside.words.now in
    let h = c.self.invariant.0 in
    omega (arith, c.self.invariant.2.within, h.terms_are, (framed c.file_laws.ensures.takes s.format s.words.now i.collection i.parts h.spells).few_terms)

pub overflow_cast-result : goal.overflow_cast-result
overflow_cast-result c = omega (arith, small (goal.at.overflow_cast-result c).After-self)

pub overflow_add-result : goal.overflow_add-result
overflow_add-result c = omega (arith, small (goal.at.overflow_add-result c).After-self)

pub returns : goal.returns
returns c = ap (λ (v : ListsInTurn). v.next) c.self.view_is
