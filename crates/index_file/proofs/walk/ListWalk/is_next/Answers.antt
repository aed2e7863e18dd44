use Rattle.std.proofs.Common.{◌≡◌, ◌^◌, ◌<◌, sym, ap, ◌∙◌, length, arith}
use Rattle.std.proofs.lemmas.Bool.{eqb-true, ltb-true, lt-ltb}
use Rattle.index_file.specs.IndexView.{index_stated}
use Rattle.index_file.specs.ListWalk.{ListsInTurn}
use Rattle.index_file.specs.Gaps.{place_in}
use Rattle.index_file.proofs.FileKinds.{framed}
use Rattle.index_file.proofs.walk.ListWalk.is_next.Goals as goal
use Rattle.index_file.proofs.walk.ListWalk.is_next.Goals.{After-self}

-- the place is no farther than the last list
small : (c : After-self) → place_in c.self.inside.run < 2 ^ 32
small c =
    let s = c.self.inside in
    let i = index_stated c.self.inside.words.now in
    let h = c.self.invariant.0 in
    omega (arith, c.self.invariant.2.within, h.terms_are, (framed c.file_laws.ensures.takes s.format s.words.now i.collection i.parts h.spells).few_terms)

pub overflow_cast-self-inside : goal.overflow_cast-self-inside
overflow_cast-self-inside c = omega (arith, small (goal.at.overflow_cast-self-inside c).After-self)

pub overflow_add-self-inside : goal.overflow_add-self-inside
overflow_add-self-inside c = omega (arith, small (goal.at.overflow_add-self-inside c).After-self)

-- there are so many lists
count : (c : After-self) → length c.args.self.now.collection.lists ≡ c.self.inside.terms
count c =
    let s = c.self.inside in
    let i = index_stated c.self.inside.words.now in
    let h = c.self.invariant.0 in
    let f = framed c.file_laws.ensures.takes s.format s.words.now i.collection i.parts h.spells in
    omega (arith, f.terms, h.terms_are, ap (λ (v : ListsInTurn). length v.collection.lists) c.self.view_is)

pub returns-then-self-t-clause-next : goal.returns-then-self-t-clause-next
returns-then-self-t-clause-next c =
    let all = count (goal.at.returns-then-self-t-clause-next c).After-self in
    let next : place_in c.self.inside.run ≡ c.args.self.now.next = ap (λ (v : ListsInTurn). v.next) c.self.view_is in (
      λ e. (omega (arith, ltb-true c.args.t c.self.inside.terms e, all), sym c.if-self-t.true ∙ next),
      λ h. lt-ltb c.args.t c.self.inside.terms (omega (arith, h.0, all)),
    )

pub returns-else-self-t-clause-next : goal.returns-else-self-t-clause-next
returns-else-self-t-clause-next c =
    let next : place_in c.self.inside.run ≡ c.args.self.now.next = ap (λ (v : ListsInTurn). v.next) c.self.view_is in (
      λ e. absurd (c.if-self-t.false (eqb-true (place_in c.self.inside.run) c.args.t e)),
      λ h. absurd (c.if-self-t.false (next ∙ sym h.1)),
    )
