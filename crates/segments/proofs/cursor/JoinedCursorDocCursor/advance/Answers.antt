use Rattle.std.proofs.Common.{◌≡◌, ℕ, ◌+◌, sym, ap, ◌∙◌, subst, List, length, get_or, slice_index, arith}
use Rattle.cursor_api.specs.NextGeq.{IsCursorList}
use Rattle.segments.specs.Joined.{ListPart, joined_list}
use Rattle.segments.specs.JoinedCursor.{parts_of, places_of, start_of, joined_place, StandsAt}
use Rattle.segments.proofs.Joins.{is-here, is-inside, IsMoved, moved-here, moved-place}
use Rattle.segments.proofs.cursor.JoinedCursorDocCursor.advance.Given as given
use Rattle.segments.proofs.cursor.JoinedCursorDocCursor.advance.Goals as goal
use Rattle.segments.proofs.cursor.JoinedCursorDocCursor.advance.Goals.{After-advance}

-- its cursor at the part where it stands moved
moved : (g : given.Over) (c : After-advance g) → IsMoved g.C.DocCursor.list g.C.DocCursor.place (parts_of g.C.DocCursor.list c.args.self.now.parts.items) c.args.self.now.parts.items c.args.self.now.at (get_or c.args.self.now.parts.items c.args.self.now.at c.index_mut.result.now) (c.index_mut.result.now.0, c.advance.new.self)
moved g c = moved-here g.C.DocCursor.list g.C.DocCursor.place c.args.self.now.parts.items c.args.self.now.at c.index_mut.result.now c.advance.new.self c.requires c.args.self.now.stands c.index_mut.ensures.value c.advance.ensures.list

pub advance-requires : goal.advance-requires
advance-requires g c = (is-here g.C.DocCursor.list g.C.DocCursor.place c.args.self.now.parts.items c.args.self.now.at c.index_mut.result.now (is-inside g.C.DocCursor.list g.C.DocCursor.place c.args.self.now.parts.items c.args.self.now.at c.requires c.args.self.now.stands.within) c.index_mut.ensures.value c.args.self.now.stands).left

pub settled-self-requires-clause-unread : goal.settled-self-requires-clause-unread
settled-self-requires-clause-unread g c = λ j lt.
    ap (λ cs. slice_index (places_of g.C.DocCursor.place cs) j) c.deref.ensures.value ∙ (moved g (goal.at.settled-self-requires-clause-unread g c).After-advance).unread j lt

pub invariant_of-self : goal.invariant_of-self
invariant_of-self g c =
    let same = (moved g (goal.at.invariant_of-self g c).After-advance).same in
    record {
      listed = subst (λ (ps : List ListPart). IsCursorList (joined_list ps)) (sym same) c.args.self.now.listed;
      stands = subst (λ (cs : List (ℕ × g.row.C.Denot)). StandsAt (parts_of g.C.DocCursor.list cs) (places_of g.C.DocCursor.place cs) c.settled-self.result) c.deref.ensures.value c.settled-self.ensures.stands;
      count = c.args.self.now.count ∙ ap (λ ps. length (joined_list ps)) (sym same);
    }

pub returns-clause-list : goal.returns-clause-list
returns-clause-list g c = ap joined_list (moved g (goal.at.returns-clause-list g c).After-advance).same

pub returns-clause-place : goal.returns-clause-place
returns-clause-place g c =
    let went = moved g (goal.at.returns-clause-place g c).After-advance in
    let at : ℕ = c.args.self.now.at in
    let before : ℕ = start_of (parts_of g.C.DocCursor.list c.args.self.now.parts.items) at in
    let settled = subst (λ (cs : List (ℕ × g.row.C.Denot)). joined_place (parts_of g.C.DocCursor.list cs) (places_of g.C.DocCursor.place cs) c.settled-self.result ≡ joined_place (parts_of g.C.DocCursor.list cs) (places_of g.C.DocCursor.place cs) at) c.deref.ensures.value c.settled-self.ensures.place in
    let one : g.C.DocCursor.place c.advance.new.self ≡ get_or (places_of g.C.DocCursor.place c.args.self.now.parts.items) at 0 + 1 = c.advance.ensures.place ∙ ap (λ x. g.C.DocCursor.place x.1 + 1) c.index_mut.ensures.value ∙ ap (λ k. k + 1) (sym went.before) in
    let more : before + (get_or (places_of g.C.DocCursor.place c.args.self.now.parts.items) at 0 + 1) ≡ before + get_or (places_of g.C.DocCursor.place c.args.self.now.parts.items) at 0 + 1 = omega arith in
    settled ∙ moved-place went ∙ ap (λ k. before + k) one ∙ more
