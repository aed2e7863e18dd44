use Rattle.std.proofs.Common.{◌+◌, sym, ap, ◌∙◌, subst, length, List, get_or, arith}
use Rattle.std.specs.List.{slice_get}
use Rattle.collection_model.specs.Collection.{freqs_of}
use Rattle.cursor_api.specs.NextGeq.{IsCursorList}
use Rattle.segments.specs.Joined.{ListPart, joined_list}
use Rattle.segments.specs.JoinedCursor.{parts_of, start_of}
use Rattle.segments.proofs.Joins.{IsHere, is-here, is-inside, IsMoved, moved-here, moved-stands, moved-place, freq-there}
use Rattle.segments.proofs.cursor.JoinedCursorDocCursor.freq.Given as given
use Rattle.segments.proofs.cursor.JoinedCursorDocCursor.freq.Goals as goal
use Rattle.segments.proofs.cursor.JoinedCursorDocCursor.freq.Goals.{After-freq, After-index_mut}

-- it stands at the part of this cursor
here : (g : given.Over) (c : After-index_mut g) → IsHere g.C.DocCursor.list g.C.DocCursor.place c.args.self.now.parts.items c.args.self.now.at c.index_mut.result.now
here g c = is-here g.C.DocCursor.list g.C.DocCursor.place c.args.self.now.parts.items c.args.self.now.at c.index_mut.result.now (is-inside g.C.DocCursor.list g.C.DocCursor.place c.args.self.now.parts.items c.args.self.now.at c.requires c.args.self.now.stands.within) c.index_mut.ensures.value c.args.self.now.stands

-- whose cursor moved
moved : (g : given.Over) (c : After-freq g) → IsMoved g.C.DocCursor.list g.C.DocCursor.place (parts_of g.C.DocCursor.list c.args.self.now.parts.items) c.args.self.now.parts.items c.args.self.now.at (get_or c.args.self.now.parts.items c.args.self.now.at c.index_mut.result.now) (c.index_mut.result.now.0, c.freq.new.self)
moved g c = moved-here g.C.DocCursor.list g.C.DocCursor.place c.args.self.now.parts.items c.args.self.now.at c.index_mut.result.now c.freq.new.self c.requires c.args.self.now.stands c.index_mut.ensures.value c.freq.ensures.list

pub freq-requires : goal.freq-requires
freq-requires g c = (here g (goal.at.freq-requires g c).After-index_mut).left

pub invariant_of-self : goal.invariant_of-self
invariant_of-self g c =
    let left = (here g (goal.at.invariant_of-self g c).After-index_mut).left in
    let went = moved g (goal.at.invariant_of-self g c).After-freq in
    record {
      listed = subst (λ (ps : List ListPart). IsCursorList (joined_list ps)) (sym went.same) c.args.self.now.listed;
      stands = moved-stands went (omega (arith, left, c.freq.ensures.place, ap (λ x. length (g.C.DocCursor.list x.1)) c.index_mut.ensures.value));
      count = c.args.self.now.count ∙ ap (λ ps. length (joined_list ps)) (sym went.same);
    }

pub returns-clause-value : goal.returns-clause-value
returns-clause-value g c =
    let stood = here g (goal.at.returns-clause-value g c).After-index_mut in
    let at_place = g.C.DocCursor.place c.index_mut.result.now.1 in
    ap (λ k. slice_get (freqs_of (joined_list (parts_of g.C.DocCursor.list c.args.self.now.parts.items))) (start_of (parts_of g.C.DocCursor.list c.args.self.now.parts.items) c.args.self.now.at + k)) stood.place_at
    ∙ freq-there (parts_of g.C.DocCursor.list c.args.self.now.parts.items) c.args.self.now.at at_place stood.within (omega (arith, stood.left, ap (λ p. length p.list) stood.part))
    ∙ ap (λ p. slice_get (freqs_of p.list) at_place) stood.part
    ∙ c.freq.ensures.value

pub returns-clause-list : goal.returns-clause-list
returns-clause-list g c = ap joined_list (moved g (goal.at.returns-clause-list g c).After-freq).same

pub returns-clause-place : goal.returns-clause-place
returns-clause-place g c =
    let went = moved g (goal.at.returns-clause-place g c).After-freq in
    moved-place went ∙ ap (λ k. start_of (parts_of g.C.DocCursor.list c.args.self.now.parts.items) c.args.self.now.at + k) (c.freq.ensures.place ∙ ap (λ x. g.C.DocCursor.place x.1) c.index_mut.ensures.value ∙ sym went.before)
