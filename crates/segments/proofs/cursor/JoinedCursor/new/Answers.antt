use Rattle.std.proofs.Common.{◌≡◌, refl, ℕ, sym, ap, ◌∙◌, subst, length, List, slice_index, arith}
use Rattle.cursor_api.specs.NextGeq.{IsCursorList}
use Rattle.segments.specs.Joined.{joined_list}
use Rattle.segments.specs.JoinedCursor.{parts_of, places_of, joined_place, StandsAt}
use Rattle.segments.proofs.Joins.{places-zero}
use Rattle.segments.proofs.Follow.{cursors-follow}
use Rattle.segments.proofs.cursor.JoinedCursor.new.Goals as goal

pub settled-at-requires-clause-unread : goal.settled-at-requires-clause-unread
settled-at-requires-clause-unread g c = λ j lt.
    ap (λ cs. slice_index (places_of g.C.DocCursor.place cs) j) c.deref.ensures.value ∙ places-zero g.C.DocCursor.place c.args.parts.items c.requires.at_start j

pub count_all-len-requires : goal.count_all-len-requires
count_all-len-requires g c =
    let list = g.C.DocCursor.list in
    let good = cursors-follow list c.args.parts.items (λ x. (g.met.C.DocCursor.well_formed x).well_formed) c.requires.follow in
    record { list = subst (λ (cs : List (ℕ × g.row.C.Denot)). IsCursorList (joined_list (parts_of list cs))) (sym c.deref-2.ensures.value) good }

pub invariant_of-result : goal.invariant_of-result
invariant_of-result g c =
    let list = g.C.DocCursor.list in
    record {
      listed = cursors-follow list c.args.parts.items (λ x. (g.met.C.DocCursor.well_formed x).well_formed) c.requires.follow;
      stands = subst (λ (cs : List (ℕ × g.row.C.Denot)). StandsAt (parts_of list cs) (places_of g.C.DocCursor.place cs) c.settled-at.result) c.deref.ensures.value c.settled-at.ensures.stands;
      count = c.count_all-len.ensures ∙ ap (λ cs. length (joined_list (parts_of list cs))) c.deref-2.ensures.value;
    }

pub returns : goal.returns
returns g c =
    let list = g.C.DocCursor.list in
    let place = g.C.DocCursor.place in
    let items = c.args.parts.items in
    let kept = subst (λ (cs : List (ℕ × g.row.C.Denot)). joined_place (parts_of list cs) (places_of place cs) c.settled-at.result ≡ joined_place (parts_of list cs) (places_of place cs) 0) c.deref.ensures.value c.settled-at.ensures.place in
    let none : joined_place (parts_of list items) (places_of place items) 0 ≡ 0 = omega (arith, places-zero place items c.requires.at_start 0) in
    record { list = refl; start = kept ∙ none }
