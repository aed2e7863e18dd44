use Rattle.std.proofs.Common.{◌≡◌, ℕ, sym, ap, ◌∙◌, subst, length, take, drop, List, ◌++◌, arith}
use Rattle.std.proofs.lemmas.List.{take_at}
use Rattle.cursor_api.specs.NextGeq.{IsCursorList}
use Rattle.segments.specs.Joined.{ListPart, joined_list}
use Rattle.segments.specs.JoinedCursor.{parts_of, places_of, StandsAt}
use Rattle.segments.proofs.cursor.JoinedCursorDocCursor.next_frequent.Goals as goal

pub invariant_of-self : goal.invariant_of-self
invariant_of-self g c =
    let s = c.args.self.now in
    let list = g.C.DocCursor.list in
    let new = c.seek_frequency-self.new.parts in
    let whole : take s.parts.len (new ++ drop (length new) s.parts.items) ≡ new = take_at new (drop (length new) s.parts.items) s.parts.len (omega (arith, c.seek_frequency-self.auto.parts, c.deref_mut.ensures.len)) in
    let same : parts_of list new ≡ parts_of list s.parts.items = c.seek_frequency-self.ensures.parts ∙ ap (parts_of list) c.deref_mut.ensures.value in
    let parts : parts_of list (take s.parts.len (new ++ drop (length new) s.parts.items)) ≡ parts_of list s.parts.items = ap (parts_of list) whole ∙ same in
    record {
      listed = subst (λ (ps : List ListPart). IsCursorList (joined_list ps)) (sym parts) s.listed;
      stands = subst (λ (cs : List (ℕ × g.row.C.Denot)). StandsAt (parts_of list cs) (places_of g.C.DocCursor.place cs) c.seek_frequency-self.result) (sym whole) c.seek_frequency-self.ensures.stands;
      count = s.count ∙ ap (λ ps. length (joined_list ps)) (sym parts);
    }
