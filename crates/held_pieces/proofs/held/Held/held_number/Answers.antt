use Rattle.std.proofs.Common.{◌∙◌, sym, ap, ◌+◌, ◌-◌, ◌≤◌, length, take, drop, arith}
use Rattle.std.proofs.lemmas.List.{length-take}
use Rattle.held_pieces.proofs.HeldNumbers.{number_held}
use Rattle.held_pieces.proofs.held.Held.held_number.Goals as goal

pub returns : goal.returns
returns c =
    let s = c.self.inside in
    let some : 4 ≤ length (take (s.end - s.used) (drop s.used s.piece.items)) = rw c.self.view_is c.requires in
    let enough : s.used + 4 ≤ s.end = omega (arith, some, length-take (s.end - s.used) (drop s.used s.piece.items)) in
    sym c.self.view_is ∙ number_held s.piece.items s.used s.end c.number_at.result enough (c.number_at.ensures ∙ ap (λ xs. take 4 (drop s.used xs)) c.deref.ensures.value)
