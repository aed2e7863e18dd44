use Rattle.std.proofs.Common.{◌≡◌, sym, ◌∙◌, ap, subst, ℕ, ◌+◌, ◌-◌, List, [], ◌∷◌, ◌++◌, append_assoc, length, take, drop, Err, Ok, rules}
use Rattle.std.specs.Prelude.{Result}
use Rattle.std.proofs.lemmas.List.{take_rest}
use Rattle.std.proofs.lemmas.Result.{err_from_is_err_and}
use Rattle.collection_model.specs.Collection.{Collection}
use Rattle.io_traits.specs.declared.fail.IoFail.{IoFail}
use Rattle.io_traits.specs.SinkState.{SinkState}
use Rattle.query_text.specs.Lines.{newline}
use Rattle.text_replies.specs.Unended.{AnswersBytes}
use Rattle.text_replies.proofs.Newline.{none-before, split-at, none-at-all}
use Rattle.text_replies.proofs.Taken.{taken-stopped, taken-rest}
use Rattle.text_replies.proofs.lines.answer_piece.Goals as goal

-- the piece beyond a line that ended
next-rest : (piece done rest : List ℕ) (at : ℕ) → piece ≡ done ++ rest → rest ≡ take at rest ++ newline ∷ drop (at + 1) rest →
    piece ≡ (done ++ (take at rest ++ newline ∷ [])) ++ drop (at + 1) rest
next-rest piece done rest at e split =
    e ∙ ap (λ xs. done ++ xs) split ∙ simp append_assoc

next-slice : (piece done rest : List ℕ) (at : ℕ) → piece ≡ done ++ rest → rest ≡ take at rest ++ newline ∷ drop (at + 1) rest →
    piece ≡ (done ++ (take at rest ++ newline ∷ [])) ++ take (length rest - (at + 1)) (drop (at + 1) rest)
next-slice piece done rest at e split = rw take_rest (next-rest piece done rest at e split)

regroup : (c : Collection) (read done line held : List ℕ) (start out : SinkState) →
    AnswersBytes c ((read ++ done) ++ line) held start out (Ok tt) → AnswersBytes c (read ++ (done ++ line)) held start out (Ok tt)
regroup c read done line held start out h =
    let P : List ℕ → Type 0 = λ xs. AnswersBytes c xs held start out (Ok tt) in subst P (append_assoc read done line) h

whole : (c : Collection) (read piece done rest held now : List ℕ) (at : ℕ) (start out : SinkState) (fail : IoFail) → piece ≡ done ++ rest → rest ≡ take at rest ++ newline ∷ drop (at + 1) rest →
    AnswersBytes c ((read ++ done) ++ (take at rest ++ newline ∷ [])) held start out (Err fail) → AnswersBytes c (read ++ piece) now start out (Err fail)
whole c read piece done rest held now at start out fail e split h =
    let P : List ℕ → Type 0 = λ xs. AnswersBytes c xs now start out (Err fail) in
    let line : List ℕ = take at rest ++ newline ∷ [] in
    let same : ((read ++ done) ++ line) ++ drop (at + 1) rest ≡ read ++ piece =
    append_assoc (read ++ done) line (drop (at + 1) rest) ∙ append_assoc read done (line ++ drop (at + 1) rest)
    ∙ ap (λ xs. read ++ xs) (sym (append_assoc done line (drop (at + 1) rest)) ∙ sym (next-rest piece done rest at e split)) in
    subst P same (taken-stopped c ((read ++ done) ++ line) (drop (at + 1) rest) held now start out fail h)

pub end_line-requires : goal.end_line-requires
end_line-requires g c = (search rules, none-before newline c.loop-at.rest.now c.in-Some.at (sym c.in-Some.ensures))

pub returns-in_err-end_line : goal.returns-in_err-end_line
returns-in_err-end_line g c =
    let p = err_from_is_err_and c.from_residual.result c.from_residual.ensures.1 in
    let split = split-at newline c.loop-at.rest.now c.in-Some.at (sym c.in-Some.ensures) in
    rw (p.1, p.2) (λ read start h. whole _ read _ c.loop-at.invariant.0 c.loop-at.rest.now _ _ c.in-Some.at start _ _ c.loop-at.invariant.1 split
    (c.in_err-end_line.ensures (read ++ c.loop-at.invariant.0) start (c.loop-at.invariant.2 read start h)))

pub loop-at-preserved : goal.loop-at-preserved
loop-at-preserved g c =
    let split = split-at newline c.loop-at.rest.now c.in-Some.at (sym c.in-Some.ensures) in (
      c.loop-at.invariant.0 ++ (take c.in-Some.at c.loop-at.rest.now ++ newline ∷ []),
      next-slice c.args.piece.now c.loop-at.invariant.0 c.loop-at.rest.now c.in-Some.at c.loop-at.invariant.1 split,
      λ read start h. regroup _ read c.loop-at.invariant.0 _ _ start _
          (c.in_ok-end_line.ensures (read ++ c.loop-at.invariant.0) start (c.loop-at.invariant.2 read start h)),
    )

at_end : (c : Collection) (read piece done rest now : List ℕ) (start out : SinkState) (r : Result (Unit {0}) IoFail) → piece ≡ done ++ rest →
    AnswersBytes c ((read ++ done) ++ rest) now start out r → AnswersBytes c (read ++ piece) now start out r
at_end c read piece done rest now start out r e h =
    let P : List ℕ → Type 0 = λ xs. AnswersBytes c xs now start out r in
    subst P (append_assoc read done rest ∙ ap (λ xs. read ++ xs) (sym e)) h

pub returns : goal.returns
returns g c =
    λ read start h. at_end _ read _ c.loop-at.invariant.0 c.loop-at.rest.now _ start _ _ c.loop-at.invariant.1
    (taken-rest _ (read ++ c.loop-at.invariant.0) c.loop-at.rest.now _ _ start _ _ (c.loop-at.invariant.2 read start h)
    (none-at-all newline c.loop-at.rest.now (sym c.in_default.ensures)) c.hold.ensures)
