use Rattle.std.proofs.Common.{◌≡◌, ◌≢◌, refl, sym, ◌∙◌, ap, subst, ℕ, Bool, true, false, eqb, List, [], ◌∷◌, length, vec_len, arith}
use Rattle.std.proofs.lemmas.Bool.{eqb-true, eqb-false}
use Rattle.text_replies.specs.AnswersLines.{AnswersLines}
use Rattle.text_replies.proofs.WholeText.{without-last, with-last}
use Rattle.text_replies.proofs.text.answer_from.Goals as goal

none-held : (xs : List ℕ) (n : ℕ) (b : Bool) → n ≡ length xs → b ≡ eqb n 0 → b ≡ true → xs ≡ []
none-held [] n b e is full = refl
none-held (x ∷ xs) n b e is full = absurd (omega (arith, eqb-true n 0 (sym is ∙ full)))

some-held : (xs : List ℕ) (n : ℕ) (b : Bool) → n ≡ length xs → b ≡ eqb n 0 → b ≡ false → xs ≢ []
some-held xs n b e is not none = eqb-false n 0 (sym is ∙ not) (e ∙ ap length none)

pub returns-then-is_empty : goal.returns-then-is_empty
returns-then-is_empty g c =
    let n : vec_len c.in_ok-last.last ≡ length c.in_ok-last.last.items = omega (arith, c.in_ok-last.last.ok.0) in
    without-last _ _ _ _ _ _ c.in_ok-last.last.items c.in_ok-last.ensures.ended (none-held c.in_ok-last.last.items _ _ n c.is_empty.ensures c.if-is_empty.true)

pub returns : goal.returns
returns g c =
    let n : vec_len c.in_ok-last.last ≡ length c.in_ok-last.last.items = omega (arith, c.in_ok-last.last.ok.0) in
    let P : List ℕ → Type 0 = λ line. AnswersLines (g.L.TermLists.collection c.args.lists.now) (line ∷ []) (g.O.Sink.state c.answer_ended_lines.new.out) (g.O.Sink.state c.answer_line.new.out) c.answer_line.result in
    with-last _ _ _ _ _ (g.O.Sink.state c.answer_ended_lines.new.out) _ c.in_ok-last.last.items c.answer_line.result _ c.in_ok-last.ensures.ended
    (some-held c.in_ok-last.last.items _ _ n c.is_empty.ensures c.if-is_empty.false)
    (subst P c.as_slice.ensures.value c.answer_line.ensures) c.map_err.ensures.cases
