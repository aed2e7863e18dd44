use Rattle.std.proofs.Common.{◌≡◌, ◌≢◌, sym, ◌∙◌, subst, ℕ, ◌-◌, List, [], ◌∷◌, ◌++◌, length, take, lit<}
use Rattle.std.specs.Prelude.{Result, Ok, Err, OnOk, MatchResult}
use Rattle.std.specs.List.{All}
use Rattle.std.proofs.lemmas.Result.{on_ok_weaker}
use Rattle.collection_model.specs.Collection.{Collection}
use Rattle.io_traits.specs.declared.fail.IoFail.{IoFail}
use Rattle.io_traits.specs.declared.fail.IoFail.TheVariants.{NoMemory}
use Rattle.io_traits.specs.SinkState.{SinkState}
use Rattle.query_text.specs.Lines.{newline, ended_lines}
use Rattle.text_replies.specs.AnswersLines.{AnswersLines}
use Rattle.text_replies.specs.Unended.{unended, most_held, IsHeld, AnswersBytes}
use Rattle.text_replies.proofs.LinesOfText.{ended_lines-append, ended_lines-none, ended_lines-line, unended-more, unended-line}
use Rattle.text_replies.proofs.Held.{held-more}
use Rattle.text_replies.proofs.Answered.{answered-refused, answered-stopped, answered-then, answered-cut}

-- what is held once more bytes of the line came
held-now : (line more held now : List ℕ) → IsHeld line held → now ≡ held ++ take (most_held - length held) more → IsHeld (line ++ more) now
held-now line more held now is e =
    let P : List ℕ → Type 0 = λ h. now ≡ h ++ take (most_held - length h) more in
    let so : now ≡ take most_held line ++ take (most_held - length (take most_held line)) more = subst P is e in
    so ∙ held-more most_held line more

-- bytes without a newline were held
pub taken-more : (c : Collection) (read more held now : List ℕ) (start out : SinkState) →
    AnswersBytes c read held start out (Ok tt) → All (λ b. b ≢ newline) more → now ≡ held ++ take (most_held - length held) more →
    AnswersBytes c (read ++ more) now start out (Ok tt)
taken-more c read more held now start out h none e =
    let P : List (List ℕ) → Type 0 = λ lines. AnswersLines c lines start out (Ok tt) in
    let Q : List ℕ → Type 0 = λ line. IsHeld line now in
    record {
      lines = subst P (sym (ended_lines-none read more none)) h.lines;
      last = subst Q (sym (unended-more read more none)) (held-now (unended read) more held now h.last e);
    }

-- the last bytes of a line were held, and then what was held was answered
pub taken-line : (c : Collection) (read more held whole now : List ℕ) (start mid out : SinkState) (r : Result (Unit {0}) IoFail) →
    AnswersBytes c read held start mid (Ok tt) → All (λ b. b ≢ newline) more → whole ≡ held ++ take (most_held - length held) more →
    AnswersLines c (whole ∷ []) mid out r → OnOk r (now ≡ []) →
    AnswersBytes c (read ++ (more ++ newline ∷ [])) now start out r
taken-line c read more held whole now start mid out r h none e answered cleared =
    let P : List (List ℕ) → Type 0 = λ lines. AnswersLines c lines start out r in
    let Q : List ℕ → Type 0 = λ line. IsHeld line now in
    let R : List ℕ → Type 0 = λ line. AnswersLines c (line ∷ []) mid out r in
    let line : List ℕ = unended read ++ more in
    let this : AnswersLines c (line ∷ []) mid out r = answered-cut c most_held line mid out r (lit< tt) (subst R (held-now (unended read) more held whole h.last e) answered) in
    record {
      lines = subst P (sym (ended_lines-line read more none)) (answered-then c (ended_lines read) (line ∷ []) start mid out r h.lines this);
      last = on_ok_weaker r (λ e. subst Q (sym (unended-line read more none)) e) cleared;
    }

-- memory was refused before more bytes were worked on
pub taken-refused : (c : Collection) (read more held now : List ℕ) (start out : SinkState) →
    AnswersBytes c read held start out (Ok tt) → AnswersBytes c (read ++ more) now start out (Err NoMemory)
taken-refused c read more held now start out h =
    let P : List (List ℕ) → Type 0 = λ lines. AnswersLines c lines start out (Err NoMemory) in
    let rest : List (List ℕ) = ended_lines (unended read ++ more) in
    record {
      lines = subst P (sym (ended_lines-append read more)) (answered-then c (ended_lines read) rest start out out (Err NoMemory) h.lines (answered-refused c rest out));
      last = tt;
    }

-- out refused before more bytes were worked on
pub taken-stopped : (c : Collection) (read more held now : List ℕ) (start out : SinkState) (e : IoFail) →
    AnswersBytes c read held start out (Err e) → AnswersBytes c (read ++ more) now start out (Err e)
taken-stopped c read more held now start out e h =
    let P : List (List ℕ) → Type 0 = λ lines. AnswersLines c lines start out (Err e) in
    record {
      lines = subst P (sym (ended_lines-append read more)) (answered-stopped c (ended_lines read) (ended_lines (unended read ++ more)) start out e h.lines);
      last = tt;
    }

-- the bytes behind the last newline of a piece were held, or memory for them was refused
pub taken-rest : (c : Collection) (read more held now : List ℕ) (start out : SinkState) (r : Result (Unit {0}) IoFail) →
    AnswersBytes c read held start out (Ok tt) → All (λ b. b ≢ newline) more →
    MatchResult r (λ _. now ≡ held ++ take (most_held - length held) more) (λ fail. fail ≡ NoMemory) →
    AnswersBytes c (read ++ more) now start out r
taken-rest c read more held now start out (Ok u) h none e = taken-more c read more held now start out h none e
taken-rest c read more held now start out (Err fail) h none e =
    let P : IoFail → Type 0 = λ fail. AnswersBytes c (read ++ more) now start out (Err fail) in
    subst P (sym e) (taken-refused c read more held now start out h)
