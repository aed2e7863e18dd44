use Rattle.std.proofs.Common.{inl, inr, ◌≡◌, ◌≢◌, refl, sym, ◌∙◌, ap, subst, ℕ, zero, suc, ◌<◌, ◌≤◌, List, [], ◌∷◌, ◌++◌, append-nil, length, take, IsTrue, lit<, arith}
use Rattle.std.specs.Prelude.{Result, Ok, Err, MatchResult}
use Rattle.std.specs.Result.{IsErrAnd}
use Rattle.std.proofs.lemmas.Result.{err_from_is_err_and}
use Rattle.std.proofs.lemmas.List.{take_all}
use Rattle.collection_model.specs.Collection.{Collection}
use Rattle.io_traits.specs.declared.fail.IoFail.{IoFail}
use Rattle.io_traits.specs.declared.fail.IoFail.TheVariants as io_fail
use Rattle.io_traits.specs.SourceState.{SourceState}
use Rattle.io_traits.specs.SinkState.{SinkState}
use Rattle.query_text.specs.Lines.{text_lines, ended_lines, last_if_any}
use Rattle.text_replies.specs.declared.text.RunFault.{RunFault}
use Rattle.command_model.specs.GotReplies.{GotReplies, GotPrefixOfReplies}
use Rattle.text_replies.specs.AnswersLines.{AnswersLines}
use Rattle.text_replies.specs.Unended.{unended, most_held}
use Rattle.text_replies.specs.AnswerText.{AnswersText}
use Rattle.text_replies.specs.AnswersEnded.{HasRead, AnswersAllEnded}
use Rattle.text_replies.specs.Faults.{out_fault}
use Rattle.text_replies.proofs.LinesOfText.{text_lines-is}
use Rattle.text_replies.proofs.Answered.{answered-then, answered-cut, prefix-whole}

-- ---- the line that no newline ends

nothing-held : (m : ℕ) (line : List ℕ) → 0 < m → take m line ≡ [] → line ≡ []
nothing-held zero line lt e = absurd (omega arith)
nothing-held (suc m) [] lt e = refl
nothing-held (suc m) (b ∷ line) lt e = cc

some-line : (line : List ℕ) → line ≢ [] → last_if_any (line ∷ []) ≡ line ∷ []
some-line [] some = absurd (some refl)
some-line (b ∷ line) some = refl

-- none is left
all-but-none : (c : Collection) (limit : ℕ) (in0 in1 : SourceState) (out0 out : SinkState) (held : List ℕ) (all : AnswersAllEnded c limit in0 in1 out0 out held) → held ≡ [] →
    AnswersLines c (text_lines all.bytes) out0 out (Ok tt)
all-but-none c limit in0 in1 out0 out held all none =
    let P : List (List ℕ) → Type 0 = λ lines. AnswersLines c lines out0 out (Ok tt) in
    let empty : unended all.bytes ≡ [] = nothing-held most_held (unended all.bytes) (lit< tt) (sym all.answered.last ∙ none) in
    let same : text_lines all.bytes ≡ ended_lines all.bytes =
    text_lines-is all.bytes ∙ ap (λ line. ended_lines all.bytes ++ last_if_any (line ∷ [])) empty ∙ append-nil (ended_lines all.bytes) in
    subst P (sym same) all.answered.lines

-- one is left and answered
all-and-last : (c : Collection) (limit : ℕ) (in0 in1 : SourceState) (out0 mid out : SinkState) (held : List ℕ) (r : Result (Unit {0}) IoFail) (all : AnswersAllEnded c limit in0 in1 out0 mid held) → held ≢ [] →
    AnswersLines c (held ∷ []) mid out r → AnswersLines c (text_lines all.bytes) out0 out r
all-and-last c limit in0 in1 out0 mid out held r all some answered =
    let P : List (List ℕ) → Type 0 = λ lines. AnswersLines c lines out0 out r in
    let Q : List ℕ → Type 0 = λ line. AnswersLines c (line ∷ []) mid out r in
    let line : List ℕ = unended all.bytes in
    let there : line ≢ [] = λ e. some (all.answered.last ∙ ap (take most_held) e) in
    let same : text_lines all.bytes ≡ ended_lines all.bytes ++ line ∷ [] = text_lines-is all.bytes ∙ ap (λ ls. ended_lines all.bytes ++ ls) (some-line line there) in
    subst P (sym same) (answered-then c (ended_lines all.bytes) (line ∷ []) out0 mid out r all.answered.lines
    (answered-cut c most_held line mid out r (lit< tt) (subst Q all.answered.last answered)))

-- ---- the whole text

-- a prefix of the replies to a text that is not longer than the limit
prefix-up-to : (c : Collection) (limit : ℕ) (bytes text : List ℕ) (old new : SinkState) → text ≡ bytes → length bytes ≤ limit →
    GotPrefixOfReplies c (text_lines bytes) old new → GotPrefixOfReplies c (text_lines (take limit text)) old new
prefix-up-to c limit bytes text old new e within got =
    let P : List ℕ → Type 0 = λ bytes. GotPrefixOfReplies c (text_lines bytes) old new in
    subst P (sym (ap (take limit) e ∙ take_all limit bytes within)) got

whole-done : (c : Collection) (limit : ℕ) (bytes : List ℕ) (in0 in1 : SourceState) (out0 out : SinkState) →
    HasRead bytes in0 in1 → (IsTrue in0.tells → in1.left ≡ []) → length bytes ≤ limit → AnswersLines c (text_lines bytes) out0 out (Ok tt) →
    AnswersText c limit in0 in1 out0 out (Ok tt)
whole-done c limit bytes in0 in1 out0 out h to_end within a =
    let P : List ℕ → Type 0 = λ text. GotReplies c (text_lines text) out0 out in
    let text : IsTrue in0.tells → in0.left ≡ bytes = λ t. h.told t ∙ ap (λ xs. bytes ++ xs) (to_end t) ∙ append-nil bytes in
    record {
      all = λ t. subst P (sym (text t.input)) (a.all t.out);
      to_end = λ t. (to_end t, omega (arith, ap length (text t)));
      read = λ t e. cc;
      read_only_where_it_rose = λ e. cc;
      write = λ t e. cc;
      write_only_where_it_rose = λ e. cc;
      too_large = λ t e. cc;
      longer = λ t e. cc;
      no_memory = λ t e. cc;
      taken = λ t. (bytes, h.told t);
      limited = λ t. prefix-up-to c limit bytes in0.left out0 out (text t.input) within (prefix-whole c _ out0 out (a.all t.out));
      input_tells = h.tells;
      out_tells = a.tells;
      input_count = inr h.faults;
      out_count = inr (a.faults.same_at_ok refl);
      counts_never_fall = (omega (arith, h.faults), a.faults.never_falls, a.refusals);
    }

whole-refused : (c : Collection) (limit : ℕ) (bytes : List ℕ) (in0 in1 : SourceState) (out0 out : SinkState) (fail : IoFail) →
    HasRead bytes in0 in1 → (IsTrue in0.tells → in1.left ≡ []) → length bytes ≤ limit → AnswersLines c (text_lines bytes) out0 out (Err fail) →
    AnswersText c limit in0 in1 out0 out (Err (out_fault fail))
whole-refused c limit bytes in0 in1 out0 out io_fail.Failed h to_end within a =
    let P : List ℕ → Type 0 = λ text. GotPrefixOfReplies c (text_lines text) out0 out in
    let text : IsTrue in0.tells → in0.left ≡ bytes = λ t. h.told t ∙ ap (λ xs. bytes ++ xs) (to_end t) ∙ append-nil bytes in
    record {
      all = λ t. tt;
      to_end = λ t. tt;
      read = λ t e. cc;
      read_only_where_it_rose = λ e. cc;
      write = λ t e. subst P (sym (text t.input)) (a.prefix t.out);
      write_only_where_it_rose = λ e. a.faults.failed_only_where_it_rose refl;
      too_large = λ t e. cc;
      longer = λ t e. cc;
      no_memory = λ t e. cc;
      taken = λ t. (bytes, h.told t);
      limited = λ t. prefix-up-to c limit bytes in0.left out0 out (text t.input) within (a.prefix t.out);
      input_tells = h.tells;
      out_tells = a.tells;
      input_count = inr h.faults;
      out_count = inl refl;
      counts_never_fall = (omega (arith, h.faults), a.faults.never_falls, a.refusals);
    }
whole-refused c limit bytes in0 in1 out0 out io_fail.NoMemory h to_end within a =
    let P : List ℕ → Type 0 = λ text. GotPrefixOfReplies c (text_lines text) out0 out in
    let text : IsTrue in0.tells → in0.left ≡ bytes = λ t. h.told t ∙ ap (λ xs. bytes ++ xs) (to_end t) ∙ append-nil bytes in
    record {
      all = λ t. tt;
      to_end = λ t. tt;
      read = λ t e. cc;
      read_only_where_it_rose = λ e. cc;
      write = λ t e. cc;
      write_only_where_it_rose = λ e. cc;
      too_large = λ t e. cc;
      longer = λ t e. cc;
      no_memory = λ t e. subst P (sym (text t.input)) (a.prefix t.out);
      taken = λ t. (bytes, h.told t);
      limited = λ t. prefix-up-to c limit bytes in0.left out0 out (text t.input) within (a.prefix t.out);
      input_tells = h.tells;
      out_tells = a.tells;
      input_count = inr h.faults;
      out_count = inr (a.faults.same_at_no_memory refl);
      counts_never_fall = (omega (arith, h.faults), a.faults.never_falls, a.refusals);
    }

whole-either : (c : Collection) (limit : ℕ) (bytes : List ℕ) (in0 in1 : SourceState) (out0 out : SinkState) (r : Result (Unit {0}) IoFail) (to : Result (Unit {0}) RunFault) →
    HasRead bytes in0 in1 → (IsTrue in0.tells → in1.left ≡ []) → length bytes ≤ limit → AnswersLines c (text_lines bytes) out0 out r →
    MatchResult r (λ x. to ≡ Ok x) (λ e. IsErrAnd to (λ fault. fault ≡ out_fault e)) → AnswersText c limit in0 in1 out0 out to
whole-either c limit bytes in0 in1 out0 out (Ok u) to h to_end within a e =
    let P : Result (Unit {0}) RunFault → Type 0 = λ r. AnswersText c limit in0 in1 out0 out r in
    subst P (sym e) (whole-done c limit bytes in0 in1 out0 out h to_end within a)
whole-either c limit bytes in0 in1 out0 out (Err fail) to h to_end within a e =
    let P : Result (Unit {0}) RunFault → Type 0 = λ r. AnswersText c limit in0 in1 out0 out r in
    let p = err_from_is_err_and to e in
    subst P (sym (p.1 ∙ ap Err p.2)) (whole-refused c limit bytes in0 in1 out0 out fail h to_end within a)

pub without-last : (c : Collection) (limit : ℕ) (in0 in1 : SourceState) (out0 out : SinkState) (held : List ℕ) → AnswersAllEnded c limit in0 in1 out0 out held → held ≡ [] →
    AnswersText c limit in0 in1 out0 out (Ok tt)
without-last c limit in0 in1 out0 out held all none =
    whole-done c limit all.bytes in0 in1 out0 out all.read all.to_end all.within (all-but-none c limit in0 in1 out0 out held all none)

pub with-last : (c : Collection) (limit : ℕ) (in0 in1 : SourceState) (out0 mid out : SinkState) (held : List ℕ) (r : Result (Unit {0}) IoFail) (to : Result (Unit {0}) RunFault) →
    AnswersAllEnded c limit in0 in1 out0 mid held → held ≢ [] → AnswersLines c (held ∷ []) mid out r →
    MatchResult r (λ x. to ≡ Ok x) (λ e. IsErrAnd to (λ fault. fault ≡ out_fault e)) → AnswersText c limit in0 in1 out0 out to
with-last c limit in0 in1 out0 mid out held r to all some answered e =
    whole-either c limit all.bytes in0 in1 out0 out r to all.read all.to_end all.within (all-and-last c limit in0 in1 out0 mid out held r all some answered) e
