use Rattle.std.proofs.Common.{inl, inr, ◌≡◌, refl, sym, ◌∙◌, ap, subst, ℕ, ◌<◌, ◌≤◌, ◌+◌, ◌-◌, List, [], ◌++◌, append_assoc, length, take, drop, Vec, arith}
use Rattle.std.specs.Prelude.{Result, Ok, Err, MatchResult}
use Rattle.std.specs.Result.{IsErrAnd}
use Rattle.std.specs.declared.alloc.Global.{Global}
use Rattle.std.proofs.lemmas.Result.{err_from_is_err_and}
use Rattle.std.proofs.Math.Seq.{take-append-add}
use Rattle.std.proofs.lemmas.List.{take_at, take-take, take-append-drop, length-append}
use Rattle.collection_model.specs.Collection.{Collection}
use Rattle.io_traits.specs.declared.fail.IoFail.{IoFail}
use Rattle.io_traits.specs.declared.fail.IoFail.TheVariants as io_fail
use Rattle.io_traits.specs.Calls.{Rose}
use Rattle.io_traits.specs.SourceState.{SourceState, Reads}
use Rattle.io_traits.specs.SinkState.{SinkState}
use Rattle.query_text.specs.Lines.{text_lines, ended_lines}
use Rattle.text_replies.specs.declared.text.RunFault.{RunFault}
use Rattle.text_replies.specs.declared.text.RunFault.TheVariants.{TooLarge, NoMemory}
use Rattle.command_model.specs.GotReplies.{GotReplies, GotPrefixOfReplies}
use Rattle.text_replies.specs.Unended.{unended, AnswersBytes}
use Rattle.text_replies.specs.AnswerText.{AnswersText}
use Rattle.text_replies.specs.AnswersEnded.{HasRead, AnswersEnded}
use Rattle.text_replies.specs.Faults.{input_fault, out_fault}
use Rattle.text_replies.proofs.LinesOfText.{text_lines-append}
use Rattle.text_replies.proofs.Answered.{prefix-whole, prefix-more, answered-refused}

-- ---- reading

pub read-more : (bytes before after : List ℕ) (n : ℕ) (start old new : SourceState) → HasRead bytes start old → Reads old new before after (Ok n) →
    HasRead (bytes ++ take n after) start new
read-more bytes before after n start old new h r = record {
  tells = r.tells ∙ h.tells;
  told = λ t. h.told t ∙ ap (λ xs. bytes ++ xs) (r.next_bytes (h.tells ∙ t)) ∙ sym (append_assoc bytes (take n after) new.left);
  faults = r.faults.same_at_ok refl ∙ h.faults;
}

-- ---- prefixes of the replies to a whole text

prefix-of-text : (c : Collection) (bytes left text : List ℕ) (old new : SinkState) → text ≡ bytes ++ left →
    GotPrefixOfReplies c (ended_lines bytes) old new → GotPrefixOfReplies c (text_lines text) old new
prefix-of-text c bytes left text old new e got =
    let P : List (List ℕ) → Type 0 = λ lines. GotPrefixOfReplies c lines old new in
    subst P (sym (text_lines-append bytes left) ∙ ap text_lines (sym e)) (prefix-more c (ended_lines bytes) (text_lines (unended bytes ++ left)) old new got)

-- the same of the text up to a limit that lies behind these bytes
prefix-within : (c : Collection) (limit : ℕ) (bytes left text : List ℕ) (old new : SinkState) → text ≡ bytes ++ left → length bytes ≤ limit →
    GotPrefixOfReplies c (ended_lines bytes) old new → GotPrefixOfReplies c (text_lines (take limit text)) old new
prefix-within c limit bytes left text old new e within got =
    let is : limit ≡ length bytes + (limit - length bytes) = omega arith in
    prefix-of-text c bytes (take (limit - length bytes) left) (take limit text) old new
    (ap (take limit) e ∙ ap (λ n. take n (bytes ++ left)) is ∙ take-append-add bytes left (limit - length bytes)) got

-- ---- what a text that is not answered whole leaves

-- a read failed
pub read-failed : (c : Collection) (limit : ℕ) (bytes held before after : List ℕ) (in0 in1 in2 : SourceState) (out0 out : SinkState) (fail : IoFail) →
    HasRead bytes in0 in1 → length bytes ≤ limit → AnswersBytes c bytes held out0 out (Ok tt) → Reads in1 in2 before after (Err fail) →
    AnswersText c limit in0 in2 out0 out (Err (input_fault fail))
read-failed c limit bytes held before after in0 in1 in2 out0 out io_fail.Failed h within a r = record {
  all = λ t. tt;
  to_end = λ t. tt;
  read = λ t e. (bytes, h.told t.input ∙ ap (λ xs. bytes ++ xs) (sym (r.unchanged (h.tells ∙ t.input))), within, a.lines.all t.out);
  read_only_where_it_rose = λ e. let P : ℕ → Type 0 = λ n. Rose n in2.faults in subst P h.faults (r.faults.failed_only_where_it_rose refl);
  write = λ t e. cc;
  write_only_where_it_rose = λ e. cc;
  too_large = λ t e. cc;
  longer = λ t e. cc;
  no_memory = λ t e. cc;
  taken = λ t. (bytes, h.told t ∙ ap (λ xs. bytes ++ xs) (sym (r.unchanged (h.tells ∙ t))));
  limited = λ t. prefix-within c limit bytes in1.left in0.left out0 out (h.told t.input) within (prefix-whole c _ out0 out (a.lines.all t.out));
  input_tells = r.tells ∙ h.tells;
  out_tells = a.lines.tells;
  input_count = inl refl;
  out_count = inr (a.lines.faults.same_at_ok refl);
  counts_never_fall = (omega (arith, r.faults.never_falls, h.faults), a.lines.faults.never_falls, a.lines.refusals);
}
read-failed c limit bytes held before after in0 in1 in2 out0 out io_fail.NoMemory h within a r = record {
  all = λ t. tt;
  to_end = λ t. tt;
  read = λ t e. cc;
  read_only_where_it_rose = λ e. cc;
  write = λ t e. cc;
  write_only_where_it_rose = λ e. cc;
  too_large = λ t e. cc;
  longer = λ t e. cc;
  no_memory = λ t e. prefix-of-text c bytes in1.left in0.left out0 out (h.told t.input) (prefix-whole c _ out0 out (a.lines.all t.out));
  taken = λ t. (bytes, h.told t ∙ ap (λ xs. bytes ++ xs) (sym (r.unchanged (h.tells ∙ t))));
  limited = λ t. prefix-within c limit bytes in1.left in0.left out0 out (h.told t.input) within (prefix-whole c _ out0 out (a.lines.all t.out));
  input_tells = r.tells ∙ h.tells;
  out_tells = a.lines.tells;
  input_count = inr (r.faults.same_at_no_memory refl ∙ h.faults);
  out_count = inr (a.lines.faults.same_at_ok refl);
  counts_never_fall = (omega (arith, r.faults.never_falls, h.faults), a.lines.faults.never_falls, a.lines.refusals);
}

-- out refused, or memory was refused, before all lines that end in these bytes were answered
pub out-refused : (c : Collection) (limit : ℕ) (bytes more held : List ℕ) (in0 in1 : SourceState) (out0 out : SinkState) (fail : IoFail) →
    HasRead (bytes ++ more) in0 in1 → length bytes ≤ limit → AnswersBytes c bytes held out0 out (Err fail) →
    AnswersText c limit in0 in1 out0 out (Err (out_fault fail))
out-refused c limit bytes more held in0 in1 out0 out io_fail.Failed h within a = record {
  all = λ t. tt;
  to_end = λ t. tt;
  read = λ t e. cc;
  read_only_where_it_rose = λ e. cc;
  write = λ t e. prefix-of-text c bytes (more ++ in1.left) in0.left out0 out (h.told t.input ∙ append_assoc bytes more in1.left) (a.lines.prefix t.out);
  write_only_where_it_rose = λ e. a.lines.faults.failed_only_where_it_rose refl;
  too_large = λ t e. cc;
  longer = λ t e. cc;
  no_memory = λ t e. cc;
  taken = λ t. (bytes ++ more, h.told t);
  limited = λ t. prefix-within c limit bytes (more ++ in1.left) in0.left out0 out (h.told t.input ∙ append_assoc bytes more in1.left) within (a.lines.prefix t.out);
  input_tells = h.tells;
  out_tells = a.lines.tells;
  input_count = inr h.faults;
  out_count = inl refl;
  counts_never_fall = (omega (arith, h.faults), a.lines.faults.never_falls, a.lines.refusals);
}
out-refused c limit bytes more held in0 in1 out0 out io_fail.NoMemory h within a = record {
  all = λ t. tt;
  to_end = λ t. tt;
  read = λ t e. cc;
  read_only_where_it_rose = λ e. cc;
  write = λ t e. cc;
  write_only_where_it_rose = λ e. cc;
  too_large = λ t e. cc;
  longer = λ t e. cc;
  no_memory = λ t e. prefix-of-text c bytes (more ++ in1.left) in0.left out0 out (h.told t.input ∙ append_assoc bytes more in1.left) (a.lines.prefix t.out);
  taken = λ t. (bytes ++ more, h.told t);
  limited = λ t. prefix-within c limit bytes (more ++ in1.left) in0.left out0 out (h.told t.input ∙ append_assoc bytes more in1.left) within (a.lines.prefix t.out);
  input_tells = h.tells;
  out_tells = a.lines.tells;
  input_count = inr h.faults;
  out_count = inr (a.lines.faults.same_at_no_memory refl);
  counts_never_fall = (omega (arith, h.faults), a.lines.faults.never_falls, a.lines.refusals);
}

-- more came than the limit, and the lines that ended within it are answered
pub too-long : (c : Collection) (limit : ℕ) (bytes more held : List ℕ) (in0 in1 : SourceState) (out0 out : SinkState) →
    HasRead (bytes ++ more) in0 in1 → length bytes ≡ limit → 0 < length more → AnswersBytes c bytes held out0 out (Ok tt) →
    AnswersText c limit in0 in1 out0 out (Err TooLarge)
too-long c limit bytes more held in0 in1 out0 out h at some a =
    let P : List ℕ → Type 0 = λ text. GotReplies c (ended_lines text) out0 out in
    record {
      all = λ t. tt;
      to_end = λ t. tt;
      read = λ t e. cc;
      read_only_where_it_rose = λ e. cc;
      write = λ t e. cc;
      write_only_where_it_rose = λ e. cc;
      too_large = λ t e. subst P (sym (ap (take limit) (h.told t.input ∙ append_assoc bytes more in1.left) ∙ take_at bytes (more ++ in1.left) limit at)) (a.lines.all t.out);
      longer = λ t e. (bytes ++ more, h.told t, omega (arith, length-append bytes more));
      no_memory = λ t e. cc;
      taken = λ t. (bytes ++ more, h.told t);
      limited = λ t. prefix-within c limit bytes (more ++ in1.left) in0.left out0 out (h.told t.input ∙ append_assoc bytes more in1.left) (omega (arith, at)) (prefix-whole c _ out0 out (a.lines.all t.out));
      input_tells = h.tells;
      out_tells = a.lines.tells;
      input_count = inr h.faults;
      out_count = inr (a.lines.faults.same_at_ok refl);
      counts_never_fall = (omega (arith, h.faults), a.lines.faults.never_falls, a.lines.refusals);
    }

-- a refusal of the pieces is that of the text
pub stopped : (c : Collection) (limit : ℕ) (in0 in1 : SourceState) (out0 out : SinkState) (fault : RunFault) (result : Result (Vec ℕ Global) RunFault) →
    result ≡ Err fault → AnswersText c limit in0 in1 out0 out (Err fault) → AnswersEnded c limit in0 in1 out0 out result
stopped c limit in0 in1 out0 out fault result e a =
    let P : Result (Vec ℕ Global) RunFault → Type 0 = λ r. AnswersEnded c limit in0 in1 out0 out r in
    subst P (sym e) (record { ended = tt; stopped = a })

-- ---- a piece of which a prefix is worked on

pub split-read : (bytes buf : List ℕ) (within n : ℕ) → within ≤ n → (bytes ++ take within buf) ++ drop within (take n buf) ≡ bytes ++ take n buf
split-read bytes buf within n le =
    append_assoc bytes (take within buf) (drop within (take n buf))
    ∙ ap (λ xs. bytes ++ xs) (ap (λ xs. xs ++ drop within (take n buf)) (sym (take-take within n buf le)) ∙ take-append-drop within (take n buf))

-- ---- `map_err`

fail-not-ok : {T E : Type 0} (e : E) (x : T) (r : Result T E) → r ≡ Err e → r ≡ Ok x → ⊥
fail-not-ok e x r p q = cc

same-ok : {T E : Type 0} (x y : T) (r : Result T E) → r ≡ Ok x → r ≡ Ok y → x ≡ y
same-ok x y r p q = cc

same-err : {T E : Type 0} (x y : E) (r : Result T E) → r ≡ Err x → r ≡ Err y → x ≡ y
same-err x y r p q = cc

pub mapped-ok : {T E D : Type 0} (r : Result T E) (to : Result T D) (P : E → D → Type 0) (x : T) →
    MatchResult r (λ x. to ≡ Ok x) (λ e. IsErrAnd to (P e)) → to ≡ Ok x → r ≡ Ok x
mapped-ok (Ok y) to P x h e = ap Ok (same-ok y x to h e)
mapped-ok (Err y) to P x h e = let p = err_from_is_err_and to h in absurd (fail-not-ok p.0 x to p.1 e)

pub mapped-err : {T E D : Type 0} (r : Result T E) (to : Result T D) (P : E → D → Type 0) (d : D) →
    MatchResult r (λ x. to ≡ Ok x) (λ e. IsErrAnd to (P e)) → to ≡ Err d → (e : E) × (r ≡ Err e) × P e d
mapped-err (Ok y) to P d h e = absurd (fail-not-ok d y to e h)
mapped-err (Err y) to P d h e = let p = err_from_is_err_and to h in (y, refl, subst (P y) (same-err p.0 d to p.1 e) p.2)

-- memory was refused before anything was called
pub unbegun : (c : Collection) (limit : ℕ) (input : SourceState) (out : SinkState) → AnswersText c limit input input out out (Err NoMemory)
unbegun c limit input out =
    out-refused c limit [] [] [] input input out out io_fail.NoMemory (record { tells = refl; told = λ t. refl; faults = refl }) (omega arith)
    (record { lines = answered-refused c (ended_lines []) out; last = tt })
