use Rattle.std.proofs.Common.{inl, inr, Bool, ◌≡◌, refl, sym, ◌∙◌, ap, subst, ℕ, zero, suc, ◌<◌, ◌≤◌, ◌+◌, List, [], ◌∷◌, ◌++◌, append_assoc, append-nil, length, take, min, lit≤, arith}
use Rattle.std.specs.Prelude.{Result, Ok, Err, MatchResult, cond}
use Rattle.std.proofs.lemmas.Bool.{lt-ltb, cases_lt}
use Rattle.std.proofs.lemmas.List.{take_all, take_min, length-take, length-append, take-append-le}
use Rattle.std.proofs.lemmas.Result.{on_ok_weaker, on_err_weaker}
use Rattle.std.proofs.Math.Seq.{take-length, take-append-add}
use Rattle.collection_model.specs.Collection.{Collection}
use Rattle.io_traits.specs.declared.fail.IoFail.{IoFail}
use Rattle.io_traits.specs.declared.fail.IoFail.TheVariants.{Failed, NoMemory}
use Rattle.io_traits.specs.SinkState.{SinkState}
use Rattle.io_traits.specs.Calls.{CountsFaults}
use Rattle.io_traits.specs.Helpers.{WritesAll}
use Rattle.query_text.specs.declared.query.Query.{Query}
use Rattle.query_text.specs.declared.query.Bad.{Bad}
use Rattle.query_text.specs.declared.query.Bad.TheVariants.{Length}
use Rattle.query_text.specs.Lines.{fields}
use Rattle.query_text.specs.Parse.{parse_line, fields_query, longest_line}
use Rattle.query_text.specs.Texts.{bad_text}
use Rattle.command_model.specs.Replies.{IsAnswer, IsReply, AreReplies}
use Rattle.command_model.proofs.RepliesJoined.{replies-append, one-reply}
use Rattle.command_model.specs.GotReplies.{GotReplies, GotPrefixOfReplies}
use Rattle.text_replies.specs.AnswersLines.{AnswersLines}

-- ---- replies

-- a line that is too long breaks the first rule
parse-long : (terms : ℕ) (line : List ℕ) → longest_line < length line → parse_line terms line ≡ Err Length
parse-long terms line far =
    let f : Bool → Result Query Bad = λ t. cond t (Err Length) (fields_query terms (fields line)) in
    ap f (lt-ltb longest_line (length line) far)

-- it does so where it is cut behind the limit
pub parse-cut : (terms m : ℕ) (line : List ℕ) → longest_line < m → parse_line terms (take m line) ≡ parse_line terms line
parse-cut terms m line far =
    elim (cases_lt m (length line)) [
      | inl long ↦ parse-long terms (take m line) (omega (arith, length-take m line)) ∙ sym (parse-long terms line (omega arith))
      | inr short ↦ ap (parse_line terms) (take_all m line short)
    ]

reply-cut : (c : Collection) (m : ℕ) (line text : List ℕ) → longest_line < m → IsReply c (take m line) text → IsReply c line text
reply-cut c m line text far is =
    let P : Result Query Bad → Type 0 = λ r. MatchResult r (λ query. IsAnswer c query text) (λ bad. text ≡ bad_text bad) in
    subst P (parse-cut (length c.lists) m line far) is

first-cut : (c : Collection) (m n : ℕ) (line text : List ℕ) → longest_line < m → AreReplies c (take n (take m line ∷ [])) text → AreReplies c (take n (line ∷ [])) text
first-cut c m zero line text far are = are
first-cut c m (suc n) line text far (first, rest, is, are, e) = (first, rest, reply-cut c m line first far is, are, e)

-- ---- what out got

got-append : (c : Collection) (lines more : List (List ℕ)) (old mid new : SinkState) →
    GotReplies c lines old mid → GotReplies c more mid new → GotReplies c (lines ++ more) old new
got-append c lines more old mid new (text, are, e) (next, so, d) =
    (text ++ next, replies-append c lines more text next are so, d ∙ ap (λ t. t ++ next) e ∙ append_assoc old.written text next)

prefix-append : (c : Collection) (lines more : List (List ℕ)) (old mid new : SinkState) →
    GotReplies c lines old mid → GotPrefixOfReplies c more mid new → GotPrefixOfReplies c (lines ++ more) old new
prefix-append c lines more old mid new (text, are, e) (n, next, so, (k, le, d)) =
    let P : List (List ℕ) → Type 0 = λ ls. AreReplies c ls (text ++ next) in (
      length lines + n,
      text ++ next,
      subst P (sym (take-append-add lines more n)) (replies-append c lines (take n more) text next are so),
      (
        length text + k,
        omega (arith, length-append text next),
        d ∙ ap (λ t. t ++ take k next) e ∙ append_assoc old.written text (take k next) ∙ ap (λ t. old.written ++ t) (sym (take-append-add text next k)),
      ),
    )

pub prefix-more : (c : Collection) (lines more : List (List ℕ)) (old new : SinkState) → GotPrefixOfReplies c lines old new → GotPrefixOfReplies c (lines ++ more) old new
prefix-more c lines more old new (n, text, are, prefix) =
    let P : List (List ℕ) → Type 0 = λ ls. AreReplies c ls text in
    let within : min n (length lines) ≤ length lines = omega arith in (
      min n (length lines),
      text,
      subst P (sym (take-append-le (min n (length lines)) lines more within ∙ take_min n lines)) are,
      prefix,
    )

pub prefix-nothing : (c : Collection) (lines : List (List ℕ)) (old new : SinkState) → new.written ≡ old.written → GotPrefixOfReplies c lines old new
prefix-nothing c lines old new e = (0, [], refl, (0, lit≤ tt, e ∙ sym (append-nil old.written)))

pub prefix-whole : (c : Collection) (lines : List (List ℕ)) (old new : SinkState) → GotReplies c lines old new → GotPrefixOfReplies c lines old new
prefix-whole c lines old new (text, are, e) =
    let P : List (List ℕ) → Type 0 = λ ls. AreReplies c ls text in (
      length lines,
      text,
      subst P (sym (take-length lines)) are,
      (length text, omega arith, e ∙ ap (λ t. old.written ++ t) (sym (take-length text))),
    )

-- ---- lines that are answered

counts-same : (n : ℕ) (r : Result (Unit {0}) IoFail) → ¬ (r ≡ Err Failed) → CountsFaults n n r
counts-same n r not = record {
  never_falls = omega arith;
  failed_only_where_it_rose = λ e. absurd (not e);
  same_at_ok = λ _. refl;
  same_at_no_memory = λ _. refl;
}

abbrev done : Result (Unit {0}) IoFail
done = Ok tt

abbrev refused : Result (Unit {0}) IoFail
refused = Err NoMemory

ok_not_failed : ¬ (done ≡ Err Failed)
ok_not_failed e = cc

no_memory_not_failed : ¬ (refused ≡ Err Failed)
no_memory_not_failed e = cc

pub answered-none : (c : Collection) (s : SinkState) → AnswersLines c [] s s (Ok tt)
answered-none c s = record {
  tells = refl;
  all = λ t. ([], refl, sym (append-nil s.written));
  prefix = λ t. tt;
  faults = counts-same s.faults (Ok tt) ok_not_failed;
  refusals = omega arith;
}

pub answered-refused : (c : Collection) (lines : List (List ℕ)) (s : SinkState) → AnswersLines c lines s s (Err NoMemory)
answered-refused c lines s = record {
  tells = refl;
  all = λ t. tt;
  prefix = λ t. prefix-nothing c lines s s refl;
  faults = counts-same s.faults (Err NoMemory) no_memory_not_failed;
  refusals = omega arith;
}

pub answered-then : (c : Collection) (lines more : List (List ℕ)) (old mid new : SinkState) (r : Result (Unit {0}) IoFail) →
    AnswersLines c lines old mid (Ok tt) → AnswersLines c more mid new r → AnswersLines c (lines ++ more) old new r
answered-then c lines more old mid new r first next =
    let P : ℕ → Type 0 = λ n. CountsFaults n new.faults r in
    record {
      tells = next.tells ∙ first.tells;
      all = λ t. on_ok_weaker r (got-append c lines more old mid new (first.all t)) (next.all (first.tells ∙ t));
      prefix = λ t. on_err_weaker r (prefix-append c lines more old mid new (first.all t)) (next.prefix (first.tells ∙ t));
      faults = subst P (first.faults.same_at_ok refl) next.faults;
      refusals = omega (arith, first.refusals, next.refusals);
    }

pub answered-stopped : (c : Collection) (lines more : List (List ℕ)) (old new : SinkState) (e : IoFail) →
    AnswersLines c lines old new (Err e) → AnswersLines c (lines ++ more) old new (Err e)
answered-stopped c lines more old new e h = record {
  tells = h.tells;
  all = λ t. tt;
  prefix = λ t. prefix-more c lines more old new (h.prefix t);
  faults = h.faults;
  refusals = h.refusals;
}

pub answered-cut : (c : Collection) (m : ℕ) (line : List ℕ) (old new : SinkState) (r : Result (Unit {0}) IoFail) → longest_line < m →
    AnswersLines c (take m line ∷ []) old new r → AnswersLines c (line ∷ []) old new r
answered-cut c m line old new r far h = record {
  tells = h.tells;
  all = λ t. on_ok_weaker r (λ got. (got.0, first-cut c m 1 line got.0 far got.1, got.2)) (h.all t);
  prefix = λ t. on_err_weaker r (λ got. (got.0, got.1, first-cut c m got.0 line got.1 far got.2, got.3)) (h.prefix t);
  faults = h.faults;
  refusals = h.refusals;
}

pub answered-written : (c : Collection) (line text : List ℕ) (old new : SinkState) (r : Result (Unit {0}) IoFail) →
    IsReply c line text → WritesAll old new text r → AnswersLines c (line ∷ []) old new r
answered-written c line text old new r is h = record {
  tells = h.tells;
  all = λ t. on_ok_weaker r (λ e. (text, one-reply c line text is, e)) (h.whole t);
  prefix = λ t. on_err_weaker r (λ prefix. (1, text, one-reply c line text is, prefix)) (h.prefix t);
  faults = h.faults;
  refusals = h.refusals;
}
