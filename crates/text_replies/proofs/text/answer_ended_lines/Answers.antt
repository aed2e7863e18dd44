use Rattle.std.proofs.Common.{◌≡◌, refl, sym, ◌∙◌, ap, subst, ℕ, ◌<◌, ◌≤◌, ◌+◌, ◌-◌, List, ◌++◌, length, take, drop, min, arith}
use Rattle.std.specs.Prelude.{Result, Ok, Err}
use Rattle.std.proofs.lemmas.List.{length-append, length-take, length-drop}
use Rattle.std.proofs.lemmas.Result.{err_from_is_err_and}
use Rattle.io_traits.specs.declared.fail.IoFail.{IoFail}
use Rattle.collection_model.specs.Collection.{Collection}
use Rattle.io_traits.specs.SourceState.{SourceState, Reads}
use Rattle.io_traits.specs.SinkState.{SinkState}
use Rattle.text_replies.specs.declared.text.RunFault.TheVariants.{TooLarge}
use Rattle.text_replies.specs.AnswerText.{AnswersText}
use Rattle.text_replies.specs.Faults.{out_fault}
use Rattle.text_replies.specs.AnswersEnded.{HasRead}
use Rattle.text_replies.specs.Unended.{AnswersBytes}
use Rattle.text_replies.proofs.TextEnds.{read-failed, out-refused, too-long, read-more, stopped, split-read, mapped-err, mapped-ok}
use Rattle.text_replies.proofs.text.answer_ended_lines.Given as given
use Rattle.text_replies.proofs.text.answer_ended_lines.Goals as goal
use Rattle.text_replies.proofs.text.answer_ended_lines.Goals.{After-answer_piece}

pub returns-in_err-n : goal.returns-in_err-n
returns-in_err-n g c =
    let p = err_from_is_err_and c.from_residual.result c.from_residual.ensures.1 in
    let a = mapped-err c.read.result c.map_err.result _ c.in_err-n.field-0.0 c.map_err.ensures.cases c.in_err-n.was in
    let P : Result ℕ IoFail → Type 0 = λ r. Reads (g.I.Source.state c.pieces.input) (g.I.Source.state c.read.new.self) c.pieces.piece c.read.new.buf r in
    stopped (g.L.TermLists.collection c.args.lists.now) c.args.limit _ _ _ _ _ c.from_residual.result (p.1 ∙ ap Err (p.2 ∙ a.2))
    (read-failed (g.L.TermLists.collection c.args.lists.now) c.args.limit c.pieces.invariant.0 c.pieces.held.line.items c.pieces.piece c.read.new.buf
    (g.I.Source.state c.args.input.now) (g.I.Source.state c.pieces.input) (g.I.Source.state c.read.new.self) (g.O.Sink.state c.args.out.now) (g.O.Sink.state c.pieces.out) a.0
    c.pieces.invariant.1 (omega (arith, c.pieces.invariant.2)) c.pieces.invariant.3 (subst P a.1 c.read.ensures))

-- out refused within a piece
stopped-within : (c : Collection) (limit : ℕ) (bytes buf held : List ℕ) (within n : ℕ) (in0 in1 : SourceState) (out0 out : SinkState) (fail : IoFail) → within ≤ n → length bytes + within ≤ limit →
    HasRead (bytes ++ take n buf) in0 in1 → AnswersBytes c (bytes ++ take within buf) held out0 out (Err fail) → AnswersText c limit in0 in1 out0 out (Err (out_fault fail))
stopped-within c limit bytes buf held within n in0 in1 out0 out fail le fits h a =
    let P : List ℕ → Type 0 = λ bytes. HasRead bytes in0 in1 in
    out-refused c limit (bytes ++ take within buf) (drop within (take n buf)) held in0 in1 out0 out fail (subst P (sym (split-read bytes buf within n le)) h)
    (omega (arith, length-append bytes (take within buf), length-take within buf)) a

-- more bytes came than the rest of the limit
past-limit : (c : Collection) (limit rest : ℕ) (bytes buf held : List ℕ) (within n : ℕ) (in0 in1 : SourceState) (out0 out : SinkState) →
    length bytes + rest ≡ limit → within ≡ min rest n → within < n → n ≤ length buf →
    HasRead (bytes ++ take n buf) in0 in1 → AnswersBytes c (bytes ++ take within buf) held out0 out (Ok tt) → AnswersText c limit in0 in1 out0 out (Err TooLarge)
past-limit c limit rest bytes buf held within n in0 in1 out0 out so min_is lt le h a =
    let P : List ℕ → Type 0 = λ bytes. HasRead bytes in0 in1 in
    too-long c limit (bytes ++ take within buf) (drop within (take n buf)) held in0 in1 out0 out (subst P (sym (split-read bytes buf within n (omega arith))) h)
    (omega (arith, length-append bytes (take within buf), length-take within buf)) (omega (arith, length-drop within (take n buf), length-take n buf)) a

-- all bytes of a piece were taken
taken-whole : (c : Collection) (limit rest : ℕ) (bytes buf held : List ℕ) (within n : ℕ) (in0 in1 : SourceState) (out0 out : SinkState) →
    length bytes + rest ≡ limit → within ≡ min rest n → n ≤ within → n ≤ length buf →
    HasRead (bytes ++ take n buf) in0 in1 → AnswersBytes c (bytes ++ take within buf) held out0 out (Ok tt) →
    (bytes : List ℕ) × HasRead bytes in0 in1 × (length bytes + (rest - n) ≡ limit) × AnswersBytes c bytes held out0 out (Ok tt)
taken-whole c limit rest bytes buf held within n in0 in1 out0 out so min_is ge le h a =
    let P : ℕ → Type 0 = λ n. AnswersBytes c (bytes ++ take n buf) held out0 out (Ok tt) in
    let same : within ≡ n = omega arith in
    (bytes ++ take n buf, h, omega (arith, length-append bytes (take n buf), length-take n buf), subst P same a)

-- what was read of a piece
piece-read : (g : given.Over) (c : After-answer_piece g) → Reads (g.I.Source.state c.pieces.input) (g.I.Source.state c.read.new.self) c.pieces.piece c.read.new.buf (Ok c.in_ok-n.n)
piece-read g c =
    let P : Result ℕ IoFail → Type 0 = λ r. Reads (g.I.Source.state c.pieces.input) (g.I.Source.state c.read.new.self) c.pieces.piece c.read.new.buf r in
    subst P (mapped-ok c.read.result c.map_err.result _ c.in_ok-n.n c.map_err.ensures.cases c.in_ok-n.was) c.read.ensures

-- with it so many bytes were read
bytes-read : (g : given.Over) (c : After-answer_piece g) → HasRead (c.pieces.invariant.0 ++ take c.in_ok-n.n c.read.new.buf) (g.I.Source.state c.args.input.now) (g.I.Source.state c.read.new.self)
bytes-read g c = read-more c.pieces.invariant.0 c.pieces.piece c.read.new.buf c.in_ok-n.n _ _ _ c.pieces.invariant.1 (piece-read g c)

-- the lines that ended within the limit are answered, as far as out took them
lines-answered : (g : given.Over) (c : After-answer_piece g) (r : Result (Unit {0}) IoFail) → c.answer_piece.result ≡ r
    → AnswersBytes (g.L.TermLists.collection c.args.lists.now) (c.pieces.invariant.0 ++ take c.min-within.result c.read.new.buf) c.answer_piece.new.held.line.items (g.O.Sink.state c.args.out.now) (g.O.Sink.state c.answer_piece.new.out) r
lines-answered g c r is =
    let P : Result (Unit {0}) IoFail → Type 0 = λ r. AnswersBytes (g.L.TermLists.collection c.args.lists.now) (c.pieces.invariant.0 ++ take c.min-within.result c.read.new.buf) c.answer_piece.new.held.line.items
    (g.O.Sink.state c.args.out.now) (g.O.Sink.state c.answer_piece.new.out) r in
    subst P is (c.answer_piece.ensures c.pieces.invariant.0 _ c.pieces.invariant.3)

pub returns-in_err-map_err : goal.returns-in_err-map_err
returns-in_err-map_err g c =
    let at = (goal.at.returns-in_err-map_err g c).After-answer_piece in
    let p = err_from_is_err_and c.from_residual-in_err-map_err.result c.from_residual-in_err-map_err.ensures.1 in
    let a = mapped-err c.answer_piece.result c.map_err-in-pieces.result _ c.in_err-map_err.field-0.0 c.map_err-in-pieces.ensures.cases c.in_err-map_err.was in
    stopped (g.L.TermLists.collection c.args.lists.now) c.args.limit _ _ _ _ _ c.from_residual-in_err-map_err.result (p.1 ∙ ap Err (p.2 ∙ a.2))
    (stopped-within (g.L.TermLists.collection c.args.lists.now) c.args.limit c.pieces.invariant.0 c.read.new.buf c.answer_piece.new.held.line.items c.min-within.result c.in_ok-n.n
    (g.I.Source.state c.args.input.now) (g.I.Source.state c.read.new.self) (g.O.Sink.state c.args.out.now) (g.O.Sink.state c.answer_piece.new.out) a.0
    (omega (arith, c.min-within.ensures)) (omega (arith, c.min-within.ensures, c.pieces.invariant.2)) (bytes-read g at) (lines-answered g at _ a.1))

pub returns-then-within-n : goal.returns-then-within-n
returns-then-within-n g c =
    let at = (goal.at.returns-then-within-n g c).After-answer_piece in
    let o = mapped-ok c.answer_piece.result c.map_err-in-pieces.result _ tt c.map_err-in-pieces.ensures.cases c.in_ok-map_err.was in
    let reads = piece-read g at in
    stopped (g.L.TermLists.collection c.args.lists.now) c.args.limit _ _ _ _ TooLarge _ refl
    (past-limit (g.L.TermLists.collection c.args.lists.now) c.args.limit c.pieces.rest c.pieces.invariant.0 c.read.new.buf c.answer_piece.new.held.line.items c.min-within.result c.in_ok-n.n
    (g.I.Source.state c.args.input.now) (g.I.Source.state c.read.new.self) (g.O.Sink.state c.args.out.now) (g.O.Sink.state c.answer_piece.new.out)
    c.pieces.invariant.2 c.min-within.ensures c.if-within-n.true (omega (arith, reads.within, c.read.auto.buf)) (bytes-read g at) (lines-answered g at _ o))

pub pieces-preserved : goal.pieces-preserved
pieces-preserved g c =
    let at = (goal.at.pieces-preserved g c).After-answer_piece in
    let o = mapped-ok c.answer_piece.result c.map_err-in-pieces.result _ tt c.map_err-in-pieces.ensures.cases c.in_ok-map_err.was in
    let reads = piece-read g at in
    taken-whole (g.L.TermLists.collection c.args.lists.now) c.args.limit c.pieces.rest c.pieces.invariant.0 c.read.new.buf c.answer_piece.new.held.line.items c.min-within.result c.in_ok-n.n
    (g.I.Source.state c.args.input.now) (g.I.Source.state c.read.new.self) (g.O.Sink.state c.args.out.now) (g.O.Sink.state c.answer_piece.new.out)
    c.pieces.invariant.2 c.min-within.ensures c.if-within-n.false (omega (arith, reads.within, c.read.auto.buf)) (bytes-read g at) (lines-answered g at _ o)
