use Rattle.std.proofs.Common.{◌≡◌, ◌∙◌, ap, subst, ℕ, ◌+◌, ◌*◌, ◌%◌, ◌^◌, ◌<◌, ◌≤◌, ◌++◌, List, [], take, length, arith}
use Rattle.std.specs.List.{All}
use Rattle.std.proofs.lemmas.List.{length-take}
use Rattle.std.proofs.lemmas.Result.{err_from_is_err_and}
use Rattle.collection_model.specs.Bytes.{word_bytes}
use Rattle.command_model.proofs.WordBytes.{word_bytes-length}
use Rattle.word_files.proofs.LoadedWords.{HasPassed, passed-more, passed-all, passed-too_large, passed-no_words}
use Rattle.word_files.proofs.loading.pass_rest.Goals as goal

-- the words of a piece of the file are as many as its bytes say
in-piece : (more piece : List ℕ) (count : ℕ) → count ≤ length piece → word_bytes more ≡ take count piece → 8 * length more ≡ count
in-piece more piece count within are =
    let sides = ap length are in
    omega (arith, sides, word_bytes-length more, length-take count piece)

-- words that are put where none are
alone : (old more piece : List ℕ) (count : ℕ) → old ≡ [] → word_bytes more ≡ word_bytes old ++ take count piece → word_bytes more ≡ take count piece
alone old more piece count none added = added ∙ ap (λ xs. word_bytes xs ++ take count piece) none

pub returns-then-passed-count-gt-LONGEST_FILE : goal.returns-then-passed-count-gt-LONGEST_FILE
returns-then-passed-count-gt-LONGEST_FILE g c =
    passed-too_large c.args.slot c.args.held c.loop-words.passed (g.D.Depot.state c.args.depot.now) (g.D.Depot.state c.loop-words.depot) (g.D.Depot.state c.fill_piece.new.depot)
    c.fill_piece.new.piece c.in_ok-count.count c.loop-words.invariant.read c.in_ok-count.ensures.filled (omega (arith, c.if-passed-count-gt-LONGEST_FILE.true))

pub returns-in_err-add_words : goal.returns-in_err-add_words
returns-in_err-add_words g c =
    let p = err_from_is_err_and c.from_residual-in_err-add_words.result c.from_residual-in_err-add_words.ensures.1 in
    let all : length (take c.in_ok-count.count c.fill_piece.new.piece) ≡ c.in_ok-count.count = omega (arith, length-take c.in_ok-count.count c.fill_piece.new.piece, c.in_ok-count.ensures.filled.within) in
    let room : length c.fill_piece.new.piece ≡ 8192 = c.in_ok-count.ensures.room ∙ c.loop-words.invariant.room in
    rw (p.1, p.2) (passed-no_words c.args.slot c.args.held c.loop-words.passed (g.D.Depot.state c.args.depot.now) (g.D.Depot.state c.loop-words.depot) (g.D.Depot.state c.fill_piece.new.depot)
    c.fill_piece.new.piece c.in_ok-count.count c.in_err-add_words.field-0.0 c.loop-words.invariant.read c.in_ok-count.ensures.filled (ap (λ n. n % 8) room) (omega (arith, c.if-passed-count-gt-LONGEST_FILE.false))
    (λ is even. c.in_err-add_words.ensures.ragged is (ap (λ n. n % 8) all ∙ even)))

pub returns-then-count-piece : goal.returns-then-count-piece
returns-then-count-piece g c =
    let are : word_bytes c.add_words.new.words.items ≡ take c.in_ok-count.count c.fill_piece.new.piece = alone c.clear.new.self.items c.add_words.new.words.items c.fill_piece.new.piece c.in_ok-count.count c.clear.ensures.items c.in_ok-add_words.ensures.added in
    let P : List ℕ → Type 0 = λ ws. All (λ w. w < 2 ^ 64) ws in
    passed-all c.args.slot c.args.held c.loop-words.passed (g.D.Depot.state c.args.depot.now) (g.D.Depot.state c.loop-words.depot) (g.D.Depot.state c.fill_piece.new.depot)
    c.add_words.new.words.items c.fill_piece.new.piece c.in_ok-count.count c.loop-words.invariant.read c.in_ok-count.ensures.filled are (subst P c.deref.ensures.value c.words_fit.ensures)
    (omega (arith, c.in_ok-count.ensures.room, c.loop-words.invariant.room, c.if-count-piece.true))
    (omega (arith, in-piece c.add_words.new.words.items c.fill_piece.new.piece c.in_ok-count.count c.in_ok-count.ensures.filled.within are, c.if-passed-count-gt-LONGEST_FILE.false))

pub loop-words-preserved : goal.loop-words-preserved
loop-words-preserved g c =
    let are : word_bytes c.add_words.new.words.items ≡ take c.in_ok-count.count c.fill_piece.new.piece = alone c.clear.new.self.items c.add_words.new.words.items c.fill_piece.new.piece c.in_ok-count.count c.clear.ensures.items c.in_ok-add_words.ensures.added in
    let P : List ℕ → Type 0 = λ ws. All (λ w. w < 2 ^ 64) ws in
    let many : length c.add_words.new.words.items ≡ c.len.result = omega (arith, c.len.ensures, c.add_words.new.words.ok.0) in
    let H : ℕ → Type 0 = λ k. HasPassed c.args.slot c.args.held (c.loop-words.passed + k) (g.D.Depot.state c.args.depot.now) (g.D.Depot.state c.fill_piece.new.depot) in
    record {
      room = c.in_ok-count.ensures.room ∙ c.loop-words.invariant.room;
      few = omega (arith, in-piece c.add_words.new.words.items c.fill_piece.new.piece c.in_ok-count.count c.in_ok-count.ensures.filled.within are, c.if-passed-count-gt-LONGEST_FILE.false, many);
      read = subst H many (passed-more c.args.slot c.args.held c.loop-words.passed (g.D.Depot.state c.args.depot.now) (g.D.Depot.state c.loop-words.depot) (g.D.Depot.state c.fill_piece.new.depot)
          c.add_words.new.words.items c.fill_piece.new.piece c.in_ok-count.count c.loop-words.invariant.read c.in_ok-count.ensures.filled are (subst P c.deref.ensures.value c.words_fit.ensures));
    }
