use Rattle.std.proofs.Common.{◌≡◌, sym, ◌∙◌, ap, subst, refl, inl, inr, ℕ, ◌+◌, ◌*◌, ◌%◌, ◌^◌, ◌<◌, ◌≤◌, ◌⊎◌, ◌++◌, Bool, true, false, List, [], ◌∷◌, get_or, slice_index, take, drop, length, arith}
use Rattle.std.specs.List.{All, Contains}
use Rattle.std.proofs.lemmas.List.{length-append, length-take, take_at}
use Rattle.std.proofs.lemmas.Result.{err_from_is_err_and}
use Rattle.collection_model.specs.Bytes.{word_bytes}
use Rattle.command_model.proofs.WordBytes.{word_bytes-length}
use Rattle.index_file.specs.Builder.{most_words}
use Rattle.word_files.specs.LoadWords.{BeginWithOne}
use Rattle.word_files.specs.ReadWords.{HasWords}
use Rattle.word_files.proofs.LoadedWords.{more-words, all-words, piece-too_large, words-refused, prefix-kept, first-begins, begins-more}
use Rattle.word_files.proofs.loading.read_file.Given as given
use Rattle.word_files.proofs.loading.read_file.Goals as goal
use Rattle.word_files.proofs.loading.read_file.Goals.{After-deref, After-words_fit, After-len-then-not-is_opening}

-- so many words more than there were, of a piece of the file
grown : (words more piece : List ℕ) (count : ℕ) → count ≤ length piece → word_bytes more ≡ word_bytes words ++ take count piece → 8 * length more ≡ 8 * length words + count
grown words more piece count within are =
    let sides = ap length are ∙ length-append (word_bytes words) (take count piece) in
    omega (arith, sides, word_bytes-length more, word_bytes-length words, length-take count piece)

-- what is lent of the room is the piece that was filled
lent-is : (g : given.Over) (c : After-deref g) → c.deref.result.now ≡ c.fill_piece.new.piece
lent-is g c =
    let piece : List ℕ = c.fill_piece.new.piece in
    c.deref.ensures.value
    ∙ take_at piece (drop (length piece) c.loop-words.piece.items) c.loop-words.piece.len (omega (arith, c.in_ok-count.ensures.room, ap length c.as_mut_slice.ensures.value, c.loop-words.piece.ok.0))

-- it has room for whole words
whole : (g : given.Over) (c : After-deref g) → length c.fill_piece.new.piece ≡ 8192
whole g c = omega (arith, c.in_ok-count.ensures.room, ap length c.as_mut_slice.ensures.value, c.loop-words.invariant.room)

same-first : (words : List ℕ) (word : ℕ) → 0 < length words → word ≡ get_or words 0 word → word ≡ slice_index words 0
same-first [] word some e = absurd (omega (arith, some))
same-first (x ∷ words) word some e = e

never : (b : Bool) → b ≡ true → b ≡ false → ⊥
never b is isnt = let e : ◌≡◌ {A = Bool} true false = sym is ∙ isnt in cc

-- the words that were read, with those of the piece
added : (g : given.Over) (c : After-words_fit g) → word_bytes c.add_words.new.words.items ≡ word_bytes c.loop-words.words.items ++ take c.in_ok-count.count c.fill_piece.new.piece
added g c = c.in_ok-add_words.ensures.added ∙ ap (λ xs. word_bytes c.loop-words.words.items ++ take c.in_ok-count.count xs) (lent-is g (goal.at.After-words_fit g c).After-deref)

more-are : (g : given.Over) (c : After-words_fit g) → 8 * length c.add_words.new.words.items ≡ 8 * length c.loop-words.words.items + c.in_ok-count.count
more-are g c = grown c.loop-words.words.items c.add_words.new.words.items c.fill_piece.new.piece c.in_ok-count.count c.in_ok-count.ensures.filled.within (added g c)

are-few : (g : given.Over) (c : After-words_fit g) → length c.add_words.new.words.items ≤ most_words
are-few g c = omega (arith, more-are g c, c.if-len-count-gt-LONGEST_FILE.false, c.len.ensures, c.loop-words.words.ok.0)

have-words : (g : given.Over) (c : After-words_fit g) → HasWords c.args.slot (g.D.Depot.state c.args.depot.now) (g.D.Depot.state c.fill_piece.new.depot) c.add_words.new.words.items
have-words g c = more-words c.args.slot (g.D.Depot.state c.args.depot.now) (g.D.Depot.state c.loop-words.depot) (g.D.Depot.state c.fill_piece.new.depot) c.loop-words.words.items c.add_words.new.words.items c.fill_piece.new.piece c.in_ok-count.count c.loop-words.invariant.read c.in_ok-count.ensures.filled (added g c)

fit-words : (g : given.Over) (c : After-words_fit g) → All (λ w. w < 2 ^ 64) c.add_words.new.words.items
fit-words g c = let P : List ℕ → Type 0 = λ ws. All (λ w. w < 2 ^ 64) ws in subst P c.deref-in-loop-words.ensures.value c.words_fit.ensures

count-is : (g : given.Over) (c : After-len-then-not-is_opening g) → length c.add_words.new.words.items ≡ c.len-then-not-is_opening.result
count-is g c = omega (arith, c.len-then-not-is_opening.ensures, c.add_words.new.words.ok.0)

pub returns-then-len-count-gt-LONGEST_FILE-clause-reads : goal.returns-then-len-count-gt-LONGEST_FILE-clause-reads
returns-then-len-count-gt-LONGEST_FILE-clause-reads g c =
    piece-too_large c.args.slot (g.D.Depot.state c.args.depot.now) (g.D.Depot.state c.loop-words.depot) (g.D.Depot.state c.fill_piece.new.depot) c.loop-words.words.items c.fill_piece.new.piece c.in_ok-count.count
    c.loop-words.invariant.read c.in_ok-count.ensures.filled (omega (arith, c.if-len-count-gt-LONGEST_FILE.true, c.len.ensures, c.loop-words.words.ok.0))

pub returns-in_err-add_words-clause-reads : goal.returns-in_err-add_words-clause-reads
returns-in_err-add_words-clause-reads g c =
    let p = err_from_is_err_and c.from_residual-in_err-add_words.result c.from_residual-in_err-add_words.ensures.1 in
    let count = c.in_ok-count.count in
    let lent = c.deref.result.now in
    let at = (goal.at.returns-in_err-add_words-clause-reads g c).After-deref in
    let all : length (take count lent) ≡ count = omega (arith, length-take count lent, ap length (lent-is g at), c.in_ok-count.ensures.filled.within) in
    rw (p.1, p.2) (words-refused c.args.slot (g.D.Depot.state c.args.depot.now) (g.D.Depot.state c.loop-words.depot) (g.D.Depot.state c.fill_piece.new.depot) c.loop-words.words.items c.fill_piece.new.piece count c.in_err-add_words.field-0.0
    c.loop-words.invariant.read c.in_ok-count.ensures.filled (ap (λ n. n % 8) (whole g at)) (omega (arith, c.if-len-count-gt-LONGEST_FILE.false, c.len.ensures, c.loop-words.words.ok.0))
    (λ is even. c.in_err-add_words.ensures.ragged is (ap (λ n. n % 8) all ∙ even)))

pub returns-then-count-lt-PIECE_BYTES-clause-reads : goal.returns-then-count-lt-PIECE_BYTES-clause-reads
returns-then-count-lt-PIECE_BYTES-clause-reads g c = (
  c.add_words.new.words.items,
  inl refl,
  fit-words g (goal.at.returns-then-count-lt-PIECE_BYTES-clause-reads g c).After-words_fit,
  all-words c.args.slot (g.D.Depot.state c.args.depot.now) (g.D.Depot.state c.loop-words.depot) (g.D.Depot.state c.fill_piece.new.depot) c.loop-words.words.items c.add_words.new.words.items c.fill_piece.new.piece c.in_ok-count.count c.loop-words.invariant.read c.in_ok-count.ensures.filled (added g (goal.at.returns-then-count-lt-PIECE_BYTES-clause-reads g c).After-words_fit)
      (omega (arith, whole g (goal.at.returns-then-count-lt-PIECE_BYTES-clause-reads g c).After-deref, c.if-count-lt-PIECE_BYTES.true)) (are-few g (goal.at.returns-then-count-lt-PIECE_BYTES-clause-reads g c).After-words_fit),
)

pub pass_rest-requires-clause-few : goal.pass_rest-requires-clause-few
pass_rest-requires-clause-few g c = omega (arith, more-are g (goal.at.pass_rest-requires-clause-few g c).After-words_fit, c.if-len-count-gt-LONGEST_FILE.false, c.len.ensures, c.loop-words.words.ok.0, c.len-then-not-is_opening.ensures, c.add_words.new.words.ok.0)

pub returns-in_err-pass_rest-clause-reads : goal.returns-in_err-pass_rest-clause-reads
returns-in_err-pass_rest-clause-reads g c =
    let q = err_from_is_err_and c.from_residual-in_err-pass_rest.result c.from_residual-in_err-pass_rest.ensures.1 in
    rw (q.1, q.2) (c.in_err-pass_rest.ensures (g.D.Depot.state c.args.depot.now) c.add_words.new.words.items (count-is g (goal.at.returns-in_err-pass_rest-clause-reads g c).After-len-then-not-is_opening) (have-words g (goal.at.returns-in_err-pass_rest-clause-reads g c).After-words_fit))

pub returns-then-not-is_opening-clause-reads : goal.returns-then-not-is_opening-clause-reads
returns-then-not-is_opening-clause-reads g c =
    let many : 6 ≤ length c.add_words.new.words.items = omega (arith, more-are g (goal.at.returns-then-not-is_opening-clause-reads g c).After-words_fit, c.if-count-lt-PIECE_BYTES.false) in
    let contains : ℕ → Type 0 = λ w. Contains c.args.openings.now w in
    prefix-kept c.args.openings.now c.args.slot (g.D.Depot.state c.args.depot.now) (g.D.Depot.state c.pass_rest.new.depot) c.add_words.new.words.items
    (c.in_ok-pass_rest.ensures (g.D.Depot.state c.args.depot.now) c.add_words.new.words.items (count-is g (goal.at.returns-then-not-is_opening-clause-reads g c).After-len-then-not-is_opening) (have-words g (goal.at.returns-then-not-is_opening-clause-reads g c).After-words_fit))
    (fit-words g (goal.at.returns-then-not-is_opening-clause-reads g c).After-words_fit) many
    (λ has. never c.is_opening.result (c.is_opening.ensures.1 (subst contains (sym (same-first c.add_words.new.words.items c.index.result.now (omega (arith, many)) c.index.ensures)) has)) c.if-not-is_opening.true)

pub loop-words-smaller : goal.loop-words-smaller
loop-words-smaller g c = omega (arith, more-are g (goal.at.loop-words-smaller g c).After-words_fit, c.if-len-count-gt-LONGEST_FILE.false, c.len.ensures, c.loop-words.words.ok.0, c.if-count-lt-PIECE_BYTES.false)

pub loop-words-preserved : goal.loop-words-preserved
loop-words-preserved g c =
    let at = (goal.at.loop-words-preserved g c).After-deref in
    record {
      room = ap length (sym c.deref.ensures.value ∙ lent-is g at) ∙ whole g at;
      few = omega (arith, more-are g (goal.at.loop-words-preserved g c).After-words_fit, c.if-len-count-gt-LONGEST_FILE.false, c.len.ensures, c.loop-words.words.ok.0);
      read = have-words g (goal.at.loop-words-preserved g c).After-words_fit;
      begun =
          let some : 0 < length c.add_words.new.words.items = omega (arith, more-are g (goal.at.loop-words-preserved g c).After-words_fit, c.if-count-lt-PIECE_BYTES.false) in
          inr (first-begins c.args.openings.now c.add_words.new.words.items c.index.result.now some (same-first c.add_words.new.words.items c.index.result.now some c.index.ensures) (c.is_opening.ensures.0 c.if-not-is_opening.false));
    }

-- what is kept of a file is a piece, or begins with an opening word
few-words : (g : given.Over) (c : After-words_fit g) → (length c.add_words.new.words.items ≤ 1024) ⊎ BeginWithOne c.args.openings.now c.add_words.new.words.items
few-words g c =
    elim c.loop-words.invariant.begun [
      | inl none ↦ inl (omega (arith, more-are g c, none, c.in_ok-count.ensures.filled.within, whole g (goal.at.After-words_fit g c).After-deref))
      | inr begun ↦ inr (begins-more c.args.openings.now c.loop-words.words.items c.add_words.new.words.items _ (added g c) begun)
    ]

pub returns-then-count-lt-PIECE_BYTES-clause-few : goal.returns-then-count-lt-PIECE_BYTES-clause-few
returns-then-count-lt-PIECE_BYTES-clause-few g c = few-words g (goal.at.returns-then-count-lt-PIECE_BYTES-clause-few g c).After-words_fit

pub returns-then-not-is_opening-clause-few : goal.returns-then-not-is_opening-clause-few
returns-then-not-is_opening-clause-few g c = few-words g (goal.at.returns-then-not-is_opening-clause-few g c).After-words_fit

-- what is kept was read first
pub returns-then-count-lt-PIECE_BYTES-clause-first : goal.returns-then-count-lt-PIECE_BYTES-clause-first
returns-then-count-lt-PIECE_BYTES-clause-first g c tells =
    let at = (goal.at.returns-then-count-lt-PIECE_BYTES-clause-first g c).After-words_fit in
    (_, (have-words g at).prefix tells)

pub returns-then-not-is_opening-clause-first : goal.returns-then-not-is_opening-clause-first
returns-then-not-is_opening-clause-first g c tells =
    let at = (goal.at.returns-then-not-is_opening-clause-first g c).After-words_fit in
    (_, (have-words g at).prefix tells)
