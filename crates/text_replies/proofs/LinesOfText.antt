use Rattle.std.proofs.Common.{◌≡◌, ◌≢◌, refl, sym, ◌∙◌, ap, subst, ℕ, Bool, true, false, eqb, List, [], ◌∷◌, ◌++◌, append_assoc, append-nil}
use Rattle.std.specs.List.{All}
use Rattle.std.proofs.lemmas.Bool.{eqb-false, eq-eqb, ne_eqb}
use Rattle.std.proofs.lemmas.List.Elements.{All-nil, All-cons, All-head, All-tail, All-append}
use Rattle.query_text.specs.Lines.{before_pieces, pieces, all_but_last, last_if_any, newline, ended_lines, text_lines}
use Rattle.text_replies.specs.Unended.{last_piece, unended}

-- there is always a piece
first-piece : (t : Bool) (b : ℕ) (ps : List (List ℕ)) → (p : List ℕ) × (qs : List (List ℕ)) × (before_pieces t b ps ≡ p ∷ qs)
first-piece true b ps = ([], ps, refl)
first-piece false b [] = (b ∷ [], [], refl)
first-piece false b (p ∷ ps) = (b ∷ p, ps, refl)

some-piece : (c : ℕ) (a : List ℕ) → (p : List ℕ) × (qs : List (List ℕ)) × (pieces c a ≡ p ∷ qs)
some-piece c [] = ([], [], refl)
some-piece c (b ∷ a) = first-piece (eqb b c) b (pieces c a)

-- a byte before pieces of which the last goes on
before-append : (t : Bool) (c b : ℕ) (ps : List (List ℕ)) (p : List ℕ) (more : List ℕ) → eqb b c ≡ t →
    before_pieces t b (all_but_last (p ∷ ps) ++ pieces c (last_piece (p ∷ ps) ++ more))
    ≡ all_but_last (before_pieces t b (p ∷ ps)) ++ pieces c (last_piece (before_pieces t b (p ∷ ps)) ++ more)
before-append true c b ps p more e = refl
before-append false c b [] p more e = ap (λ t. before_pieces t b (pieces c (p ++ more))) (sym e)
before-append false c b (q ∷ ps) p more e = refl

before-append-from : (c b : ℕ) (more : List ℕ) (ps whole : List (List ℕ)) → (p : List ℕ) × (qs : List (List ℕ)) × (ps ≡ p ∷ qs) →
    whole ≡ all_but_last ps ++ pieces c (last_piece ps ++ more) →
    before_pieces (eqb b c) b whole ≡ all_but_last (before_pieces (eqb b c) b ps) ++ pieces c (last_piece (before_pieces (eqb b c) b ps) ++ more)
before-append-from c b more ps whole (p, qs, e) h = rw (h, e) (before-append (eqb b c) c b qs p more refl)

-- The last piece of a text goes on in the first of what follows.
pieces-append : (c : ℕ) (a more : List ℕ) → pieces c (a ++ more) ≡ all_but_last (pieces c a) ++ pieces c (last_piece (pieces c a) ++ more)
pieces-append c [] more = refl
pieces-append c (b ∷ a) more = before-append-from c b more (pieces c a) (pieces c (a ++ more)) (some-piece c a) (pieces-append c a more)

-- the pieces of bytes that are none of them c
pieces-none : (c : ℕ) (u : List ℕ) → All (λ b. b ≢ c) u → pieces c u ≡ u ∷ []
pieces-none c [] none = refl
pieces-none c (b ∷ u) none =
    rw (ne_eqb b c (All-head (λ b. b ≢ c) b u none), pieces-none c u (All-tail (λ b. b ≢ c) b u none)) refl

-- the pieces where such bytes end with c
pieces-ended : (c : ℕ) (u v : List ℕ) → All (λ b. b ≢ c) u → pieces c (u ++ c ∷ v) ≡ u ∷ pieces c v
pieces-ended c [] v none = rw (eq-eqb c c refl) refl
pieces-ended c (b ∷ u) v none =
    rw (ne_eqb b c (All-head (λ b. b ≢ c) b u none), pieces-ended c u v (All-tail (λ b. b ≢ c) b u none)) refl

before-none : (t : Bool) (c b : ℕ) (p : List ℕ) (ps : List (List ℕ)) → eqb b c ≡ t →
    All (λ b. b ≢ c) (last_piece (p ∷ ps)) → All (λ b. b ≢ c) (last_piece (before_pieces t b (p ∷ ps)))
before-none true c b p ps e none = none
before-none false c b p [] e none = All-cons (λ b. b ≢ c) b p (eqb-false b c e) none
before-none false c b p (q ∷ ps) e none = none

before-none-from : (c b : ℕ) (ps : List (List ℕ)) → (p : List ℕ) × (qs : List (List ℕ)) × (ps ≡ p ∷ qs) →
    All (λ b. b ≢ c) (last_piece ps) → All (λ b. b ≢ c) (last_piece (before_pieces (eqb b c) b ps))
before-none-from c b ps (p, qs, e) none =
    let P : List (List ℕ) → Type 0 = λ ps. All (λ b. b ≢ c) (last_piece ps) → All (λ b. b ≢ c) (last_piece (before_pieces (eqb b c) b ps)) in
    subst P (sym e) (before-none (eqb b c) c b p qs refl) none

-- no byte of the last piece is c
last-none : (c : ℕ) (a : List ℕ) → All (λ b. b ≢ c) (last_piece (pieces c a))
last-none c [] = All-nil (λ b. b ≢ c)
last-none c (b ∷ a) = before-none-from c b (pieces c a) (some-piece c a) (last-none c a)

all_but_last-append : (xs : List (List ℕ)) (p : List ℕ) (ps : List (List ℕ)) → all_but_last (xs ++ p ∷ ps) ≡ xs ++ all_but_last (p ∷ ps)
all_but_last-append [] p ps = refl
all_but_last-append (x ∷ []) p ps = refl
all_but_last-append (x ∷ y ∷ xs) p ps = ap (λ zs. x ∷ zs) (all_but_last-append (y ∷ xs) p ps)

last_piece-append : (xs : List (List ℕ)) (p : List ℕ) (ps : List (List ℕ)) → last_piece (xs ++ p ∷ ps) ≡ last_piece (p ∷ ps)
last_piece-append [] p ps = refl
last_piece-append (x ∷ []) p ps = refl
last_piece-append (x ∷ y ∷ xs) p ps = last_piece-append (y ∷ xs) p ps

last_if_any-append : (xs : List (List ℕ)) (p : List ℕ) (ps : List (List ℕ)) → last_if_any (xs ++ p ∷ ps) ≡ last_if_any (p ∷ ps)
last_if_any-append [] p ps = refl
last_if_any-append ([] ∷ []) p ps = refl
last_if_any-append ((b ∷ bs) ∷ []) p ps = refl
last_if_any-append ([] ∷ y ∷ xs) p ps = last_if_any-append (y ∷ xs) p ps
last_if_any-append ((b ∷ bs) ∷ y ∷ xs) p ps = last_if_any-append (y ∷ xs) p ps

-- what goes on behind a text: the lines that end, the bytes behind the last newline, and all lines
ended-from : (xs ps : List (List ℕ)) → (p : List ℕ) × (qs : List (List ℕ)) × (ps ≡ p ∷ qs) → all_but_last (xs ++ ps) ≡ xs ++ all_but_last ps
ended-from xs ps (p, qs, e) = rw e (all_but_last-append xs p qs)

unended-from : (xs ps : List (List ℕ)) → (p : List ℕ) × (qs : List (List ℕ)) × (ps ≡ p ∷ qs) → last_piece (xs ++ ps) ≡ last_piece ps
unended-from xs ps (p, qs, e) = rw e (last_piece-append xs p qs)

if_any-from : (xs ps : List (List ℕ)) → (p : List ℕ) × (qs : List (List ℕ)) × (ps ≡ p ∷ qs) → last_if_any (xs ++ ps) ≡ last_if_any ps
if_any-from xs ps (p, qs, e) = rw e (last_if_any-append xs p qs)

pub ended_lines-append : (a b : List ℕ) → ended_lines (a ++ b) ≡ ended_lines a ++ ended_lines (unended a ++ b)
ended_lines-append a b =
    ap all_but_last (pieces-append newline a b) ∙ ended-from (ended_lines a) (pieces newline (unended a ++ b)) (some-piece newline (unended a ++ b))

pub unended-append : (a b : List ℕ) → unended (a ++ b) ≡ unended (unended a ++ b)
unended-append a b =
    ap last_piece (pieces-append newline a b) ∙ unended-from (ended_lines a) (pieces newline (unended a ++ b)) (some-piece newline (unended a ++ b))

last-append : (a b : List ℕ) → last_if_any (pieces newline (a ++ b)) ≡ last_if_any (pieces newline (unended a ++ b))
last-append a b =
    ap last_if_any (pieces-append newline a b) ∙ if_any-from (ended_lines a) (pieces newline (unended a ++ b)) (some-piece newline (unended a ++ b))

pub text_lines-append : (a b : List ℕ) → text_lines (a ++ b) ≡ ended_lines a ++ text_lines (unended a ++ b)
text_lines-append a b =
    ap (λ xs. xs ++ last_if_any (pieces newline (a ++ b))) (ended_lines-append a b)
    ∙ ap (λ xs. (ended_lines a ++ ended_lines (unended a ++ b)) ++ xs) (last-append a b)
    ∙ append_assoc (ended_lines a) (ended_lines (unended a ++ b)) (last_if_any (pieces newline (unended a ++ b)))

-- no byte behind the last newline is a newline
pub unended-none : (a : List ℕ) → All (λ b. b ≢ newline) (unended a)
unended-none a = last-none newline a

-- bytes without a newline end no line, and go on in the line that is not ended
pub ended_lines-none : (a u : List ℕ) → All (λ b. b ≢ newline) u → ended_lines (a ++ u) ≡ ended_lines a
ended_lines-none a u none =
    ended_lines-append a u
    ∙ ap (λ ps. ended_lines a ++ all_but_last ps) (pieces-none newline (unended a ++ u) (All-append (λ b. b ≢ newline) (unended a) u (unended-none a) none))
    ∙ append-nil (ended_lines a)

pub unended-more : (a u : List ℕ) → All (λ b. b ≢ newline) u → unended (a ++ u) ≡ unended a ++ u
unended-more a u none =
    unended-append a u
    ∙ ap last_piece (pieces-none newline (unended a ++ u) (All-append (λ b. b ≢ newline) (unended a) u (unended-none a) none))

-- such bytes with a newline behind them end the line
pieces-line : (a u : List ℕ) → All (λ b. b ≢ newline) u → pieces newline (unended a ++ (u ++ newline ∷ [])) ≡ (unended a ++ u) ∷ [] ∷ []
pieces-line a u none =
    ap (pieces newline) (sym (append_assoc (unended a) u (newline ∷ [])))
    ∙ pieces-ended newline (unended a ++ u) [] (All-append (λ b. b ≢ newline) (unended a) u (unended-none a) none)

pub ended_lines-line : (a u : List ℕ) → All (λ b. b ≢ newline) u → ended_lines (a ++ (u ++ newline ∷ [])) ≡ ended_lines a ++ (unended a ++ u) ∷ []
ended_lines-line a u none =
    ended_lines-append a (u ++ newline ∷ []) ∙ ap (λ ps. ended_lines a ++ all_but_last ps) (pieces-line a u none)

pub unended-line : (a u : List ℕ) → All (λ b. b ≢ newline) u → unended (a ++ (u ++ newline ∷ [])) ≡ []
unended-line a u none = unended-append a (u ++ newline ∷ []) ∙ ap last_piece (pieces-line a u none)

-- all lines of a text are those that ended, and what is behind the last newline where that is anything
split-before : (t : Bool) (b : ℕ) (p : List ℕ) (ps : List (List ℕ)) → last_if_any (p ∷ ps) ≡ last_if_any (last_piece (p ∷ ps) ∷ []) →
    last_if_any (before_pieces t b (p ∷ ps)) ≡ last_if_any (last_piece (before_pieces t b (p ∷ ps)) ∷ [])
split-before true b p ps h = h
split-before false b p [] h = refl
split-before false b [] (q ∷ ps) h = h
split-before false b (x ∷ p) (q ∷ ps) h = h

split-from : (t : Bool) (b : ℕ) (ps : List (List ℕ)) → (p : List ℕ) × (qs : List (List ℕ)) × (ps ≡ p ∷ qs) → last_if_any ps ≡ last_if_any (last_piece ps ∷ []) →
    last_if_any (before_pieces t b ps) ≡ last_if_any (last_piece (before_pieces t b ps) ∷ [])
split-from t b ps (p, qs, e) h =
    let P : List (List ℕ) → Type 0 = λ ps. last_if_any ps ≡ last_if_any (last_piece ps ∷ []) → last_if_any (before_pieces t b ps) ≡ last_if_any (last_piece (before_pieces t b ps) ∷ []) in
    subst P (sym e) (split-before t b p qs) h

last-is : (a : List ℕ) → last_if_any (pieces newline a) ≡ last_if_any (unended a ∷ [])
last-is [] = refl
last-is (b ∷ a) = split-from (eqb b newline) b (pieces newline a) (some-piece newline a) (last-is a)

pub text_lines-is : (a : List ℕ) → text_lines a ≡ ended_lines a ++ last_if_any (unended a ∷ [])
text_lines-is a = ap (λ xs. ended_lines a ++ xs) (last-is a)
