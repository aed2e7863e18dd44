use Rattle.std.proofs.Common.{◌≡◌, sym, ap, ◌∙◌, ℕ, ◌+◌, ◌*◌, ◌<◌, ◌≤◌, List, map, take, drop, length, get_or, arith, rules, tests}
use Rattle.std.proofs.lemmas.List.Elements.{All-set, All-take, All-drop}
use Rattle.std.proofs.lemmas.List.Sums.{sum_by_more, sum_by-drop_more, sum_by-take-drop}
use Rattle.collection_model.specs.Collection.{Posting}
use Rattle.scan_plans.specs.Matches.{freq_of_doc}
use Rattle.scan_plans.specs.Scan.{HasPassed}
use Rattle.topk_pruning.specs.declared.term.Term.{Term}
use Rattle.topk_pruning.specs.Terms.{share, score_in, bounds, AreTermsIn}
use Rattle.topk_pruning.proofs.Moves.{lists-set, list-read, term-inside}
use Rattle.topk_pruning.proofs.Scores.{shares-within, beats-lower}
use Rattle.topk_pruning.proofs.Windows.{no_term, before-set}
use Rattle.topk_pruning.proofs.candidates.score_above.Given as given
use Rattle.topk_pruning.proofs.candidates.score_above.Goals as goal
use Rattle.topk_pruning.proofs.candidates.score_above.Goals.{After-probe-score}

-- the score so far and the bounds left are within what is known and the bounds together
fits-so_far : (lists : List (List Posting)) (terms : List Term) (doc i known score left : ℕ) → AreTermsIn lists doc (doc + 1) terms → score ≡ known + score_in lists doc (take i terms) → left ≡ bounds (drop i terms) → score + left ≤ known + bounds terms
fits-so_far lists terms doc i known score left are so_far rest =
    let first = shares-within lists doc (take i terms) (All-take (λ (t : Term). share lists doc t ≤ t.bound) i terms (are.bounded doc (omega arith) (omega arith))) in
    let whole = sum_by-take-drop (λ (t : Term). t.bound) terms i in
    omega arith

-- and the whole score is within them
score-within : (lists : List (List Posting)) (terms : List Term) (doc i known score left : ℕ) → AreTermsIn lists doc (doc + 1) terms → score ≡ known + score_in lists doc (take i terms) → left ≡ bounds (drop i terms) → known + score_in lists doc terms ≤ score + left
score-within lists terms doc i known score left are so_far rest =
    let last = shares-within lists doc (drop i terms) (All-drop (λ (t : Term). share lists doc t ≤ t.bound) i terms (are.bounded doc (omega arith) (omega arith))) in
    let whole = sum_by-take-drop (share lists doc) terms i in
    omega arith

pub overflow_add-score : goal.overflow_add-score
overflow_add-score g c =
    omega (arith, c.requires.asked.light, c.requires.asked.bound, fits-so_far (map g.C.DocCursor.list c.args.cursors.now) c.args.others.now c.args.candidate.doc c.loop-term.term-index c.args.candidate.known c.loop-term.score c.loop-term.left c.requires.asked.terms_in c.loop-term.invariant.so_far c.loop-term.invariant.left)

-- it is given up: the bounds left cannot lift it
pub returns-then-not-is_above-clause-dropped : goal.returns-then-not-is_above-clause-dropped
returns-then-not-is_above-clause-dropped g c =
    let lists : List (List Posting) = map g.C.DocCursor.list c.args.cursors.now in
    beats-lower c.args.bar (c.args.candidate.known + score_in lists c.args.candidate.doc c.args.others.now) (c.loop-term.score + c.loop-term.left)
    (score-within lists c.args.others.now c.args.candidate.doc c.loop-term.term-index c.args.candidate.known c.loop-term.score c.loop-term.left c.requires.asked.terms_in c.loop-term.invariant.so_far c.loop-term.invariant.left)
    (sym c.is_above.ensures ∙ search (c.if-not-is_above.true, rules, tests))

-- the list of the next term is that of a cursor
inside : (g : given.Over) (c : After-probe-score g) → (get_or c.args.others.now c.loop-term.term-index no_term).list < length c.loop-term.cursors
inside g c = term-inside g.C.DocCursor.list g.C.DocCursor.place c.loop-term.cursors (map g.C.DocCursor.list c.args.cursors.now) c.args.others.now c.loop-term.term-index no_term c.loop-term.invariant.lists c.requires.asked.terms_in.within c.loop-term-test.true

-- and what was added is its share
value : (g : given.Over) (c : After-probe-score g) → c.probe-score.result ≡ share (map g.C.DocCursor.list c.args.cursors.now) c.args.candidate.doc (get_or c.args.others.now c.loop-term.term-index no_term)
value g c =
    let t : Term = get_or c.args.others.now c.loop-term.term-index no_term in
    c.probe-score.ensures.value
    ∙ ap (λ (l : List Posting). t.weight * freq_of_doc c.args.candidate.doc l) (list-read g.C.DocCursor.list g.C.DocCursor.place c.loop-term.cursors (map g.C.DocCursor.list c.args.cursors.now) t.list c.index-cursors-term.result c.loop-term.invariant.lists (inside g c))

pub overflow_add-score-in-loop-term : goal.overflow_add-score-in-loop-term
overflow_add-score-in-loop-term g c =
    let le = c.requires.asked.terms_in.bounded c.args.candidate.doc (omega arith) (omega arith) c.loop-term.term-index no_term c.loop-term-test.true in
    let left = sum_by-drop_more (λ (t : Term). t.bound) c.args.others.now c.loop-term.term-index no_term c.loop-term-test.true in
    let fits = fits-so_far (map g.C.DocCursor.list c.args.cursors.now) c.args.others.now c.args.candidate.doc c.loop-term.term-index c.args.candidate.known c.loop-term.score c.loop-term.left c.requires.asked.terms_in c.loop-term.invariant.so_far c.loop-term.invariant.left in
    omega (arith, c.requires.asked.light, c.requires.asked.bound, fits, left, le, value g (goal.at.overflow_add-score-in-loop-term g c).After-probe-score, c.loop-term.invariant.left)

pub loop-term-preserved : goal.loop-term-preserved
loop-term-preserved g c =
    let list = g.C.DocCursor.list in
    let place = g.C.DocCursor.place in
    let terms : List Term = c.args.others.now in
    let cs = c.loop-term.cursors in
    let i : ℕ = c.loop-term.term-index in
    let t : Term = get_or terms i no_term in
    let within = inside g (goal.at.loop-term-preserved g c).After-probe-score in
    let new = c.probe-score.new.cursor in
    let more = sum_by_more (share (map list c.args.cursors.now) c.args.candidate.doc) terms i no_term c.loop-term-test.true in
    let less = sum_by-drop_more (λ (t : Term). t.bound) terms i no_term c.loop-term-test.true in
    record {
      lists = lists-set list place cs t.list new c.index-cursors-term.result within c.probe-score.ensures.list ∙ c.loop-term.invariant.lists;
      before = before-set list place c.args.candidate.doc terms cs t.list new within (record { passed = c.probe-score.ensures.stand.passed }) c.loop-term.invariant.before;
      passed = λ e le all. All-set (λ x. HasPassed e (list x) (place x)) cs t.list new (record { passed = λ j lt. let h = c.probe-score.ensures.stand.passed j lt in omega arith }) (c.loop-term.invariant.passed e le all);
      so_far = omega (arith, value g (goal.at.loop-term-preserved g c).After-probe-score, more, c.loop-term.invariant.so_far);
      left = omega (arith, less, c.loop-term.invariant.left);
    }
