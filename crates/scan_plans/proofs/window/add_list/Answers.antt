use Rattle.std.proofs.Common.{◌≡◌, refl, sym, ap, ◌∙◌, subst, ℕ, ◌+◌, ◌*◌, ◌<◌, ◌≤◌, ◌||◌, true, false, List, length, get_or, slice_index, arith}
use Rattle.collection_model.specs.Collection.{Posting, docs_of, freqs_of}
use Rattle.collection_model.specs.NextBelow.{AreNextBelow}
use Rattle.cursor_api.specs.NextGeq.{IsCursorAt}
use Rattle.scan_plans.specs.Matches.{has_doc, freq_of_doc}
use Rattle.scan_plans.specs.Scan.{StandsFrom}
use Rattle.scan_plans.specs.Window.{AreGiven, is_marked}
use Rattle.scan_plans.proofs.Postings.{has-no-freq}
use Rattle.scan_plans.proofs.Given.{plus-none, or-none, doc-there, most-freq, given-none, given-whole, given-behind, block-some, step-given, step-below, step-within, step-room, next-is, end-is}
use Rattle.scan_plans.proofs.window.add_list.Given as given
use Rattle.scan_plans.proofs.window.add_list.Goals as goal
use Rattle.scan_plans.proofs.window.add_list.Goals.{After-postings_below-count}

-- what the scores of a window were given once the cursor is behind it
given-scores : (list : List Posting) (weight first from place : ℕ) (old now : List ℕ) → IsCursorAt list place → StandsFrom first list from → StandsFrom (first + length old) list place → AreGiven ◌+◌ first (docs_of list) (λ i. weight * slice_index (freqs_of list) i) from place (slice_index old) (slice_index now)
    → (k : ℕ) → k < length old → get_or now k 0 ≡ get_or old k 0 + weight * freq_of_doc (first + k) list
given-scores list weight first from place old now good before after given =
    let none : weight * 0 ≡ 0 = omega arith in
    given-whole ◌+◌ first 0 plus-none list (λ i. weight * slice_index (freqs_of list) i) (λ d. weight * freq_of_doc d list) from place (length old) (slice_index old) (slice_index now) good.within before after
    (λ i within. ap (λ (f : ℕ). weight * f) (doc-there list i good.well_formed within).freq)
    (λ d nowhere. ap (λ (f : ℕ). weight * f) (has-no-freq list d nowhere) ∙ none) given

pub loop-reached-init : goal.loop-reached-init
loop-reached-init g c = record {
  list = refl;
  from = omega arith;
  count = refl;
  given = given-none ◌+◌ c.args.window.first (docs_of (g.C.DocCursor.list c.args.cursor.now)) (λ i. c.args.weight * slice_index (freqs_of (g.C.DocCursor.list c.args.cursor.now)) i) (g.C.DocCursor.place c.args.cursor.now) (slice_index c.args.window.scores.now);
  marks_count = refl;
  marked = given-none ◌||◌ c.args.window.first (docs_of (g.C.DocCursor.list c.args.cursor.now)) (λ _. true) (g.C.DocCursor.place c.args.cursor.now) (is_marked c.args.window.marks.now);
  within = omega arith;
  below = λ i from lt. absurd (omega arith);
}

-- the documents that were read are the next of the list
next-read : (g : given.Over) (c : After-postings_below-count g) → AreNextBelow (docs_of (g.C.DocCursor.list c.args.cursor.now)) (g.C.DocCursor.place c.loop-reached.cursor) (c.args.window.first + length c.args.window.scores.now) c.postings_below-count.new.docs c.postings_below-count.result
next-read g c =
    next-is (g.C.DocCursor.list c.args.cursor.now) (g.C.DocCursor.list c.loop-reached.cursor) c.args.window.first c.from.result (length c.args.window.scores.now) (g.C.DocCursor.place c.loop-reached.cursor) c.postings_below-count.new.docs c.postings_below-count.result
    c.loop-reached.invariant.list c.from.ensures c.postings_below-count.ensures.docs

-- and the frequencies are theirs
freqs-read : (g : given.Over) (c : After-postings_below-count g) → (j : ℕ) → j < c.postings_below-count.result → get_or c.postings_below-count.new.freqs j 0 ≡ get_or (freqs_of (g.C.DocCursor.list c.args.cursor.now)) (g.C.DocCursor.place c.loop-reached.cursor + j) 0
freqs-read g c j lt = c.postings_below-count.ensures.freqs j lt ∙ ap (λ (l : List Posting). get_or (freqs_of l) (g.C.DocCursor.place c.loop-reached.cursor + j) 0) c.loop-reached.invariant.list

-- from where the cursor stands on no document is before the window
above : (g : given.Over) (c : After-postings_below-count g) → (i : ℕ) → g.C.DocCursor.place c.loop-reached.cursor ≤ i → i < length (g.C.DocCursor.list c.args.cursor.now) → c.args.window.first ≤ get_or (docs_of (g.C.DocCursor.list c.args.cursor.now)) i 0
above g c i from within = c.requires.stand.left i (omega (arith, c.loop-reached.invariant.from)) within

pub add_postings-requires-clause-room : goal.add_postings-requires-clause-room
add_postings-requires-clause-room g c =
    step-room (g.C.DocCursor.list c.args.cursor.now) (g.met.C.DocCursor.well_formed c.args.cursor.now).well_formed c.args.window.first (g.C.DocCursor.place c.loop-reached.cursor) (length c.args.window.scores.now)
    (above g (goal.at.add_postings-requires-clause-room g c).After-postings_below-count) c.postings_below-count.new.docs c.postings_below-count.result (next-read g (goal.at.add_postings-requires-clause-room g c).After-postings_below-count)
    c.args.weight (g.C.DocCursor.place c.args.cursor.now) (λ i. c.args.weight * slice_index (freqs_of (g.C.DocCursor.list c.args.cursor.now)) i) c.args.window.scores.now c.loop-reached.scores c.postings_below-count.new.freqs refl c.loop-reached.invariant.given c.requires.room
    (freqs-read g (goal.at.add_postings-requires-clause-room g c).After-postings_below-count)

pub loop-reached-preserved : goal.loop-reached-preserved
loop-reached-preserved g c =
    let so_far = c.loop-reached.invariant in
    let list : List Posting = g.C.DocCursor.list c.args.cursor.now in
    let place : ℕ = g.C.DocCursor.place c.loop-reached.cursor in
    let block : List ℕ = c.postings_below-count.new.docs in
    let count : ℕ = c.postings_below-count.result in
    let good = (g.met.C.DocCursor.well_formed c.args.cursor.now).well_formed in
    let next = next-read g (goal.at.loop-reached-preserved g c).After-postings_below-count in
    let before = above g (goal.at.loop-reached-preserved g c).After-postings_below-count in
    let start = so_far.from in
    let here = c.loop-reached-test.ensures.below refl in
    let at = here.0 in
    let less = here.1 in
    let end = c.from.ensures in
    let long = ap length so_far.list in
    let read = ap (λ (l : List Posting). get_or (docs_of l) place 0) so_far.list in
    let room = c.postings_below-count.ensures.docs_room in
    let some = block-some list good c.args.window.first place (length c.args.window.scores.now) before block count next (omega arith) (omega arith) (omega arith) in
    let moved = c.postings_below-count.ensures.place in
    let later = c.from-in-loop-reached.ensures in
    record {
      list = c.postings_below-count.ensures.list ∙ so_far.list;
      from = omega arith;
      count = c.add_postings.ensures.count ∙ so_far.count;
      given = subst (λ (to : ℕ). AreGiven ◌+◌ c.args.window.first (docs_of list) (λ i. c.args.weight * slice_index (freqs_of list) i) (g.C.DocCursor.place c.args.cursor.now) to (slice_index c.args.window.scores.now) (slice_index c.add_postings.new.window.0)) (sym moved)
          (step-given list good c.args.window.first place (length c.args.window.scores.now) before block count next ◌+◌ (λ i. c.args.weight * slice_index (freqs_of list) i) (λ j. c.args.weight * slice_index c.postings_below-count.new.freqs j) (g.C.DocCursor.place c.args.cursor.now) (slice_index c.args.window.scores.now) (slice_index c.loop-reached.scores) (slice_index c.add_postings.new.window.0) start c.requires.stand.left
          (λ j lt. ap (λ (f : ℕ). c.args.weight * f) (freqs-read g (goal.at.loop-reached-preserved g c).After-postings_below-count j lt)) so_far.given c.add_postings.ensures.given);
      marks_count = c.add_postings.ensures.marks_count ∙ so_far.marks_count;
      marked = subst (λ (to : ℕ). AreGiven ◌||◌ c.args.window.first (docs_of list) (λ _. true) (g.C.DocCursor.place c.args.cursor.now) to (is_marked c.args.window.marks.now) (is_marked c.add_postings.new.window.1.0)) (sym moved)
          (step-given list good c.args.window.first place (length c.args.window.scores.now) before block count next ◌||◌ (λ _. true) (λ _. true) (g.C.DocCursor.place c.args.cursor.now) (is_marked c.args.window.marks.now) (is_marked c.loop-reached.marks) (is_marked c.add_postings.new.window.1.0) start c.requires.stand.left
          (λ j lt. refl) so_far.marked c.add_postings.ensures.marked);
      within = (let w = step-within list good c.args.window.first place (length c.args.window.scores.now) before block count next some in omega arith);
      below = λ i f lt. (let b = step-below list good c.args.window.first place (length c.args.window.scores.now) before block count next some i (omega arith) in omega arith);
    }

pub returns : goal.returns
returns g c =
    let now = c.loop-reached.invariant in
    let list : List Posting = g.C.DocCursor.list c.args.cursor.now in
    let from : ℕ = g.C.DocCursor.place c.args.cursor.now in
    let place : ℕ = g.C.DocCursor.place c.loop-reached.cursor in
    let n : ℕ = length c.args.window.scores.now in
    let end = end-is list (g.C.DocCursor.list c.loop-reached.cursor) c.args.window.first c.from.result n from place c.loop-reached.reached now.list c.from.ensures (g.met.C.DocCursor.well_formed c.loop-reached.cursor) c.requires.stand now.within now.below (c.loop-reached-test.ensures.behind refl) in
    let scored = given-scores list c.args.weight c.args.window.first from place c.args.window.scores.now c.loop-reached.scores end.0 c.requires.stand end.1 now.given in
    record {
      list = now.list;
      stand = subst (λ (l : List Posting). StandsFrom (c.args.window.first + n) l place) (sym now.list) end.1;
      added = record {
        count = now.count;
        marks_count = now.marks_count;
        scored = scored;
        marked = given-whole ◌||◌ c.args.window.first false or-none list (λ _. true) (λ d. has_doc d list) from place n (is_marked c.args.window.marks.now) (is_marked c.loop-reached.marks) end.0.within c.requires.stand end.1
            (λ i inside. (doc-there list i end.0.well_formed inside).has) (λ d nowhere. nowhere) now.marked;
        bound = λ k inside.
            let is = scored k inside in
            let most = most-freq list c.args.weight (c.args.window.first + k) end.0.well_formed in
            omega arith;
        within = now.within;
        behind = given-behind ◌||◌ c.args.window.first (docs_of list) (λ _. true) from place c.loop-reached.reached (is_marked c.args.window.marks.now) (is_marked c.loop-reached.marks) now.below now.marked;
      };
    }
