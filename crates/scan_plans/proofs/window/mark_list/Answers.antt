use Rattle.std.proofs.Common.{refl, sym, ap, ◌∙◌, subst, ℕ, ◌+◌, ◌*◌, ◌<◌, ◌≤◌, ◌||◌, true, false, List, length, get_or, arith}
use Rattle.collection_model.specs.Collection.{Posting, docs_of}
use Rattle.scan_plans.specs.Matches.{has_doc}
use Rattle.scan_plans.specs.Scan.{StandsFrom}
use Rattle.scan_plans.specs.Window.{AreGiven, is_marked}
use Rattle.scan_plans.proofs.Given.{or-none, doc-there, given-none, given-whole, given-behind, block-some, step-given, step-below, step-within, next-is, end-is}
use Rattle.scan_plans.proofs.window.mark_list.Goals as goal

pub loop-reached-init : goal.loop-reached-init
loop-reached-init g c = record {
  list = refl;
  from = omega arith;
  count = refl;
  given = given-none ◌||◌ c.args.first (docs_of (g.C.DocCursor.list c.args.cursor.now)) (λ _. true) (g.C.DocCursor.place c.args.cursor.now) (is_marked c.args.marks.now);
  within = omega arith;
  below = λ i from lt. absurd (omega arith);
}

pub loop-reached-preserved : goal.loop-reached-preserved
loop-reached-preserved g c =
    let so_far = c.loop-reached.invariant in
    let list : List Posting = g.C.DocCursor.list c.args.cursor.now in
    let place : ℕ = g.C.DocCursor.place c.loop-reached.cursor in
    let block : List ℕ = c.docs_below-count.new.docs in
    let count : ℕ = c.docs_below-count.result in
    let n : ℕ = 64 * length c.args.marks.now in
    let good = (g.met.C.DocCursor.well_formed c.args.cursor.now).well_formed in
    let next = next-is list (g.C.DocCursor.list c.loop-reached.cursor) c.args.first c.from.result n place block count so_far.list c.from.ensures c.docs_below-count.ensures.docs in
    let start = so_far.from in
    let above : (i : ℕ) → place ≤ i → i < length list → c.args.first ≤ get_or (docs_of list) i 0 = λ i f within. c.requires.stand.left i (omega arith) within in
    let here = c.loop-reached-test.ensures.below refl in
    let at = here.0 in
    let less = here.1 in
    let end = c.from.ensures in
    let long = ap length so_far.list in
    let read = ap (λ (l : List Posting). get_or (docs_of l) place 0) so_far.list in
    let room = c.docs_below-count.ensures.room in
    let some = block-some list good c.args.first place n above block count next (omega arith) (omega arith) (omega arith) in
    let moved = c.docs_below-count.ensures.place in
    let later = c.from-in-loop-reached.ensures in
    record {
      list = c.docs_below-count.ensures.list ∙ so_far.list;
      from = omega arith;
      count = c.mark_docs.ensures.count ∙ so_far.count;
      given = subst (λ (to : ℕ). AreGiven ◌||◌ c.args.first (docs_of list) (λ _. true) (g.C.DocCursor.place c.args.cursor.now) to (is_marked c.args.marks.now) (is_marked c.mark_docs.new.marks)) (sym moved)
          (step-given list good c.args.first place n above block count next ◌||◌ (λ _. true) (λ _. true) (g.C.DocCursor.place c.args.cursor.now) (is_marked c.args.marks.now) (is_marked c.loop-reached.marks) (is_marked c.mark_docs.new.marks) start c.requires.stand.left
          (λ j lt. refl) so_far.given c.mark_docs.ensures.given);
      within = (let w = step-within list good c.args.first place n above block count next some in omega arith);
      below = λ i f lt. (let b = step-below list good c.args.first place n above block count next some i (omega arith) in omega arith);
    }

pub returns : goal.returns
returns g c =
    let now = c.loop-reached.invariant in
    let given : List Posting = g.C.DocCursor.list c.args.cursor.now in
    let from : ℕ = g.C.DocCursor.place c.args.cursor.now in
    let to : ℕ = g.C.DocCursor.place c.loop-reached.cursor in
    let end = end-is given (g.C.DocCursor.list c.loop-reached.cursor) c.args.first c.from.result (64 * length c.args.marks.now) from to c.loop-reached.reached now.list c.from.ensures (g.met.C.DocCursor.well_formed c.loop-reached.cursor) c.requires.stand now.within now.below (c.loop-reached-test.ensures.behind refl) in
    record {
      list = now.list;
      stand = subst (λ (l : List Posting). StandsFrom (c.args.first + 64 * length c.args.marks.now) l to) (sym now.list) end.1;
      count = now.count;
      marks = given-whole ◌||◌ c.args.first false or-none given (λ _. true) (λ d. has_doc d given) from to (64 * length c.args.marks.now) (is_marked c.args.marks.now) (is_marked c.loop-reached.marks) end.0.within c.requires.stand end.1
          (λ i inside. (doc-there given i end.0.well_formed inside).has) (λ d nowhere. nowhere) now.given;
      within = now.within;
      behind = λ k reached inside. given-behind ◌||◌ c.args.first (docs_of given) (λ _. true) from to c.loop-reached.reached (is_marked c.args.marks.now) (is_marked c.loop-reached.marks) now.below now.given k reached;
    }
