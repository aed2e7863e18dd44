use Rattle.std.proofs.Common.{◌≡◌, refl, sym, ap, inl, inr, ◌∙◌, subst, ℕ, ◌+◌, ◌*◌, ◌^◌, ◌<◌, true, false, List, [], length, map, take, slice_index, arith}
use Rattle.std.proofs.lemmas.Bool.{cases_lt, false≢true}
use Rattle.std.specs.List.{All, list_any}
use Rattle.std.proofs.lemmas.List.Elements.{All-nil}
use Rattle.collection_model.specs.Collection.{Posting}
use Rattle.scan_plans.specs.Best.{IsBest}
use Rattle.scan_plans.specs.IsTop.{IsTop}
use Rattle.scan_plans.specs.Matches.{AreBelow, has_doc, in_any}
use Rattle.scan_plans.specs.Ranking.{Gathering, held_of, in_order}
use Rattle.scan_plans.specs.Scan.{StandsFrom}
use Rattle.scan_plans.specs.Window.{AreScored, is_marked}
use Rattle.scan_plans.proofs.Bests.{best-none, best-top, held-all, take-nil}
use Rattle.scan_plans.proofs.Scans.{IsNextDoc, next-doc, no-next-doc, any-bound}
use Rattle.scan_plans.proofs.Steps.{as-many, passing-leaves-less, starts-stand}
use Rattle.scan_plans.proofs.top.score_all.Given as given
use Rattle.scan_plans.proofs.top.score_all.Goals as goal
use Rattle.scan_plans.proofs.top.score_all.Goals.{In-Some}

-- the next document that a list has
next-known : (g : given.Over) (c : In-Some g) → IsNextDoc g.C.DocCursor.list g.C.DocCursor.place g.met.C.DocCursor.well_formed c.loop-first.cursors c.loop-first.invariant.low c.in-Some.first
next-known g c = next-doc g.C.DocCursor.list g.C.DocCursor.place g.met.C.DocCursor.well_formed c.loop-first.cursors c.loop-first.invariant.low c.in-Some.first c.loop-first.invariant.stand (sym c.least_doc.ensures ∙ c.in-Some.is)

-- a number that is not above 0
zero-unless : (n : ℕ) → ¬ (0 < n) → n ≡ 0
zero-unless n not = elim (cases_lt 0 n) as (λ _. n ≡ 0) [ inl some ↦ absurd (not some) | inr none ↦ omega arith ]

pub loop-first-init : goal.loop-first-init
loop-first-init g c =
    let lists : List (List Posting) = map g.C.DocCursor.list c.args.cursors.now in
    let found : c.in_ok-top.top.found ≡ [] = ap (λ (r : Gathering). r.found) c.in_ok-top.ensures in
    let held : held_of c.in_ok-top.top ≡ [] = ap (λ (ps : List (ℕ × ℕ)). take c.in_ok-top.top.k (in_order ps)) found ∙ sym (take-nil c.in_ok-top.top.k) in
    record {
      low = 0;
      lists = refl;
      stand = starts-stand g.C.DocCursor.list g.C.DocCursor.place c.args.cursors.now c.requires.at_start;
      some = let same = ap length c.as_mut_slice-marks.ensures.value in let count = c.in_ok-mark_buffer.ensures.count in let some = c.scored_words-words.ensures.some in omega arith;
      same = let scores = ap length c.as_mut_slice-scores.ensures.value in let marks = ap length c.as_mut_slice-marks.ensures.value in let scored = c.in_ok-score_buffer.ensures.count in let marked = c.in_ok-mark_buffer.ensures.count in omega arith;
      blank = (let scores = ap length c.as_mut_slice-scores.ensures.value in let marks = ap length c.as_mut_slice-marks.ensures.value in let scored = c.in_ok-score_buffer.ensures.count in let marked = c.in_ok-mark_buffer.ensures.count in record {
        wide = omega arith;
        clear = subst (All (λ s. s ≡ 0)) (sym c.as_mut_slice-scores.ensures.value) c.in_ok-score_buffer.ensures.clear;
        none = subst (λ (ms : List ℕ). (k : ℕ) → k < 64 * length ms → is_marked ms k ≡ false) (sym c.as_mut_slice-marks.ensures.value) (λ k lt. c.in_ok-mark_buffer.ensures.none k (omega arith));
      });
      k = ap (λ (r : Gathering). r.k) c.in_ok-top.ensures;
      above = subst (All (λ (e : ℕ × ℕ). e.0 < 0)) (sym found) (All-nil (λ (e : ℕ × ℕ). e.0 < 0));
      best = subst (IsBest c.args.k lists c.args.weights.now []) (sym held) (best-none c.args.k lists c.args.weights.now);
      bound = subst (All (λ (e : ℕ × ℕ). e.1 < 2 ^ 58)) (sym found) (All-nil (λ (e : ℕ × ℕ). e.1 < 2 ^ 58));
    }

pub add_lists-reached-requires-clause-stand : goal.add_lists-reached-requires-clause-stand
add_lists-reached-requires-clause-stand g c = (next-known g (goal.at.add_lists-reached-requires-clause-stand g c).In-Some).stand

pub add_lists-reached-requires-clause-each : goal.add_lists-reached-requires-clause-each
add_lists-reached-requires-clause-each g c = omega (arith, as-many g.C.DocCursor.list c.loop-first.cursors c.args.cursors.now c.loop-first.invariant.lists, c.requires.each)

pub offer_marked-requires-clause-same : goal.offer_marked-requires-clause-same
offer_marked-requires-clause-same g c = let scores = c.add_lists-reached.ensures.filled.count in let marks = c.add_lists-reached.ensures.filled.marks_count in let same = c.loop-first.invariant.same in omega arith

pub offer_marked-requires-clause-reached : goal.offer_marked-requires-clause-reached
offer_marked-requires-clause-reached g c =
    let lists : List (List Posting) = map g.C.DocCursor.list c.loop-first.cursors in
    let filled = c.add_lists-reached.ensures.filled in
    let scores = filled.count in
    let marks = filled.marks_count in
    let same = c.loop-first.invariant.same in
    let within = filled.within in
    record {
      wide = omega arith;
      within = omega arith;
      scored = λ k inside unmarked.
          let absent : list_any (has_doc (c.in-Some.first + k)) lists ≡ false = sym (filled.marked k (omega arith)) ∙ unmarked in
          zero-unless (slice_index c.add_lists-reached.new.window.0 k) (λ some. false≢true (sym absent ∙ (filled.scored.found k inside).0 some));
      behind = λ k from inside. filled.behind k from (omega arith);
    }

pub offer_marked-requires-clause-offers : goal.offer_marked-requires-clause-offers
offer_marked-requires-clause-offers g c =
    let lists : List (List Posting) = map g.C.DocCursor.list c.args.cursors.now in
    let so_far = c.loop-first.invariant in
    let next = next-known g (goal.at.offer_marked-requires-clause-offers g c).In-Some in
    record {
      narrow = λ k within above.
          let doc : ℕ = c.in-Some.first + k in
          let has : list_any (has_doc doc) lists ≡ true = ap (list_any (has_doc doc)) (sym so_far.lists) ∙ (c.add_lists-reached.ensures.filled.scored.found k within).0 above in
          omega (arith, c.ranges.n.fits, any-bound c.args.n lists doc c.requires.in_range has);
      above = λ i x within. let low_first = next.low_first in let below = so_far.above i x within in omega arith;
    }

pub loop-first-smaller : goal.loop-first-smaller
loop-first-smaller g c =
    let next = next-known g (goal.at.loop-first-smaller g c).In-Some in
    passing-leaves-less g.C.DocCursor.list g.C.DocCursor.place g.met.C.DocCursor.well_formed c.in-Some.first (c.in-Some.first + length c.loop-first.scores) c.loop-first.cursors c.add_lists-reached.new.cursors (omega (arith, c.loop-first.invariant.some, c.loop-first.invariant.same)) c.add_lists-reached.ensures.lists next.stand c.add_lists-reached.ensures.stand next.at

pub loop-first-preserved : goal.loop-first-preserved
loop-first-preserved g c =
    let first : ℕ = c.in-Some.first in
    let low : ℕ = c.loop-first.invariant.low in
    let same = c.loop-first.invariant.lists in
    let lists : List (List Posting) = map g.C.DocCursor.list c.args.cursors.now in
    let weights : List ℕ = c.args.weights.now in
    let held : List (ℕ × ℕ) = held_of c.loop-first.top in
    let next = next-known g (goal.at.loop-first-preserved g c).In-Some in
    let skipped : in_any low lists ≡ in_any first lists = subst (λ (ls : List (List Posting)). in_any low ls ≡ in_any first ls) same next.skipped in
    let scored : AreScored lists weights first c.add_lists-reached.new.window.0 = subst (λ (ls : List (List Posting)). AreScored ls weights first c.add_lists-reached.new.window.0) same c.add_lists-reached.ensures.filled.scored in
    let k = c.loop-first.invariant.k in
    let before : IsBest c.args.k lists weights (in_any first lists) held = subst (λ (docs : List ℕ). IsBest c.args.k lists weights docs held) skipped c.loop-first.invariant.best in
    let more = c.offer_marked.ensures.best lists weights scored (subst (λ (n : ℕ). IsBest n lists weights (in_any first lists) held) (sym k) before) in
    let some = c.loop-first.invariant.some in
    let same_count = c.loop-first.invariant.same in
    let marks = c.add_lists-reached.ensures.filled.marks_count in
    let marks_kept = c.offer_marked.ensures.left.marks_count in
    let kept = c.offer_marked.ensures.left.count in
    let count = c.add_lists-reached.ensures.filled.count in
    record {
      low = first + length c.add_lists-reached.new.window.0;
      lists = c.add_lists-reached.ensures.lists ∙ same;
      stand = subst (λ (n : ℕ). All (λ x. StandsFrom (first + n) (g.C.DocCursor.list x) (g.C.DocCursor.place x)) c.add_lists-reached.new.cursors) (sym count) c.add_lists-reached.ensures.stand;
      some = omega arith;
      same = omega arith;
      blank = c.offer_marked.ensures.left.blank;
      k = c.offer_marked.ensures.k ∙ k;
      above = c.offer_marked.ensures.above;
      best = subst (λ (n : ℕ). IsBest n lists weights (in_any (first + length c.add_lists-reached.new.window.0) lists) (held_of c.offer_marked.new.top)) k more;
      bound = c.offer_marked.ensures.bound c.add_lists-reached.ensures.filled.bound c.loop-first.invariant.bound;
    }

pub returns-clause-bound : goal.returns-clause-bound
returns-clause-bound g c =
    subst (All (λ (e : ℕ × ℕ). e.1 < 2 ^ 58)) (sym c.into_list.ensures) (held-all (λ (e : ℕ × ℕ). e.1 < 2 ^ 58) c.loop-first.top c.loop-first.invariant.bound)

pub returns-clause-first : goal.returns-clause-first
returns-clause-first g c =
    let same = c.loop-first.invariant.lists in
    let low : ℕ = c.loop-first.invariant.low in
    let lists : List (List Posting) = map g.C.DocCursor.list c.args.cursors.now in
    let all : in_any low lists ≡ in_any c.args.n lists = ap (in_any low) (sym same)
    ∙ no-next-doc g.C.DocCursor.list g.C.DocCursor.place g.met.C.DocCursor.well_formed c.loop-first.cursors low c.args.n c.loop-first.invariant.stand (sym c.least_doc.ensures ∙ c.in_default.is) (subst (AreBelow c.args.n) (sym same) c.requires.in_range)
    ∙ ap (in_any c.args.n) same in
    let best = subst (λ (docs : List ℕ). IsBest c.args.k lists c.args.weights.now docs (held_of c.loop-first.top)) all c.loop-first.invariant.best in
    subst (IsTop c.args.n lists c.args.weights.now c.args.k) (sym c.into_list.ensures) (best-top c.args.n lists c.args.weights.now c.args.k (held_of c.loop-first.top) best)
