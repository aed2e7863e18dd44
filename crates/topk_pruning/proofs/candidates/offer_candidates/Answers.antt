use Rattle.std.proofs.Common.{◌≡◌, refl, sym, ap, ◌∙◌, subst, inl, inr, ℕ, ◌+◌, ◌-◌, ◌<◌, ◌≤◌, true, false, min, List, map, take, drop, length, get_or, arith}
use Rattle.std.proofs.lemmas.Bool.{cases_lt}
use Rattle.std.proofs.lemmas.List.{get_or_default}
use Rattle.std.specs.Option.{IfSome}
use Rattle.collection_model.specs.Collection.{Posting}
use Rattle.scan_plans.specs.IsTop.{IsTopFrom}
use Rattle.scan_plans.specs.Window.{is_marked}
use Rattle.scan_plans.specs.Skips.{IsBarred}
use Rattle.scan_plans.proofs.TakenBack.{taken-then}
use Rattle.topk_pruning.specs.declared.term.Term.{Term}
use Rattle.topk_pruning.specs.Terms.{AreBefore, AreTermsIn, Considers, FollowsTo, bounds, score_in}
use Rattle.topk_pruning.proofs.Alike.{in-narrower}
use Rattle.topk_pruning.proofs.Bars.{bars-at}
use Rattle.topk_pruning.proofs.Windows.{IsNextCandidate, are-drop, behind-is, before-later, spared-kept, unmarked-none, light-score, marked-any, follows-passed, follows-considered, considered-above, candidate-there, none-there}
use Rattle.topk_pruning.proofs.candidates.offer_candidates.Given as given
use Rattle.topk_pruning.proofs.candidates.offer_candidates.Goals as goal
use Rattle.topk_pruning.proofs.candidates.offer_candidates.Goals.{After-total_bound-left, After-least_score, In-Some}

pub loop-place-init : goal.loop-place-init
loop-place-init g c =
    let start : c.args.window.first ≡ c.args.window.first + 0 = omega arith in
    record {
      lists = refl;
      passed = c.requires.passed;
      before = subst (λ (d : ℕ). AreBefore g.C.DocCursor.list g.C.DocCursor.place d (drop c.args.terms.essential c.args.terms.all.now) c.args.cursors.now) start c.requires.before;
      taken = record { count = refl; marks_count = refl; unmarked = λ k lt within. absurd (omega arith); clear = λ k lt within. absurd (omega arith); marked = λ k after within. refl; scored = λ k after within. refl };
      within = omega arith;
      in_range = (let in_range = c.requires.search.in_range in omega arith);
      k = refl;
      n = refl;
      floor = refl;
      above = λ i e within. let h = c.requires.search.above i e within in omega arith;
      spared = c.requires.essential;
      held = λ weights all top. subst (λ (d : ℕ). IsTopFrom c.args.top.now.floor d (map g.C.DocCursor.list c.args.cursors.now) weights c.args.top.now.k c.args.top.now.held) start top;
    }

pub total_bound-left-requires : goal.total_bound-left-requires
total_bound-left-requires g c =
    let light = (are-drop (map g.C.DocCursor.list c.args.cursors.now) c.args.window.first (c.args.window.first + length c.args.window.scores.now) c.args.terms.all.now c.args.terms.essential c.requires.terms).light in
    let same = ap bounds (behind-is c.args.terms.all.now c.args.terms.essential) in
    record { light = omega arith }

-- what the other terms can add
left-is : (g : given.Over) (c : After-total_bound-left g) → c.total_bound-left.result ≡ bounds (drop c.args.terms.essential c.args.terms.all.now)
left-is g c = c.total_bound-left.ensures ∙ ap bounds (behind-is c.args.terms.all.now c.args.terms.essential)

-- documents whose scores they cannot lift are passed over
passed-to : (g : given.Over) (c : After-least_score g) (to : ℕ) → c.args.window.first + c.loop-place.from ≤ to → to ≤ c.args.window.first + length c.args.window.scores.now
    → ((j : ℕ) → c.loop-place.from ≤ j → c.args.window.first + j < to → is_marked c.args.window.marks.now j ≡ true → get_or c.args.window.scores.now j 0 < c.least_score.result)
    → FollowsTo (map g.C.DocCursor.list c.args.cursors.now) c.args.terms.all.now c.args.top.now.floor c.args.top.now.k c.args.window.first to c.args.top.now.held c.loop-place.top.held
passed-to g c to le end lower =
    let bars = bars-at c.bar.result c.loop-place.top.floor c.args.top.now.floor c.loop-place.top.k c.args.top.now.k c.loop-place.top.held c.loop-place.invariant.floor c.loop-place.invariant.k c.bar.ensures in
    let low = subst (λ (b : ℕ). IfSome c.bar.result (λ least. c.least_score.result ≡ min (least + 1) 18446744073709551615 - b)) (left-is g (goal.at.After-least_score g c).After-total_bound-left) c.least_score.ensures.some in
    follows-passed (map g.C.DocCursor.list c.args.cursors.now) c.args.terms.all.now c.args.terms.essential c.args.window.first c.args.window.scores.now c.args.window.marks.now c.requires.terms c.requires.scored.scored c.requires.scored.marked c.top_list_grows.ensures.skipped
    c.loop-place.from to c.args.top.now.floor c.args.top.now.k c.least_score.result c.bar.result c.args.top.now.held c.loop-place.top.held c.loop-place.invariant.spared bars c.least_score.ensures.none low le end lower c.loop-place.invariant.held

pub take_candidate-requires-clause-reached : goal.take_candidate-requires-clause-reached
take_candidate-requires-clause-reached g c =
    let taken = c.loop-place.invariant.taken in
    let count = taken.count in
    let words = taken.marks_count in
    let wide = c.requires.scored.wide in
    let within = c.requires.scored.within in
    record {
      wide = omega arith;
      within = omega arith;
      scored = unmarked-none (map g.C.DocCursor.list c.args.cursors.now) c.args.terms.all.now c.args.terms.essential c.args.window.first c.args.window.scores.now c.args.window.marks.now c.requires.terms c.requires.scored.scored c.requires.scored.marked c.loop-place.from c.loop-place.scores c.loop-place.marks wide taken;
      behind = λ k from inside. elim (cases_lt k c.loop-place.from) as (λ _. is_marked c.loop-place.marks k ≡ false) [
        | inl before ↦ taken.unmarked k before (omega arith)
        | inr after ↦ taken.marked k after (omega arith) ∙ c.requires.scored.behind k from (omega arith)
      ];
    }

-- the next candidate of the window
candidate-known : (g : given.Over) (c : In-Some g) → IsNextCandidate c.least_score.result c.loop-place.from c.in-Some.place c.in-Some.score c.args.window.scores.now c.args.window.marks.now
candidate-known g c =
    candidate-there c.args.window.scores.now c.args.window.marks.now c.loop-place.scores c.loop-place.marks c.loop-place.from c.requires.scored.wide c.loop-place.invariant.taken c.least_score.result c.in-Some.place c.in-Some.score c.in-Some.ensures.some

-- it is one of the documents
candidate-below : (g : given.Over) (c : In-Some g) → c.args.window.first + c.in-Some.place < c.args.top.now.n
candidate-below g c =
    let next = candidate-known g c in
    c.top_list_grows.ensures.in_range c.args.top.now.n (map g.C.DocCursor.list c.args.cursors.now) (c.args.window.first + c.in-Some.place) c.requires.search.below
    (marked-any (map g.C.DocCursor.list c.args.cursors.now) c.args.terms.all.now c.args.terms.essential c.args.window.first c.args.window.scores.now c.args.window.marks.now c.requires.terms c.requires.scored.scored c.requires.scored.marked c.in-Some.place next.within next.marked)

pub overflow_cast-doc : goal.overflow_cast-doc
overflow_cast-doc g c =
    omega (arith, candidate-below g (goal.at.overflow_cast-doc g c).In-Some, c.from.ensures, c.requires.search.narrow)

pub consider-requires-clause-asked : goal.consider-requires-clause-asked
consider-requires-clause-asked g c =
    let lists : List (List Posting) = map g.C.DocCursor.list c.args.cursors.now in
    let next = candidate-known g (goal.at.consider-requires-clause-asked g c).In-Some in
    let lent = behind-is c.args.terms.all.now c.args.terms.essential in
    let light = light-score lists c.args.terms.all.now c.args.terms.essential c.args.window.first c.args.window.scores.now c.args.window.marks.now c.requires.terms c.requires.scored.scored c.requires.scored.marked c.in-Some.place next.within in
    let doc : ℕ = c.from.result + c.in-Some.place in
    let here : AreTermsIn lists doc (doc + 1) (drop c.args.terms.essential c.args.terms.all.now) =
    in-narrower lists c.args.window.first (c.args.window.first + length c.args.window.scores.now) doc (doc + 1) (drop c.args.terms.essential c.args.terms.all.now) (omega (arith, c.from.ensures)) (omega (arith, c.from.ensures, next.within))
    (are-drop lists c.args.window.first (c.args.window.first + length c.args.window.scores.now) c.args.terms.all.now c.args.terms.essential c.requires.terms) in
    record {
      terms_in = subst (AreTermsIn (map g.C.DocCursor.list c.loop-place.cursors) doc (doc + 1)) (sym lent) (subst (λ (ls : List (List Posting)). AreTermsIn ls doc (doc + 1) (drop c.args.terms.essential c.args.terms.all.now)) (sym c.loop-place.invariant.lists) here);
      bound = c.total_bound-left.ensures;
      light = omega (arith, light, next.scored, left-is g (goal.at.consider-requires-clause-asked g c).After-total_bound-left);
      before = subst (λ (ts : List Term). AreBefore g.C.DocCursor.list g.C.DocCursor.place doc ts c.loop-place.cursors) (sym lent)
          (before-later g.C.DocCursor.list g.C.DocCursor.place (c.args.window.first + c.loop-place.from) doc (drop c.args.terms.essential c.args.terms.all.now) c.loop-place.cursors (omega (arith, c.from.ensures, next.after)) c.loop-place.invariant.before);
    }

pub consider-requires-clause-above : goal.consider-requires-clause-above
consider-requires-clause-above g c =
    let next = (candidate-known g (goal.at.consider-requires-clause-above g c).In-Some).after in
    λ i e within. omega (arith, c.loop-place.invariant.above i e within, next, c.from.ensures)

pub consider-requires-clause-in_range : goal.consider-requires-clause-in_range
consider-requires-clause-in_range g c =
    omega (arith, candidate-below g (goal.at.consider-requires-clause-in_range g c).In-Some, c.from.ensures, c.loop-place.invariant.n)

pub loop-place-preserved : goal.loop-place-preserved
loop-place-preserved g c =
    let list = g.C.DocCursor.list in
    let lists : List (List Posting) = map list c.args.cursors.now in
    let terms : List Term = c.args.terms.all.now in
    let so_far = c.loop-place.invariant in
    let next = candidate-known g (goal.at.loop-place-preserved g c).In-Some in
    let below = candidate-below g (goal.at.loop-place-preserved g c).In-Some in
    let after = next.after in
    let inside = next.within in
    let start = c.from.ensures in
    let doc : c.from.result + c.in-Some.place ≡ c.args.window.first + c.in-Some.place = omega arith in
    let place = g.C.DocCursor.place in
    let at : ℕ = c.in-Some.place in
    let others : List Term = drop c.args.terms.essential terms in
    let kept = c.consider.ensures in
    let k = so_far.k in
    let held : List (ℕ × ℕ) = c.loop-place.top.held in
    let new : List (ℕ × ℕ) = c.consider.new.top.held in
    let lent : take (length terms - c.args.terms.essential) (drop c.args.terms.essential terms) ≡ others = behind-is terms c.args.terms.essential in
    let floor : ℕ = c.args.top.now.floor in
    let here = passed-to g (goal.at.loop-place-preserved g c).After-least_score (c.args.window.first + at) (omega arith) (omega arith) (λ j f lt is. next.passed j f (omega arith) is) in
    let known : c.in-Some.score + score_in (map list c.loop-place.cursors) (c.from.result + at) (take (length terms - c.args.terms.essential) (drop c.args.terms.essential terms)) ≡ get_or c.args.window.scores.now at 0 + score_in lists (c.args.window.first + at) others =
    (let a = next.scored in
    let b = ap (λ (ls : List (List Posting)). score_in ls (c.from.result + at) (take (length terms - c.args.terms.essential) (drop c.args.terms.essential terms))) so_far.lists in
    let e = ap (λ (ts : List Term). score_in lists (c.from.result + at) ts) lent in
    let f = ap (λ (n : ℕ). score_in lists n others) doc in
    omega arith) in
    let considered : Considers floor c.args.top.now.k (c.args.window.first + at) (get_or c.args.window.scores.now at 0 + score_in lists (c.args.window.first + at) others) held new =
    subst (λ (s : ℕ). Considers floor c.args.top.now.k (c.args.window.first + at) s held new) known
    (subst (λ (d : ℕ). Considers floor c.args.top.now.k d (c.in-Some.score + score_in (map list c.loop-place.cursors) (c.from.result + at) (take (length terms - c.args.terms.essential) (drop c.args.terms.essential terms))) held new) doc
    (subst (λ (j : ℕ). Considers floor j (c.from.result + at) (c.in-Some.score + score_in (map list c.loop-place.cursors) (c.from.result + at) (take (length terms - c.args.terms.essential) (drop c.args.terms.essential terms))) held new) k
    (subst (λ (f : ℕ). Considers f c.loop-place.top.k (c.from.result + at) (c.in-Some.score + score_in (map list c.loop-place.cursors) (c.from.result + at) (take (length terms - c.args.terms.essential) (drop c.args.terms.essential terms))) held new) so_far.floor kept.considered.held))) in
    let later = taken-then c.loop-place.from (at + 1) c.args.window.scores.now c.args.window.marks.now c.loop-place.scores c.loop-place.marks c.take_candidate.new.scores c.take_candidate.new.marks (omega arith) so_far.taken c.in-Some.ensures.taken in
    record {
      lists = kept.lists ∙ so_far.lists;
      passed = kept.passed (c.args.window.first + length c.args.window.scores.now) (omega arith) so_far.passed;
      before = before-later list place (c.from.result + at) (c.args.window.first + (at + 1)) others c.consider.new.cursors (omega arith) (subst (λ (ts : List Term). AreBefore list place (c.from.result + at) ts c.consider.new.cursors) lent kept.before);
      taken = later;
      within = omega arith;
      in_range = omega arith;
      k = kept.considered.k ∙ k;
      n = kept.considered.n ∙ so_far.n;
      floor = kept.considered.floor ∙ so_far.floor;
      above = (let top = c.top_list_grows.ensures in considered-above floor c.args.top.now.k (c.args.window.first + at) (c.args.window.first + (at + 1)) _ held new (omega arith) considered (λ i e within. let h = so_far.above i e within in omega arith));
      spared = spared-kept terms floor c.args.top.now.k c.args.terms.essential held new (λ s. subst (λ (j : ℕ). IsBarred floor j held s → IsBarred floor j new s) k (subst (λ (f : ℕ). IsBarred f c.loop-place.top.k held s → IsBarred f c.loop-place.top.k new s) so_far.floor (kept.considered.kept s))) so_far.spared;
      held = follows-considered lists terms c.args.terms.essential c.args.window.first c.args.window.scores.now c.args.window.marks.now c.requires.terms c.requires.scored.scored c.requires.scored.marked c.top_list_grows.ensures.offered c.top_list_grows.ensures.skipped at floor c.args.top.now.k c.args.top.now.held held new inside next.marked considered here;
    }

pub returns-clause-left : goal.returns-clause-left
returns-clause-left g c =
    let so_far = c.loop-place.invariant in
    let all = c.in_default.ensures.all_taken in
    let now = all.count in
    let now_words = all.marks_count in
    let count = so_far.taken.count in
    let words = so_far.taken.marks_count in
    let wide = c.requires.scored.wide in
    let last = c.requires.scored.within in
    let start = so_far.within in
    record {
      count = omega arith;
      marks_count = omega arith;
      blank = record {
        wide = omega arith;
        clear = λ k d within. get_or_default c.take_candidate.new.scores k d 0 within ∙ all.clear k (omega arith) (omega arith);
        none = λ k within. elim (cases_lt k (length c.loop-place.scores)) as (λ _. is_marked c.take_candidate.new.marks k ≡ false) [
          | inl before ↦ all.unmarked k before (omega arith)
          | inr after ↦ all.marked k after (omega arith) ∙ so_far.taken.marked k (omega arith) (omega arith) ∙ c.requires.scored.behind k (omega arith) (omega arith)
        ];
      };
    }

pub returns-clause-searched : goal.returns-clause-searched
returns-clause-searched g c =
    let none = none-there c.args.window.scores.now c.args.window.marks.now c.loop-place.scores c.loop-place.marks c.loop-place.from c.requires.scored.wide c.loop-place.invariant.taken c.least_score.result c.in_default.ensures.none in
    record {
      k = c.loop-place.invariant.k;
      n = c.loop-place.invariant.n;
      floor = c.loop-place.invariant.floor;
      held = passed-to g (goal.at.returns-clause-searched g c).After-least_score (min (c.args.window.first + length c.args.window.scores.now) c.args.top.now.n) (omega (arith, c.loop-place.invariant.within, c.loop-place.invariant.in_range)) (omega arith) (λ j f lt is. none j f (omega (arith, lt)) is);
    }
