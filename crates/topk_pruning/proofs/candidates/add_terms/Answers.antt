use Rattle.std.proofs.Common.{◌≡◌, refl, sym, ap, ◌∙◌, subst, ℕ, ◌+◌, ◌*◌, ◌<◌, ◌||◌, max, List, map, take, length, get_or, arith}
use Rattle.std.specs.List.{list_any}
use Rattle.std.proofs.lemmas.List.{get_or_default}
use Rattle.std.proofs.lemmas.List.Elements.{All-set}
use Rattle.std.proofs.lemmas.List.Folds.{list_any_more}
use Rattle.std.proofs.lemmas.List.Sums.{sum_by_more, sum_by-take-le}
use Rattle.collection_model.specs.Collection.{Posting}
use Rattle.scan_plans.specs.Matches.{has_doc, freq_of_doc}
use Rattle.scan_plans.specs.Scan.{HasPassed}
use Rattle.scan_plans.specs.Window.{IsAdded}
use Rattle.topk_pruning.specs.declared.term.Term.{Term}
use Rattle.topk_pruning.specs.Terms.{list_of, share}
use Rattle.topk_pruning.proofs.Moves.{lists-set, list-read, term-inside, later-passed}
use Rattle.topk_pruning.proofs.Scores.{shares-within}
use Rattle.topk_pruning.proofs.Windows.{no_term, kept-read, kept-none, kept-more, are-take}
use Rattle.topk_pruning.proofs.candidates.add_terms.Goals as goal

pub loop-place-init : goal.loop-place-init
loop-place-init g c = record {
  few = omega arith;
  lists = refl;
  passed = later-passed g.C.DocCursor.list g.C.DocCursor.place c.args.cursors.now c.args.window.first (c.args.window.first + length c.args.window.scores.now) (omega arith) c.requires.passed;
  kept = kept-none c.args.terms.all.now c.args.cursors.now;
  count = refl;
  marks_count = refl;
  scored = λ k within. c.requires.blank.clear k 0 within;
  marked = λ k within. let wide = c.requires.blank.wide in c.requires.blank.none k (omega arith);
  within = omega arith;
  behind = λ k from within. c.requires.blank.none k within;
}

pub doc_from-requires : goal.doc_from-requires
doc_from-requires g c =
    let same = kept-read c.args.terms.all.now c.args.cursors.now c.loop-place.cursors c.loop-place.place no_term c.index-cursors-term-in-loop-place.result c.loop-place-test.true c.requires.terms.apart c.loop-place.invariant.kept in
    let inside = term-inside g.C.DocCursor.list g.C.DocCursor.place c.args.cursors.now (map g.C.DocCursor.list c.args.cursors.now) c.args.terms.all.now c.loop-place.place no_term refl c.requires.terms.terms_in.within c.loop-place-test.true in
    record { passed = subst (λ x. HasPassed c.args.window.first (g.C.DocCursor.list x) (g.C.DocCursor.place x)) (sym same) (c.requires.passed (get_or c.args.terms.all.now c.loop-place.place no_term).list c.index-cursors-term-in-loop-place.result inside) }

pub add_list-requires-clause-room : goal.add_list-requires-clause-room
add_list-requires-clause-room g c = λ k e inside_scores.
    let short : k < length c.args.window.scores.now = omega (arith, inside_scores, c.loop-place.invariant.count) in
    let read = get_or_default c.loop-place.scores k e 0 inside_scores in
    let le = shares-within (map g.C.DocCursor.list c.args.cursors.now) (c.args.window.first + k) (take c.loop-place.place c.args.terms.all.now)
    ((are-take (map g.C.DocCursor.list c.args.cursors.now) c.args.window.first (c.args.window.first + length c.args.window.scores.now) c.args.terms.all.now c.loop-place.place c.requires.terms.terms_in).bounded (c.args.window.first + k) (omega arith) (omega (arith, short))) in
    let whole = sum_by-take-le (λ (t : Term). t.bound) c.args.terms.all.now c.loop-place.place in
    omega (arith, read, c.loop-place.invariant.scored k short, le, whole, c.requires.terms.terms_in.light, c.requires.terms.small c.loop-place.place no_term c.loop-place-test.true)

pub loop-place-preserved : goal.loop-place-preserved
loop-place-preserved g c =
    let list = g.C.DocCursor.list in
    let place = g.C.DocCursor.place in
    let lists : List (List Posting) = map list c.args.cursors.now in
    let terms : List Term = c.args.terms.all.now in
    let cs = c.loop-place.cursors in
    let i : ℕ = c.loop-place.place in
    let t : Term = get_or terms i no_term in
    let d = c.index-cursors-term-in-loop-place.result in
    let so_far = c.loop-place.invariant in
    let within = term-inside list place cs lists terms i no_term so_far.lists c.requires.terms.terms_in.within c.loop-place-test.true in
    let new = c.add_list.new.cursor in
    let first : ℕ = c.args.window.first in
    let same = c.add_list.ensures.list ∙ c.doc_from.ensures.list in
    let added = subst (λ (l : List Posting). IsAdded l t.weight first c.loop-place.scores c.loop-place.marks c.add_list.new.window.0 c.add_list.new.window.1.0 c.add_list.result) c.doc_from.ensures.list c.add_list.ensures.added in
    let count = so_far.count in
    let end : ℕ = first + length c.args.window.scores.now in
    let is : list (get_or cs t.list d) ≡ list_of lists t = list-read list place cs lists t.list d so_far.lists within in
    let most : c.max-reached.result ≡ max c.add_list.result c.loop-place.reached = c.max-reached.ensures in
    let high = added.within in
    let low = so_far.within in
    record {
      few = omega (arith, c.loop-place-test.true);
      lists = lists-set list place cs t.list new d within same ∙ so_far.lists;
      passed = All-set (λ x. HasPassed end (list x) (place x)) cs t.list new (record { passed = λ j lt. let h = c.add_list.ensures.stand.passed j lt in omega arith }) so_far.passed;
      kept = kept-more terms c.args.cursors.now cs i no_term new c.loop-place-test.true so_far.kept;
      count = added.count ∙ count;
      marks_count = added.marks_count ∙ so_far.marks_count;
      scored = λ k inside.
          let more = sum_by_more (share lists (first + k)) terms i no_term c.loop-place-test.true in
          let before = so_far.scored k inside in
          let adds = added.scored k (omega arith) in
          let theirs = ap (λ (l : List Posting). t.weight * freq_of_doc (first + k) l) is in
          omega arith;
      marked = λ k inside.
          added.marked k (omega arith) ∙ ap (λ b. b || has_doc (first + k) (list (get_or cs t.list d))) (so_far.marked k inside)
          ∙ ap (λ (l : List Posting). list_any (λ t. has_doc (first + k) (list_of lists t)) (take i terms) || has_doc (first + k) l) is
          ∙ sym (list_any_more (λ t. has_doc (first + k) (list_of lists t)) terms i no_term c.loop-place-test.true);
      within = omega arith;
      behind = λ k from inside. added.behind k (omega arith) ∙ so_far.behind k (omega arith) inside;
    }
