use Rattle.std.proofs.Common.{◌≡◌, sym, ap, ◌∙◌, subst, ℕ, ◌+◌, ◌<◌, ◌≤◌, List, map, take, length, get_or, true, false, arith}
use Rattle.std.specs.Option.{IfSome}
use Rattle.std.proofs.lemmas.List.{length-map}
use Rattle.std.proofs.lemmas.List.Elements.{All-set}
use Rattle.collection_model.specs.Collection.{Posting}
use Rattle.scan_plans.specs.Matches.{has_doc}
use Rattle.scan_plans.specs.Scan.{HasPassed}
use Rattle.topk_pruning.specs.declared.term.Term.{Term}
use Rattle.topk_pruning.specs.Terms.{list_of, IsFirstDoc}
use Rattle.topk_pruning.proofs.Moves.{lists-set, list-read, tell-none, tell-has, first-more}
use Rattle.topk_pruning.proofs.maxscore.first_doc.Goals as goal

pub loop-term-preserved : goal.loop-term-preserved
loop-term-preserved g c =
    let list = g.C.DocCursor.list in
    let place = g.C.DocCursor.place in
    let lists : List (List Posting) = map list c.args.cursors.now in
    let from : ℕ = c.args.from in
    let cs = c.loop-term.cursors in
    let i : ℕ = c.loop-term.term-index in
    let none : Term = record { list = 0; weight = 0; bound = 0 } in
    let t : Term = get_or c.args.terms.now i none in
    let d = c.index-cursors-term.result in
    let new = c.doc_from.new.cursor in
    let l = length-map cs list in
    let m = length-map c.args.cursors.now list in
    let same_count = ap length c.loop-term.invariant.lists in
    let inside = c.requires.within i none c.loop-term-test.true in
    let within : t.list < length cs = omega arith in
    let same : list new ≡ list_of lists t = c.doc_from.ensures.list ∙ list-read list place cs lists t.list d c.loop-term.invariant.lists within in
    let good = g.met.C.DocCursor.well_formed new in
    let stand = c.doc_from.ensures.stand in
    let before : (e : ℕ) → from ≤ e → IfSome c.doc_from.result (λ n. e < n) → has_doc e (list_of lists t) ≡ false = λ e after lt.
    ap (has_doc e) (sym same) ∙ tell-none c.cursors_tell.ensures.between c.cursors_tell.ensures.left (list new) from (place new) c.doc_from.result good stand c.doc_from.ensures.doc e after lt in
    let has : IfSome c.doc_from.result (λ n. (from ≤ n) × (has_doc n (list_of lists t) ≡ true)) =
    subst (λ (l : List Posting). IfSome c.doc_from.result (λ n. (from ≤ n) × (has_doc n l ≡ true))) same (tell-has c.cursors_tell.ensures.at (list new) from (place new) c.doc_from.result good stand c.doc_from.ensures.doc) in
    record {
      lists = lists-set list place cs t.list new d within c.doc_from.ensures.list ∙ c.loop-term.invariant.lists;
      passed = All-set (λ x. HasPassed from (list x) (place x)) cs t.list new (record { passed = stand.passed }) c.loop-term.invariant.passed;
      first = subst (IsFirstDoc lists (take (i + 1) c.args.terms.now) from) (sym c.earlier-least.ensures) (first-more lists c.args.terms.now i from none c.loop-term.least c.doc_from.result c.loop-term-test.true before has c.loop-term.invariant.first);
    }
