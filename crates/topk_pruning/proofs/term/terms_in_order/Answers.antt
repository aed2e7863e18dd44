use Rattle.std.proofs.Common.{◌≡◌, sym, ap, ◌∙◌, ℕ, ◌*◌, ◌<◌, ◌∷◌, ◌++◌, [], List, map, length, get_or, arith}
use Rattle.std.proofs.lemmas.List.{get_or-map}
use Rattle.std.proofs.lemmas.List.FromFn.{length-map-range_with_len}
use Rattle.std.proofs.lemmas.List.Sums.{sum_by_more, sum_by_push}
use Rattle.std.specs.List.{sum_by}
use Rattle.collection_model.specs.Collection.{Posting, greatest_freq}
use Rattle.topk_pruning.specs.declared.term.Term.{Term}
use Rattle.topk_pruning.specs.Terms.{term_of}
use Rattle.topk_pruning.proofs.Tops.{terms-more}
use Rattle.topk_pruning.proofs.term.terms_in_order.Given as given
use Rattle.topk_pruning.proofs.term.terms_in_order.Goals as goal
use Rattle.topk_pruning.proofs.term.terms_in_order.Goals.{After-len-list}

-- there is a term for each list so far
count : (g : given.Over) (c : After-len-list g) → c.len-list.result ≡ c.loop-cursor.cursor-index
count g c =
    let each = ap length c.loop-cursor.invariant.all ∙ length-map-range_with_len (term_of (map g.C.DocCursor.list c.args.cursors.now) c.args.weights.now) 0 c.loop-cursor.cursor-index in
    omega (arith, each, c.len-list.ensures, c.loop-cursor.terms.ok.0)

pub bounds-weights-list : goal.bounds-weights-list
bounds-weights-list g c = omega (arith, count g (goal.at.bounds-weights-list g c).After-len-list, c.loop-cursor-test.true, c.requires.each)

pub offset_bounds-weights-list : goal.offset_bounds-weights-list
offset_bounds-weights-list g c = omega (arith, count g (goal.at.offset_bounds-weights-list g c).After-len-list, c.loop-cursor-test.true, c.requires.each)

pub loop-cursor-preserved : goal.loop-cursor-preserved
loop-cursor-preserved g c =
    let lists : List (List Posting) = map g.C.DocCursor.list c.args.cursors.now in
    let weights : List ℕ = c.args.weights.now in
    let i : ℕ = c.loop-cursor.cursor-index in
    let at = count g (goal.at.loop-cursor-preserved g c).After-len-list in
    let weight : get_or weights c.len-list.result 0 ≡ get_or weights i 0 = ap (λ (k : ℕ). get_or weights k 0) at in
    let t : Term = record { list = c.len-list.result; weight = get_or weights c.len-list.result 0; bound = c.bound_of-bound.result } in
    let within : i < length c.args.cursors.now = c.loop-cursor-test.true in
    let list_is : get_or lists i [] ≡ g.C.DocCursor.list c.cursor-item.result = get_or-map g.C.DocCursor.list c.args.cursors.now i c.cursor-item.result [] within ∙ ap g.C.DocCursor.list (sym c.cursor-item.is) in
    let bound : c.bound_of-bound.result ≡ get_or weights i 0 * greatest_freq (get_or lists i []) = c.bound_of-bound.ensures.value ∙ ap (λ (w : ℕ). w * greatest_freq (g.C.DocCursor.list c.cursor-item.result)) weight ∙ ap (λ (l : List Posting). get_or weights i 0 * greatest_freq l) (sym list_is) in
    let heavier = sum_by_more (λ (w : ℕ). w) weights i 0 (omega (arith, c.requires.each)) in
    let adds : c.push.new.self.items ≡ c.loop-cursor.terms.items ++ t ∷ [] = c.in_ok-push.ensures.items in
    let pushed = ap (sum_by (λ (t : Term). t.bound)) adds ∙ sum_by_push (λ (t : Term). t.bound) c.loop-cursor.terms.items t in
    record {
      all = terms-more lists weights i t c.loop-cursor.terms.items c.push.new.self.items at weight bound c.loop-cursor.invariant.all adds;
      light = omega (arith, pushed, heavier, weight, c.bound_of-bound.ensures.bound, c.loop-cursor.invariant.light);
    }
