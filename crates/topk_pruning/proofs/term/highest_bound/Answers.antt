use Rattle.std.proofs.Common.{◌≡◌, refl, sym, ap, ◌∙◌, ℕ, ◌+◌, ◌*◌, ◌<◌, ◌∷◌, ◌++◌, [], List, map, max, length, get_or, arith}
use Rattle.std.proofs.lemmas.List.{get_or-map, map-append}
use Rattle.std.specs.List.{range_with_len}
use Rattle.collection_model.specs.Collection.{Posting, greatest, greatest_freq}
use Rattle.topk_pruning.specs.declared.term.Term.{Term}
use Rattle.topk_pruning.specs.Terms.{highest, term_of}
use Rattle.topk_pruning.proofs.Longest.{greatest-push}
use Rattle.topk_pruning.proofs.Tops.{terms-more}
use Rattle.topk_pruning.proofs.term.highest_bound.Goals as goal

pub loop-list-preserved : goal.loop-list-preserved
loop-list-preserved g c =
    let list = g.C.DocCursor.list in
    let lists : List (List Posting) = map list c.args.cursors.now in
    let weights : List ℕ = c.args.weights.now in
    let i : ℕ = c.loop-list.list in
    let terms : List Term = map (term_of lists weights) (range_with_len 0 i) in
    let t : Term = record { list = i; weight = get_or weights i 0; bound = c.bound_of-bound.result } in
    let within : i < length c.args.cursors.now = omega (arith, c.loop-list-test.true, c.loop-list.auto.list-end) in
    let list_is : get_or lists i [] ≡ list c.index-cursors-list.result = get_or-map list c.args.cursors.now i c.index-cursors-list.result [] within ∙ ap list (sym c.index-cursors-list.is) in
    let bound : c.bound_of-bound.result ≡ get_or weights i 0 * greatest_freq (get_or lists i []) = c.bound_of-bound.ensures.value ∙ ap (λ (l : List Posting). get_or weights i 0 * greatest_freq l) (sym list_is) in
    let more : terms ++ t ∷ [] ≡ map (term_of lists weights) (range_with_len 0 (i + 1)) = terms-more lists weights i t terms (terms ++ t ∷ []) refl refl bound refl refl in
    let last : highest (terms ++ t ∷ []) ≡ max c.bound_of-bound.result (highest terms) = ap greatest (map-append (λ (t : Term). t.bound) terms (t ∷ [])) ∙ greatest-push (map (λ (t : Term). t.bound) terms) c.bound_of-bound.result in
    let next : highest (map (term_of lists weights) (range_with_len 0 (i + 1))) ≡ max c.bound_of-bound.result (highest terms) = ap highest (sym more) ∙ last in
    omega (arith, next, c.max-most.ensures, c.loop-list.invariant)
