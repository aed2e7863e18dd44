use Rattle.std.proofs.Common.{◌≡◌, sym, ap, ◌∙◌, ℕ, ◌+◌, ◌<◌, ◌∷◌, ◌++◌, [], List, map, max, length, take, get_or, arith}
use Rattle.std.proofs.lemmas.List.{get_or-map, length-map, take_all, take_more}
use Rattle.std.proofs.lemmas.List.Sums.{sum_by_more}
use Rattle.collection_model.specs.Collection.{Posting, greatest}
use Rattle.topk_pruning.proofs.Longest.{greatest-push}
use Rattle.topk_pruning.proofs.saves.count_lists.Goals as goal

-- there is a length for each cursor
counted : {X : Type 0} (list : X → List Posting) (cs : List X) → length (map length (map list cs)) ≡ length cs
counted list cs = length-map (map list cs) length ∙ length-map cs list

pub loop-cursor-preserved : goal.loop-cursor-preserved
loop-cursor-preserved g c =
    let list = g.C.DocCursor.list in
    let lists : List (List Posting) = map list c.args.cursors.now in
    let counts : List ℕ = map length lists in
    let i : ℕ = c.loop-cursor.cursor-index in
    let within : i < length c.args.cursors.now = c.loop-cursor-test.true in
    let each : length counts ≡ length c.args.cursors.now = counted list c.args.cursors.now in
    let list_is : get_or lists i [] ≡ list c.cursor-item.result = get_or-map list c.args.cursors.now i c.cursor-item.result [] within ∙ ap list (sym c.cursor-item.is) in
    let count_is : get_or counts i 0 ≡ length (list c.cursor-item.result) = get_or-map length lists i [] 0 (omega (arith, within, length-map c.args.cursors.now list)) ∙ ap length list_is in
    let more : take (i + 1) counts ≡ take i counts ++ get_or counts i 0 ∷ [] = take_more counts i 0 (omega (arith, within, each)) in
    let next : greatest (take (i + 1) counts) ≡ max (get_or counts i 0) (greatest (take i counts)) = ap greatest more ∙ greatest-push (take i counts) (get_or counts i 0) in
    let sum = sum_by_more (λ x. length (list x)) c.args.cursors.now i c.cursor-item.result within in
    let item = ap (λ x. length (list x)) c.cursor-item.is in
    record {
      all = omega (arith, sum, item, c.len-count.ensures, c.saturating_add-all.ensures, c.loop-cursor.invariant.all);
      longest = omega (arith, next, count_is, c.len-count.ensures, c.max-longest.ensures, c.loop-cursor.invariant.longest);
    }

pub returns-clause-longest : goal.returns-clause-longest
returns-clause-longest g c =
    let all = counted g.C.DocCursor.list c.args.cursors.now in
    c.loop-cursor.invariant.longest ∙ ap greatest (take_all c.loop-cursor.cursor-index (map length (map g.C.DocCursor.list c.args.cursors.now)) (omega (arith, all, c.loop-cursor-test.false)))
