use Rattle.std.proofs.Common.{◌≡◌, sym, ap, ◌∙◌, subst, ◌<◌, List, ◌∷◌, map, arith}
use Rattle.std.specs.List.{All}
use Rattle.std.specs.List.Sorted.{IsPermutation}
use Rattle.std.proofs.lemmas.List.Elements.{All-head, All-tail}
use Rattle.std.proofs.lemmas.List.Sorted.{IsPermutation-map, All-permutation, length_permutation}
use Rattle.std.proofs.lemmas.Result.{IfOk-weaker}
use Rattle.collection_model.specs.Collection.{Posting, docs_of}
use Rattle.scan_plans.specs.Matches.{in_all}
use Rattle.scan_plans.proofs.Reordered.{in_all-same}
use Rattle.scan_plans.proofs.docs.and_docs.Given as given
use Rattle.scan_plans.proofs.docs.and_docs.Goals as goal
use Rattle.scan_plans.proofs.docs.and_docs.Goals.{In-Some}

-- the cursors in their new order stand at the start
at-start : (g : given.Over) (c : In-Some g) → All (λ x. g.C.DocCursor.place x ≡ 0) (c.in-Some.shortest.now ∷ c.in-Some.others.now)
at-start g c = subst (All (λ x. g.C.DocCursor.place x ≡ 0)) c.in-Some.ensures.cases.0 (All-permutation (λ x. g.C.DocCursor.place x ≡ 0) c.args.cursors.now c.shortest_first.new.cursors c.shortest_first.ensures.same c.requires.at_start)

pub shared_docs-requires-clause-at_start : goal.shared_docs-requires-clause-at_start
shared_docs-requires-clause-at_start g c = All-head (λ x. g.C.DocCursor.place x ≡ 0) c.in-Some.shortest.now c.in-Some.others.now (at-start g (goal.at.shared_docs-requires-clause-at_start g c).In-Some)

pub shared_docs-requires-clause-others_at_start : goal.shared_docs-requires-clause-others_at_start
shared_docs-requires-clause-others_at_start g c = All-tail (λ x. g.C.DocCursor.place x ≡ 0) c.in-Some.shortest.now c.in-Some.others.now (at-start g (goal.at.shared_docs-requires-clause-others_at_start g c).In-Some)

pub returns-in-Some : goal.returns-in-Some
returns-in-Some g c = λ n below.
    let list = g.C.DocCursor.list in
    let given : List (List Posting) = map list c.args.cursors.now in
    let sorted : List (List Posting) = list c.in-Some.shortest.now ∷ map list c.in-Some.others.now in
    let split : map list c.shortest_first.new.cursors ≡ sorted = ap (map list) c.in-Some.ensures.cases.0 in
    let order = subst (IsPermutation given) split (IsPermutation-map list c.args.cursors.now c.shortest_first.new.cursors c.shortest_first.ensures.same) in
    let count = length_permutation given sorted order in
    let same = in_all-same n given sorted order (omega arith) in
    IfOk-weaker c.shared_docs.result (λ r. r.items ≡ in_all n sorted) (λ r. r.items ≡ in_all n given) (λ r is. is ∙ sym same) (c.shared_docs.ensures n (All-permutation (λ list. All (λ d. d < n) (docs_of list)) given sorted order below))
