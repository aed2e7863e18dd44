use Rattle.std.proofs.Common.{◌≡◌, refl, sym, subst, ℕ, ◌<◌, ◌≤◌, List, [], ◌∷◌, length, lit≤, lit<, arith}
use Rattle.std.specs.List.{All}
use Rattle.std.proofs.lemmas.List.Elements.{All-from_recursion}
use Rattle.collection_model.specs.Collection.{Posting, Collection, WellFormed, docs_of, list_of}
use Rattle.collection_model.specs.FormatNumbers.{FormatNumbers}
use Rattle.scan_plans.specs.TopQuery.{IsTopQuery}
use Rattle.postings.specs.declared.cursor.PostingCursor.{PostingCursor}
use Rattle.postings.specs.contracts.cursor.PostingCursorDocCursor.TheImpl as impl
use Rattle.step_runs.specs.declared.plans.Counting.{Counting}
use Rattle.step_runs.proofs.plans.moves_by.Goals as goal

-- the documents of a list of the collection
below : (format : FormatNumbers) (c : Collection) (n t : ℕ) (list : List Posting) → WellFormed format c → n ≡ c.documents → t < length c.lists → list ≡ list_of c t → All (λ d. d < n) (docs_of list)
below format c n t list good is there same =
    let stands : All (λ d. d < c.documents) (docs_of (list_of c t)) = (good.lists t [] there).in_range in
    subst (λ l. All (λ d. d < n) (docs_of l)) (sym same) (subst (λ m. All (λ d. d < m) (docs_of (list_of c t))) (sym is) stands)

-- cursors at the starts of two lists are a query of these, each with the weight 1
query : (n : ℕ) (a b : Counting PostingCursor) (p q : PostingCursor) → a.cursor ≡ p → b.cursor ≡ q → impl.ghosts.place p ≡ 0 → impl.ghosts.place q ≡ 0
    → All (λ d. d < n) (docs_of (impl.ghosts.list p)) → All (λ d. d < n) (docs_of (impl.ghosts.list q))
    → IsTopQuery (λ (x : Counting PostingCursor). impl.ghosts.list x.cursor) (λ (x : Counting PostingCursor). impl.ghosts.place x.cursor) n (a ∷ b ∷ []) (1 ∷ 1 ∷ [])
query n a b p q ap bq sp sq lp lq = record {
  few = lit≤ tt;
  at_start =
      All-from_recursion (λ (x : Counting PostingCursor). impl.ghosts.place x.cursor ≡ 0) (a ∷ b ∷ [])
      (subst (λ x. impl.ghosts.place x ≡ 0) (sym ap) sp, (subst (λ x. impl.ghosts.place x ≡ 0) (sym bq) sq, tt));
  in_range =
      All-from_recursion (λ list. All (λ d. d < n) (docs_of list)) (impl.ghosts.list a.cursor ∷ impl.ghosts.list b.cursor ∷ [])
      (subst (λ x. All (λ d. d < n) (docs_of (impl.ghosts.list x))) (sym ap) lp, (subst (λ x. All (λ d. d < n) (docs_of (impl.ghosts.list x))) (sym bq) lq, tt));
  each = refl;
  some = All-from_recursion (λ w. 1 ≤ w) (1 ∷ 1 ∷ []) (lit≤ tt, (lit≤ tt, tt));
  light = lit< tt;
}

pub plan_top-requires : goal.plan_top-requires
plan_top-requires c =
    let all = c.args.index.now.collection in
    let n : ℕ = c.documents.result in
    let good = c.stands_for_a_collection.ensures.well_formed in
    let two : length all.lists ≡ 2 = omega (arith, c.terms.ensures, c.if-terms-ne2.false) in
    query n c.new.result c.new-2.result c.cursor.result c.cursor-2.result c.new.ensures c.new-2.ensures c.cursor.ensures.start c.cursor-2.ensures.start
    (below _ all n 0 _ good c.documents.ensures (omega (arith, two)) c.cursor.ensures.list) (below _ all n 1 _ good c.documents.ensures (omega (arith, two)) c.cursor-2.ensures.list)
