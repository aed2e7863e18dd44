use Rattle.std.proofs.Common.{◌≡◌, ℕ, ◌≤◌, true, false, sym, ap, subst, ◌∙◌, ltb, List, length, drop, get_or, arith, rules, tests}
use Rattle.std.specs.List.Sorted.{IsStrictlyIncreasing, IsPartitionPoint, IsPartitionedBy}
use Rattle.std.proofs.lemmas.List.{take_rest}
use Rattle.std.proofs.lemmas.List.Sorted.{IsPartitionPoint-from_clause, IsPartitionedBy-ltb}
use Rattle.collection_model.proofs.Lists.{docs-of_postings}
use Rattle.cursor_api.proofs.Places.{rising-from, next-below}
use Rattle.cursor_api.proofs.plain.PlainCursorDocCursor.docs_below.Goals as goal

pub returns-clause-docs : goal.returns-clause-docs
returns-clause-docs c =
    let s = c.args.self.now in
    let docs : List ℕ = s.docs.now in
    let rest = take_rest docs s.at in
    let rising = subst IsStrictlyIncreasing (docs-of_postings docs s.freqs.now s.same_length) s.lent.rising in
    let parted = subst (λ (xs : List ℕ). IsPartitionedBy (λ y. ltb y c.args.end) xs) (sym rest) (IsPartitionedBy-ltb (λ x. x) (drop s.at docs) c.args.end (rising-from docs s.at rising)) in
    let point = IsPartitionPoint-from_clause (λ y. ltb y c.args.end) _ c.partition_point.result c.partition_point.ensures.partitioned parted (λ a r f k. search (rules, tests)) in
    let bound : c.partition_point.result ≤ length (drop s.at docs) = subst (λ (xs : List ℕ). c.partition_point.result ≤ length xs) rest c.partition_point.ensures.bound in
    let same = c.loop-j.auto.docs in
    next-below docs s.freqs.now c.loop-j.docs s.at c.args.end c.partition_point.result c.min-count.result s.same_length s.within
    (subst (λ (xs : List ℕ). IsPartitionPoint (λ y. ltb y c.args.end ≡ true) (λ y. ltb y c.args.end ≡ false) xs c.partition_point.result) rest point) bound (omega arith)
    (λ j lt. c.loop-j.invariant j (omega arith) ∙ ap (λ (xs : List ℕ). get_or xs j 0) rest)
