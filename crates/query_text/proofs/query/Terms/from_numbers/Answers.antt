use Rattle.std.proofs.Common.{rules, ◌∙◌, ap, sym, subst, List, ℕ, eqb, IsPermutation}
use Rattle.std.specs.List.{dedup}
use Rattle.std.specs.List.Sorted.{IsStrictlyIncreasing}
use Rattle.smallvec.proofs.SmallVecLemmas.{items-with_items}
use Rattle.query_text.proofs.TermSets.{dedup-sorted, set_of-increasing}
use Rattle.query_text.proofs.query.Terms.from_numbers.Goals as goal

pub returns : goal.returns
returns c =
    let whole = items-with_items c.args.numbers c.sort_unstable.new.self (search rules) in
    c.dedup.ensures.items ∙ ap (dedup eqb) whole ∙ dedup-sorted c.args.numbers.items c.sort_unstable.new.self (subst (λ (l : List ℕ). IsPermutation l c.sort_unstable.new.self) c.deref_mut.ensures.value c.sort_unstable.ensures.permutation) c.sort_unstable.ensures.sorted

pub invariant_of-result : goal.invariant_of-result
invariant_of-result c = subst IsStrictlyIncreasing (sym (returns c)) (set_of-increasing c.args.numbers.items)
