use Rattle.std.proofs.Common.{◌≡◌, ℕ, List, [], ◌∷◌, ◌^◌, ◌<◌, ◌≤◌, lit≤, lit<, arith, rules}
use Rattle.std.specs.List.Sorted.{IsStrictlyIncreasing}
use Rattle.std.proofs.lemmas.Result.{IfOk-at_ok}
use Rattle.std.proofs.lemmas.List.Elements.{All-head, All-nil, All-cons, All-from_recursion}
use Rattle.collection_model.specs.Collection.{Posting, postings_of, IsPostingList}
use Rattle.part_cost.specs.Formats.{numbers_of}
use Rattle.part_cost.specs.declared.formats.Format.{Format}
use Rattle.part_cost.specs.declared.formats.Format.TheVariants.{One, Two, Three}
use Rattle.index_file.specs.FileWords.{CutList}
use Rattle.index_file.specs.Builder.{StandsFor, IsNearCut, AddsList}
use Rattle.index_file.proofs.NearStored.{docs-partition, freqs-partition}
use Rattle.worked_files.proofs.SomePart.{parts-some}
use Rattle.worked_files.proofs.built.counted_list.Goals as goal

-- every format has room for a sum of 6
sum-fits : (format : Format) → 6 ≤ (numbers_of format).most_sum
sum-fits One = lit≤ tt
sum-fits Two = lit≤ tt
sum-fits Three = lit≤ tt

two-rising : IsStrictlyIncreasing (0 ∷ 2 ∷ [])
two-rising = search rules

-- the two postings are a list of three documents
is-list : (format : Format) (n : ℕ) → n ≡ 3 → IsPostingList (numbers_of format) n (record { doc = 0; freq = 1 } ∷ record { doc = 2; freq = 5 } ∷ [])
is-list format n three = record {
  rising = two-rising;
  in_range = All-cons (λ d. d < n) 0 (2 ∷ []) (omega (arith, three)) (All-cons (λ d. d < n) 2 [] (omega (arith, three)) (All-nil (λ d. d < n)));
  not_zero = All-from_recursion (λ f. 1 ≤ f) (1 ∷ 5 ∷ []) (lit≤ tt, (lit≤ tt, tt));
  fit = All-from_recursion (λ f. f < 2 ^ 32) (1 ∷ 5 ∷ []) (lit< tt, (lit< tt, tt));
  sum_within = sum-fits format;
}

pub add_list-requires-clause-list : goal.add_list-requires-clause-list
add_list-requires-clause-list g c =
    is-list c.expect-builder.result.format c.expect-builder.result.documents (IfOk-at_ok (λ b. b.documents ≡ 3) c.expect-builder.ensures c.new.ensures.documents)

pub returns-clause-counted : goal.returns-clause-counted
returns-clause-counted g c =
    let list : List Posting = postings_of (0 ∷ 2 ∷ []) (1 ∷ 5 ∷ []) in
    let stands : StandsFor c.expect-builder.result [] = IfOk-at_ok (λ b. StandsFor b []) c.expect-builder.ensures c.new.ensures.no_list in
    let adds : AddsList c.expect-builder.result c.add_list.new.self list c.args.steps.now c.add_list.new.steps = IfOk-at_ok (λ _. AddsList c.expect-builder.result c.add_list.new.self list c.args.steps.now c.add_list.new.steps) c.expect.ensures c.add_list.ensures.ok in
    let added = adds.2 [] stands in
    let cut : CutList = record { list = list; parts = added.0 } in
    let near : IsNearCut (numbers_of c.add_list.new.self.format) cut = All-head (IsNearCut (numbers_of c.add_list.new.self.format)) cut [] added.1.near in
    omega (arith, added.2, parts-some 2 added.0.doc_ends (docs-partition (numbers_of c.add_list.new.self.format) cut near) (omega arith), parts-some 2 added.0.freq_ends (freqs-partition (numbers_of c.add_list.new.self.format) cut near) (omega arith))
