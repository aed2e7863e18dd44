use Rattle.std.proofs.Common.{zero, suc, ◌<◌, ◌≤◌, List, [], ◌∷◌, refl, arith}
use Rattle.std.specs.List.Sorted.{IsStrictlyIncreasing}
use Rattle.std.proofs.lemmas.List.Elements.{All-from_recursion}
use Rattle.collection_model.specs.FormatNumbers.{format_three}
use Rattle.collection_model.specs.Collection.{Posting, IsPostingList}
use Rattle.worked_lists.proofs.written.write_two.Goals as goal

abbrev two : List Posting
two = record { doc = 0; freq = 1 } ∷ record { doc = 2; freq = 5 } ∷ []

rising : IsStrictlyIncreasing (0 ∷ 2 ∷ [])
rising zero lt = omega arith
rising (suc k) lt = absurd (omega (arith, lt))

well-formed : IsPostingList format_three 3 two
well-formed = record {
  rising = rising;
  in_range = All-from_recursion (λ d. d < 3) (0 ∷ 2 ∷ []) (omega arith, (omega arith, tt));
  not_zero = All-from_recursion (λ f. 1 ≤ f) (1 ∷ 5 ∷ []) (omega arith, (omega arith, tt));
  fit = All-from_recursion (λ f. f < 4294967296) (1 ∷ 5 ∷ []) (omega arith, (omega arith, tt));
  sum_within = omega arith;
}

pub write_list-requires-clause-list : goal.write_list-requires-clause-list
write_list-requires-clause-list c = (
  two,
  record {
    cut = record { well_formed = well-formed; docs = c.requires.docs; freqs = c.requires.sums };
    of_docs = refl;
    of_sums = refl;
    most = refl;
  },
)
