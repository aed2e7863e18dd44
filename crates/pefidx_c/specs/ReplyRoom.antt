use Rattle.std.specs.Prelude.{ℕ, ◌+◌, ◌*◌, min, List, [], ◌∷◌, length, map, sum_by, Result, Ok, Err}
use Rattle.std.specs.List.{fold}
use Rattle.collection_model.specs.Collection.{Posting, Collection}
use Rattle.query_text.specs.declared.query.Bad.{Bad}
use Rattle.query_text.specs.declared.query.Query.{Query}
use Rattle.query_text.specs.declared.query.Query.TheVariants.{Next, And, Or, Top}
use Rattle.query_text.specs.Parse.{parse_line}
use Rattle.pefidx_c.specs.Asked.{lists_of}

-- how many of n documents can be in all of some lists: as many as the shortest has; none where
-- there is no list
abbrev pub most_in_all : ℕ → List (List Posting) → ℕ
most_in_all n [] = 0
most_in_all n (list ∷ lists) = fold min n (map length (list ∷ lists))

-- how many can be in any: as many as all have together
abbrev pub most_in_any : ℕ → List (List Posting) → ℕ
most_in_any n lists = min n (sum_by length lists)

-- the most bytes of the reply to what a line asks: a document has at most 10 digits and a byte
-- before them, a score 18 and a byte, the count of the documents 10 and the newline
abbrev pub query_bytes : Collection → Query → ℕ
query_bytes c (Next t d) = 22
query_bytes c (And terms) = 11 + 11 * most_in_all c.documents (lists_of c terms)
query_bytes c (Or terms) = 11 + 11 * most_in_any c.documents (lists_of c terms)
query_bytes c (Top k terms) =
    11 + 30 * min k (most_in_any c.documents (lists_of c (map (λ t. t.0) terms)))

-- the same of a line, by what it asks or the rule that it breaks
abbrev pub parsed_bytes : Collection → Result Query Bad → ℕ
parsed_bytes c (Ok query) = query_bytes c query
parsed_bytes c (Err bad) = 11

-- the most bytes of the reply to a line
abbrev pub reply_bytes : Collection → List ℕ → ℕ
reply_bytes c line = parsed_bytes c (parse_line (length c.lists) line)
