use Rattle.std.specs.Prelude.{ℕ, zero, suc, ◌+◌, ◌*◌, ◌/◌, ◌%◌, ◌^◌, nat_lt, List, [], ◌∷◌, map, length}
use Rattle.std.specs.List.{filter, range_with_len}
use Rattle.collection_model.specs.Collection.{Posting, Collection}

-- the state behind a draw
abbrev pub next_state : ℕ → ℕ
next_state s = (69069 * s + 12345) % 2 ^ 32

-- the state behind so many draws
unfoldable pub state_behind : ℕ → ℕ → ℕ
state_behind s zero = s
state_behind s (suc k) = next_state (state_behind s k)

-- draw k from a state on: the high half of the state behind it
unfoldable pub draw : ℕ → ℕ → ℕ
draw s k = state_behind s (suc k) / 2 ^ 16

-- the document of posting j where gaps are at most g: the first lies below g, and each other at
-- most g past the one before it
unfoldable pub document_drawn : ℕ → ℕ → ℕ → ℕ
document_drawn g s zero = draw s 0 % g
document_drawn g s (suc j) = document_drawn g s j + 1 + draw s (suc j) / 8 % g

-- posting j
abbrev pub posting_drawn : ℕ → ℕ → ℕ → Posting
posting_drawn g s j = record { doc = document_drawn g s j; freq = 1 + draw s (suc j) % 8 }

-- the list over n documents that a state draws: of its first n postings those of a document below n
unfoldable pub list_drawn : ℕ → ℕ → ℕ → List Posting
list_drawn n g s = filter (λ p. nat_lt p.doc n) (map (posting_drawn g s) (range_with_len 0 n))

-- the greatest gap of list i
abbrev pub gap_of : ℕ → ℕ
gap_of i = 1 + i % 64

-- so many lists over n documents from list i on, each drawn from the state behind the one before it
unfoldable pub lists_drawn : ℕ → ℕ → ℕ → ℕ → List (List Posting)
lists_drawn n i s zero = []
lists_drawn n i s (suc more) = let list = list_drawn n (gap_of i) s in list ∷ lists_drawn n (i + 1) (state_behind s (1 + length list)) more

-- the collection of a seed, with n documents and t lists
unfoldable pub generated : ℕ → ℕ → ℕ → Collection
generated seed n t = record {
  documents = n;
  lists = lists_drawn n 0 seed t;
  sizes = map (λ d. 1 + d % 1000) (range_with_len 0 n);
}

-- a generator: how many documents its lists are over, the state to draw from, and the lists to come
pub record Generator : Type 0 where
  pub documents : ℕ
  pub state : ℕ
  pub lists : List (List Posting)
