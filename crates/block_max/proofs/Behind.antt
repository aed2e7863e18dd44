-- Lemmas on the documents behind which there is no block.
use Rattle.std.proofs.Common.{◌≡◌, refl, ap, ◌∙◌, subst, inl, inr, ℕ, ◌<◌, ◌≤◌, Bool, false, cond, leb, List, [], ◌∷◌, get_or, Option, Some, None, IsSomeAnd, Contains}
use Rattle.std.specs.List.{All}
use Rattle.std.proofs.lemmas.Bool.{cases_lt, lt-leb}
use Rattle.std.proofs.lemmas.List.Elements.{All-contains, All-head, All-map, All-tail}
use Rattle.collection_model.specs.Collection.{Posting, docs_of}
use Rattle.block_max.specs.Blocks.{AreBlocks, Block, block_from}
use Rattle.block_max.proofs.Ceilings.{later-none}

-- where there is no block, all documents are below
pub all-below : (list : List Posting) (blocks : List Block) (d : ℕ) → AreBlocks list blocks → block_from blocks d ≡ None → All (λ p. p.doc < d) list
all-below list blocks d are is = λ k e within.
    let p : Posting = get_or list k e in
    elim (cases_lt p.doc d) as (λ _. p.doc < d) [
      | inl lt ↦ lt
      | inr ge ↦ absurd (subst (λ (o : Option Block). IsSomeAnd o (λ b. p.freq ≤ b.greatest)) (later-none blocks d p.doc ge is) (are.covered k e within))
    ]

passed-step : (here : Bool) (b : Block) (o : Option Block) → here ≡ false → o ≡ None → cond here (Some b) o ≡ None
passed-step here b o out none = ap (λ (h : Bool). cond h (Some b) o) out ∙ none

none-left : (list : List Posting) (blocks : List Block) (d : ℕ) → All (λ x. x < d) (docs_of list) → All (λ b. Contains (docs_of list) b.last) blocks → block_from blocks d ≡ None
none-left list [] d below lasts = refl
none-left list (b ∷ blocks) d below lasts =
    let lt : b.last < d = All-contains (λ (x : ℕ). x < d) (docs_of list) b.last below (All-head (λ (b : Block). Contains (docs_of list) b.last) b blocks lasts) in
    passed-step (leb d b.last) b (block_from blocks d) (lt-leb d b.last lt)
    (none-left list blocks d below (All-tail (λ (b : Block). Contains (docs_of list) b.last) b blocks lasts))

-- where all documents are below, there is no block
pub no-block : (list : List Posting) (blocks : List Block) (d : ℕ) → AreBlocks list blocks → All (λ p. p.doc < d) list → block_from blocks d ≡ None
no-block list blocks d are below = none-left list blocks d (All-map (λ (x : ℕ). x < d) (λ (p : Posting). p.doc) list below) are.lasts
