use Rattle.std.proofs.Common.{◌≡◌, sym, ◌∙◌, ap, subst, ℕ, ◌<◌, ◌≤◌, List, length, map, arith}
use Rattle.std.specs.Prelude.{Result, Ok, Err, IfOk, Vec}
use Rattle.std.specs.declared.alloc.Global.{Global}
use Rattle.std.specs.List.{All}
use Rattle.std.proofs.lemmas.List.{length-map}
use Rattle.collection_model.specs.Collection.{Posting, Collection, list_of}
use Rattle.scan_plans.specs.Matches.{AreBelow}
use Rattle.scan_plans.specs.IsTop.{IsTop}
use Rattle.scan_plans.specs.TopQuery.{IsTopQuery}
use Rattle.scan_plans.proofs.AskedLists.{lists-below, is-query as lists-asked}
use Rattle.segments.specs.Laws.{IsInRange}
use Rattle.no_memory.specs.declared.NoMemory.{NoMemory}
use Rattle.query_text.specs.Texts.{top_text}
use Rattle.query_text.specs.Weights.{AreWeights}
use Rattle.command_model.specs.Replies.{IsTopText, lists_of}

-- the documents of the cursors over the lists of some terms are those of the collection
pub cursors-below : {C : Type 0} (list_at : C → List Posting) (c : Collection) (terms : List ℕ) (made cursors : List C) →
    IsInRange c → All (λ t. t < length c.lists) terms → map list_at made ≡ lists_of c terms → cursors ≡ made → AreBelow c.documents (map list_at cursors)
cursors-below list_at c terms made cursors in_range below so same =
    subst (AreBelow c.documents) (sym (ap (map list_at) same ∙ so)) (lists-below c terms in_range below)

-- cursors at the starts of the lists of some terms are a query with the weights of these
pub is-query : {C : Type 0} (list_at : C → List Posting) (place_at : C → ℕ) (c : Collection) (terms weights : List ℕ) (made cursors : List C) →
    IsInRange c → All (λ t. t < length c.lists) terms → length terms ≤ 1024 → length weights ≡ length terms → AreWeights weights →
    map list_at made ≡ lists_of c terms → All (λ x. place_at x ≡ 0) made → cursors ≡ made → IsTopQuery list_at place_at c.documents cursors weights
is-query list_at place_at c terms weights made cursors in_range below few each are so start same =
    let all : length (lists_of c terms) ≡ length terms = length-map terms (list_of c) in
    lists-asked list_at place_at c.documents (lists_of c terms) weights made cursors (omega (arith, all, few)) (lists-below c terms in_range below) (each ∙ sym all) are.some are.light so start same

-- the text of a top list, from cursors over the lists that are asked for
pub top-text : (n : ℕ) (lists asked : List (List Posting)) (weights : List ℕ) (k : ℕ) (found lent : List (ℕ × ℕ)) (r : Result (Vec ℕ Global) NoMemory) → lists ≡ asked → IsTop n lists weights k found → lent ≡ found →
    IfOk r (λ text. text.items ≡ top_text lent) → IfOk r (λ text. IsTopText n asked weights k text.items)
top-text n lists asked weights k found lent (Err e) same top lend text = tt
top-text n lists asked weights k found lent (Ok text) same top lend is = (found, subst (λ (ls : List (List Posting)). IsTop n ls weights k found) same top, is ∙ ap top_text lend)
