-- That the files of a collection are those of no other.
use Rattle.std.proofs.Common.{◌≡◌, sym, ap, ◌∙◌, subst, ℕ, ◌^◌, ◌<◌, ◌≤◌, List, [], ◌∷◌, ◌++◌, inl, inr, length, lit<, arith}
use Rattle.std.specs.List.{All}
use Rattle.std.proofs.lemmas.Bool.{cases_lt}
use Rattle.std.proofs.lemmas.List.{append-nil}
use Rattle.std.proofs.lemmas.List.Elements.{All-nil, All-cons}
use Rattle.collection_model.specs.FormatNumbers.{FormatNumbers}
use Rattle.collection_model.specs.Collection.{Posting, IsPostingList}
use Rattle.collection_model.specs.Spelling.{head_bytes, docs_bytes, freqs_bytes}
use Rattle.collection_model.specs.Laws.{OneCollection}
use Rattle.collection_model.proofs.Numbers.{AreNumbers, number_sequence-split}
use Rattle.collection_model.proofs.Lists.{lists-go_on, no-list-from_no_bytes}

-- the head of a file of documents states one number
pub head-split : (m n : ℕ) (x y : List ℕ) → m < 2 ^ 32 → n < 2 ^ 32 → head_bytes m ++ x ≡ head_bytes n ++ y → (m ≡ n) × (x ≡ y)
head-split m n x y p q same =
    let single : (k : ℕ) → k < 2 ^ 32 → AreNumbers (k ∷ []) = λ k small. All-cons (λ j. j < 2 ^ 32) k [] small (All-nil (λ j. j < 2 ^ 32)) in
    let both = number_sequence-split (m ∷ []) (n ∷ []) x y (lit< tt) (lit< tt) (single m p) (single n q) same in
    let number : m ≡ n = cc (both.0) in
    (number, both.1)

-- lists over the same documents with the same bytes, where the first are at most as many
shorter-same : (format : FormatNumbers) (n : ℕ) → n < 2 ^ 32 → (ls os : List (List Posting)) → All (IsPostingList format n) ls → All (IsPostingList format n) os → length ls ≤ length os
    → docs_bytes ls ≡ docs_bytes os → freqs_bytes ls ≡ freqs_bytes os → ls ≡ os
shorter-same format n small ls os ps qs le same_docs same_freqs =
    let on = lists-go_on format n small ls os [] [] [] [] ps qs le (ap (λ b. b ++ []) same_docs) (ap (λ b. b ++ []) same_freqs) in
    let none = no-list-from_no_bytes on.more [] on.docs_rest in
    sym (on.lists ∙ ap (λ m. ls ++ m) none ∙ append-nil ls)

pub lists-same : (format : FormatNumbers) (n : ℕ) → n < 2 ^ 32 → (ls os : List (List Posting)) → All (IsPostingList format n) ls → All (IsPostingList format n) os
    → docs_bytes ls ≡ docs_bytes os → freqs_bytes ls ≡ freqs_bytes os → ls ≡ os
lists-same format n small ls os ps qs same_docs same_freqs =
    elim (cases_lt (length os) (length ls)) [
      | inl lt ↦ sym (shorter-same format n small os ls qs ps (omega arith) (sym same_docs) (sym same_freqs))
      | inr le ↦ shorter-same format n small ls os ps qs le same_docs same_freqs
    ]

-- three byte strings spell at most one collection
pub one-collection : (format : FormatNumbers) → format.most_documents < 2 ^ 32 → OneCollection format
one-collection format within c d p q same =
    let head = head-split c.documents d.documents (docs_bytes c.lists) (docs_bytes d.lists) (omega (arith, p.documents)) (omega (arith, q.documents)) (ap (λ f. f.docs) same) in
    let qs : All (IsPostingList format c.documents) d.lists = subst (λ n. All (IsPostingList format n) d.lists) (sym head.0) q.lists in
    let lists = lists-same format c.documents (omega (arith, p.documents)) c.lists d.lists p.lists qs head.1 (ap (λ f. f.freqs) same) in
    let sizes = number_sequence-split c.sizes d.sizes [] [] (omega (arith, p.documents, p.size_each)) (omega (arith, q.documents, q.size_each)) p.sizes q.sizes (ap (λ f. f.sizes ++ []) same) in
    λ i. record { documents = head.0 i; lists = lists i; sizes = sizes.0 i }
