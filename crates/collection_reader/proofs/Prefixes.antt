-- Lemmas on prefixes: of two prefixes of the same files the longer goes on where the shorter ends.
use Rattle.std.proofs.Common.{◌≡◌, refl, sym, ap, ◌∙◌, subst, ℕ, ◌^◌, ◌<◌, ◌≤◌, List, [], ◌∷◌, ◌++◌, inl, inr, length, drop, arith, append_assoc, length-append}
use Rattle.std.specs.List.{All}
use Rattle.std.proofs.lemmas.Bool.{cases_lt}
use Rattle.std.proofs.lemmas.List.{append-nil, drop_at, nil_from_length}
use Rattle.std.proofs.lemmas.List.Elements.{All-head, All-drop, All-same}
use Rattle.collection_model.specs.FormatNumbers.{FormatNumbers, most_terms}
use Rattle.collection_model.specs.Bytes.{number_sequence}
use Rattle.collection_model.specs.Collection.{Posting, docs_of, freqs_of, IsPostingList}
use Rattle.collection_model.specs.Spelling.{Files, head_bytes, docs_bytes, freqs_bytes}
use Rattle.collection_model.proofs.Numbers.{number_sequence-length}
use Rattle.collection_model.proofs.Lists.{GoesOn, lists-go_on}
use Rattle.collection_model.proofs.Spelled.{head-split}
use Rattle.collection_reader.specs.FirstFault.{IsPrefix, IsLongestPrefix}
use Rattle.collection_reader.proofs.Breaks.{IsBlocked}

-- a prefix that is at most as long as another goes on to it
pub prefix-goes_on : (format : FormatNumbers) → format.most_documents < 2 ^ 32 → (files : Files) (n k : ℕ) (ls os : List (List Posting)) (docs freqs docs' freqs' : List ℕ)
    → IsPrefix format files n ls docs freqs → IsPrefix format files k os docs' freqs' → length ls ≤ length os → (n ≡ k) × GoesOn ls os docs freqs docs' freqs'
prefix-goes_on format small files n k ls os docs freqs docs' freqs' p q le =
    let same = sym (append_assoc (head_bytes n) (docs_bytes ls) docs) ∙ sym p.docs ∙ q.docs ∙ append_assoc (head_bytes k) (docs_bytes os) docs' in
    let head = head-split n k (docs_bytes ls ++ docs) (docs_bytes os ++ docs') (omega (arith, p.documents)) (omega (arith, q.documents)) same in
    let qs : All (IsPostingList format n) os = subst (λ m. All (IsPostingList format m) os) (sym head.0) q.each in
    (head.0, lists-go_on format n (omega (arith, p.documents)) ls os docs freqs docs' freqs' p.each qs le head.1 (sym p.freqs ∙ q.freqs))

-- lists go on by none where no list stands next
blocked-more : (format : FormatNumbers) (n : ℕ) (ls more : List (List Posting)) (docs freqs docs' freqs' : List ℕ) → All (IsPostingList format n) (ls ++ more) → docs ≡ docs_bytes more ++ docs' → freqs ≡ freqs_bytes more ++ freqs' → IsBlocked format n docs freqs → length more ≡ 0
blocked-more format n ls [] docs freqs docs' freqs' good is_docs is_freqs blocked = refl
blocked-more format n ls (m ∷ more) docs freqs docs' freqs' good is_docs is_freqs blocked =
    let rest : All (IsPostingList format n) (m ∷ more) = All-same (IsPostingList format n) (m ∷ more) (drop (length ls) (ls ++ m ∷ more)) (sym (drop_at ls (m ∷ more) (length ls) refl)) (All-drop (IsPostingList format n) (length ls) (ls ++ m ∷ more) good) in
    absurd (blocked m (docs_bytes more ++ docs') (freqs_bytes more ++ freqs') (All-head (IsPostingList format n) m more rest)
    (is_docs ∙ append_assoc (number_sequence (docs_of m)) (docs_bytes more) docs')
    (is_freqs ∙ append_assoc (number_sequence (freqs_of m)) (freqs_bytes more) freqs'))

longer-not : (format : FormatNumbers) → format.most_documents < 2 ^ 32 → (files : Files) (n k : ℕ) (ls os : List (List Posting)) (docs freqs docs' freqs' : List ℕ)
    → IsPrefix format files n ls docs freqs → IsPrefix format files k os docs' freqs' → length ls < length os → IsBlocked format n docs freqs → ⊥
longer-not format small files n k ls os docs freqs docs' freqs' p q lt blocked =
    let on = prefix-goes_on format small files n k ls os docs freqs docs' freqs' p q (omega arith) in
    let qs : All (IsPostingList format n) os = subst (λ m. All (IsPostingList format m) os) (sym on.0) q.each in
    let good : All (IsPostingList format n) (ls ++ on.1.more) = subst (λ l. All (IsPostingList format n) l) on.1.lists qs in
    let none = blocked-more format n ls on.1.more docs freqs docs' freqs' good on.1.docs_rest on.1.freqs_rest blocked in
    omega (arith, ap length on.1.lists, length-append ls on.1.more)

-- a prefix behind which no list stands is the longest
pub longest-from_blocked : (format : FormatNumbers) → format.most_documents < 2 ^ 32 → (files : Files) (n : ℕ) (ls : List (List Posting)) (docs freqs : List ℕ)
    → IsPrefix format files n ls docs freqs → IsBlocked format n docs freqs → IsLongestPrefix format files n ls docs freqs
longest-from_blocked format small files n ls docs freqs prefix blocked = record {
  prefix = prefix;
  longest = λ k os docs' freqs' other. elim (cases_lt (length ls) (length os)) [
    | inl lt ↦ absurd (longer-not format small files n k ls os docs freqs docs' freqs' prefix other lt blocked)
    | inr le ↦ le
  ];
}

-- so is one with as many lists as there may be
pub longest-from_full : (format : FormatNumbers) (files : Files) (n : ℕ) (ls : List (List Posting)) (docs freqs : List ℕ)
    → IsPrefix format files n ls docs freqs → length ls ≡ most_terms → IsLongestPrefix format files n ls docs freqs
longest-from_full format files n ls docs freqs prefix full = record {
  prefix = prefix;
  longest = λ k os docs' freqs' other. omega (arith, other.terms);
}

-- where the documents are used up no list stands next
pub blocked-at_end : (format : FormatNumbers) (n : ℕ) (freqs : List ℕ) → IsBlocked format n [] freqs
blocked-at_end format n freqs m x y good is_docs is_freqs =
    omega (arith, ap length is_docs, length-append (number_sequence (docs_of m)) x, number_sequence-length (docs_of m))

-- two longest prefixes are one
pub record AreSame (n k : ℕ) (ls os : List (List Posting)) (docs freqs docs' freqs' : List ℕ) : Type 0 where
  pub documents : n ≡ k
  pub lists : ls ≡ os
  pub docs_rest : docs ≡ docs'
  pub freqs_rest : freqs ≡ freqs'

pub longest-same : (format : FormatNumbers) → format.most_documents < 2 ^ 32 → (files : Files) (n k : ℕ) (ls os : List (List Posting)) (docs freqs docs' freqs' : List ℕ)
    → IsLongestPrefix format files n ls docs freqs → IsLongestPrefix format files k os docs' freqs' → AreSame n k ls os docs freqs docs' freqs'
longest-same format small files n k ls os docs freqs docs' freqs' p q =
    let most = p.longest k os docs' freqs' q.prefix in
    let least = q.longest n ls docs freqs p.prefix in
    let on = prefix-goes_on format small files n k ls os docs freqs docs' freqs' p.prefix q.prefix least in
    let none : on.1.more ≡ [] = nil_from_length on.1.more (omega (arith, ap length on.1.lists, length-append ls on.1.more)) in
    record {
      documents = on.0;
      lists = sym (on.1.lists ∙ ap (λ m. ls ++ m) none ∙ append-nil ls);
      docs_rest = on.1.docs_rest ∙ ap (λ m. docs_bytes m ++ docs') none;
      freqs_rest = on.1.freqs_rest ∙ ap (λ m. freqs_bytes m ++ freqs') none;
    }
