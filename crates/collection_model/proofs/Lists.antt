-- Lemmas on posting lists and the bytes that spell them.
use Rattle.std.proofs.Common.{◌≡◌, refl, sym, ap, ◌∙◌, ℕ, ◌+◌, ◌^◌, ◌<◌, ◌≤◌, List, [], ◌∷◌, ◌++◌, zero, suc, length, get_or, arith, append_assoc, length-append, add-one}
use Rattle.std.specs.List.{All}
use Rattle.std.specs.List.Sorted.{IsStrictlyIncreasing}
use Rattle.std.proofs.lemmas.List.{length-map}
use Rattle.std.proofs.lemmas.List.Elements.{All-head, All-tail, All-get_or, All-weaker}
use Rattle.collection_model.specs.FormatNumbers.{FormatNumbers}
use Rattle.collection_model.specs.Bytes.{number_sequence}
use Rattle.collection_model.specs.Collection.{Posting, docs_of, freqs_of, postings_of, IsPostingList}
use Rattle.collection_model.specs.Spelling.{docs_bytes, freqs_bytes}
use Rattle.collection_model.proofs.Numbers.{AreNumbers, number_sequence-split, number_sequence-length}

-- number k of a rising list is at least k
rising-at_least : (ns : List ℕ) → IsStrictlyIncreasing ns → (k : ℕ) → k < length ns → k ≤ get_or ns k 0
rising-at_least ns rising zero within = omega arith
rising-at_least ns rising (suc k) within =
    let step : get_or ns k 0 < get_or ns (k + 1) 0 = rising k (omega arith) in
    omega (arith, rising-at_least ns rising k (omega arith), ap (λ j. get_or ns j 0) (add-one k))

-- a rising list below n has at most n numbers
pub rising-length : (ns : List ℕ) (n : ℕ) → IsStrictlyIncreasing ns → All (λ d. d < n) ns → length ns ≤ n
rising-length [] n rising below = omega arith
rising-length (x ∷ xs) n rising below =
    omega (arith, rising-at_least (x ∷ xs) rising (length xs) (omega arith), All-get_or (λ d. d < n) (x ∷ xs) (length xs) 0 (omega arith) below)

-- a list is its documents with its frequencies
pub postings-of_list : (list : List Posting) → postings_of (docs_of list) (freqs_of list) ≡ list
postings-of_list [] = refl
postings-of_list (p ∷ list) = ap (λ l. p ∷ l) (postings-of_list list)

pub docs-of_postings : (docs freqs : List ℕ) → length docs ≡ length freqs → docs_of (postings_of docs freqs) ≡ docs
docs-of_postings [] freqs l = refl
docs-of_postings (d ∷ docs) [] l = absurd (omega arith)
docs-of_postings (d ∷ docs) (f ∷ freqs) l = ap (λ x. d ∷ x) (docs-of_postings docs freqs (omega arith))

pub freqs-of_postings : (docs freqs : List ℕ) → length docs ≡ length freqs → freqs_of (postings_of docs freqs) ≡ freqs
freqs-of_postings [] [] l = refl
freqs-of_postings [] (f ∷ freqs) l = absurd (omega arith)
freqs-of_postings (d ∷ docs) [] l = absurd (omega arith)
freqs-of_postings (d ∷ docs) (f ∷ freqs) l = ap (λ x. f ∷ x) (freqs-of_postings docs freqs (omega arith))

pub docs_of-length : (list : List Posting) → length (docs_of list) ≡ length list
docs_of-length list = length-map list (λ p. p.doc)

pub freqs_of-length : (list : List Posting) → length (freqs_of list) ≡ length list
freqs_of-length list = length-map list (λ p. p.freq)

-- what the bytes of a list over fewer than 2 ^ 32 documents hold
pub record Fits (list : List Posting) : Type 0 where
  pub docs_count : length (docs_of list) < 2 ^ 32
  pub freqs_count : length (freqs_of list) < 2 ^ 32
  pub docs : AreNumbers (docs_of list)
  pub freqs : AreNumbers (freqs_of list)

pub list-fits : (format : FormatNumbers) (n : ℕ) (list : List Posting) → n < 2 ^ 32 → IsPostingList format n list → Fits list
list-fits format n list small good =
    let many : length (docs_of list) ≤ n = rising-length (docs_of list) n good.rising good.in_range in
    record {
      docs_count = omega arith;
      freqs_count = omega (arith, docs_of-length list, freqs_of-length list);
      docs = All-weaker (λ d. d < n) (λ d. d < 2 ^ 32) (λ d below. omega arith) (docs_of list) good.in_range;
      freqs = good.fit;
    }

-- how some lists go on beyond others that stand first in the same files
pub record GoesOn (ls os : List (List Posting)) (docs freqs docs' freqs' : List ℕ) : Type 0 where
  pub more : List (List Posting)
  pub lists : os ≡ ls ++ more
  pub docs_rest : docs ≡ docs_bytes more ++ docs'
  pub freqs_rest : freqs ≡ freqs_bytes more ++ freqs'

-- of two runs of lists that stand first in the same files, the longer goes on where the shorter ends
pub lists-go_on : (format : FormatNumbers) (n : ℕ) → n < 2 ^ 32 → (ls os : List (List Posting)) (docs freqs docs' freqs' : List ℕ)
    → All (IsPostingList format n) ls → All (IsPostingList format n) os → length ls ≤ length os
    → docs_bytes ls ++ docs ≡ docs_bytes os ++ docs' → freqs_bytes ls ++ freqs ≡ freqs_bytes os ++ freqs' → GoesOn ls os docs freqs docs' freqs'
lists-go_on format n small [] os docs freqs docs' freqs' ps qs le same_docs same_freqs = record { more = os; lists = refl; docs_rest = same_docs; freqs_rest = same_freqs }
lists-go_on format n small (l ∷ ls) [] docs freqs docs' freqs' ps qs le same_docs same_freqs = absurd (omega arith)
lists-go_on format n small (l ∷ ls) (o ∷ os) docs freqs docs' freqs' ps qs le same_docs same_freqs =
    let p = list-fits format n l small (All-head (IsPostingList format n) l ls ps) in
    let q = list-fits format n o small (All-head (IsPostingList format n) o os qs) in
    let by_docs = number_sequence-split (docs_of l) (docs_of o) (docs_bytes ls ++ docs) (docs_bytes os ++ docs') p.docs_count q.docs_count p.docs q.docs (sym (append_assoc (number_sequence (docs_of l)) (docs_bytes ls) docs) ∙ same_docs ∙ append_assoc (number_sequence (docs_of o)) (docs_bytes os) docs') in
    let by_freqs = number_sequence-split (freqs_of l) (freqs_of o) (freqs_bytes ls ++ freqs) (freqs_bytes os ++ freqs') p.freqs_count q.freqs_count p.freqs q.freqs (sym (append_assoc (number_sequence (freqs_of l)) (freqs_bytes ls) freqs) ∙ same_freqs ∙ append_assoc (number_sequence (freqs_of o)) (freqs_bytes os) freqs') in
    let rest = lists-go_on format n small ls os docs freqs docs' freqs' (All-tail (IsPostingList format n) l ls ps) (All-tail (IsPostingList format n) o os qs) (omega arith) by_docs.1 by_freqs.1 in
    let first : l ≡ o = sym (postings-of_list l) ∙ (λ i. postings_of (by_docs.0 i) (by_freqs.0 i)) ∙ postings-of_list o in
    record { more = rest.more; lists = (λ i. sym first i ∷ rest.lists i); docs_rest = rest.docs_rest; freqs_rest = rest.freqs_rest }

-- lists whose documents take no bytes are none
pub no-list-from_no_bytes : (ls : List (List Posting)) (rest : List ℕ) → [] ≡ docs_bytes ls ++ rest → ls ≡ []
no-list-from_no_bytes [] rest same = refl
no-list-from_no_bytes (l ∷ ls) rest same =
    absurd (omega (arith, ap length same, length-append (number_sequence (docs_of l) ++ docs_bytes ls) rest, length-append (number_sequence (docs_of l)) (docs_bytes ls), number_sequence-length (docs_of l)))
