-- Lemmas on first faults: there is one only, and none where the files are a spelling.
use Rattle.std.proofs.Common.{◌≡◌, refl, sym, ap, ◌∙◌, subst, ℕ, ◌+◌, ◌*◌, ◌^◌, ◌<◌, ◌≤◌, List, [], ◌∷◌, ◌++◌, inl, inr, length, drop, Bool, false, true, not, ◌==◌, nat_lt, if◌then◌else◌, Option, Some, None, MatchBool, MatchOption, IsSomeAnd, arith, lit<, lit≤, append_assoc, length-drop}
use Rattle.std.proofs.lemmas.Bool.{cases_lt, eqb-true, false≢true, le-ltb, ltb-false}
use Rattle.std.proofs.lemmas.Bool.Decides.{nat_tests}
use Rattle.std.proofs.lemmas.Option.{none-some}
use Rattle.std.proofs.lemmas.List.{append-nil, nil_from_length}
use Rattle.std.proofs.lemmas.List.Elements.{All-nil, All-cons, All-drop}
use Rattle.collection_model.specs.FormatNumbers.{FormatNumbers, most_terms}
use Rattle.collection_model.specs.Bytes.{le32, number_sequence, AreBytes}
use Rattle.collection_model.specs.Collection.{Posting, Collection, WellFormed, IsPostingList}
use Rattle.collection_model.specs.Spelling.{Files, head_bytes, docs_bytes, freqs_bytes, spelled}
use Rattle.collection_model.proofs.Numbers.{AreNumbers, number_sequence-length, numbers-of_bytes}
use Rattle.collection_reader.specs.declared.fault.Rule.{Rule}
use Rattle.collection_reader.specs.declared.fault.Fault.{Fault}
use Rattle.collection_reader.specs.FirstFault.{number_at, lacks, FirstBreak, doc_break, freq_break, IsListFault, IsPrefix, IsLongestPrefix, head_fault, end_fault, IsFaultBehind, IsFirstFault}
use Rattle.collection_reader.specs.Laws.{NoFaultMeansSpelled, NoHeadFaultMeansPrefix, OneFirstFault, SpelledHasNoFault}
use Rattle.collection_reader.proofs.Numbers.{number_at-drop, number_at-count, number_at-value, lacks-not, sequence-lacks_not, first-number}
use Rattle.collection_reader.proofs.Breaks.{same-not}
use Rattle.collection_reader.proofs.Prefixes.{longest-same, longest-from_blocked, blocked-at_end}

-- two facts that each depend on one test, or on one option
match_bool-both : (P P' Q Q' R : Type 0) (b : Bool) → (P → P' → R) → (Q → Q' → R) → MatchBool b P Q → MatchBool b P' Q' → R
match_bool-both P P' Q Q' R true at_yes at_no p q = at_yes p q
match_bool-both P P' Q Q' R false at_yes at_no p q = at_no p q

match_option-both : (P P' : Type 0) (Q Q' : Fault → Type 0) (R : Type 0) (o : Option Fault) → (P → P' → R) → ((x : Fault) → Q x → Q' x → R) → MatchOption o P Q → MatchOption o P' Q' → R
match_option-both P P' Q Q' R None at_none at_some p q = at_none p q
match_option-both P P' Q Q' R (Some x) at_none at_some p q = at_some x p q

-- a place that breaks lies behind none that breaks first
breaks-not_before : (at : ℕ → Option Rule) (k j : ℕ) (rule : Rule) → at k ≡ Some rule → ((i : ℕ) → i < j → at i ≡ None) → k < j → ⊥
breaks-not_before at k j rule is before lt = let none = before k lt in cc

break-same : (at : ℕ → Option Rule) (found found' : ℕ → Rule → Type 0) (R : Type 0) (k j : ℕ) (rule rule' : Rule) → ((i : ℕ) (r : Rule) → found i r → found' i r → R) → at k ≡ Some rule → at j ≡ Some rule' → found k rule → found' j rule' → k ≡ j → R
break-same at found found' R k j rule rule' one is is' f g same =
    let there = ap at same in
    let rules : rule' ≡ rule = cc in
    one k rule f (subst (λ r. found' k r) rules (subst (λ i. found' i rule') (sym same) g))

-- the first place that breaks is one
breaks-both : (at : ℕ → Option Rule) (m : ℕ) (found found' : ℕ → Rule → Type 0) (o o' R : Type 0) → ((k : ℕ) (rule : Rule) → found k rule → found' k rule → R) → (o → o' → R) → FirstBreak at m found o → FirstBreak at m found' o' → R
breaks-both at m found found' o o' R one other (inl (k, rule, within, is, before, f)) (inl (j, rule', within', is', before', g)) =
    elim (cases_lt k j) [
      | inl lt ↦ absurd (breaks-not_before at k j rule is before' lt)
      | inr le ↦ elim (cases_lt j k) [
        | inl lt ↦ absurd (breaks-not_before at j k rule' is' before lt)
        | inr le' ↦ break-same at found found' R k j rule rule' one is is' f g (omega arith)
      ]
    ]
breaks-both at m found found' o o' R one other (inl (k, rule, within, is, before, f)) (inr (none, g)) = let no = none k within in absurd cc
breaks-both at m found found' o o' R one other (inr (none, f)) (inl (j, rule', within', is', before', g)) = let no = none j within' in absurd cc
breaks-both at m found found' o o' R one other (inr (none, f)) (inr (none', g)) = other f g

one-list_fault : (format : FormatNumbers) (n t : ℕ) (docs freqs : List ℕ) (f g : Fault) → IsListFault format n t docs freqs f → IsListFault format n t docs freqs g → f ≡ g
one-list_fault format n t docs freqs f g =
    match_bool-both _ _ _ _ (f ≡ g) (lacks docs 0) (λ p q. p ∙ sym q)
    (breaks-both (doc_break n docs) (number_at docs 0) _ _ _ _ (f ≡ g) (λ k rule p q. p ∙ sym q)
    (match_bool-both _ _ _ _ (f ≡ g) (lacks freqs 0) (λ p q. p ∙ sym q)
    (match_bool-both _ _ _ _ (f ≡ g) (not (number_at freqs 0 == number_at docs 0)) (λ p q. p ∙ sym q)
    (breaks-both (freq_break format freqs) (number_at freqs 0) _ _ _ _ (f ≡ g) (λ k rule p q. p ∙ sym q) (λ p q. absurd p)))))

some-both : (P : Fault → Type 0) → ((x y : Fault) → P x → P y → x ≡ y) → (f g : Option Fault) → IsSomeAnd f P → IsSomeAnd g P → f ≡ g
some-both P one None g p q = absurd p
some-both P one (Some x) None p q = absurd q
some-both P one (Some x) (Some y) p q = ap Some (one x y p q)

one-fault_behind : (format : FormatNumbers) (n t : ℕ) (docs freqs sizes : List ℕ) (f g : Option Fault) → IsFaultBehind format n t docs freqs sizes f → IsFaultBehind format n t docs freqs sizes g → f ≡ g
one-fault_behind format n t docs freqs sizes f g =
    match_bool-both _ _ _ _ (f ≡ g) (length docs == 0) (λ p q. p ∙ sym q)
    (match_bool-both _ _ _ _ (f ≡ g) (t == most_terms) (λ p q. p ∙ sym q)
    (some-both (IsListFault format n t docs freqs) (one-list_fault format n t docs freqs) f g))

-- files have one first fault only
pub one-first_fault : (format : FormatNumbers) → format.most_documents < 2 ^ 32 → OneFirstFault format
one-first_fault format small files f g =
    match_option-both _ _ _ _ (f ≡ g) (head_fault format files.docs)
    (λ (n, ls, docs, freqs, longest, behind) (k, os, docs', freqs', longest', behind').
    let same = longest-same format small files n k ls os docs freqs docs' freqs' longest longest' in
    one-fault_behind format n (length ls) docs freqs files.sizes f g behind
    (subst (λ m. IsFaultBehind format m (length ls) docs freqs files.sizes g) (sym same.documents)
    (subst (λ l. IsFaultBehind format k (length l) docs freqs files.sizes g) (sym same.lists)
    (subst (λ d. IsFaultBehind format k (length os) d freqs files.sizes g) (sym same.docs_rest)
    (subst (λ r. IsFaultBehind format k (length os) docs' r files.sizes g) (sym same.freqs_rest) behind')))))
    (λ broken p q. p ∙ sym q)

-- a test that fails leaves what stands behind it
skip : (b : Bool) (x y : Option Fault) → b ≡ false → y ≡ None → (if b then x else y) ≡ None
skip true x y is rest = absurd (false≢true (sym is))
skip false x y is rest = rest

skipped : (b : Bool) (x : Fault) (y : Option Fault) → (if b then Some x else y) ≡ None → (b ≡ false) × (y ≡ None)
skipped true x y is = absurd cc
skipped false x y is = (refl, is)

-- no fault is in the head of a number of documents
pub head_fault-none : (format : FormatNumbers) (n : ℕ) (rest : List ℕ) → format.most_documents < 2 ^ 32 → n ≤ format.most_documents → head_fault format (head_bytes n ++ rest) ≡ None
head_fault-none format n rest small within =
    let fit : AreNumbers (n ∷ []) = All-cons (λ k. k < 2 ^ 32) n [] (omega arith) (All-nil (λ k. k < 2 ^ 32)) in
    let docs = head_bytes n ++ rest in
    let count : number_at docs 0 ≡ 1 = number_at-count (n ∷ []) rest (lit< tt) in
    let number : number_at docs 1 ≡ n = number_at-value (n ∷ []) rest 0 fit (lit< tt) in
    skip (lacks docs 0) _ _ (sequence-lacks_not (n ∷ []) rest 0 (lit≤ tt))
    (skip (not (number_at docs 0 == 1)) None _ (same-not (number_at docs 0) 1 count)
    (skip (lacks docs 1) _ _ (sequence-lacks_not (n ∷ []) rest 1 (lit≤ tt))
    (skip (nat_lt format.most_documents (number_at docs 1)) _ _ (le-ltb format.most_documents (number_at docs 1) (omega arith)) refl)))

-- none is in the head of a prefix
pub prefix-head : (format : FormatNumbers) → format.most_documents < 2 ^ 32 → (files : Files) (n : ℕ) (lists : List (List Posting)) (docs freqs : List ℕ) → IsPrefix format files n lists docs freqs → head_fault format files.docs ≡ None
prefix-head format small files n lists docs freqs prefix =
    ap (head_fault format) (prefix.docs ∙ append_assoc (head_bytes n) (docs_bytes lists) docs) ∙ head_fault-none format n (docs_bytes lists ++ docs) small prefix.documents

-- none is behind the lists where nothing but the sizes is left
end_fault-none : (n t : ℕ) (sizes : List ℕ) → length sizes ≡ n → n < 2 ^ 32 → end_fault n t [] (number_sequence sizes) ≡ None
end_fault-none n t sizes many small =
    let bytes = number_sequence sizes in
    let long : length bytes ≡ 4 * (n + 1) = omega (arith, number_sequence-length sizes) in
    let whole : bytes ≡ bytes ++ [] = sym (append-nil bytes) in
    let count : number_at bytes 0 ≡ n = ap (λ b. number_at b 0) whole ∙ number_at-count sizes [] (omega arith) ∙ many in
    skip (lacks bytes 0) _ _ (lacks-not bytes 0 (omega arith))
    (skip (not (number_at bytes 0 == n)) _ _ (same-not (number_at bytes 0) n count)
    (skip (lacks bytes n) _ _ (lacks-not bytes n (omega arith))
    (skip (nat_lt (4 * (n + 1)) (length bytes)) _ _ (le-ltb (4 * (n + 1)) (length bytes) (omega arith)) refl)))

pub none-first : (o : Option Fault) (P : Type 0) (Q : Fault → Type 0) → o ≡ None → P → MatchOption o P Q
none-first None P Q is p = p
none-first (Some x) P Q is p = absurd cc

-- the files of a well-formed collection have no fault
pub spelled-no_fault : (format : FormatNumbers) → format.most_documents < 2 ^ 32 → SpelledHasNoFault format
spelled-no_fault format small c good =
    none-first (head_fault format (spelled c).docs) _ _ (head_fault-none format c.documents (docs_bytes c.lists) small good.documents) (
      c.documents,
      c.lists,
      [],
      [],
      longest-from_blocked format small (spelled c) c.documents c.lists [] []
          (record { documents = good.documents; terms = good.terms; each = good.lists; docs = sym (append-nil (head_bytes c.documents ++ docs_bytes c.lists)); freqs = sym (append-nil (freqs_bytes c.lists)) })
          (blocked-at_end format c.documents []),
      sym (end_fault-none c.documents (length c.lists) c.sizes good.size_each (omega (arith, good.documents))),
    )

-- the rules behind the lists, each of which does not break
record EndsWell (n : ℕ) (freqs sizes : List ℕ) : Type 0 where
  no_freqs : length freqs ≡ 0
  count : number_at sizes 0 ≡ n
  long : length sizes ≡ 4 * (n + 1)

same-from : (m n : ℕ) → not (m == n) ≡ false → m ≡ n
same-from m n is = grind (arith, nat_tests)

ends-well : (n t : ℕ) (freqs sizes : List ℕ) → end_fault n t freqs sizes ≡ None → EndsWell n freqs sizes
ends-well n t freqs sizes is =
    let a = skipped (nat_lt 0 (length freqs)) _ _ is in
    let b = skipped (lacks sizes 0) _ _ a.1 in
    let c = skipped (not (number_at sizes 0 == n)) _ _ b.1 in
    let d = skipped (lacks sizes n) _ _ c.1 in
    let e = skipped (nat_lt (4 * (n + 1)) (length sizes)) _ _ d.1 in
    let no_freqs = ltb-false 0 (length freqs) a.0 in
    let enough = ltb-false (length sizes) (4 * (n + 1)) d.0 in
    let few = ltb-false (4 * (n + 1)) (length sizes) e.0 in
    record { no_freqs = omega arith; count = same-from (number_at sizes 0) n c.0; long = omega arith }

-- bytes of a sequence of n numbers
sizes-spelled : (n : ℕ) (sizes : List ℕ) → AreBytes sizes → number_at sizes 0 ≡ n → length sizes ≡ 4 * (n + 1) → (ns : List ℕ) × (length ns ≡ n) × AreNumbers ns × (sizes ≡ number_sequence ns)
sizes-spelled n sizes small count long =
    let rest = numbers-of_bytes n (drop 4 sizes) (All-drop (λ b. b < 256) 4 sizes small) (omega (arith, length-drop 4 sizes)) in (
      rest.numbers,
      rest.many,
      rest.fit,
      first-number sizes small (omega arith) ∙ ap (λ x. le32 x ++ drop 4 sizes) (count ∙ sym rest.many) ∙ ap (λ b. le32 (length rest.numbers) ++ b) (sym rest.same),
    )

abbrev IsSpelled : FormatNumbers → Files → Type 0
IsSpelled format files = (c : Collection) × WellFormed format c × (files ≡ spelled c)

pub match_bool-cases : (P Q R : Type 0) (b : Bool) → (b ≡ true → P → R) → (b ≡ false → Q → R) → MatchBool b P Q → R
match_bool-cases P Q R true at_yes at_no p = at_yes refl p
match_bool-cases P Q R false at_yes at_no q = at_no refl q

-- a longest prefix with nothing broken behind it is all of the files
spelled-at_end : (format : FormatNumbers) (files : Files) (n : ℕ) (ls : List (List Posting)) (docs freqs : List ℕ) → AreBytes files.sizes → IsLongestPrefix format files n ls docs freqs → length docs ≡ 0 → None ≡ end_fault n (length ls) freqs files.sizes → IsSpelled format files
spelled-at_end format files n ls docs freqs small longest no_docs none =
    let prefix = longest.prefix in
    let end = ends-well n (length ls) freqs files.sizes (sym none) in
    let (sizes, many, fit, same) = sizes-spelled n files.sizes small end.count end.long in
    let in_docs = prefix.docs ∙ ap (λ d. head_bytes n ++ docs_bytes ls ++ d) (nil_from_length docs no_docs) ∙ append-nil (head_bytes n ++ docs_bytes ls) in
    let in_freqs = prefix.freqs ∙ ap (λ f. freqs_bytes ls ++ f) (nil_from_length freqs end.no_freqs) ∙ append-nil (freqs_bytes ls) in (
      record { documents = n; lists = ls; sizes = sizes },
      record { documents = prefix.documents; terms = prefix.terms; lists = prefix.each; size_each = many; sizes = fit },
      λ i. record { docs = in_docs i; freqs = in_freqs i; sizes = same i },
    )

spelled-behind : (format : FormatNumbers) (files : Files) (n : ℕ) (ls : List (List Posting)) (docs freqs : List ℕ) → AreBytes files.sizes → IsLongestPrefix format files n ls docs freqs → IsFaultBehind format n (length ls) docs freqs files.sizes None → IsSpelled format files
spelled-behind format files n ls docs freqs small longest behind =
    match_bool-cases _ _ _ (length docs == 0) (λ yes none. spelled-at_end format files n ls docs freqs small longest (eqb-true (length docs) 0 yes) none)
    (λ no. match_bool-cases _ _ _ (length ls == most_terms) (λ full is. absurd (none-some _ is)) (λ more broken. absurd broken))
    behind

spelled-first : (format : FormatNumbers) (files : Files) (o : Option Fault) (P : Type 0) → (P → IsSpelled format files) → MatchOption o P (λ broken. None ≡ Some broken) → IsSpelled format files
spelled-first format files None P from p = from p
spelled-first format files (Some x) P from p = absurd cc

spelled-from_none : (format : FormatNumbers) (files : Files) → AreBytes files.sizes → IsFirstFault format files None → IsSpelled format files
spelled-from_none format files small =
    spelled-first format files (head_fault format files.docs) _ (λ (n, ls, docs, freqs, longest, behind). spelled-behind format files n ls docs freqs small longest behind)

-- files of bytes have no fault exactly where a well-formed collection spells them
pub no_fault-means_spelled : (format : FormatNumbers) → format.most_documents < 2 ^ 32 → NoFaultMeansSpelled format
no_fault-means_spelled format small files bytes = (
  spelled-from_none format files bytes.sizes,
  λ (c, good, same). subst (λ f. IsFirstFault format f None) (sym same) (spelled-no_fault format small c good),
)

-- bytes that begin with two numbers
two-numbers : (bytes : List ℕ) → AreBytes bytes → 8 ≤ length bytes → bytes ≡ le32 (number_at bytes 0) ++ (le32 (number_at bytes 1) ++ drop 4 (drop 4 bytes))
two-numbers bytes small enough =
    first-number bytes small (omega arith)
    ∙ ap (λ b. le32 (number_at bytes 0) ++ b) (first-number (drop 4 bytes) (All-drop (λ b. b < 256) 4 bytes small) (omega (arith, length-drop 4 bytes)) ∙ ap (λ m. le32 m ++ drop 4 (drop 4 bytes)) (number_at-drop bytes 0))

-- bytes whose head has no fault begin with a head
head-prefix : (format : FormatNumbers) (files : Files) → AreBytes files.docs → head_fault format files.docs ≡ None → (n : ℕ) × (lists : List (List Posting)) × (docs : List ℕ) × (freqs : List ℕ) × IsPrefix format files n lists docs freqs
head-prefix format files small is =
    let docs = files.docs in
    let a = skipped (lacks docs 0) _ _ is in
    let b = skipped (not (number_at docs 0 == 1)) _ _ a.1 in
    let c = skipped (lacks docs 1) _ _ b.1 in
    let d = skipped (nat_lt format.most_documents (number_at docs 1)) _ _ c.1 in
    let n = number_at docs 1 in
    let rest = drop 4 (drop 4 docs) in
    let enough = ltb-false (length docs) (4 * (1 + 1)) c.0 in
    let spelled_so : docs ≡ head_bytes n ++ rest =
    two-numbers docs small enough ∙ ap (λ m. le32 m ++ (le32 n ++ rest)) (same-from (number_at docs 0) 1 b.0)
    ∙ ap (λ x. le32 1 ++ (x ++ rest)) (sym (append-nil (le32 n))) ∙ sym (append_assoc (le32 1) (le32 n ++ []) rest) in (
      n,
      [],
      rest,
      files.freqs,
      record {
        documents = ltb-false format.most_documents n d.0;
        terms = lit≤ tt;
        each = All-nil (IsPostingList format n);
        docs = spelled_so ∙ ap (λ h. h ++ rest) (sym (append-nil (head_bytes n)));
        freqs = refl;
      },
    )

-- the head has no fault exactly where there is a prefix
pub no_head_fault-means_prefix : (format : FormatNumbers) → format.most_documents < 2 ^ 32 → NoHeadFaultMeansPrefix format
no_head_fault-means_prefix format small files bytes = (
  head-prefix format files bytes,
  λ (n, lists, docs, freqs, prefix). prefix-head format small files n lists docs freqs prefix,
)
