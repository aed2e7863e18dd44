-- Which limits can break: where every number of four bytes is a number of documents, there are never too many.
use Rattle.std.proofs.Common.{◌≡◌, ◌≢◌, sym, subst, ℕ, ◌+◌, ◌*◌, ◌^◌, ◌≤◌, List, inl, inr, length, Bool, true, false, not, ◌&&◌, ◌==◌, nat_lt, nat_le, if◌then◌else◌, Option, Some, None, MatchOption, arith}
use Rattle.std.specs.Int.{sum_through}
use Rattle.collection_model.specs.FormatNumbers.{FormatNumbers, most_terms}
use Rattle.collection_model.specs.Bytes.{AreBytes}
use Rattle.io_traits.specs.declared.fail.Slot.TheVariants.{Docs}
use Rattle.collection_reader.specs.declared.fault.Rule.{Rule}
use Rattle.collection_reader.specs.declared.fault.Rule.TheVariants.{C3, C9}
use Rattle.collection_reader.specs.declared.fault.Fault.{Fault}
use Rattle.collection_reader.specs.FirstFault.{number_at, lacks, FirstBreak, doc_break, freq_break, IsListFault, head_fault, end_fault, IsFaultBehind}
use Rattle.collection_reader.specs.Laws.{NeverTooManyDocuments}
use Rattle.collection_reader.proofs.Numbers.{number_at-fits}
use Rattle.std.proofs.lemmas.Bool.{le-ltb}
use Rattle.collection_reader.proofs.FirstFaults.{match_bool-cases}

-- a rule that is not C3, where there is one
abbrev IsOther : Option Rule → Type 0
IsOther None = Unit {0}
IsOther (Some rule) = rule ≢ C3

-- a fault of such a rule, where there is one
abbrev IsOfOther : Option Fault → Type 0
IsOfOther None = Unit {0}
IsOfOther (Some fault) = fault.rule ≢ C3

either : {A : Type 0} (P : A → Type 0) (b : Bool) (x y : A) → P x → P y → P (if b then x else y)
either P true x y p q = p
either P false x y p q = q

-- what breaks at one value of a list, and behind the lists
doc_break-other : (n : ℕ) (bytes : List ℕ) (k : ℕ) → IsOther (doc_break n bytes k)
doc_break-other n bytes k =
    either IsOther (lacks bytes (k + 1)) _ _ (λ h. cc) (either IsOther (nat_le n (number_at bytes (k + 1))) _ _ (λ h. cc) (either IsOther (nat_lt 0 k && nat_le (number_at bytes (k + 1)) (number_at bytes k)) _ _ (λ h. cc) tt))

freq_break-other : (format : FormatNumbers) (bytes : List ℕ) (k : ℕ) → IsOther (freq_break format bytes k)
freq_break-other format bytes k =
    either IsOther (lacks bytes (k + 1)) _ _ (λ h. cc) (either IsOther (number_at bytes (k + 1) == 0) _ _ (λ h. cc) (either IsOther (nat_lt format.most_sum (sum_through (λ j. number_at bytes (j + 1)) k)) _ _ (λ h. cc) tt))

end_fault-other : (n t : ℕ) (freqs sizes : List ℕ) → IsOfOther (end_fault n t freqs sizes)
end_fault-other n t freqs sizes =
    either IsOfOther (nat_lt 0 (length freqs)) _ _ (λ h. cc)
    (either IsOfOther (lacks sizes 0) _ _ (λ h. cc)
    (either IsOfOther (not (number_at sizes 0 == n)) _ _ (λ h. cc)
    (either IsOfOther (lacks sizes n) _ _ (λ h. cc)
    (either IsOfOther (nat_lt (4 * (n + 1)) (length sizes)) _ _ (λ h. cc) tt))))

-- the head, where no number of four bytes is too many
head_fault-other : (format : FormatNumbers) → 2 ^ 32 ≤ format.most_documents + 1 → (docs : List ℕ) → AreBytes docs → IsOfOther (head_fault format docs)
head_fault-other format all docs bytes =
    let within = le-ltb format.most_documents (number_at docs 1) (omega (arith, all, number_at-fits docs 1 bytes)) in
    either IsOfOther (lacks docs 0) _ _ (λ h. cc)
    (either IsOfOther (not (number_at docs 0 == 1)) _ _ (λ h. cc)
    (either IsOfOther (lacks docs 1) _ _ (λ h. cc) (rw within tt)))

-- a first place that breaks, or what holds otherwise
break-other : (at : ℕ → Option Rule) (m : ℕ) (found : ℕ → Rule → Type 0) (otherwise R : Type 0) → ((k : ℕ) → IsOther (at k)) → ((k : ℕ) (rule : Rule) → rule ≢ C3 → found k rule → R) → (otherwise → R) → FirstBreak at m found otherwise → R
break-other at m found otherwise R other at_break at_none (inl (k, rule, within, is, before, f)) = at_break k rule (subst IsOther is (other k)) f
break-other at m found otherwise R other at_break at_none (inr (none, o)) = at_none o

as-is : (f fault : Fault) → f.rule ≢ C3 → fault ≡ f → fault.rule ≢ C3
as-is f fault other is = subst (λ x. x.rule ≢ C3) (sym is) other

list_fault-other : (format : FormatNumbers) (n t : ℕ) (docs freqs : List ℕ) (fault : Fault) → IsListFault format n t docs freqs fault → fault.rule ≢ C3
list_fault-other format n t docs freqs fault =
    match_bool-cases _ _ _ (lacks docs 0) (λ b. as-is _ fault (λ h. cc))
    (λ b. break-other (doc_break n docs) (number_at docs 0) _ _ (fault.rule ≢ C3) (doc_break-other n docs) (λ k rule other. as-is _ fault other)
    (match_bool-cases _ _ _ (lacks freqs 0) (λ b. as-is _ fault (λ h. cc))
    (λ b. match_bool-cases _ _ _ (not (number_at freqs 0 == number_at docs 0)) (λ b. as-is _ fault (λ h. cc))
    (λ b. break-other (freq_break format freqs) (number_at freqs 0) _ _ (fault.rule ≢ C3) (freq_break-other format freqs) (λ k rule other. as-is _ fault other) (λ no. absurd no)))))

behind-other : (format : FormatNumbers) (n t : ℕ) (docs freqs sizes : List ℕ) (fault : Fault) → IsFaultBehind format n t docs freqs sizes (Some fault) → fault.rule ≢ C3
behind-other format n t docs freqs sizes fault =
    match_bool-cases _ _ _ (length docs == 0) (λ b is. subst IsOfOther (sym is) (end_fault-other n t freqs sizes))
    (λ b. match_bool-cases _ _ _ (t == most_terms) (λ b is. let other : IsOfOther (Some (record { rule = C9; file = Docs; term = t; place = 0 })) = λ h. cc in subst IsOfOther (sym is) other)
    (λ b. list_fault-other format n t docs freqs fault))

first-other : (o : Option Fault) (P : Type 0) (fault : Fault) → IsOfOther o → (P → fault.rule ≢ C3) → MatchOption o P (λ broken. Some fault ≡ Some broken) → fault.rule ≢ C3
first-other None P fault other behind p = behind p
first-other (Some x) P fault other behind is = subst IsOfOther (sym is) other

pub never-too_many : (format : FormatNumbers) → 2 ^ 32 ≤ format.most_documents + 1 → NeverTooManyDocuments format
never-too_many format all files bytes fault =
    first-other (head_fault format files.docs) _ fault (head_fault-other format all files.docs bytes)
    (λ (n, lists, docs, freqs, longest, behind). behind-other format n (length lists) docs freqs files.sizes fault behind)
