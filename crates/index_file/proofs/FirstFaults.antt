-- Lemmas on the first check of a file that breaks.
use Rattle.std.proofs.Common.{◌≡◌, ℕ, ◌+◌, ◌<◌, true, List, length, sym, subst, arith, Result, Err}
use Rattle.std.proofs.lemmas.Bool.{le-ltb}
use Rattle.std.specs.Prelude.{nat_lt, IfErr}
use Rattle.std.proofs.lemmas.Result.{IfErr-at_err}
use Rattle.std.proofs.lemmas.Bool.Decides.{nat_tests}
use Rattle.collection_model.specs.FormatNumbers.{FormatNumbers}
use Rattle.index_file.specs.declared.fault.OpenFault.{OpenFault}
use Rattle.index_file.specs.FileWords.{CutList, lists_words}
use Rattle.index_file.specs.FirstBroken.{stated_terms, IsFilePrefix, IsTermFault, IsClosingFault, IsFirstBrokenPlain}
use Rattle.index_file.specs.ListAt.{HasFrame, IsFirstListFault}
use Rattle.index_file.proofs.Frames.{behind-frame}
use Rattle.sequence_words.proofs.Choices.{match-false, match-true}

true-lt : (a b : ℕ) → a < b → nat_lt a b ≡ true
true-lt a b h = grind (arith, nat_tests)

-- a list breaks a check
pub list-first : (format : FormatNumbers) (words : List ℕ) (f : OpenFault) → HasFrame format words → IsFirstListFault format words f → IsFirstBrokenPlain format words f
list-first format words f frame h =
    behind-frame format words f frame (
      h.0,
      h.1,
      match-true (nat_lt (length h.0) (stated_terms words)) (IsTermFault format words (length h.0) (2 + length (lists_words format h.0)) f)
          (IsClosingFault words (2 + length (lists_words format h.0)) f) (true-lt (length h.0) (stated_terms words) h.2) h.3,
    )

-- all lists stand, and what closes the file breaks a check
pub closing-first : (format : FormatNumbers) (words : List ℕ) (cs : List CutList) (p : ℕ) (f : OpenFault) → HasFrame format words → IsFilePrefix format words cs → length cs ≡ stated_terms words
    → p ≡ 2 + length (lists_words format cs) → IsClosingFault words p f → IsFirstBrokenPlain format words f
closing-first format words cs p f frame prefix all place h =
    behind-frame format words f frame (
      cs,
      record { prefix = prefix; longest = λ others k. omega (arith, k.terms, all) },
      match-false (nat_lt (length cs) (stated_terms words)) (IsTermFault format words (length cs) (2 + length (lists_words format cs)) f)
          (IsClosingFault words (2 + length (lists_words format cs)) f) (le-ltb (length cs) (stated_terms words) (omega (arith, all))) (subst (λ i. IsClosingFault words i f) place h),
    )

-- the fault of a refusal that is handed on
pub from-err : {T U : Type 0} (r : Result T OpenFault) (s : Result U OpenFault) (e : OpenFault) (P : OpenFault → Type 0) → r ≡ Err e → s ≡ Err e → IfErr r P → IfErr s P
from-err r s e P a b h = subst (λ x. IfErr x P) (sym b) (IfErr-at_err P a h)
