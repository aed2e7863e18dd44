-- That a map has one first fault only.
use Rattle.std.proofs.Common.{◌≡◌, refl, sym, ap, ◌∙◌, subst, inl, inr, ℕ, ◌+◌, ◌*◌, not, ◌==◌, nat_lt, Bool, true, false, List, length, Option, Some, None, MatchBool, arith}
use Rattle.std.proofs.lemmas.Bool.{cases_lt}
use Rattle.collection_reader.specs.FirstFault.{number_at, lacks}
use Rattle.remap.specs.declared.fault.MapRule.{MapRule}
use Rattle.remap.specs.declared.fault.MapFault.{MapFault}
use Rattle.remap.specs.MapFaults.{id_break, FirstIdBreak, IsMapFault}
use Rattle.remap.specs.ReadMap.{OneMapFault}
use Rattle.remap.proofs.MapRead.{order-none}

bool-both : (P Q P' Q' R : Type 0) (b : Bool) → (P → P' → R) → (Q → Q' → R) → MatchBool b P Q → MatchBool b P' Q' → R
bool-both P Q P' Q' R true at_true at_false p q = at_true p q
bool-both P Q P' Q' R false at_true at_false p q = at_false p q

none-some : (o : Option MapRule) (rule : MapRule) → o ≡ None → o ≡ Some rule → ⊥
none-some o rule none some = absurd cc

some-one : (o : Option MapRule) (r s : MapRule) → o ≡ Some r → o ≡ Some s → r ≡ s
some-one o r s a b = cc

first-both : (n : ℕ) (bytes : List ℕ) (f g : MapFault) (O P : Type 0) → (O → P → f ≡ g)
    → FirstIdBreak n bytes (λ k rule. f ≡ record { rule = rule; place = k }) O → FirstIdBreak n bytes (λ k rule. g ≡ record { rule = rule; place = k }) P → f ≡ g
first-both n bytes f g O P rest (inl (k, r, lt, is, before, e)) (inl (j, s, lt', is', before', e')) =
    elim (cases_lt k j) as (λ _. f ≡ g) [
      | inl less ↦ absurd (none-some (id_break n bytes k) r (before' k less) is)
      | inr ge ↦ elim (cases_lt j k) as (λ _. f ≡ g) [
        | inl less ↦ absurd (none-some (id_break n bytes j) s (before j less) is')
        | inr le ↦
            (let same : k ≡ j = omega arith in
            let there : id_break n bytes j ≡ Some r = subst (λ (i : ℕ). id_break n bytes i ≡ Some r) same is in
            e ∙ ap (λ (i : ℕ). record { rule = r; place = i }) same ∙ ap (λ (rule : MapRule). record { rule = rule; place = j }) (some-one (id_break n bytes j) r s there is') ∙ sym e')
      ]
    ]
first-both n bytes f g O P rest (inl (k, r, lt, is, before, e)) (inr (none, p)) = absurd (none-some (id_break n bytes k) r (none k lt) is)
first-both n bytes f g O P rest (inr (none, o)) (inl (k, r, lt, is, before, e)) = absurd (none-some (id_break n bytes k) r (none k lt) is)
first-both n bytes f g O P rest (inr (none, o)) (inr (none', p)) = rest o p

one-fault : (n : ℕ) (bytes : List ℕ) (f g : MapFault) → IsMapFault n bytes f → IsMapFault n bytes g → f ≡ g
one-fault n bytes f g =
    bool-both _ _ _ _ (f ≡ g) (lacks bytes 0) (λ p q. p ∙ sym q)
    (bool-both _ _ _ _ (f ≡ g) (not (number_at bytes 0 == n)) (λ p q. p ∙ sym q)
    (first-both n bytes f g _ _ (bool-both _ _ _ _ (f ≡ g) (nat_lt (4 * (n + 1)) (length bytes)) (λ p q. p ∙ sym q) (λ p q. absurd p))))

-- bytes that are no order have one first fault, and those of an order have none
pub one-map_fault : OneMapFault
one-map_fault = record {
  one = one-fault;
  none_in_order = λ ids f are few broken. order-none (length ids) ids f few are refl broken;
}
