-- Reads of a slot: other answers after the same reads, and reads one after another.
use Rattle.std.proofs.Common.{◌≡◌, ◌≢◌, ◌⊎◌, refl, sym, ap, ◌∙◌, subst, inl, inr, ℕ, Bool, true, false, Result, Ok, Err}
use denote.Enum.Bare.{same_true, true_same}
use Rattle.io_traits.specs.declared.fail.IoFail.{IoFail}
use Rattle.io_traits.specs.declared.fail.IoFail.TheVariants as call
use Rattle.io_traits.specs.declared.fail.Slot.{Slot}
use Rattle.io_traits.specs.contracts.fail.Slot.{the_type}
use Rattle.io_traits.specs.contracts.fail.SlotPartialEq.TheImpl as slots
use Rattle.io_traits.specs.Calls.{CountsFaults, CountsRefusals}
use Rattle.io_traits.specs.DepotState.{DepotState}
use Rattle.io_traits.proofs.OnlyReads.{OnlyReads-trans}
use Rattle.held_pieces.specs.Pieces.{ReadsOn}

-- a refusal or an answer of a call is none of another type but the same
same-refusal : {A B : Type 0} (e f : IoFail) → (let r : Result A IoFail = Err e in r ≡ Err f) → let s : Result B IoFail = Err e in s ≡ Err f
same-refusal e f h = cc

ok-no_refusal : {A : Type 0} (x : A) (f : IoFail) → (let r : Result A IoFail = Ok x in r ≡ Err f) → ⊥
ok-no_refusal x f h = cc

failed-no_want : {A : Type 0} → (let r : Result A IoFail = Err call.Failed in r ≡ Err call.NoMemory) → ⊥
failed-no_want h = cc

-- at an answer that is no refusal, and where a call failed, the count of refusals stays
pub refused-not_at_ok : {A : Type 0} {before now : ℕ} {x : A} → (let r : Result A IoFail = Ok x in CountsRefusals before now r) → now ≡ before
refused-not_at_ok {x = x} p = elim p.rises_only_there [ inl h ↦ absurd (ok-no_refusal x call.NoMemory h) | inr same ↦ same ]

pub refused-not_at_failed : {A : Type 0} {before now : ℕ} → (let r : Result A IoFail = Err call.Failed in CountsRefusals before now r) → now ≡ before
refused-not_at_failed {A = A} p = elim p.rises_only_there [ inl h ↦ absurd (failed-no_want {A = A} h) | inr same ↦ same ]

-- a slot is this one or another
same_or_other : (a b : Slot) → (a ≡ b) ⊎ (a ≢ b)
same_or_other a b = by_test (slots.ghosts.eq a b) (same_true the_type tt a b) (true_same the_type a b)
  where
    by_test : (t : Bool) → (t ≡ true → a ≡ b) → (a ≡ b → t ≡ true) → (a ≡ b) ⊎ (a ≢ b)
    by_test true same is = inl (same refl)
    by_test false same is = inr (λ e. let h = is e in cc)

-- of the counts of faults only that of the slot can rise
pub faults-on : {A : Type 0} {slot : Slot} {a b : DepotState} {r : Result A IoFail} → ReadsOn slot a b r → (other : Slot) → (other ≡ slot) ⊎ (b.faults other ≡ a.faults other)
faults-on {slot = slot} p other = elim (same_or_other other slot) [ inl e ↦ inl e | inr n ↦ inr (p.only.other_counts other n) ]

-- and none rises at an answer that is no refusal
pub same-at_ok : {A : Type 0} {slot : Slot} {a b : DepotState} {x : A} → ReadsOn slot a b (Ok x) → (other : Slot) → b.faults other ≡ a.faults other
same-at_ok {a = a} {b = b} p other = elim (faults-on p other) [ inl e ↦ ap b.faults e ∙ p.counts.same_at_ok refl ∙ sym (ap a.faults e) | inr same ↦ same ]

-- another answer after the same reads
pub reads-ok : {A B : Type 0} {slot : Slot} {a b : DepotState} {x : A} (y : B) → ReadsOn slot a b (Ok x) → ReadsOn slot a b (Ok y)
reads-ok {x = x} y p = record {
  only = p.only;
  counts = record {
    never_falls = p.counts.never_falls;
    failed_only_where_it_rose = λ h. absurd (ok-no_refusal y call.Failed h);
    same_at_ok = λ h. p.counts.same_at_ok refl;
    same_at_no_memory = λ h. absurd (ok-no_refusal y call.NoMemory h);
  };
  refusals = record {
    never_falls = p.refusals.never_falls;
    no_memory_only_where_it_rose = λ h. absurd (ok-no_refusal y call.NoMemory h);
    rises_only_there = inr (refused-not_at_ok {x = x} p.refusals);
  };
  starts = p.starts;
}

pub reads-err : {A B : Type 0} {slot : Slot} {a b : DepotState} (e : IoFail) → (let r : Result A IoFail = Err e in ReadsOn slot a b r) → let s : Result B IoFail = Err e in ReadsOn slot a b s
reads-err {A = A} {B = B} e p = record {
  only = p.only;
  counts = record {
    never_falls = p.counts.never_falls;
    failed_only_where_it_rose = λ h. p.counts.failed_only_where_it_rose (same-refusal {A = B} {B = A} e call.Failed h);
    same_at_ok = λ h. absurd cc;
    same_at_no_memory = λ h. p.counts.same_at_no_memory (same-refusal {A = B} {B = A} e call.NoMemory h);
  };
  refusals = record {
    never_falls = p.refusals.never_falls;
    no_memory_only_where_it_rose = λ h. p.refusals.no_memory_only_where_it_rose (same-refusal {A = B} {B = A} e call.NoMemory h);
    rises_only_there = elim p.refusals.rises_only_there [ inl h ↦ inl (same-refusal {A = A} {B = B} e call.NoMemory h) | inr same ↦ inr same ];
  };
  starts = p.starts;
}

-- a call after one that did not refuse
pub reads-on : {A B : Type 0} {slot : Slot} {a b c : DepotState} {x : A} {r : Result B IoFail} → ReadsOn slot a b (Ok x) → ReadsOn slot b c r → ReadsOn slot a c r
reads-on {slot = slot} {a = a} {b = b} {c = c} {x = x} {r = r} p q =
    let same : b.faults slot ≡ a.faults slot = p.counts.same_at_ok refl in
    record {
      only = OnlyReads-trans p.only q.only;
      counts = subst (λ (n : ℕ). CountsFaults n (c.faults slot) r) same q.counts;
      refusals = subst (λ (n : ℕ). CountsRefusals n c.refusals r) (refused-not_at_ok {x = x} p.refusals) q.refusals;
      starts = λ slot. q.starts slot ∙ p.starts slot;
    }
