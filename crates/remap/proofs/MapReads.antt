-- Reads of the map: other answers after the same reads, and reads one after another.
use Rattle.std.proofs.Common.{◌≡◌, refl, ◌∙◌, subst, inl, inr, ℕ, Result, Ok, Err}
use Rattle.io_traits.specs.declared.fail.IoFail.{IoFail}
use Rattle.io_traits.specs.declared.fail.IoFail.TheVariants as call
use Rattle.io_traits.specs.declared.fail.Slot.TheVariants.{Map}
use Rattle.io_traits.specs.Calls.{Rose}
use Rattle.io_traits.specs.DepotState.{DepotState}
use Rattle.io_traits.proofs.OnlyReads.{OnlyReads-trans}
use Rattle.held_pieces.specs.Pieces.{ReadsOn}
use Rattle.held_pieces.proofs.SlotReads.{refused-not_at_ok, refused-not_at_failed}
use Rattle.remap.specs.declared.fault.MapError.{MapError}
use Rattle.remap.specs.declared.fault.MapError.TheVariants.{Broken, Read, NoMemory}
use Rattle.remap.specs.declared.fault.MapFault.{MapFault}
use Rattle.remap.specs.OneMap.{call_error}
use Rattle.remap.specs.OneSequence.{ReadsFrom}

-- what the answer of a call says of the map's reading
pub from-ok : {A B : Type 0} {a b : DepotState} {x : A} (y : B) → ReadsOn Map a b (Ok x) → let r : Result B MapError = Ok y in ReadsFrom a b r
from-ok {x = x} y p = record {
  only = p.only;
  count_rises_only_there = inr (p.counts.same_at_ok refl);
  read_only_where_it_rose = λ h. absurd cc;
  refusals_rise_only_there = inr (refused-not_at_ok {x = x} p.refusals);
  starts = p.starts;
}

pub from-broken : {A B : Type 0} {a b : DepotState} {x : A} (fault : MapFault) → ReadsOn Map a b (Ok x) → let r : Result B MapError = Err (Broken fault) in ReadsFrom a b r
from-broken {x = x} fault p = record {
  only = p.only;
  count_rises_only_there = inr (p.counts.same_at_ok refl);
  read_only_where_it_rose = λ h. absurd cc;
  refusals_rise_only_there = inr (refused-not_at_ok {x = x} p.refusals);
  starts = p.starts;
}

pub from-refused : {A B : Type 0} {a b : DepotState} (fail : IoFail) → (let r : Result A IoFail = Err fail in ReadsOn Map a b r) → let s : Result B MapError = Err (call_error fail) in ReadsFrom a b s
from-refused {A = A} call.Failed p = record {
  only = p.only;
  count_rises_only_there = inl refl;
  read_only_where_it_rose = λ h. p.counts.failed_only_where_it_rose refl;
  refusals_rise_only_there = inr (refused-not_at_failed {A = A} p.refusals);
  starts = p.starts;
}
from-refused call.NoMemory p = record {
  only = p.only;
  count_rises_only_there = inr (p.counts.same_at_no_memory refl);
  read_only_where_it_rose = λ h. absurd cc;
  refusals_rise_only_there = inl refl;
  starts = p.starts;
}

ok-not-read : {A : Type 0} (x : A) → (let r : Result A MapError = Ok x in r ≡ Err Read) → ⊥
ok-not-read x h = cc

pub counts-at_ok : {A : Type 0} {a b : DepotState} {x : A} → (let r : Result A MapError = Ok x in ReadsFrom a b r) → b.faults Map ≡ a.faults Map
counts-at_ok {x = x} p = elim p.count_rises_only_there [ inl h ↦ absurd (ok-not-read x h) | inr same ↦ same ]

ok-not-no_memory : {A : Type 0} (x : A) → (let r : Result A MapError = Ok x in r ≡ Err NoMemory) → ⊥
ok-not-no_memory x h = cc

pub refusals-at_ok : {A : Type 0} {a b : DepotState} {x : A} → (let r : Result A MapError = Ok x in ReadsFrom a b r) → b.refusals ≡ a.refusals
refusals-at_ok {x = x} p = elim p.refusals_rise_only_there [ inl h ↦ absurd (ok-not-no_memory x h) | inr same ↦ same ]

pub answers-ok : {A B : Type 0} {a b : DepotState} {x : A} (y : B) → (let r : Result A MapError = Ok x in ReadsFrom a b r) → let s : Result B MapError = Ok y in ReadsFrom a b s
answers-ok {x = x} y p = record {
  only = p.only;
  count_rises_only_there = inr (counts-at_ok {x = x} p);
  read_only_where_it_rose = λ h. absurd (ok-not-read y h);
  refusals_rise_only_there = inr (refusals-at_ok {x = x} p);
  starts = p.starts;
}

pub answers-broken : {A B : Type 0} {a b : DepotState} {x : A} (fault : MapFault) → (let r : Result A MapError = Ok x in ReadsFrom a b r) → let s : Result B MapError = Err (Broken fault) in ReadsFrom a b s
answers-broken {x = x} fault p = record {
  only = p.only;
  count_rises_only_there = inr (counts-at_ok {x = x} p);
  read_only_where_it_rose = λ h. absurd cc;
  refusals_rise_only_there = inr (refusals-at_ok {x = x} p);
  starts = p.starts;
}

pub answers-no_memory : {A B : Type 0} {a b : DepotState} {x : A} → (let r : Result A MapError = Ok x in ReadsFrom a b r) → let s : Result B MapError = Err NoMemory in ReadsFrom a b s
answers-no_memory {x = x} p = record {
  only = p.only;
  count_rises_only_there = inr (counts-at_ok {x = x} p);
  read_only_where_it_rose = λ h. absurd cc;
  refusals_rise_only_there = inl refl;
  starts = p.starts;
}

same-read : {A B : Type 0} (e : MapError) → (let r : Result A MapError = Err e in r ≡ Err Read) → let s : Result B MapError = Err e in s ≡ Err Read
same-read e h = cc

same-want : {A B : Type 0} (e : MapError) → (let r : Result A MapError = Err e in r ≡ Err NoMemory) → let s : Result B MapError = Err e in s ≡ Err NoMemory
same-want e h = cc

pub answers-err : {A B : Type 0} {a b : DepotState} (e : MapError) → (let r : Result A MapError = Err e in ReadsFrom a b r) → let s : Result B MapError = Err e in ReadsFrom a b s
answers-err {A = A} {B = B} e p = record {
  only = p.only;
  count_rises_only_there = elim p.count_rises_only_there [ inl h ↦ inl (same-read {A = A} {B = B} e h) | inr same ↦ inr same ];
  read_only_where_it_rose = λ h. p.read_only_where_it_rose (same-read {A = B} {B = A} e h);
  refusals_rise_only_there = elim p.refusals_rise_only_there [ inl h ↦ inl (same-want {A = A} {B = B} e h) | inr same ↦ inr same ];
  starts = p.starts;
}

pub reads-then : {A B : Type 0} {a b c : DepotState} {x : A} {r : Result B MapError} → (let s : Result A MapError = Ok x in ReadsFrom a b s) → ReadsFrom b c r → ReadsFrom a c r
reads-then {a = a} {b = b} {c = c} {x = x} p q =
    let same = counts-at_ok {x = x} p in
    record {
      only = OnlyReads-trans p.only q.only;
      count_rises_only_there = elim q.count_rises_only_there [ inl h ↦ inl h | inr e ↦ inr (e ∙ same) ];
      read_only_where_it_rose = λ h. subst (λ (n : ℕ). Rose n (c.faults Map)) same (q.read_only_where_it_rose h);
      refusals_rise_only_there = elim q.refusals_rise_only_there [ inl h ↦ inl h | inr e ↦ inr (e ∙ refusals-at_ok {x = x} p) ];
      starts = λ slot. q.starts slot ∙ p.starts slot;
    }
