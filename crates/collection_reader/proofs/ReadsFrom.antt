use Rattle.std.proofs.Common.{◌≡◌, refl, sym, ap, subst, ◌∙◌, arith, inl, inr, Result, Ok, Err}
use Rattle.io_traits.specs.declared.fail.IoFail.{IoFail}
use Rattle.io_traits.specs.declared.fail.IoFail.TheVariants as call
use Rattle.io_traits.specs.Calls.{Rose}
use Rattle.io_traits.specs.declared.fail.Slot.{Slot}
use Rattle.io_traits.specs.DepotState.{DepotState}
use Rattle.io_traits.proofs.OnlyReads.{OnlyReads-trans, OnlyReads-wider}
use Rattle.held_pieces.specs.Pieces.{ReadsOn}
use Rattle.held_pieces.proofs.SlotReads.{refused-not_at_ok, refused-not_at_failed, faults-on, same-at_ok}
use Rattle.collection_reader.specs.declared.fault.CollError.{CollError}
use Rattle.collection_reader.specs.declared.fault.CollError.TheVariants.{Broken, Read, NoMemory}
use Rattle.collection_reader.specs.declared.fault.Fault.{Fault}
use Rattle.collection_reader.specs.OneFile.{StartsFrom, ReadsFrom, call_error}

ok-not-err : {A : Type 0} (x : A) (e : CollError) → let r : Result A CollError = Ok x in r ≡ Err e → ⊥
ok-not-err x e h = cc

broken-not-read : {A : Type 0} (fault : Fault) (slot : Slot) → let r : Result A CollError = Err (Broken fault) in r ≡ Err (Read slot) → ⊥
broken-not-read fault slot h = cc

no_memory-not-read : {A : Type 0} (slot : Slot) → let r : Result A CollError = Err NoMemory in r ≡ Err (Read slot) → ⊥
no_memory-not-read slot h = cc

same-read : {A B : Type 0} (e : CollError) (slot : Slot) → (let r : Result A CollError = Err e in r ≡ Err (Read slot)) → let s : Result B CollError = Err e in s ≡ Err (Read slot)
same-read e slot h = cc

same-want : {A B : Type 0} (e : CollError) → (let r : Result A CollError = Err e in r ≡ Err NoMemory) → let s : Result B CollError = Err e in s ≡ Err NoMemory
same-want e h = cc

-- what the answer of a call says of the file's reading
pub from-ok : {A B : Type 0} {slot : Slot} {a b : DepotState} {x : A} (y : B) → ReadsOn slot a b (Ok x) → ReadsFrom (λ s. s ≡ slot) a b (Ok y)
from-ok {a = a} {b = b} {x = x} y p = record {
  only = p.only;
  count_rises_only_there = λ s. inr (same-at_ok p s);
  read_only_where_it_rose = λ s h. absurd (ok-not-err y _ h);
  refusals_rise_only_there = inr (refused-not_at_ok {x = x} p.refusals);
  starts = p.starts;
}

pub from-broken : {A B : Type 0} {slot : Slot} {a b : DepotState} {x : A} (fault : Fault) → ReadsOn slot a b (Ok x) → let r : Result B CollError = Err (Broken fault) in ReadsFrom (λ s. s ≡ slot) a b r
from-broken {B = B} {x = x} fault p = record {
  only = p.only;
  count_rises_only_there = λ s. inr (same-at_ok p s);
  read_only_where_it_rose = λ s h. absurd (broken-not-read {A = B} fault s h);
  refusals_rise_only_there = inr (refused-not_at_ok {x = x} p.refusals);
  starts = p.starts;
}

read-slot : {A : Type 0} (s t : Slot) → (let r : Result A CollError = Err (Read t) in r ≡ Err (Read s)) → s ≡ t
read-slot s t h = cc

pub from-refused : {A B : Type 0} {slot : Slot} {a b : DepotState} (fail : IoFail) → (let r : Result A IoFail = Err fail in ReadsOn slot a b r) → let s : Result B CollError = Err (call_error slot fail) in ReadsFrom (λ s. s ≡ slot) a b s
from-refused {A = A} {B = B} {slot = slot} {a = a} {b = b} call.Failed p = record {
  only = p.only;
  count_rises_only_there = λ s. elim (faults-on p s) [
    | inl e ↦ inl (ap (λ (t : Slot). Err (Read t)) (sym e))
    | inr same ↦ inr same
  ];
  read_only_where_it_rose = λ s h.
      let is : s ≡ slot = read-slot {A = B} s slot h in
      (is, subst (λ (t : Slot). Rose (a.faults t) (b.faults t)) (sym is) (p.counts.failed_only_where_it_rose refl));
  refusals_rise_only_there = inr (refused-not_at_failed {A = A} p.refusals);
  starts = p.starts;
}
from-refused {A = A} {B = B} {slot = slot} {a = a} {b = b} call.NoMemory p = record {
  only = p.only;
  count_rises_only_there = λ s. elim (faults-on p s) [
    | inl e ↦ inr (ap b.faults e ∙ p.counts.same_at_no_memory refl ∙ sym (ap a.faults e))
    | inr same ↦ inr same
  ];
  read_only_where_it_rose = λ s h. absurd (no_memory-not-read {A = B} s h);
  refusals_rise_only_there = inl refl;
  starts = p.starts;
}

-- what an answer that is no refusal says of the counts
pub counts-at_ok : {A : Type 0} {touched : Slot → Type 0} {a b : DepotState} {x : A} → ReadsFrom touched a b (Ok x) → (slot : Slot) → b.faults slot ≡ a.faults slot
counts-at_ok {x = x} p slot = elim (p.count_rises_only_there slot) [ inl h ↦ absurd (ok-not-err x _ h) | inr h ↦ h ]

pub refusals-at_ok : {A : Type 0} {touched : Slot → Type 0} {a b : DepotState} {x : A} → ReadsFrom touched a b (Ok x) → b.refusals ≡ a.refusals
refusals-at_ok {x = x} p = elim p.refusals_rise_only_there [ inl h ↦ absurd (ok-not-err x _ h) | inr h ↦ h ]

-- another answer after the same reads
pub answers-ok : {A B : Type 0} {touched : Slot → Type 0} {a b : DepotState} {x : A} (y : B) → ReadsFrom touched a b (Ok x) → ReadsFrom touched a b (Ok y)
answers-ok {touched = touched} {a = a} {b = b} {x = x} y p = record {
  only = p.only;
  count_rises_only_there = λ slot. inr (counts-at_ok p slot);
  read_only_where_it_rose = λ slot h. absurd (ok-not-err y _ h);
  refusals_rise_only_there = inr (refusals-at_ok p);
  starts = p.starts;
}

pub answers-broken : {A B : Type 0} {touched : Slot → Type 0} {a b : DepotState} {x : A} (fault : Fault) → ReadsFrom touched a b (Ok x) → let r : Result B CollError = Err (Broken fault) in ReadsFrom touched a b r
answers-broken {B = B} fault p = record {
  only = p.only;
  count_rises_only_there = λ slot. inr (counts-at_ok p slot);
  read_only_where_it_rose = λ slot h. absurd (broken-not-read {A = B} fault slot h);
  refusals_rise_only_there = inr (refusals-at_ok p);
  starts = p.starts;
}

pub answers-no_memory : {A B : Type 0} {touched : Slot → Type 0} {a b : DepotState} {x : A} → ReadsFrom touched a b (Ok x) → let r : Result B CollError = Err NoMemory in ReadsFrom touched a b r
answers-no_memory {B = B} p = record {
  only = p.only;
  count_rises_only_there = λ slot. inr (counts-at_ok p slot);
  read_only_where_it_rose = λ slot h. absurd (no_memory-not-read {A = B} slot h);
  refusals_rise_only_there = inl refl;
  starts = p.starts;
}

-- the same refusal of another answer
pub answers-err : {A B : Type 0} {touched : Slot → Type 0} {a b : DepotState} (e : CollError) → (let r : Result A CollError = Err e in ReadsFrom touched a b r) → let s : Result B CollError = Err e in ReadsFrom touched a b s
answers-err {A = A} {B = B} e p = record {
  only = p.only;
  count_rises_only_there = λ slot. elim (p.count_rises_only_there slot) [ inl h ↦ inl (same-read {A = A} {B = B} e slot h) | inr h ↦ inr h ];
  read_only_where_it_rose = λ slot h. p.read_only_where_it_rose slot (same-read {A = B} {B = A} e slot h);
  refusals_rise_only_there = elim p.refusals_rise_only_there [ inl h ↦ inl (same-want {A = A} {B = B} e h) | inr h ↦ inr h ];
  starts = p.starts;
}

-- a call after one that did not refuse
pub reads-then : {A B : Type 0} {touched : Slot → Type 0} {a b c : DepotState} {x : A} {r : Result B CollError} → ReadsFrom touched a b (Ok x) → ReadsFrom touched b c r → ReadsFrom touched a c r
reads-then {a = a} {b = b} {c = c} p q = record {
  only = OnlyReads-trans p.only q.only;
  count_rises_only_there = λ slot. elim (q.count_rises_only_there slot) [ inl h ↦ inl h | inr h ↦ inr (h ∙ counts-at_ok p slot) ];
  read_only_where_it_rose = λ slot h. (
    (q.read_only_where_it_rose slot h).0,
    elim (q.read_only_where_it_rose slot h).1 [ inl l ↦ inl (omega (arith, counts-at_ok p slot, l)) | inr e ↦ inr e ],
  );
  refusals_rise_only_there = elim q.refusals_rise_only_there [ inl h ↦ inl h | inr h ↦ inr (h ∙ refusals-at_ok p) ];
  starts = λ slot. q.starts slot ∙ p.starts slot;
}

-- the same reads among more slots
pub reads-wider : {A : Type 0} {touched more : Slot → Type 0} {a b : DepotState} {r : Result A CollError} → ((slot : Slot) → touched slot → more slot) → ReadsFrom touched a b r → ReadsFrom more a b r
reads-wider w p = record {
  only = OnlyReads-wider w p.only;
  count_rises_only_there = p.count_rises_only_there;
  read_only_where_it_rose = λ slot h. (w slot (p.read_only_where_it_rose slot h).0, (p.read_only_where_it_rose slot h).1);
  refusals_rise_only_there = p.refusals_rise_only_there;
  starts = p.starts;
}

-- ---- the same of starts

-- reads are starts or reads
pub as-starts : {A : Type 0} {touched : Slot → Type 0} {a b : DepotState} {r : Result A CollError} → ReadsFrom touched a b r → StartsFrom touched a b r
as-starts p = record {
  only = p.only;
  count_rises_only_there = p.count_rises_only_there;
  read_only_where_it_rose = p.read_only_where_it_rose;
  refusals_rise_only_there = p.refusals_rise_only_there;
}

start-counts-at_ok : {A : Type 0} {touched : Slot → Type 0} {a b : DepotState} {x : A} → StartsFrom touched a b (Ok x) → (slot : Slot) → b.faults slot ≡ a.faults slot
start-counts-at_ok {x = x} p slot = elim (p.count_rises_only_there slot) [ inl h ↦ absurd (ok-not-err x _ h) | inr h ↦ h ]

start-refusals-at_ok : {A : Type 0} {touched : Slot → Type 0} {a b : DepotState} {x : A} → StartsFrom touched a b (Ok x) → b.refusals ≡ a.refusals
start-refusals-at_ok {x = x} p = elim p.refusals_rise_only_there [ inl h ↦ absurd (ok-not-err x _ h) | inr h ↦ h ]

pub starts-err : {A B : Type 0} {touched : Slot → Type 0} {a b : DepotState} (e : CollError) → (let r : Result A CollError = Err e in StartsFrom touched a b r) → let s : Result B CollError = Err e in StartsFrom touched a b s
starts-err {A = A} {B = B} e p = record {
  only = p.only;
  count_rises_only_there = λ slot. elim (p.count_rises_only_there slot) [ inl h ↦ inl (same-read {A = A} {B = B} e slot h) | inr h ↦ inr h ];
  read_only_where_it_rose = λ slot h. p.read_only_where_it_rose slot (same-read {A = B} {B = A} e slot h);
  refusals_rise_only_there = elim p.refusals_rise_only_there [ inl h ↦ inl (same-want {A = A} {B = B} e h) | inr h ↦ inr h ];
}

pub starts-then : {A B : Type 0} {touched : Slot → Type 0} {a b c : DepotState} {x : A} {r : Result B CollError} → StartsFrom touched a b (Ok x) → StartsFrom touched b c r → StartsFrom touched a c r
starts-then {a = a} {b = b} {c = c} p q = record {
  only = OnlyReads-trans p.only q.only;
  count_rises_only_there = λ slot. elim (q.count_rises_only_there slot) [ inl h ↦ inl h | inr h ↦ inr (h ∙ start-counts-at_ok p slot) ];
  read_only_where_it_rose = λ slot h. (
    (q.read_only_where_it_rose slot h).0,
    elim (q.read_only_where_it_rose slot h).1 [ inl l ↦ inl (omega (arith, start-counts-at_ok p slot, l)) | inr e ↦ inr e ],
  );
  refusals_rise_only_there = elim q.refusals_rise_only_there [ inl h ↦ inl h | inr h ↦ inr (h ∙ start-refusals-at_ok p) ];
}

pub starts-wider : {A : Type 0} {touched more : Slot → Type 0} {a b : DepotState} {r : Result A CollError} → ((slot : Slot) → touched slot → more slot) → StartsFrom touched a b r → StartsFrom more a b r
starts-wider w p = record {
  only = OnlyReads-wider w p.only;
  count_rises_only_there = p.count_rises_only_there;
  read_only_where_it_rose = λ slot h. (w slot (p.read_only_where_it_rose slot h).0, (p.read_only_where_it_rose slot h).1);
  refusals_rise_only_there = p.refusals_rise_only_there;
}
