-- Starts and reads of some slots: none of them, one behind the other, and among more slots; and that no slot is started twice.
use Rattle.std.proofs.Common.{◌≡◌, ◌≢◌, ◌⊎◌, refl, ◌∙◌, ap, subst, sym, arith, inl, inr, ℕ, List, IsTrue, Result, Ok, Err}
use Rattle.io_traits.specs.declared.fail.IoFail.{IoFail}
use Rattle.io_traits.specs.declared.fail.Slot.{Slot}
use Rattle.io_traits.specs.Starting.{StartedAs}
use Rattle.io_traits.specs.DepotState.{DepotState, SameStarts, StartedOnce, NoneStartedTwice, OnlyReads, ReadsSlot, Starts, WasStartedAs}
use Rattle.io_traits.proofs.Slots.{same_or_other}

-- nothing read
pub OnlyReads-same : {touched : Slot → Type 0} (a : DepotState) → OnlyReads touched a a
OnlyReads-same a = record {
  tells = refl;
  files = λ t name. refl;
  writing = (refl, λ t. refl);
  writing_count = refl;
  stay_started = λ slot s. s;
  other_slots = λ slot n. (refl, λ t. refl);
  never_fall = λ slot. omega arith;
  other_counts = λ slot n. refl;
  create_count = refl;
  finish_count = refl;
  starts_never_fall = λ slot. omega arith;
  other_starts = λ slot n. refl;
  refusals_never_fall = omega arith;
}

-- reads after reads
pub OnlyReads-trans : {touched : Slot → Type 0} {a b c : DepotState} → OnlyReads touched a b → OnlyReads touched b c → OnlyReads touched a c
OnlyReads-trans p q = record {
  tells = q.tells ∙ p.tells;
  files = λ t name. q.files (p.tells ∙ t) name ∙ p.files t name;
  writing = (q.writing.0 ∙ p.writing.0, λ t. q.writing.1 (p.tells ∙ t) ∙ p.writing.1 t);
  writing_count = q.writing_count ∙ p.writing_count;
  stay_started = λ slot s. q.stay_started slot (p.stay_started slot s);
  other_slots = λ slot n. (
    (q.other_slots slot n).0 ∙ (p.other_slots slot n).0,
    λ t. (q.other_slots slot n).1 (p.tells ∙ t) ∙ (p.other_slots slot n).1 t,
  );
  never_fall = λ slot. omega (arith, p.never_fall slot, q.never_fall slot);
  other_counts = λ slot n. q.other_counts slot n ∙ p.other_counts slot n;
  create_count = q.create_count ∙ p.create_count;
  finish_count = q.finish_count ∙ p.finish_count;
  starts_never_fall = λ slot. omega (arith, p.starts_never_fall slot, q.starts_never_fall slot);
  other_starts = λ slot n. q.other_starts slot n ∙ p.other_starts slot n;
  refusals_never_fall = omega (arith, p.refusals_never_fall, q.refusals_never_fall);
}

-- the same among more slots
pub OnlyReads-wider : {touched more : Slot → Type 0} {a b : DepotState} → ((slot : Slot) → touched slot → more slot) → OnlyReads touched a b → OnlyReads more a b
OnlyReads-wider w p = record {
  tells = p.tells;
  files = p.files;
  writing = p.writing;
  writing_count = p.writing_count;
  stay_started = p.stay_started;
  other_slots = λ slot n. p.other_slots slot (λ t. n (w slot t));
  never_fall = p.never_fall;
  other_counts = λ slot n. p.other_counts slot (λ t. n (w slot t));
  create_count = p.create_count;
  finish_count = p.finish_count;
  starts_never_fall = p.starts_never_fall;
  other_starts = λ slot n. p.other_starts slot (λ t. n (w slot t));
  refusals_never_fall = p.refusals_never_fall;
}

-- the start of a slot
pub OnlyReads-start : (old new : DepotState) (slot : Slot) (name : List ℕ) (result : Result (Unit {0}) IoFail) → Starts old new slot name result → OnlyReads (λ s. s ≡ slot) old new
OnlyReads-start old new slot name result s = record {
  tells = s.tells;
  files = s.files;
  writing = s.writing;
  writing_count = s.counts.writing;
  stay_started = λ other h. elim (same_or_other other slot) [
    | inl e ↦ ap new.started e ∙ this result s (sym (ap old.started e) ∙ h)
    | inr n ↦ (s.other_slots other n).0 ∙ h
  ];
  other_slots = s.other_slots;
  never_fall = λ other. elim (same_or_other other slot) [
    | inl e ↦ omega (arith, s.counts.this.never_falls, ap old.faults e, ap new.faults e)
    | inr n ↦ omega (arith, s.counts.others other n)
  ];
  other_counts = s.counts.others;
  create_count = s.counts.create_count;
  finish_count = s.counts.finish_count;
  starts_never_fall = λ other. elim (same_or_other other slot) [
    | inl e ↦ omega (arith, s.asked.count, ap (λ x. (old.starts x).count) e, ap (λ x. (new.starts x).count) e)
    | inr n ↦ omega (arith, ap (λ x. x.count) (s.other_starts other n))
  ];
  other_starts = s.other_starts;
  refusals_never_fall = s.counts.refusals.never_falls;
}
  where
    this : (result : Result (Unit {0}) IoFail) → Starts old new slot name result → IsTrue (old.started slot) → IsTrue (new.started slot)
    this (Ok u) s h = s.started
    this (Err e) s h = (s.unchanged.slots slot).0 ∙ h

-- reads, and then a read of a slot
pub OnlyReads-then : {touched : Slot → Type 0} {a b c : DepotState} {slot : Slot} {before after : List ℕ} {result : Result ℕ IoFail} → OnlyReads touched a b → touched slot → ReadsSlot b c slot before after result → OnlyReads touched a c
OnlyReads-then {touched} {a} {b} {c} {slot} p it r = record {
  tells = r.tells ∙ p.tells;
  files = λ t name. r.files (p.tells ∙ t) name ∙ p.files t name;
  writing = (r.writing.0 ∙ p.writing.0, λ t. r.writing.1 (p.tells ∙ t) ∙ p.writing.1 t);
  writing_count = r.counts.writing ∙ p.writing_count;
  stay_started = λ s h. elim (same_or_other s slot) [
    | inl e ↦ ap c.started e ∙ r.started ∙ sym (ap b.started e) ∙ p.stay_started s h
    | inr n ↦ (r.other_slots s n).0 ∙ p.stay_started s h
  ];
  other_slots = λ s n.
      let other : s ≢ slot = λ e. n (subst touched (sym e) it) in (
        (r.other_slots s other).0 ∙ (p.other_slots s n).0,
        λ t. (r.other_slots s other).1 (p.tells ∙ t) ∙ (p.other_slots s n).1 t,
      );
  never_fall = λ s. elim (same_or_other s slot) [
    | inl e ↦ omega (arith, p.never_fall s, r.counts.this.never_falls, ap b.faults e, ap c.faults e)
    | inr n ↦ omega (arith, p.never_fall s, r.counts.others s n)
  ];
  other_counts = λ s n.
      let other : s ≢ slot = λ e. n (subst touched (sym e) it) in
      r.counts.others s other ∙ p.other_counts s n;
  create_count = r.counts.create_count ∙ p.create_count;
  finish_count = r.counts.finish_count ∙ p.finish_count;
  starts_never_fall = λ s. omega (arith, p.starts_never_fall s, ap (λ x. x.count) (r.starts s));
  other_starts = λ s n. r.starts s ∙ p.other_starts s n;
  refusals_never_fall = omega (arith, p.refusals_never_fall, r.counts.refusals.never_falls);
}

-- a read changes no count of faults but that of its slot
pub faults-there : {old new : DepotState} {slot : Slot} {before after : List ℕ} {result : Result ℕ IoFail} → ReadsSlot old new slot before after result → (other : Slot) → (other ≡ slot) ⊎ (new.faults other ≡ old.faults other)
faults-there {slot = slot} r other = elim (same_or_other other slot) [ inl e ↦ inl e | inr n ↦ inr (r.counts.others other n) ]

-- a slot that was started, and then not again
pub was-started-then : (name : List ℕ) (slot : Slot) (a b c : DepotState) → WasStartedAs name slot a b → c.starts slot ≡ b.starts slot → WasStartedAs name slot a c
was-started-then name slot a b c p same = subst (StartedAs name (a.starts slot)) (sym same) p

-- a slot that was not started, and then once
pub then-was-started : (name : List ℕ) (slot : Slot) (a b c : DepotState) → b.starts slot ≡ a.starts slot → WasStartedAs name slot b c → WasStartedAs name slot a c
then-was-started name slot a b c same q = subst (λ s. StartedAs name s (c.starts slot)) same q

-- one slot that was started once
pub StartedOnce-slot : (name : List ℕ) (slot : Slot) (a b : DepotState) → WasStartedAs name slot a b → StartedOnce (λ s. name) (λ s. s ≡ slot) a b
StartedOnce-slot name slot a b once s is = subst (λ x. WasStartedAs name x a b) (sym is) once

-- slots that were started once, and then not again
pub StartedOnce-then : (names : Slot → List ℕ) (slots : Slot → Type 0) (a b c : DepotState) → StartedOnce names slots a b → SameStarts b c → StartedOnce names slots a c
StartedOnce-then names slots a b c p same slot is = was-started-then (names slot) slot a b c (p slot is) (same slot)

-- no start
pub NoneStartedTwice-same : (names : Slot → List ℕ) (a : DepotState) → NoneStartedTwice names a a
NoneStartedTwice-same names a slot = inl refl

-- calls that start nothing, after some that start no slot twice
pub NoneStartedTwice-then : (names : Slot → List ℕ) (a b c : DepotState) → NoneStartedTwice names a b → SameStarts b c → NoneStartedTwice names a c
NoneStartedTwice-then names a b c p same slot = elim (p slot) [
  | inl none ↦ inl (same slot ∙ none)
  | inr once ↦ inr (was-started-then (names slot) slot a b c once (same slot))
]

-- calls that start one slot at most once, which was not started since
pub NoneStartedTwice-start : (names : Slot → List ℕ) (a b c : DepotState) (slot : Slot) → NoneStartedTwice names a b → b.starts slot ≡ a.starts slot → OnlyReads (λ s. s ≡ slot) b c
    → (c.starts slot ≡ b.starts slot) ⊎ WasStartedAs (names slot) slot b c → NoneStartedTwice names a c
NoneStartedTwice-start names a b c slot p fresh reads once other = elim (same_or_other other slot) [
  | inl e ↦ subst (λ s. (c.starts s ≡ a.starts s) ⊎ WasStartedAs (names s) s a c) (sym e) (elim once [
    | inl none ↦ inl (none ∙ fresh)
    | inr it ↦ inr (then-was-started (names slot) slot a b c fresh it)
  ])
  | inr n ↦ elim (p other) [
    | inl none ↦ inl (reads.other_starts other n ∙ none)
    | inr it ↦ inr (was-started-then (names other) other a b c it (reads.other_starts other n))
  ]
]
