-- What a call does that fails, where everything but the counts is as it was, and one that does not.
use Rattle.std.proofs.Common.{arith, ◌≡◌, ◌≢◌, refl, inl, inr, ℕ, List, Result, Ok, Err, IsErrOf, OnErr}
use Rattle.io_traits.specs.declared.fail.IoFail.{IoFail}
use Rattle.io_traits.specs.declared.fail.IoFail.TheVariants.{Failed}
use Rattle.io_traits.specs.declared.fail.Slot.{Slot}
use Rattle.io_traits.specs.Calls.{CountsFaults, CountsRefusals}
use Rattle.io_traits.specs.DepotState.{DepotState, SameStarts, SameButCounts, WasStartedAs, CountsSlot, Starts, ReadsSlot}

abbrev failed : Result (Unit {0}) IoFail
failed = Err Failed

abbrev failed_count : Result ℕ IoFail
failed_count = Err Failed

-- the same counts of another answer
counts-as : (before now : ℕ) → CountsFaults before now failed → CountsFaults before now failed_count
counts-as before now c = record {
  never_falls = c.never_falls;
  failed_only_where_it_rose = λ h. c.failed_only_where_it_rose refl;
  same_at_ok = λ h. absurd cc;
  same_at_no_memory = λ h. absurd cc;
}

refusals-as : (before now : ℕ) → CountsRefusals before now failed → CountsRefusals before now failed_count
refusals-as before now c = record {
  never_falls = c.never_falls;
  no_memory_only_where_it_rose = λ h. absurd cc;
  rises_only_there = elim c.rises_only_there [ inl h ↦ absurd cc | inr h ↦ inr h ];
}

pub failed-start : (old new : DepotState) (slot : Slot) (name : List ℕ) (fail : IoFail) → fail ≡ Failed → new.tells ≡ old.tells → SameButCounts old new → CountsSlot old new slot failed → WasStartedAs name slot old new
    → ((other : Slot) → other ≢ slot → new.starts other ≡ old.starts other) → Starts old new slot name (Err fail)
failed-start old new slot name fail is tells same counts this others = rw is (record {
  tells = tells;
  started = tt;
  whole_file = λ t. tt;
  other_slots = λ other ne. same.slots other;
  files = same.files;
  writing = same.writing;
  unchanged = same;
  counts = counts;
  asked = this;
  other_starts = others;
})

pub failed-read : (old new : DepotState) (slot : Slot) (before after : List ℕ) (fail : IoFail) → fail ≡ Failed → new.tells ≡ old.tells → SameButCounts old new → CountsSlot old new slot failed → SameStarts old new → ReadsSlot old new slot before after (Err fail)
failed-read old new slot before after fail is tells same counts starts = rw is (record {
  tells = tells;
  started = (same.slots slot).0;
  within = tt;
  next_bytes = λ t. tt;
  at_end = λ t some. tt;
  other_slots = λ other ne. same.slots other;
  files = same.files;
  writing = same.writing;
  unchanged = same;
  counts = record { this = counts-as (old.faults slot) (new.faults slot) counts.this; others = counts.others; writing = counts.writing; create_count = counts.create_count; finish_count = counts.finish_count; refusals = refusals-as old.refusals new.refusals counts.refusals };
  starts = starts;
})

-- a count that stays, where the call did not fail
pub same-count : {A : Type 0} (n : ℕ) (r : Result A IoFail) → (IsErrOf r Failed → ⊥) → CountsFaults n n r
same-count n r never = record {
  never_falls = omega arith;
  failed_only_where_it_rose = λ h. absurd (never h);
  same_at_ok = λ h. refl;
  same_at_no_memory = λ h. refl;
}

-- what follows at a refusal
pub at-err : {A P Q : Type 0} (r : Result A IoFail) → (P → Q) → OnErr r P → OnErr r Q
at-err (Ok x) f p = tt
at-err (Err e) f p = f p
