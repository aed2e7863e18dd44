-- The reading of a map from its start on: what its answer is at each refusal, and at the end; and that an order has no fault.
use Rattle.std.proofs.Common.{◌≡◌, refl, sym, ap, ◌∙◌, subst, inl, inr, ◌⊎◌, ℕ, ◌^◌, ◌<◌, List, [], ◌++◌, flat_map, length, IsTrue, Result, Ok, Err, arith}
use Rattle.std.proofs.lemmas.List.{append-nil}
use Rattle.collection_model.specs.Bytes.{le32, number_sequence}
use Rattle.io_traits.specs.declared.fail.IoFail.{IoFail}
use Rattle.io_traits.specs.declared.fail.IoFail.TheVariants as call
use Rattle.io_traits.specs.declared.fail.Slot.{Slot}
use Rattle.io_traits.specs.declared.fail.Slot.TheVariants.{Map}
use Rattle.io_traits.specs.Calls.{Rose}
use Rattle.io_traits.specs.DepotState.{DepotState, Starts, OnlyReads, WasStartedAs, bytes_under}
use Rattle.io_traits.proofs.OnlyReads.{OnlyReads-start, OnlyReads-trans, StartedOnce-slot, was-started-then}
use Rattle.remap.specs.declared.fault.MapFault.{MapFault}
use Rattle.remap.specs.declared.fault.MapError.{MapError}
use Rattle.remap.specs.declared.fault.MapError.TheVariants.{Broken, Read, NoMemory}
use Rattle.remap.specs.MapFaults.{IsMapFault}
use Rattle.remap.specs.NewIds.{AreNewIds}
use Rattle.remap.specs.OneMap.{call_error, rest_of}
use Rattle.remap.specs.OneSequence.{ReadsIds}
use Rattle.remap.specs.ReadMap.{ReadsMap}
use Rattle.remap.proofs.Ids.{ids-new_ids, new_ids-apart}
use Rattle.remap.proofs.MapReads.{refusals-at_ok, counts-at_ok}
use Rattle.remap.proofs.MapFaultsFound.{order-no_fault}

-- the bytes of an order break no rule
pub order-none : (n : ℕ) (ids : List ℕ) (fault : MapFault) → n < 2 ^ 32 → AreNewIds ids → length ids ≡ n → IsMapFault n (number_sequence ids) fault → ⊥
order-none n ids fault few are count broken =
    let this : IsMapFault (length ids) (number_sequence ids) fault = subst (λ (m : ℕ). IsMapFault m (number_sequence ids) fault) (sym count) broken in
    order-no_fault (length ids) ids fault (omega arith) are.below (new_ids-apart ids are) refl
    (subst (λ (bytes : List ℕ). IsMapFault (length ids) bytes fault) (sym (append-nil (le32 (length ids) ++ flat_map le32 ids))) this)

-- what a refusal has to say
refused : (name : List ℕ) (n : ℕ) (old new : DepotState) (e : MapError) → n < 2 ^ 32 → (IsTrue old.tells → (fault : MapFault) → e ≡ Broken fault → IsMapFault n (bytes_under old name) fault)
    → (e ≡ Read → Rose (old.faults Map) (new.faults Map)) → (e ≡ Read) ⊎ (new.faults Map ≡ old.faults Map) → (e ≡ NoMemory) ⊎ (new.refusals ≡ old.refusals)
    → OnlyReads (λ slot. slot ≡ Map) old new → WasStartedAs name Map old new → ReadsMap name n old new (Err e)
refused name n old new e few fault rose rises wants reads once = record {
  new_ids = tt;
  each = tt;
  spelled_so = λ t. tt;
  started = tt;
  to_end = λ t. tt;
  first_fault = λ t f h. fault t f cc;
  faulty_is_refused = λ t f broken ids h. absurd cc;
  no_fault = λ t ids are count same f h. order-none n ids f few are count (subst (λ (bytes : List ℕ). IsMapFault n bytes f) same (fault t f cc));
  read_only_where_it_rose = λ h. rose cc;
  count_rises_only_there = elim rises [ inl h ↦ inl (ap Err h) | inr same ↦ inr same ];
  refusals_rise_only_there = elim wants [ inl h ↦ inl (ap Err h) | inr same ↦ inr same ];
  reads = reads;
  starts = StartedOnce-slot name Map old new once;
}

failed-not_no_memory : (let r : Result (Unit {0}) IoFail = Err call.Failed in r ≡ Err call.NoMemory) → ⊥
failed-not_no_memory h = cc

ok-not_no_memory : (let r : Result (Unit {0}) IoFail = Ok tt in r ≡ Err call.NoMemory) → ⊥
ok-not_no_memory h = cc

-- where the start is refused
pub start-refused : (name : List ℕ) (n : ℕ) (a b : DepotState) (fail : IoFail) → n < 2 ^ 32 → Starts a b Map name (Err fail) → ReadsMap name n a b (Err (call_error fail))
start-refused name n a b call.Failed few s =
    refused name n a b Read few (λ t f is. absurd cc) (λ h. s.counts.this.failed_only_where_it_rose refl) (inl refl)
    (elim s.counts.refusals.rises_only_there [ inl h ↦ absurd (failed-not_no_memory h) | inr same ↦ inr same ])
    (OnlyReads-start a b Map name _ s) s.asked
start-refused name n a b call.NoMemory few s =
    refused name n a b NoMemory few (λ t f is. absurd cc) (λ h. absurd cc) (inr (s.counts.this.same_at_no_memory refl)) (inl refl)
    (OnlyReads-start a b Map name _ s) s.asked

-- where there is no room for a piece
pub no-piece : (name : List ℕ) (n : ℕ) (a b : DepotState) → n < 2 ^ 32 → Starts a b Map name (Ok tt) → ReadsMap name n a b (Err NoMemory)
no-piece name n a b few s =
    refused name n a b NoMemory few (λ t f is. absurd cc) (λ h. absurd cc) (inr (s.counts.this.same_at_ok refl)) (inl refl)
    (OnlyReads-start a b Map name _ s) s.asked

-- what is left once the slot is started are the bytes under the name
whole : (name held : List ℕ) (a b : DepotState) → Starts a b Map name (Ok tt) → held ≡ [] → IsTrue a.tells → rest_of held b ≡ bytes_under a name
whole name held a b s none t = ap (λ (h : List ℕ). h ++ b.left Map) none ∙ s.whole_file t

same-read : (e : MapError) → e ≡ Read → let r : Result (List ℕ) MapError = Err e in r ≡ Err Read
same-read e is = ap Err is

read-of : (e : MapError) → (let r : Result (List ℕ) MapError = Err e in r ≡ Err Read) → e ≡ Read
read-of e h = cc

want-of : (e : MapError) → (let r : Result (List ℕ) MapError = Err e in r ≡ Err NoMemory) → e ≡ NoMemory
want-of e h = cc

-- the count of refusals after a start that was not refused
wants-at_start : (name : List ℕ) (a b : DepotState) → Starts a b Map name (Ok tt) → b.refusals ≡ a.refusals
wants-at_start name a b s = elim s.counts.refusals.rises_only_there [ inl h ↦ absurd (ok-not_no_memory h) | inr same ↦ same ]

-- where the ids are refused
pub ids-refused : (name held last : List ℕ) (n : ℕ) (a b c : DepotState) (e : MapError) → n < 2 ^ 32 → held ≡ [] → Starts a b Map name (Ok tt) → ReadsIds n held last b c (Err e) → ReadsMap name n a c (Err e)
ids-refused name held last n a b c e few none s ids =
    let faults = s.counts.this.same_at_ok refl in
    let q = ids.depot in
    refused name n a c e few
    (λ t f is. subst (λ (bytes : List ℕ). IsMapFault n bytes f) (whole name held a b s none t) (ids.first_fault (s.tells ∙ t) f (ap Err is)))
    (λ h. subst (λ (k : ℕ). Rose k (c.faults Map)) faults (q.read_only_where_it_rose (same-read e h)))
    (elim q.count_rises_only_there [ inl h ↦ inl (read-of e h) | inr same ↦ inr (same ∙ faults) ])
    (elim q.refusals_rise_only_there [ inl h ↦ inl (want-of e h) | inr same ↦ inr (same ∙ wants-at_start name a b s) ])
    (OnlyReads-trans (OnlyReads-start a b Map name _ s) q.only)
    (was-started-then name Map a b c s.asked (q.starts Map))

-- the ids that were read are an order
pub read-new_ids : (n : ℕ) (held last ids : List ℕ) (b c : DepotState) → ReadsIds n held last b c (Ok ids) → AreNewIds ids
read-new_ids n held last ids b c read = ids-new_ids n ids read.count read.below read.apart

-- where the map was read to its end
pub map-read : (name held last ids : List ℕ) (n : ℕ) (a b c : DepotState) → n < 2 ^ 32 → held ≡ [] → Starts a b Map name (Ok tt) → ReadsIds n held last b c (Ok ids) → ReadsMap name n a c (Ok ids)
map-read name held last ids n a b c few none s read =
    let faults = s.counts.this.same_at_ok refl in
    let q = read.depot in
    let are : AreNewIds ids = read-new_ids n held last ids b c read in
    let spelled : IsTrue a.tells → bytes_under a name ≡ number_sequence ids = λ t. sym (whole name held a b s none t) ∙ read.rest (s.tells ∙ t) in
    record {
      new_ids = are;
      each = read.count;
      spelled_so = spelled;
      started = q.only.stay_started Map s.started;
      to_end = λ t. read.none_left (s.tells ∙ t);
      first_fault = λ t f h. absurd cc;
      faulty_is_refused = λ t f broken others h. order-none n ids f few are read.count (subst (λ (bytes : List ℕ). IsMapFault n bytes f) (spelled t) broken);
      no_fault = λ t others are_too count same f h. absurd cc;
      read_only_where_it_rose = λ h. absurd cc;
      count_rises_only_there = inr (counts-at_ok {x = ids} q ∙ faults);
      refusals_rise_only_there = inr (refusals-at_ok {x = ids} q ∙ wants-at_start name a b s);
      reads = OnlyReads-trans (OnlyReads-start a b Map name _ s) q.only;
      starts = StartedOnce-slot name Map a c (was-started-then name Map a b c s.asked (q.starts Map));
    }
