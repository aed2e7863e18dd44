use Rattle.std.proofs.Common.{◌≡◌, ℕ, ◌+◌, ◌≤◌, ◌<◌, ◌⊎◌, IsTrue, List, [], ◌++◌, length, take, drop, All, Result, Ok, Err, refl, ◌↔◌, sym, ◌∙◌, ap, subst, inl, inr, add-zero, arith}
use Rattle.std.specs.Prelude.{is_ok, IsErrOf, OnErr}
use Rattle.std.proofs.Math.Seq.{take-append-add}
use Rattle.std.proofs.lemmas.Result.{IfOk-at_ok}
use Rattle.std.proofs.lemmas.List.{append_assoc, append-nil, length-append, length-take, length-take-le, take-append-le, take-take, drop_at}
use borrow.Rule.Slice.PartMut.{put_mid, post_of}
use Rattle.io_traits.specs.declared.fail.IoFail.{IoFail}
use Rattle.io_traits.specs.declared.fail.IoFail.TheVariants as call
use Rattle.io_traits.specs.declared.fail.Slot.{Slot}
use Rattle.io_traits.specs.declared.load.LoadError.{LoadError}
use Rattle.io_traits.specs.declared.load.LoadError.TheVariants.{Read, TooLarge, NoMemory}
use Rattle.io_traits.specs.Calls.{Rose}
use Rattle.io_traits.specs.DepotState.{DepotState, SameStarts, OnlyReads, ReadsSlot, SameButCounts}
use Rattle.io_traits.specs.Loads.{FillsPiece, Loads, TakesBytes, load_error}
use Rattle.io_traits.proofs.Prefixes.{no_more_at_ok}
use Rattle.io_traits.proofs.OnlyReads.{OnlyReads-same, OnlyReads-then}

-- what stands in prefix after a piece was read into a part of a list
pub read_into : (held k n count : ℕ) (bytes lent piece tail : List ℕ) → lent ≡ bytes → held ≤ length bytes → count ≤ length piece → held + count ≤ n →
    take (held + count) (take n (put_mid held k lent piece ++ tail)) ≡ take held bytes ++ take count piece
read_into held k n count bytes lent piece tail same within some fits =
    let prefix = take held lent in
    let rest = post_of held k lent in
    take-take (held + count) n (put_mid held k lent piece ++ tail) fits
    ∙ ap (λ xs. take (held + count) xs) (append_assoc prefix (piece ++ rest) tail)
    ∙ ap (λ m. take (m + count) (prefix ++ ((piece ++ rest) ++ tail))) (sym (length-take-le held lent (omega (arith, ap length same))))
    ∙ take-append-add prefix ((piece ++ rest) ++ tail) count
    ∙ ap (λ xs. prefix ++ xs) (ap (λ xs. take count xs) (append_assoc piece rest tail) ∙ take-append-le count piece (rest ++ tail) some)
    ∙ ap (λ xs. take held xs ++ take count piece) same

-- the same of a whole list
pub put_prefix : (held k count : ℕ) (bytes piece : List ℕ) → held ≤ length bytes → count ≤ length piece → take (held + count) (put_mid held k bytes piece) ≡ take held bytes ++ take count piece
put_prefix held k count bytes piece within some =
    let prefix = take held bytes in
    let rest = post_of held k bytes in
    ap (λ m. take (m + count) (prefix ++ (piece ++ rest))) (sym (length-take-le held bytes within))
    ∙ take-append-add prefix (piece ++ rest) count
    ∙ ap (λ xs. prefix ++ xs) (take-append-le count piece rest some)

-- the same where no byte came
pub prefix_kept : (held k n : ℕ) (bytes lent piece tail : List ℕ) → lent ≡ bytes → held ≤ length bytes → held ≤ n → take held (take n (put_mid held k lent piece ++ tail)) ≡ take held bytes
prefix_kept held k n bytes lent piece tail same within fits =
    rw add-zero at (read_into held k n 0 bytes lent piece tail same within (omega arith) (omega arith)) ∙ append-nil (take held bytes)

-- These bytes were read from a slot, and no call failed.
pub record HasRead (old new : DepotState) (slot : Slot) (bytes : List ℕ) : Type 0 where
  pub prefix : IsTrue old.tells → old.left slot ≡ bytes ++ new.left slot
  pub count : new.faults slot ≡ old.faults slot
  pub starts : SameStarts old new
  pub refusals : new.refusals ≡ old.refusals
  pub reads : OnlyReads (λ s. s ≡ slot) old new

-- the same bytes otherwise written
pub read_prefix : (old new : DepotState) (slot : Slot) (bytes now : List ℕ) → HasRead old new slot bytes → now ≡ bytes → HasRead old new slot now
read_prefix old new slot bytes now h e = let P : List ℕ → Type 0 = λ xs. HasRead old new slot xs in subst P (sym e) h

-- a further piece
pub read_on : (old mid new : DepotState) (slot : Slot) (bytes before after : List ℕ) (result : Result ℕ IoFail) (n : ℕ) → HasRead old mid slot bytes → ReadsSlot mid new slot before after result → result ≡ Ok n → HasRead old new slot (bytes ++ take n after)
read_on old mid new slot bytes before after result n h r e = record {
  prefix = λ t. h.prefix t ∙ ap (λ xs. bytes ++ xs) (IfOk-at_ok (λ k. mid.left slot ≡ take k after ++ new.left slot) e (r.next_bytes (h.reads.tells ∙ t))) ∙ sym (append_assoc bytes (take n after) (new.left slot));
  count = r.counts.this.same_at_ok (ap is_ok e) ∙ h.count;
  starts = λ s. r.starts s ∙ h.starts s;
  refusals = no_more_at_ok result n e r.counts.refusals.rises_only_there ∙ h.refusals;
  reads = OnlyReads-then h.reads refl r;
}

-- as many bytes were read as came in prefix
taken : (before bytes after : List ℕ) → before ≡ bytes ++ after → TakesBytes (length bytes) before after
taken before bytes after e = (
  omega (arith, ap length e, length-append bytes after),
  sym (drop_at bytes after (length bytes) refl) ∙ sym (ap (λ xs. drop (length bytes) xs) e),
)

-- a read that was refused took nothing
untaken : {mid new : DepotState} {slot : Slot} {before after : List ℕ} {result : Result ℕ IoFail} {fail : IoFail} → ReadsSlot mid new slot before after result → result ≡ Err fail → IsTrue mid.tells → new.left slot ≡ mid.left slot
untaken {mid} {new} {slot} r e t =
    let P : Result ℕ IoFail → Type 0 = λ r. OnErr r (SameButCounts mid new) in
    ((subst P e r.unchanged).slots slot).1 t

-- the end of the slot
pub whole : (old mid new : DepotState) (slot : Slot) (limit : ℕ) (bytes before after items : List ℕ) (result : Result ℕ IoFail) → HasRead old mid slot bytes → ReadsSlot mid new slot before after result → result ≡ Ok 0 → 0 < length before → length bytes ≤ limit → items ≡ bytes → All (λ b. b < 256) bytes → Loads old new slot limit (Ok items)
whole old mid new slot limit bytes before after items result h r e room few same small = record {
  within = omega (arith, ap length same);
  are_bytes = let P : List ℕ → Type 0 = λ xs. All (λ b. b < 256) xs in subst P (sym same) small;
  all_bytes = λ t. same ∙ sym (h.prefix t ∙ ap (λ xs. bytes ++ xs) (none t) ∙ append-nil bytes);
  none_left = λ t. sym (IfOk-at_ok (λ k. mid.left slot ≡ take k after ++ new.left slot) e (r.next_bytes (h.reads.tells ∙ t))) ∙ none t;
  too_large = λ t was. absurd (not_err TooLarge was);
  other_refusals = λ t. tt;
  read_only_where_it_rose = λ was. absurd (not_err Read was);
  count_rises_only_there = inr (r.counts.this.same_at_ok (ap is_ok e) ∙ h.count);
  reads = OnlyReads-then h.reads refl r;
  starts = λ s. r.starts s ∙ h.starts s;
  refusals_rise_only_there = inr (no_more_at_ok result 0 e r.counts.refusals.rises_only_there ∙ h.refusals);
}
  where
    none : IsTrue old.tells → mid.left slot ≡ []
    none t = (IfOk-at_ok (λ k. (k ≡ 0) ↔ (mid.left slot ≡ [])) e (r.at_end (h.reads.tells ∙ t) room)).0 refl

    not_err : (f : LoadError) → IsErrOf {T = List ℕ} (Ok items) f → ⊥
    not_err f was = cc

-- a read that was refused
pub refused : (old mid new : DepotState) (slot : Slot) (limit : ℕ) (bytes before after : List ℕ) (result : Result ℕ IoFail) (fail : IoFail) → HasRead old mid slot bytes → ReadsSlot mid new slot before after result → result ≡ Err fail → length bytes ≤ limit → let answer : Result (List ℕ) LoadError = Err (load_error fail) in Loads old new slot limit answer
refused old mid new slot limit bytes before after result fail h r e few = record {
  within = tt;
  are_bytes = tt;
  all_bytes = λ t. tt;
  none_left = λ t. tt;
  too_large = λ t was. absurd (not_large fail was);
  other_refusals = λ t other. (length bytes, few, taken (old.left slot) bytes (new.left slot) (h.prefix t ∙ ap (λ xs. bytes ++ xs) (sym (untaken r e (h.reads.tells ∙ t)))));
  read_only_where_it_rose = rose fail e;
  count_rises_only_there = count fail e;
  reads = OnlyReads-then h.reads refl r;
  starts = λ s. r.starts s ∙ h.starts s;
  refusals_rise_only_there = refusals fail e r.counts.refusals.rises_only_there;
}
  where
    not_large : (f : IoFail) → IsErrOf {T = List ℕ} (Err (load_error f)) TooLarge → ⊥
    not_large call.Failed was = cc
    not_large call.NoMemory was = cc

    not_read : IsErrOf {T = List ℕ} (Err NoMemory) Read → ⊥
    not_read is = cc

    rose : (f : IoFail) → result ≡ Err f → IsErrOf {T = List ℕ} (Err (load_error f)) Read → Rose (old.faults slot) (new.faults slot)
    rose call.Failed was is =
        let P : ℕ → Type 0 = λ n. Rose n (new.faults slot) in
        subst P h.count (r.counts.this.failed_only_where_it_rose was)
    rose call.NoMemory was is = absurd (not_read is)

    count : (f : IoFail) → result ≡ Err f → IsErrOf {T = List ℕ} (Err (load_error f)) Read ⊎ (new.faults slot ≡ old.faults slot)
    count call.Failed was = inl refl
    count call.NoMemory was = inr (r.counts.this.same_at_no_memory was ∙ h.count)

    failed_is_not : IsErrOf {T = ℕ} (Err call.Failed) call.NoMemory → ⊥
    failed_is_not is = cc

    refusals : (f : IoFail) → result ≡ Err f → IsErrOf result call.NoMemory ⊎ (new.refusals ≡ mid.refusals) → IsErrOf {T = List ℕ} (Err (load_error f)) NoMemory ⊎ (new.refusals ≡ old.refusals)
    refusals call.Failed was (inl is) = absurd (failed_is_not (subst (λ r. IsErrOf r call.NoMemory) was is))
    refusals call.Failed was (inr same) = inr (same ∙ h.refusals)
    refusals call.NoMemory was answer = inl refl

-- ---- a piece that is filled
-- nothing was read
pub read_nothing : (a : DepotState) (slot : Slot) → HasRead a a slot []
read_nothing a slot = record { prefix = λ t. refl; count = refl; starts = λ s. refl; refusals = refl; reads = OnlyReads-same a }

-- the piece is full
pub filled : (old new : DepotState) (slot : Slot) (piece : List ℕ) (held : ℕ) → HasRead old new slot (take held piece) → held ≡ length piece → FillsPiece old new slot piece (Ok held)
filled old new slot piece held h full = record {
  within = omega arith;
  next_bytes = h.prefix;
  at_end = λ t less. absurd (omega arith);
  at_refusal = λ t. tt;
  failed_only_where_it_rose = λ was. absurd (no-fault was);
  count_rises_only_there = inr h.count;
  reads = h.reads;
  starts = h.starts;
  no_memory_only_where_it_rose = λ was. absurd (no-refusal was);
  refusals_rise_only_there = inr h.refusals;
}
  where
    no-fault : IsErrOf {T = ℕ} (Ok held) call.Failed → ⊥
    no-fault was = cc

    no-refusal : IsErrOf {T = ℕ} (Ok held) call.NoMemory → ⊥
    no-refusal was = cc

-- the slot is at its end
pub filled-to_end : (old mid new : DepotState) (slot : Slot) (piece now before after : List ℕ) (held : ℕ) (result : Result ℕ IoFail) → HasRead old mid slot (take held piece) → ReadsSlot mid new slot before after result → result ≡ Ok 0 → 0 < length before
    → held ≤ length now → take held now ≡ take held piece → FillsPiece old new slot now (Ok held)
filled-to_end old mid new slot piece now before after held result h r e room within same = record {
  within = within;
  next_bytes = λ t. h.prefix t ∙ ap (λ xs. take held piece ++ xs) (stays t) ∙ ap (λ xs. xs ++ new.left slot) (sym same);
  at_end = λ t less. sym (stays t) ∙ none t;
  at_refusal = λ t. tt;
  failed_only_where_it_rose = λ was. absurd (no-fault was);
  count_rises_only_there = inr (r.counts.this.same_at_ok (ap is_ok e) ∙ h.count);
  reads = OnlyReads-then h.reads refl r;
  starts = λ s. r.starts s ∙ h.starts s;
  no_memory_only_where_it_rose = λ was. absurd (no-refusal was);
  refusals_rise_only_there = inr (no_more_at_ok result 0 e r.counts.refusals.rises_only_there ∙ h.refusals);
}
  where
    none : IsTrue old.tells → mid.left slot ≡ []
    none t = (IfOk-at_ok (λ k. (k ≡ 0) ↔ (mid.left slot ≡ [])) e (r.at_end (h.reads.tells ∙ t) room)).0 refl

    stays : IsTrue old.tells → mid.left slot ≡ new.left slot
    stays t = IfOk-at_ok (λ k. mid.left slot ≡ take k after ++ new.left slot) e (r.next_bytes (h.reads.tells ∙ t))

    no-fault : IsErrOf {T = ℕ} (Ok held) call.Failed → ⊥
    no-fault was = cc

    no-refusal : IsErrOf {T = ℕ} (Ok held) call.NoMemory → ⊥
    no-refusal was = cc

-- a read was refused
pub unfilled : (old mid new : DepotState) (slot : Slot) (piece now before after : List ℕ) (held : ℕ) (result : Result ℕ IoFail) (fail : IoFail) → HasRead old mid slot (take held piece) → ReadsSlot mid new slot before after result → result ≡ Err fail
    → held ≤ length now → FillsPiece old new slot now (Err fail)
unfilled old mid new slot piece now before after held result fail h r e within = record {
  within = tt;
  next_bytes = λ t. tt;
  at_end = λ t. tt;
  at_refusal = λ t. (
    length (take held piece),
    omega (arith, length-take held piece),
    taken (old.left slot) (take held piece) (new.left slot) (h.prefix t ∙ ap (λ xs. take held piece ++ xs) (sym (untaken r e (h.reads.tells ∙ t)))),
  );
  failed_only_where_it_rose = rose fail e;
  count_rises_only_there = count fail e;
  reads = OnlyReads-then h.reads refl r;
  starts = λ s. r.starts s ∙ h.starts s;
  no_memory_only_where_it_rose = memory fail e;
  refusals_rise_only_there = refusals fail e r.counts.refusals.rises_only_there;
}
  where
    not_failed : IsErrOf {T = ℕ} (Err call.NoMemory) call.Failed → ⊥
    not_failed is = cc

    rose : (f : IoFail) → result ≡ Err f → IsErrOf {T = ℕ} (Err f) call.Failed → Rose (old.faults slot) (new.faults slot)
    rose call.Failed was is =
        let P : ℕ → Type 0 = λ n. Rose n (new.faults slot) in
        subst P h.count (r.counts.this.failed_only_where_it_rose was)
    rose call.NoMemory was is = absurd (not_failed is)

    count : (f : IoFail) → result ≡ Err f → IsErrOf {T = ℕ} (Err f) call.Failed ⊎ (new.faults slot ≡ old.faults slot)
    count call.Failed was = inl refl
    count call.NoMemory was = inr (r.counts.this.same_at_no_memory was ∙ h.count)

    failed_is_not : IsErrOf {T = ℕ} (Err call.Failed) call.NoMemory → ⊥
    failed_is_not is = cc

    memory : (f : IoFail) → result ≡ Err f → IsErrOf {T = ℕ} (Err f) call.NoMemory → Rose old.refusals new.refusals
    memory call.Failed was is = absurd (failed_is_not is)
    memory call.NoMemory was is =
        let P : ℕ → Type 0 = λ n. Rose n new.refusals in
        subst P h.refusals (r.counts.refusals.no_memory_only_where_it_rose was)

    refusals : (f : IoFail) → result ≡ Err f → IsErrOf result call.NoMemory ⊎ (new.refusals ≡ mid.refusals) → IsErrOf {T = ℕ} (Err f) call.NoMemory ⊎ (new.refusals ≡ old.refusals)
    refusals call.Failed was (inl is) = absurd (failed_is_not (subst (λ r. IsErrOf r call.NoMemory) was is))
    refusals call.Failed was (inr same) = inr (same ∙ h.refusals)
    refusals call.NoMemory was answer = inl refl
