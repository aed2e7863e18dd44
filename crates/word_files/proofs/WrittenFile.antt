-- How bytes, and words piece by piece, are written to a file that is created and finished.
use Rattle.std.proofs.Common.{◌≡◌, refl, sym, ap, ◌∙◌, subst, ℕ, ◌+◌, ◌<◌, List, [], ◌++◌, length, take, inl, inr, ◌⊎◌, IsTrue, Option, Some, Result, Ok, Err, arith, append_assoc, append-nil}
use Rattle.std.specs.Prelude.{unwrap_or, IsErrOf}
use Rattle.std.proofs.Math.Seq.{take-append-add}
use Rattle.std.proofs.lemmas.List.{length-append, take-append-le, take_all}
use Rattle.std.proofs.lemmas.List.Concat.{flat_map-append}
use Rattle.collection_model.specs.Bytes.{le64, word_bytes}
use Rattle.io_traits.specs.declared.fail.IoFail.{IoFail}
use Rattle.io_traits.specs.declared.fail.IoFail.TheVariants as call
use Rattle.io_traits.specs.Calls.{Rose}
use Rattle.io_traits.specs.DepotState.{DepotState, Creates, Finishes, CountsWriting}
use Rattle.io_traits.specs.Helpers.{HasFile, WritesAllToFile}
use Rattle.command_model.specs.Written.{IsUnwritten, IsWrittenInPart, IsBeingWritten, IsLeftByFault, OnlyWrites}
use Rattle.word_files.specs.WriteFile.{WritesBytes}

-- ---- pieces

-- memory that was not refused
done-well : (let r : Result (Unit {0}) IoFail = Ok tt in IsErrOf r call.NoMemory) → ⊥
done-well h = cc

pub no-refusal : (a b : DepotState) → CountsWriting {A = Unit {0}} a b (Ok tt) → b.refusals ≡ a.refusals
no-refusal a b p = elim p.refusals.rises_only_there [ inl h ↦ absurd (done-well h) | inr same ↦ same ]

-- the count of a call after one that did not fail
pub counts-then : (a b c : DepotState) (r : Result (Unit {0}) IoFail) → CountsWriting {A = Unit {0}} a b (Ok tt) → CountsWriting b c r → CountsWriting a c r
counts-then a b c r p q = record {
  this = record {
    never_falls = omega (arith, p.this.never_falls, q.this.never_falls);
    failed_only_where_it_rose = λ is. let P : ℕ → Type 0 = λ n. Rose n c.writing_faults in subst P (p.this.same_at_ok refl) (q.this.failed_only_where_it_rose is);
    same_at_ok = λ is. q.this.same_at_ok is ∙ p.this.same_at_ok refl;
    same_at_no_memory = λ is. q.this.same_at_no_memory is ∙ p.this.same_at_ok refl;
  };
  others = λ slot. q.others slot ∙ p.others slot;
  starts = λ slot. q.starts slot ∙ p.starts slot;
  refusals = record {
    never_falls = omega (arith, p.refusals.never_falls, q.refusals.never_falls);
    no_memory_only_where_it_rose = λ is. let P : ℕ → Type 0 = λ n. Rose n c.refusals in subst P (no-refusal a b p) (q.refusals.no_memory_only_where_it_rose is);
    rises_only_there = elim q.refusals.rises_only_there [ inl h ↦ inl h | inr same ↦ inr (same ∙ no-refusal a b p) ];
  };
}

-- nothing is written yet
pub none-written : (s : DepotState) → WritesAllToFile s s [] (Ok tt)
none-written s = record {
  tells = refl;
  whole = λ t. sym (append-nil (unwrap_or (s.file s.name) []));
  prefix = λ t. tt;
  stays = λ t f. f;
  other_files = λ t name ne. refl;
  slots = λ slot. (refl, λ t. refl);
  writing = (refl, λ t. refl);
  counts = record {
    this = record {
      never_falls = omega arith;
      failed_only_where_it_rose = λ is. cc;
      same_at_ok = λ is. refl;
      same_at_no_memory = λ is. cc;
    };
    others = λ slot. refl;
    starts = λ slot. refl;
    refusals = record { never_falls = omega arith; no_memory_only_where_it_rose = λ is. absurd (done-well is); rises_only_there = inr refl };
  };
  create_count = refl;
  finish_count = refl;
}

-- a file that stays one over two pieces
file-stays : (a b c : DepotState) (xs ys : List ℕ) (r : Result (Unit {0}) IoFail) → WritesAllToFile a b xs (Ok tt) → WritesAllToFile b c ys r → IsTrue a.tells → HasFile a a.name → HasFile c a.name
file-stays a b c xs ys r p q t f =
    let same = p.writing.1 t in
    let B : List ℕ → Type 0 = λ name. HasFile b name in
    let C : List ℕ → Type 0 = λ name. HasFile c name in
    subst C same (q.stays (p.tells ∙ t) (subst B (sym same) (p.stays t f)))

-- one more piece
pub piece-written : (a b c : DepotState) (xs ys : List ℕ) → WritesAllToFile a b xs (Ok tt) → WritesAllToFile b c ys (Ok tt) → WritesAllToFile a c (xs ++ ys) (Ok tt)
piece-written a b c xs ys p q = record {
  tells = q.tells ∙ p.tells;
  whole = λ t.
      let same = p.writing.1 t in
      ap (λ name. unwrap_or (c.file name) []) (sym same)
      ∙ q.whole (p.tells ∙ t)
      ∙ ap (λ name. unwrap_or (b.file name) [] ++ ys) same
      ∙ ap (λ zs. zs ++ ys) (p.whole t)
      ∙ append_assoc (unwrap_or (a.file a.name) []) xs ys;
  prefix = λ t. tt;
  stays = λ t f. file-stays a b c xs ys (Ok tt) p q t f;
  other_files = λ t name ne. q.other_files (p.tells ∙ t) name (λ e. ne (e ∙ p.writing.1 t)) ∙ p.other_files t name ne;
  slots = λ slot. ((q.slots slot).0 ∙ (p.slots slot).0, λ t. (q.slots slot).1 (p.tells ∙ t) ∙ (p.slots slot).1 t);
  writing = (q.writing.0 ∙ p.writing.0, λ t. q.writing.1 (p.tells ∙ t) ∙ p.writing.1 t);
  counts = counts-then a b c (Ok tt) p.counts q.counts;
  create_count = q.create_count ∙ p.create_count;
  finish_count = q.finish_count ∙ p.finish_count;
}

-- a piece that is refused, and what would have come behind it
pub piece-refused : (a b c : DepotState) (xs ys zs whole : List ℕ) (e : IoFail) → WritesAllToFile a b xs (Ok tt) → WritesAllToFile b c ys (Err e) → whole ≡ xs ++ (ys ++ zs) → WritesAllToFile a c whole (Err e)
piece-refused a b c xs ys zs whole e p q is = record {
  tells = q.tells ∙ p.tells;
  whole = λ t. tt;
  prefix = λ t.
      let same = p.writing.1 t in
      let f = q.prefix (p.tells ∙ t) in
      let all : take (length xs + f.0) whole ≡ xs ++ take f.0 ys =
      ap (λ ws. take (length xs + f.0) ws) is ∙ take-append-add xs (ys ++ zs) f.0 ∙ ap (λ ws. xs ++ ws) (take-append-le f.0 ys zs f.1) in (
        length xs + f.0,
        omega (arith, f.1, ap length is, length-append xs (ys ++ zs), length-append ys zs),
        ap (λ name. unwrap_or (c.file name) []) (sym same)
            ∙ f.2
            ∙ ap (λ name. unwrap_or (b.file name) [] ++ take f.0 ys) same
            ∙ ap (λ ws. ws ++ take f.0 ys) (p.whole t)
            ∙ append_assoc (unwrap_or (a.file a.name) []) xs (take f.0 ys)
            ∙ ap (λ ws. unwrap_or (a.file a.name) [] ++ ws) (sym all),
      );
  stays = λ t f. file-stays a b c xs ys (Err e) p q t f;
  other_files = λ t name ne. q.other_files (p.tells ∙ t) name (λ d. ne (d ∙ p.writing.1 t)) ∙ p.other_files t name ne;
  slots = λ slot. ((q.slots slot).0 ∙ (p.slots slot).0, λ t. (q.slots slot).1 (p.tells ∙ t) ∙ (p.slots slot).1 t);
  writing = (q.writing.0 ∙ p.writing.0, λ t. q.writing.1 (p.tells ∙ t) ∙ p.writing.1 t);
  counts = counts-then a b c (Err e) p.counts q.counts;
  create_count = q.create_count ∙ p.create_count;
  finish_count = q.finish_count ∙ p.finish_count;
}

-- Some of the words are written, and these are left.
pub record HasWritten (start now : DepotState) (words left : List ℕ) : Type 0 where
  pub done : List ℕ
  pub parts : done ++ left ≡ words
  pub written : WritesAllToFile start now (word_bytes done) (Ok tt)

pub begun : (start : DepotState) (words left : List ℕ) → left ≡ words → HasWritten start start words left
begun start words left all = record { done = []; parts = all; written = none-written start }

pub more : (start old new : DepotState) (words left part rest bytes : List ℕ) → HasWritten start old words left → left ≡ part ++ rest → bytes ≡ word_bytes part → WritesAllToFile old new bytes (Ok tt)
    → HasWritten start new words rest
more start old new words left part rest bytes h e are w = record {
  done = h.done ++ part;
  parts = append_assoc h.done part rest ∙ ap (λ ws. h.done ++ ws) (sym e) ∙ h.parts;
  written =
      let P : List ℕ → Type 0 = λ bytes. WritesAllToFile start new bytes (Ok tt) in
      subst P (ap (λ bs. word_bytes h.done ++ bs) are ∙ sym (flat_map-append le64 h.done part)) (piece-written start old new (word_bytes h.done) bytes h.written w);
}

pub stopped : (start old new : DepotState) (words left part rest bytes : List ℕ) (e : IoFail) → HasWritten start old words left → left ≡ part ++ rest → bytes ≡ word_bytes part
    → WritesAllToFile old new bytes (Err e) → WritesAllToFile start new (word_bytes words) (Err e)
stopped start old new words left part rest bytes e h is are w =
    piece-refused start old new (word_bytes h.done) bytes (word_bytes rest) (word_bytes words) e h.written w
    (ap word_bytes (sym h.parts ∙ ap (λ ws. h.done ++ ws) is)
    ∙ flat_map-append le64 h.done (part ++ rest)
    ∙ ap (λ bs. word_bytes h.done ++ bs) (flat_map-append le64 part rest)
    ∙ ap (λ bs. word_bytes h.done ++ (bs ++ word_bytes rest)) (sym are))

pub ended : (start now : DepotState) (words left : List ℕ) → HasWritten start now words left → left ≡ [] → WritesAllToFile start now (word_bytes words) (Ok tt)
ended start now words left h none =
    let P : List ℕ → Type 0 = λ ws. WritesAllToFile start now (word_bytes ws) (Ok tt) in
    subst P (sym (append-nil h.done) ∙ ap (λ ws. h.done ++ ws) (sym none) ∙ h.parts) h.written

-- ---- the file

some-of : (f : Option (List ℕ)) (bytes : List ℕ) → (now : List ℕ) × (f ≡ Some now) → unwrap_or f [] ≡ bytes → f ≡ Some bytes
some-of f bytes there e = there.1 ∙ ap Some (sym (ap (λ g. unwrap_or g []) there.1) ∙ e)

created-only : (name : List ℕ) (a b : DepotState) (r : Result (Unit {0}) IoFail) → Creates a b name r → OnlyWrites name a b
created-only name a b r c = record {
  tells = c.tells;
  other_files = c.other_files;
  slots = c.slots;
  slot_counts = c.counts.others;
  never_falls = c.counts.this.never_falls;
  creates_never_fall = c.create_count.never_falls;
  finishes_never_fall = omega (arith, c.finish_count);
  starts = c.counts.starts;
  refusals_never_fall = c.counts.refusals.never_falls;
}

written-only : (name bytes : List ℕ) (a b c : DepotState) (r : Result (Unit {0}) IoFail) → Creates a b name (Ok tt) → WritesAllToFile b c bytes r → OnlyWrites name a c
written-only name bytes a b c r k w = record {
  tells = w.tells ∙ k.tells;
  other_files = λ t n ne. w.other_files (k.tells ∙ t) n (λ e. ne (e ∙ k.named t)) ∙ k.other_files t n ne;
  slots = λ slot. ((w.slots slot).0 ∙ (k.slots slot).0, λ t. (w.slots slot).1 (k.tells ∙ t) ∙ (k.slots slot).1 t);
  slot_counts = λ slot. w.counts.others slot ∙ k.counts.others slot;
  never_falls = omega (arith, k.counts.this.never_falls, w.counts.this.never_falls);
  creates_never_fall = omega (arith, k.create_count.never_falls, w.create_count);
  finishes_never_fall = omega (arith, k.finish_count, w.finish_count);
  starts = λ slot. w.counts.starts slot ∙ k.counts.starts slot;
  refusals_never_fall = omega (arith, k.counts.refusals.never_falls, w.counts.refusals.never_falls);
}

-- the created file is the one that is being written
written-on : (name bytes : List ℕ) (a b c : DepotState) (r : Result (Unit {0}) IoFail) → Creates a b name (Ok tt) → WritesAllToFile b c bytes r → IsBeingWritten name a c
written-on name bytes a b c r k w = record {
  created = w.writing.0 ∙ k.created;
  named = λ t. w.writing.1 (k.tells ∙ t) ∙ k.named t;
}

finished-only : (name : List ℕ) (a b c : DepotState) (r : Result (Unit {0}) IoFail) → OnlyWrites name a b → Finishes b c r → OnlyWrites name a c
finished-only name a b c r o f = record {
  tells = f.tells ∙ o.tells;
  other_files = λ t n ne. f.files (o.tells ∙ t) n ∙ o.other_files t n ne;
  slots = λ slot. ((f.slots slot).0 ∙ (o.slots slot).0, λ t. (f.slots slot).1 (o.tells ∙ t) ∙ (o.slots slot).1 t);
  slot_counts = λ slot. f.counts.others slot ∙ o.slot_counts slot;
  never_falls = omega (arith, o.never_falls, f.counts.this.never_falls);
  creates_never_fall = omega (arith, o.creates_never_fall, f.create_count);
  finishes_never_fall = omega (arith, o.finishes_never_fall, f.finish_count.never_falls);
  starts = λ slot. f.counts.starts slot ∙ o.starts slot;
  refusals_never_fall = omega (arith, o.refusals_never_fall, f.counts.refusals.never_falls);
}

-- the created file is there, and empty
begun-file : (name : List ℕ) (a b : DepotState) → Creates a b name (Ok tt) → IsTrue a.tells → b.file b.name ≡ Some []
begun-file name a b k t = ap b.file (k.named t) ∙ k.empty_file t

-- all bytes are in it
whole-file : (name bytes : List ℕ) (a b c : DepotState) → Creates a b name (Ok tt) → WritesAllToFile b c bytes (Ok tt) → IsTrue a.tells → c.file name ≡ Some bytes
whole-file name bytes a b c k w t =
    let told = k.tells ∙ t in
    let empty = begun-file name a b k t in
    ap c.file (sym (k.named t)) ∙ some-of (c.file b.name) bytes (w.stays told ([], empty)) (w.whole told ∙ ap (λ f. unwrap_or f [] ++ bytes) empty)

-- a prefix of them is
prefix-file : (name bytes : List ℕ) (a b c : DepotState) (e : IoFail) → Creates a b name (Ok tt) → WritesAllToFile b c bytes (Err e) → IsTrue a.tells → (n : ℕ) × (c.file name ≡ Some (take n bytes))
prefix-file name bytes a b c e k w t =
    let told = k.tells ∙ t in
    let empty = begun-file name a b k t in
    let f = w.prefix told in (
      f.0,
      ap c.file (sym (k.named t)) ∙ some-of (c.file b.name) (take f.0 bytes) (w.stays told ([], empty)) (f.2 ∙ ap (λ g. unwrap_or g [] ++ take f.0 bytes) empty),
    )

-- ---- the answer

failed-not_wanted : (let r : Result (Unit {0}) IoFail = Err call.Failed in IsErrOf r call.NoMemory) → ⊥
failed-not_wanted h = cc

-- a refusal is one of the writing
refusal : (bytes name : List ℕ) (a b : DepotState) (fail : IoFail) → CountsWriting {A = Unit {0}} a b (Err fail) → IsWrittenInPart name a b bytes → IsUnwritten a b ⊎ IsBeingWritten name a b → OnlyWrites name a b
    → (fail ≡ call.Failed → IsLeftByFault name a b bytes) → (fail ≡ call.NoMemory → (b.create_faults ≡ a.create_faults) × (b.finish_faults ≡ a.finish_faults))
    → WritesBytes bytes name a b (Err fail)
refusal bytes name a b call.Failed k part begun only left same = record {
  written = tt;
  refused = part;
  begun = begun;
  write_only_where_it_rose = λ is. k.this.failed_only_where_it_rose refl;
  count_rises_only_there = inl refl;
  writes = only;
  failed = λ is. left refl;
  create_count = inl refl;
  finish_count = inl refl;
  no_memory = λ is. cc;
  refusals_rise_only_there = elim k.refusals.rises_only_there [ inl h ↦ absurd (failed-not_wanted h) | inr e ↦ inr e ];
}
refusal bytes name a b call.NoMemory k part begun only left same = record {
  written = tt;
  refused = part;
  begun = begun;
  write_only_where_it_rose = λ is. cc;
  count_rises_only_there = inr (k.this.same_at_no_memory refl);
  writes = only;
  failed = λ is. cc;
  create_count = inr (same refl).0;
  finish_count = inr (same refl).1;
  no_memory = λ is. inr (k.refusals.no_memory_only_where_it_rose refl);
  refusals_rise_only_there = inl refl;
}

-- what a refusal is of that has begun the file, where it left all of the bytes if it was the finish
begun-by-fault : (name bytes : List ℕ) (a b : DepotState) → IsBeingWritten name a b → b.create_faults ≡ a.create_faults
    → (a.finish_faults < b.finish_faults → IsTrue a.tells → b.file name ≡ Some bytes) → IsLeftByFault name a b bytes
begun-by-fault name bytes a b begun same whole = record {
  create = λ rose. absurd (omega (arith, rose, same));
  begun = λ other. begun;
  finish = whole;
}

-- no room for a piece
pub room-refused : (bytes name : List ℕ) (a : DepotState) → WritesBytes bytes name a a (Err call.NoMemory)
room-refused bytes name a = record {
  written = tt;
  refused = inl (record { files = λ t n. refl; writing = (refl, λ t. refl) });
  begun = inl (record { files = λ t n. refl; writing = (refl, λ t. refl) });
  write_only_where_it_rose = λ is. cc;
  count_rises_only_there = inr refl;
  writes = record {
    tells = refl;
    other_files = λ t n ne. refl;
    slots = λ slot. (refl, λ t. refl);
    slot_counts = λ slot. refl;
    never_falls = omega arith;
    creates_never_fall = omega arith;
    finishes_never_fall = omega arith;
    starts = λ slot. refl;
    refusals_never_fall = omega arith;
  };
  failed = λ is. cc;
  create_count = inr refl;
  finish_count = inr refl;
  no_memory = λ is. inl (record { files = λ t n. refl; writing = (refl, λ t. refl) });
  refusals_rise_only_there = inl refl;
}

pub create-refused : (bytes name : List ℕ) (a b : DepotState) (fail : IoFail) → Creates a b name (Err fail) → WritesBytes bytes name a b (Err fail)
create-refused bytes name a b fail k =
    let same : IsUnwritten a b = record { files = k.unchanged.files; writing = k.unchanged.writing } in
    refusal bytes name a b fail k.counts (inl same) (inl same) (created-only name a b (Err fail) k)
    (λ is. record {
      create = λ rose. same;
      begun = λ other. absurd (other (k.create_count.failed_only_where_it_rose (ap Err is)));
      finish = λ rose. absurd (omega (arith, rose, k.finish_count));
    })
    (λ is. (k.create_count.same_at_no_memory (ap Err is), k.finish_count))

pub write-refused : (bytes name : List ℕ) (a b c : DepotState) (fail : IoFail) → Creates a b name (Ok tt) → WritesAllToFile b c bytes (Err fail) → WritesBytes bytes name a c (Err fail)
write-refused bytes name a b c fail k w =
    let only = written-only name bytes a b c (Err fail) k w in
    let begun = written-on name bytes a b c (Err fail) k w in
    let creates : c.create_faults ≡ a.create_faults = w.create_count ∙ k.create_count.same_at_ok refl in
    let finishes : c.finish_faults ≡ a.finish_faults = w.finish_count ∙ k.finish_count in
    refusal bytes name a c fail (counts-then a b c (Err fail) k.counts w.counts)
    (inr (λ t. let f = prefix-file name bytes a b c fail k w t in (f.0, f.1, only.other_files t)))
    (inr begun) only
    (λ is. begun-by-fault name bytes a c begun creates (λ rose. absurd (omega (arith, rose, finishes))))
    (λ is. (creates, finishes))

finish-refused : (bytes name : List ℕ) (a b c d : DepotState) (fail : IoFail) → Creates a b name (Ok tt) → WritesAllToFile b c bytes (Ok tt) → Finishes c d (Err fail)
    → WritesBytes bytes name a d (Err fail)
finish-refused bytes name a b c d fail k w f =
    let before = written-only name bytes a b c (Ok tt) k w in
    let only = finished-only name a c d (Err fail) before f in
    let created = written-on name bytes a b c (Ok tt) k w in
    let begun : IsBeingWritten name a d = record { created = f.unchanged.writing.0 ∙ created.created; named = λ t. f.unchanged.writing.1 (before.tells ∙ t) ∙ created.named t } in
    let whole : IsTrue a.tells → d.file name ≡ Some bytes = λ t. f.files (before.tells ∙ t) name ∙ whole-file name bytes a b c k w t in
    let creates : d.create_faults ≡ a.create_faults = f.create_count ∙ w.create_count ∙ k.create_count.same_at_ok refl in
    refusal bytes name a d fail (counts-then a c d (Err fail) (counts-then a b c (Ok tt) k.counts w.counts) f.counts)
    (inr (λ t. (length bytes, whole t ∙ ap Some (sym (take_all (length bytes) bytes (omega arith))), only.other_files t)))
    (inr begun) only
    (λ is. begun-by-fault name bytes a d begun creates (λ rose. whole))
    (λ is. (creates, f.finish_count.same_at_no_memory (ap Err is) ∙ w.finish_count ∙ k.finish_count))

all-written : (bytes name : List ℕ) (a b c d : DepotState) → Creates a b name (Ok tt) → WritesAllToFile b c bytes (Ok tt) → Finishes c d (Ok tt) → WritesBytes bytes name a d (Ok tt)
all-written bytes name a b c d k w f =
    let before = written-only name bytes a b c (Ok tt) k w in
    let only = finished-only name a c d (Ok tt) before f in
    record {
      written = record {
        file = λ t. f.files (before.tells ∙ t) name ∙ whole-file name bytes a b c k w t;
        others = only.other_files;
        none_created = f.ended;
      };
      refused = tt;
      begun = tt;
      write_only_where_it_rose = λ is. cc;
      count_rises_only_there = inr (f.counts.this.same_at_ok refl ∙ w.counts.this.same_at_ok refl ∙ k.counts.this.same_at_ok refl);
      writes = only;
      failed = λ is. cc;
      create_count = inr (f.create_count ∙ w.create_count ∙ k.create_count.same_at_ok refl);
      finish_count = inr (f.finish_count.same_at_ok refl ∙ w.finish_count ∙ k.finish_count);
      no_memory = λ is. cc;
      refusals_rise_only_there = inr (no-refusal c d f.counts ∙ no-refusal b c w.counts ∙ no-refusal a b k.counts);
    }

-- the file is finished, or that is refused
pub finished : (bytes name : List ℕ) (a b c d : DepotState) (r : Result (Unit {0}) IoFail) → Creates a b name (Ok tt) → WritesAllToFile b c bytes (Ok tt) → Finishes c d r → WritesBytes bytes name a d r
finished bytes name a b c d (Ok u) k w f = all-written bytes name a b c d k w f
finished bytes name a b c d (Err fail) k w f = finish-refused bytes name a b c d fail k w f

-- the counts of all that was called
pub all-counted : (bytes name : List ℕ) (a b c d : DepotState) (r : Result (Unit {0}) IoFail) → Creates a b name (Ok tt) → WritesAllToFile b c bytes (Ok tt) → Finishes c d r → CountsWriting a d r
all-counted bytes name a b c d r k w f = counts-then a c d r (counts-then a b c (Ok tt) k.counts w.counts) f.counts
