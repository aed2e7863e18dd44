-- Files that are written one after the other: what is kept from file to file, and how the writing ends.
use Rattle.std.proofs.Common.{◌≡◌, ◌≢◌, refl, sym, ap, ◌∙◌, subst, inl, inr, ℕ, zero, suc, ◌+◌, ◌<◌, ◌≤◌, List, [], length, get_or, Some, IsTrue, Result, Ok, Err, arith}
use Rattle.std.specs.Prelude.{false, codes}
use Rattle.std.specs.List.{All}
use Rattle.std.proofs.lemmas.Bool.{cases_lt}
use Rattle.std.proofs.lemmas.List.{append_cancel_left}
use Rattle.std.proofs.lemmas.List.Elements.{All-get_or, All-from_get_or}
use Rattle.io_traits.specs.declared.fail.IoFail.{IoFail}
use Rattle.io_traits.specs.declared.fail.IoFail.TheVariants.{Failed, NoMemory}
use Rattle.io_traits.specs.declared.fail.Slot.{Slot}
use Rattle.io_traits.specs.Calls.{Rose}
use Rattle.io_traits.specs.DepotState.{DepotState, SameWriting}
use Rattle.collection_reader.specs.ReadCollection.{IsCollectionSlot}
use Rattle.collection_reader.specs.Starting.{turn}
use Rattle.command_model.specs.Written.{IsUnwritten, IsBeingWritten}
use Rattle.collection_model.specs.Spelling.{Files}
use Rattle.command_model.specs.FoundMap.{files_under}
use Rattle.command_model.specs.FilesWritten.{NamedFile, nth_file, AreApart, SameOthers, AreWritten, IsNotBegun, StopsAtFile, FileLeftByFault, OnlyCreates}
use Rattle.remapped_files.specs.declared.writing.FileFail.{FileFail}
use Rattle.word_files.specs.WriteFile.{WritesBytes}
use Rattle.remapped_files.specs.WriteImage.{file_fail, WritesNamed, WritesFiles}

abbrev nothing : NamedFile
nothing = record { name = []; bytes = [] }

-- The files before one are written, and those from it on are as they were.
pub record AreWrittenBefore (files : List NamedFile) (at : ℕ) (old new : DepotState) : Type 0 where
  pub before : IsTrue old.tells → (j : ℕ) → j < at → new.file (nth_file files j).name ≡ Some (nth_file files j).bytes
  pub behind : IsTrue old.tells → (j : ℕ) → at ≤ j → j < length files → new.file (nth_file files j).name ≡ old.file (nth_file files j).name
  pub others : IsTrue old.tells → SameOthers files old new
  pub first : at ≡ 0 → SameWriting old new
  pub later : 0 < at → new.created ≡ false
  pub writing : new.writing_faults ≡ old.writing_faults
  pub creating : new.create_faults ≡ old.create_faults
  pub finishing : new.finish_faults ≡ old.finish_faults
  pub refusals : new.refusals ≡ old.refusals
  pub creates : OnlyCreates old new

pub none-written : (files : List NamedFile) (a : DepotState) → AreWrittenBefore files 0 a a
none-written files a = record {
  before = λ t j lt. absurd (omega arith);
  behind = λ t j le within. refl;
  others = λ t name others. refl;
  first = λ is. (refl, λ t. refl);
  later = λ some. absurd (omega arith);
  writing = refl;
  creating = refl;
  finishing = refl;
  refusals = refl;
  creates = record { tells = refl; slots = λ slot. (refl, λ t. refl); slot_counts = λ slot. refl; never_falls = omega arith; starts = λ slot. refl };
}

-- no other file of them has the name of this one
apart-from : (files : List NamedFile) (at j : ℕ) → AreApart files → at < length files → j < length files → j ≢ at → (nth_file files j).name ≢ (nth_file files at).name
apart-from files at j apart at_in j_in ne same = elim (cases_lt j at) as (λ _. ⊥) [
  | inl lt ↦ apart j at lt at_in same
  | inr ge ↦ elim (cases_lt at j) as (λ _. ⊥) [
    | inl lt ↦ apart at j lt j_in (sym same)
    | inr le ↦ ne (omega arith)
  ]
]

-- nor has any name that is none of theirs
other-name : (files : List NamedFile) (at : ℕ) (name : List ℕ) → at < length files → All (λ (f : NamedFile). name ≢ f.name) files → name ≢ (nth_file files at).name
other-name files at name within others = All-get_or (λ (f : NamedFile). name ≢ f.name) files at nothing within others

module _ (files : List NamedFile) (at : ℕ) (a b c : DepotState) (apart : AreApart files) (within : at < length files) (so_far : AreWrittenBefore files at a b) where
  abbrev it : NamedFile
  it = nth_file files at

  told-on : IsTrue a.tells → IsTrue b.tells
  told-on t = so_far.creates.tells ∙ t

  creates-on : {r : Result (Unit {0}) IoFail} → WritesBytes it.bytes it.name b c r → OnlyCreates a c
  creates-on v = record {
    tells = v.writes.tells ∙ so_far.creates.tells;
    slots = λ slot. ((v.writes.slots slot).0 ∙ (so_far.creates.slots slot).0, λ t. (v.writes.slots slot).1 (told-on t) ∙ (so_far.creates.slots slot).1 t);
    slot_counts = λ slot. v.writes.slot_counts slot ∙ so_far.creates.slot_counts slot;
    never_falls = omega (arith, v.writes.never_falls, so_far.writing);
    starts = λ slot. v.writes.starts slot ∙ so_far.creates.starts slot;
  }

  -- the other files stay
  others-stay : {r : Result (Unit {0}) IoFail} → WritesBytes it.bytes it.name b c r → IsTrue a.tells → (j : ℕ) → j < length files → j ≢ at → c.file (nth_file files j).name ≡ b.file (nth_file files j).name
  others-stay v t j j_in ne = v.writes.other_files (told-on t) (nth_file files j).name (apart-from files at j apart within j_in ne)

  before-stay : {r : Result (Unit {0}) IoFail} → WritesBytes it.bytes it.name b c r → IsTrue a.tells → (j : ℕ) → j < at → c.file (nth_file files j).name ≡ Some (nth_file files j).bytes
  before-stay v t j lt = others-stay v t j (omega arith) (λ e. omega (arith, e)) ∙ so_far.before t j lt

  behind-stay : {r : Result (Unit {0}) IoFail} → WritesBytes it.bytes it.name b c r → IsTrue a.tells → (j : ℕ) → at < j → j < length files → c.file (nth_file files j).name ≡ a.file (nth_file files j).name
  behind-stay v t j lt j_in = others-stay v t j j_in (λ e. omega (arith, e)) ∙ so_far.behind t j (omega arith) j_in

  rest-stays : {r : Result (Unit {0}) IoFail} → WritesBytes it.bytes it.name b c r → IsTrue a.tells → SameOthers files a c
  rest-stays v t name others = v.writes.other_files (told-on t) name (other-name files at name within others) ∙ so_far.others t name others

  here : IsTrue a.tells → b.file it.name ≡ a.file it.name
  here t = so_far.behind t at (omega arith) within

  -- one more is written
  pub one-written : WritesBytes it.bytes it.name b c (Ok tt) → AreWrittenBefore files (at + 1) a c
  one-written v = record {
    before = λ t j lt. elim (cases_lt j at) as (λ _. c.file (nth_file files j).name ≡ Some (nth_file files j).bytes) [
      | inl less ↦ before-stay v t j less
      | inr ge ↦ (let e : at ≡ j = omega arith in subst (λ (k : ℕ). c.file (nth_file files k).name ≡ Some (nth_file files k).bytes) e (v.written.file (told-on t)))
    ];
    behind = λ t j le j_in. behind-stay v t j (omega arith) j_in;
    others = rest-stays v;
    first = λ is. absurd (omega arith);
    later = λ some. v.written.none_created;
    writing = elim v.count_rises_only_there [ inl h ↦ absurd cc | inr same ↦ same ∙ so_far.writing ];
    creating = elim v.create_count [ inl h ↦ absurd cc | inr same ↦ same ∙ so_far.creating ];
    finishing = elim v.finish_count [ inl h ↦ absurd cc | inr same ↦ same ∙ so_far.finishing ];
    refusals = elim v.refusals_rise_only_there [ inl h ↦ absurd cc | inr same ↦ same ∙ so_far.refusals ];
    creates = creates-on v;
  }

  -- what is as it was behind the files before is not begun
  not-begun : IsUnwritten b c → IsNotBegun files at a c
  not-begun u = record {
    same = λ t. u.files (told-on t) it.name ∙ here t;
    first = λ is. (u.writing.0 ∙ (so_far.first is).0, λ t. u.writing.1 (told-on t) ∙ (so_far.first is).1 t);
    later = λ some. u.writing.0 ∙ so_far.later some;
  }

  is-begun : IsBeingWritten it.name b c → IsBeingWritten it.name a c
  is-begun w = record { created = w.created; named = λ t. w.named (told-on t) }

  -- writing stops
  pub stops-there : (e : IoFail) → WritesBytes it.bytes it.name b c (Err e) → StopsAtFile files at a c
  stops-there e v = record {
    up_to = record {
      within = within;
      before = before-stay v;
      this = λ t. elim v.refused [
        | inl u ↦ inl (u.files (told-on t) it.name ∙ here t)
        | inr prefix ↦ (let f = prefix (told-on t) in inr (f.0, f.1))
      ];
      behind = behind-stay v;
      others = rest-stays v;
    };
    begun = elim v.begun [ inl u ↦ inl (not-begun u) | inr w ↦ inr (is-begun w) ];
  }

  pub left-by-fault : WritesBytes it.bytes it.name b c (Err Failed) → FileLeftByFault files at a c
  left-by-fault v =
      let left = v.failed refl in
      record {
        create = λ rose. not-begun (left.create (subst (λ (n : ℕ). n < c.create_faults) (sym so_far.creating) rose));
        begun = λ other. is-begun (left.begun (λ rose. other (subst (λ (n : ℕ). Rose n c.create_faults) so_far.creating rose)));
        finish = λ rose t. left.finish (subst (λ (n : ℕ). n < c.finish_faults) (sym so_far.finishing) rose) (told-on t);
      }

-- all are written
pub all-written : (files : List NamedFile) (a b : DepotState) → 0 < length files → AreWrittenBefore files (length files) a b → AreWritten files a b
all-written files a b some so_far = record {
  each = λ t. All-from_get_or (λ (f : NamedFile). b.file f.name ≡ Some f.bytes) files nothing (λ j lt. so_far.before t j lt);
  others = so_far.others;
  none_created = so_far.later some;
}

-- ---- the files of a collection

-- no two of the files of a collection have one name
pub apart-under : (to : List ℕ) (files : Files) → AreApart (files_under to files)
apart-under to files zero (suc zero) lt within same = let e = ap (λ (l : List ℕ). get_or l 1 0) (append_cancel_left to (codes ".docs") (codes ".freqs") same) in omega (arith, e)
apart-under to files zero (suc (suc zero)) lt within same = let e = ap (λ (l : List ℕ). get_or l 1 0) (append_cancel_left to (codes ".docs") (codes ".sizes") same) in omega (arith, e)
apart-under to files (suc zero) (suc (suc zero)) lt within same = let e = ap (λ (l : List ℕ). get_or l 1 0) (append_cancel_left to (codes ".freqs") (codes ".sizes") same) in omega (arith, e)
apart-under to files i j lt within same = absurd (omega arith)

-- ---- the answer

fail-of : (e f : FileFail) → (let r : Result (Unit {0}) FileFail = Err e in r ≡ Err f) → e ≡ f
fail-of e f h = cc

-- a file was refused at its slot
refused-at : (files : List NamedFile) (slot : Slot) (a b c : DepotState) (fail : IoFail) → AreApart files → IsCollectionSlot slot → turn slot < length files → AreWrittenBefore files (turn slot) a b
    → WritesBytes (nth_file files (turn slot)).bytes (nth_file files (turn slot)).name b c (Err fail) → (fail ≡ NoMemory → Rose b.refusals c.refusals) → WritesFiles files a c (Err (file_fail slot fail))
refused-at files slot a b c Failed apart is within so_far v wants = record {
  written = tt;
  stopped = (is, stops-there files (turn slot) a b c apart within so_far Failed v);
  failed = λ s h.
      let e : slot ≡ s = ap (λ (f : FileFail). f.slot) (fail-of (file_fail slot Failed) (file_fail s Failed) h) in
      subst (λ (s : Slot). FileLeftByFault files (turn s) a c) e (left-by-fault files (turn slot) a b c apart within so_far v);
  write_only_where_it_rose = λ s h. subst (λ (n : ℕ). Rose n c.writing_faults) so_far.writing (v.write_only_where_it_rose refl);
  count_rises_only_there = inl (slot, refl);
  create_count = inl (slot, refl);
  finish_count = inl (slot, refl);
  no_memory = λ s h. (let e : Failed ≡ NoMemory = ap (λ (f : FileFail). f.fail) (fail-of (file_fail slot Failed) (file_fail s NoMemory) h) in cc);
  refusals_rise_only_there = elim v.refusals_rise_only_there [ inl h ↦ absurd cc | inr same ↦ inr (same ∙ so_far.refusals) ];
  creates = creates-on files (turn slot) a b c apart within so_far v;
}
refused-at files slot a b c NoMemory apart is within so_far v wants = record {
  written = tt;
  stopped = (is, stops-there files (turn slot) a b c apart within so_far NoMemory v);
  failed = λ s h. (let e : NoMemory ≡ Failed = ap (λ (f : FileFail). f.fail) (fail-of (file_fail slot NoMemory) (file_fail s Failed) h) in cc);
  write_only_where_it_rose = λ s h. (let e : NoMemory ≡ Failed = ap (λ (f : FileFail). f.fail) (fail-of (file_fail slot NoMemory) (file_fail s Failed) h) in cc);
  count_rises_only_there = elim v.count_rises_only_there [ inl h ↦ absurd cc | inr same ↦ inr (same ∙ so_far.writing) ];
  create_count = elim v.create_count [ inl h ↦ absurd cc | inr same ↦ inr (same ∙ so_far.creating) ];
  finish_count = elim v.finish_count [ inl h ↦ absurd cc | inr same ↦ inr (same ∙ so_far.finishing) ];
  no_memory = λ s h. subst (λ (n : ℕ). Rose n c.refusals) so_far.refusals (wants refl);
  refusals_rise_only_there = inl (slot, refl);
  creates = creates-on files (turn slot) a b c apart within so_far v;
}

-- the same of the refusal that is told
pub named-refused : (files : List NamedFile) (slot : Slot) (a b c : DepotState) (e : FileFail) → AreApart files → IsCollectionSlot slot → turn slot < length files → AreWrittenBefore files (turn slot) a b
    → WritesNamed slot (nth_file files (turn slot)) b c (Err e) → WritesFiles files a c (Err e)
named-refused files slot a b c e apart is within so_far v =
    let told : file_fail slot e.fail ≡ e = ap (λ (s : Slot). file_fail s e.fail) (sym v.told) in
    subst (λ (f : FileFail). WritesFiles files a c (Err f)) told (refused-at files slot a b c e.fail apart is within so_far v.writes (λ is. v.memory (ap Err is)))

pub files-written : (files : List NamedFile) (a b : DepotState) → 0 < length files → AreWrittenBefore files (length files) a b → WritesFiles files a b (Ok tt)
files-written files a b some so_far = record {
  written = all-written files a b some so_far;
  stopped = tt;
  failed = λ s h. absurd cc;
  write_only_where_it_rose = λ s h. absurd cc;
  count_rises_only_there = inr so_far.writing;
  create_count = inr so_far.creating;
  finish_count = inr so_far.finishing;
  no_memory = λ s h. absurd cc;
  refusals_rise_only_there = inr so_far.refusals;
  creates = so_far.creates;
}
