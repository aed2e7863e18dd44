-- What a reader does behind the last list, from what it does in each file.
use Rattle.std.proofs.Common.{refl, ◌∙◌, sym, ap, ℕ, ◌++◌, List, [], Ok, Err, Result, Bool, false}
use Rattle.io_traits.specs.declared.fail.Slot.TheVariants.{Docs, Freqs, Sizes}
use Rattle.io_traits.specs.DepotState.{DepotState}
use Rattle.collection_reader.specs.declared.fault.CollError.{CollError}
use Rattle.collection_reader.specs.FirstFault.{end_fault}
use Rattle.collection_reader.specs.Reading.{Reading, rests}
use Rattle.collection_reader.specs.OneFile.{LooksAhead}
use Rattle.collection_reader.specs.OneSequence.{ReadsToEnd}
use Rattle.collection_reader.specs.OneReader.{TriesEnd}
use Rattle.collection_reader.proofs.SameAnswer.{same-fault}
use Rattle.io_traits.proofs.OnlyReads.{OnlyReads-trans, OnlyReads-wider}
use Rattle.collection_reader.proofs.ReadsFrom.{reads-then, reads-wider, answers-err}
use Rattle.collection_reader.proofs.Starts.{freqs-is, sizes-is, freqs-last, sizes-last, docs-not_freqs, docs-not_sizes, freqs-not_sizes, sizes-not_freqs}

-- the look ahead fails
pub look_refused : (r : Reading) (mid ss : List ℕ) (a b : DepotState) (e : CollError) → LooksAhead Freqs r.freqs mid a b (Err e) → TriesEnd r (record r { freqs = mid }) a b ss (Err e)
look_refused r mid ss a b e look = record {
  count = tt;
  freqs_end = λ t. tt;
  sizes_end = λ t. tt;
  docs_rest = λ t. tt;
  freqs_rest = λ t. tt;
  none_left = λ t. tt;
  format = refl;
  documents = refl;
  lists = refl;
  refusal = refl;
  first_fault = λ t fault h. absurd (look.no_fault fault (same-fault {A = Unit {0}} {B = Bool} e fault h));
  depot = reads-wider freqs-is (answers-err {A = Bool} {B = Unit {0}} e look.depot);
  phase = refl;
  fault_term = λ fault h. absurd (look.no_fault fault (same-fault {A = Unit {0}} {B = Bool} e fault h));
  slots = OnlyReads-wider freqs-last look.depot.only;
}

-- the sizes are read where no frequency is left
pub end_read : (r : Reading) (mid last ss : List ℕ) (a b c : DepotState) (result : Result (Unit {0}) CollError) → LooksAhead Freqs r.freqs mid a b (Ok false)
    → ReadsToEnd r.documents r.lists r.sizes last b c ss result → TriesEnd r (record r { freqs = mid; sizes = last }) a c ss result
end_read r mid last ss a b c (Err e) look sizes = record {
  count = tt;
  freqs_end = λ t. tt;
  sizes_end = λ t. tt;
  docs_rest = λ t. tt;
  freqs_rest = λ t. tt;
  none_left = λ t. tt;
  format = refl;
  documents = refl;
  lists = refl;
  refusal = refl;
  first_fault = λ t fault h.
      ap (λ f. end_fault r.documents r.lists f (rests r a).sizes) (look.at_end t refl)
      ∙ ap (λ l. end_fault r.documents r.lists [] (r.sizes ++ l)) (sym ((look.depot.only.other_slots Sizes sizes-not_freqs).1 t))
      ∙ sizes.first_fault (look.depot.only.tells ∙ t) fault h;
  depot = reads-then (reads-wider freqs-is look.depot) (reads-wider sizes-is sizes.depot);
  phase = refl;
  fault_term = λ fault h. sizes.fault_term fault h;
  slots = OnlyReads-trans (OnlyReads-wider freqs-last look.depot.only) (OnlyReads-wider sizes-last sizes.depot.only);
}
end_read r mid last ss a b c (Ok x) look sizes = record {
  count = sizes.count;
  freqs_end = λ t. look.at_end t refl;
  sizes_end = λ t. ap (λ l. r.sizes ++ l) (sym ((look.depot.only.other_slots Sizes sizes-not_freqs).1 t)) ∙ sizes.rest (look.depot.only.tells ∙ t);
  docs_rest = λ t. ap (λ l. r.docs ++ l) ((sizes.depot.only.other_slots Docs docs-not_sizes).1 (look.depot.only.tells ∙ t) ∙ (look.depot.only.other_slots Docs docs-not_freqs).1 t);
  freqs_rest = λ t. ap (λ l. mid ++ l) ((sizes.depot.only.other_slots Freqs freqs-not_sizes).1 (look.depot.only.tells ∙ t)) ∙ look.same_rest t ∙ look.at_end t refl;
  none_left = λ t. sizes.none_left (look.depot.only.tells ∙ t);
  format = refl;
  documents = refl;
  lists = refl;
  refusal = refl;
  first_fault = λ t fault h. cc;
  depot = reads-then (reads-wider freqs-is look.depot) (reads-wider sizes-is sizes.depot);
  phase = refl;
  fault_term = λ fault h. cc;
  slots = OnlyReads-trans (OnlyReads-wider freqs-last look.depot.only) (OnlyReads-wider sizes-last sizes.depot.only);
}
