use Rattle.std.proofs.Common.{◌≡◌, refl, ◌∙◌, sym, ap, ℕ, ◌<◌, ◌++◌, List, length, arith, Ok, Err, Some, true, false}
use Rattle.std.proofs.lemmas.List.{length-append}
use Rattle.collection_model.specs.FormatNumbers.{FormatNumbers}
use Rattle.collection_model.specs.Bytes.{le32}
use Rattle.io_traits.specs.declared.fail.Slot.TheVariants.{Docs}
use Rattle.io_traits.specs.DepotState.{DepotState}
use Rattle.collection_reader.specs.declared.fault.CollError.{CollError}
use Rattle.collection_reader.specs.declared.position.Position.{Position}
use Rattle.collection_reader.specs.FirstFault.{head_fault, lacks}
use Rattle.held_pieces.specs.Pieces.{rest_of}
use Rattle.collection_reader.specs.OneFile.{TakesNumber, cut_at}
use Rattle.collection_reader.specs.OneSequence.{ReadsHead}
use Rattle.collection_reader.proofs.ReadsFrom.{reads-then}
use Rattle.collection_reader.proofs.Numbers.{lacks-there, lacks-not}

abbrev at_head : Position
at_head = record { file = Docs; term = 0; place = 0 }

-- a head that is cut in its length
cut-length : (format : FormatNumbers) (docs : List ℕ) → length docs < 4 → head_fault format docs ≡ Some (cut_at at_head)
cut-length format docs short = rw (lacks-there docs 0 short) refl

pub head_cut : (format : FormatNumbers) (held held_after : List ℕ) (a b : DepotState) (e : CollError) → TakesNumber at_head held held_after a b (Err e) → ReadsHead format held held_after a b (Err e)
head_cut format held held_after a b e number = record {
  within = tt;
  rest = λ t. tt;
  first_fault = λ t fault h. cut-length format (rest_of held a Docs) (number.too_short t fault h) ∙ ap Some (sym (number.cut fault h));
  depot = number.depot;
  fault_term = λ fault h. ap (λ f. f.term) (number.cut fault h);
}

-- a head that is cut in its number
cut-number : (format : FormatNumbers) (rest : List ℕ) → length rest < 4 → head_fault format (le32 1 ++ rest) ≡ Some (cut_at at_head)
cut-number format rest short =
    let there : lacks (le32 1 ++ rest) 0 ≡ false = lacks-not (le32 1 ++ rest) 0 (omega (arith, length-append (le32 1) rest)) in
    let not_there : lacks (le32 1 ++ rest) 1 ≡ true = lacks-there (le32 1 ++ rest) 1 (omega (arith, length-append (le32 1) rest)) in
    rw (there, not_there) refl

pub number_cut : (format : FormatNumbers) (held mid held_after : List ℕ) (a b c : DepotState) (e : CollError) → TakesNumber at_head held mid a b (Ok 1) → TakesNumber at_head mid held_after b c (Err e) → ReadsHead format held held_after a c (Err e)
number_cut format held mid held_after a b c e first number = record {
  within = tt;
  rest = λ t. tt;
  first_fault = λ t fault h.
      let u = first.depot.only.tells ∙ t in
      rw (first.number t) (cut-number format (rest_of mid b Docs) (number.too_short u fault h) ∙ ap Some (sym (number.cut fault h)));
  depot = reads-then first.depot number.depot;
  fault_term = λ fault h. ap (λ f. f.term) (number.cut fault h);
}
