use Rattle.std.proofs.Common.{◌≡◌, ℕ, ◌+◌, ◌*◌, ◌<◌, ◌≤◌, true, false, List, length, Result, Ok, Err, inl, inr, refl, rules}
use Rattle.std.specs.Prelude.{◌||◌, not, nat_lt}
use Rattle.std.specs.Result.{IfErr}
use Rattle.std.proofs.lemmas.Bool.{both_ways, le-ltb}
use Rattle.std.proofs.lemmas.Result.{IfErr-at_err}
use Rattle.collection_model.specs.FormatNumbers.{FormatNumbers, entry_words}
use Rattle.part_cost.specs.Formats.{numbers_of}
use Rattle.bit_words.specs.Bits.{bits_of, HasNoOne}
use Rattle.sequence_words.specs.declared.check.Check.{Check}
use Rattle.sequence_words.specs.declared.check.Check.TheVariants.{K6, K7, K8, K9}
use Rattle.sequence_words.specs.declared.checking.SeqFault.{SeqFault}
use Rattle.sequence_words.specs.SequenceFault.{payload_before, first_bit, word_behind, parts_fit, entry_breaks, IsPartStored, IsSequenceFault}
use Rattle.sequence_words.proofs.Choices.{match-false}
use Rattle.sequence_words.proofs.Follows.{Found, PartsStep, EntriesStep, prefix-test}
use Rattle.sequence_words.proofs.checking.check_words.Goals as goal

-- the first fault where the entries stand and end within the words
behind-entries : (format : FormatNumbers) (words : List ℕ) (parts m bound : ℕ) (check : Check) (part : ℕ) → parts_fit m parts ≡ true → entry_words format * parts ≤ length words
    → ((q : ℕ) → q < parts → entry_breaks format words parts m bound q ≡ false) → word_behind format words parts ≤ length words → PartsStep format words parts check part
    → IsSequenceFault format words parts m bound check part
behind-entries format words parts m bound check part fit room entries within step =
    match-false (not (parts_fit m parts) || nat_lt (length words) (entry_words format * parts)) ((check ≡ K6) × (part ≡ 0)) (EntriesStep format words parts m bound check part) (prefix-test format words parts m fit room)
    (inr (
      (λ q lt t. both_ways (entry_breaks format words parts m bound q) (entries q lt) t),
      match-false (nat_lt (length words) (word_behind format words parts)) (Found check part K7 parts) (PartsStep format words parts check part)
          (le-ltb (length words) (word_behind format words parts) within) step,
    ))

-- a part that is not stored, where all before it are
part-breaks : (format : FormatNumbers) → {T : Type 0} (words : List ℕ) (parts : ℕ) (r : Result T SeqFault) → IfErr r (λ f. f.check ≡ K8) → IfErr r (λ f. f.part < parts)
    → IfErr r (λ f. ¬ IsPartStored format words parts f.part) → IfErr r (λ f. (q : ℕ) → q < f.part → IsPartStored format words parts q)
    → IfErr r (λ f. PartsStep format words parts f.check f.part)
part-breaks format words parts (Ok x) check part breaks first = check
part-breaks format words parts (Err f) check part breaks first = inl (f.part, part, breaks, (λ q lt no. no (first q lt)), (check, refl))

-- a padding bit, where all parts are stored
padding-breaks : (format : FormatNumbers) → {T : Type 0} (words : List ℕ) (parts : ℕ) (r : Result T SeqFault) → ((q : ℕ) → q < parts → IsPartStored format words parts q) → IfErr r (λ f. f.check ≡ K9)
    → IfErr r (λ f. f.part ≡ 0)
    → IfErr r (λ f. ¬ HasNoOne (bits_of words) (first_bit format parts + payload_before format words parts) (64 * word_behind format words parts))
    → IfErr r (λ f. PartsStep format words parts f.check f.part)
padding-breaks format words parts (Ok x) stored check part breaks = check
padding-breaks format words parts (Err f) stored check part breaks = inr ((λ q lt no. no (stored q lt)), inl (breaks, (check, part)))

pub check_parts-requires-clause-entries : goal.check_parts-requires-clause-entries
check_parts-requires-clause-entries c = (c.args.shape.m, c.args.shape.bound, c.requires.bound, search rules, c.requires.room, c.in_ok-payload.ensures.entries)

pub returns-in_err-greatest-clause-first : goal.returns-in_err-greatest-clause-first
returns-in_err-greatest-clause-first c =
    let format = numbers_of c.args.shape.format in
    let e : SeqFault = c.in_err-greatest.field-0.0 in
    let step : PartsStep format c.args.words.now c.args.shape.parts e.check e.part =
    IfErr-at_err (λ f. PartsStep format c.args.words.now c.args.shape.parts f.check f.part) (first_of (search rules, cc))
    (part-breaks format c.args.words.now c.args.shape.parts c.check_parts.result c.check_parts.ensures.check c.check_parts.ensures.part c.check_parts.ensures.breaks c.check_parts.ensures.first) in
    let is : c.from_residual-in_err-greatest.result ≡ Err e = first_of (search rules, cc) in
    let fault : IsSequenceFault format c.args.words.now c.args.shape.parts c.args.shape.m c.args.shape.bound e.check e.part =
    behind-entries format c.args.words.now c.args.shape.parts c.args.shape.m c.args.shape.bound e.check e.part (search rules) (search rules) c.in_ok-payload.ensures.entries (search rules) step in
    rw is fault

pub returns-in_err-check_padding-clause-first : goal.returns-in_err-check_padding-clause-first
returns-in_err-check_padding-clause-first c =
    let format = numbers_of c.args.shape.format in
    let e : SeqFault = c.in_err-check_padding.field-0.0 in
    let step : PartsStep format c.args.words.now c.args.shape.parts e.check e.part =
    IfErr-at_err (λ f. PartsStep format c.args.words.now c.args.shape.parts f.check f.part) (first_of (search rules, cc))
    (padding-breaks format c.args.words.now c.args.shape.parts c.check_padding.result c.in_ok-greatest.ensures.ok c.check_padding.ensures.check c.check_padding.ensures.part c.check_padding.ensures.breaks) in
    let is : c.from_residual-in_err-check_padding.result ≡ Err e = first_of (search rules, cc) in
    let fault : IsSequenceFault format c.args.words.now c.args.shape.parts c.args.shape.m c.args.shape.bound e.check e.part =
    behind-entries format c.args.words.now c.args.shape.parts c.args.shape.m c.args.shape.bound e.check e.part (search rules) (search rules) c.in_ok-payload.ensures.entries (search rules) step in
    rw is fault
