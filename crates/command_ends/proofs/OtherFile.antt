-- A file that begins with another word than those of an index: which check it breaks, whatever stands behind that word.
use Rattle.std.proofs.Common.{◌≡◌, ◌≢◌, ℕ, ◌≤◌, List, length, slice_index, sym, subst, inl, inr, arith, Ok}
use Rattle.std.specs.Prelude.{Some}
use Rattle.std.specs.List.{Contains}
use Rattle.collection_model.specs.FormatNumbers.{FormatNumbers, Plain}
use Rattle.part_cost.specs.Formats.{numbers_of}
use Rattle.io_traits.specs.declared.fail.Slot.TheVariants.{Index}
use Rattle.io_traits.specs.DepotState.{DepotState}
use Rattle.sequence_words.specs.declared.check.Check.TheVariants.{K2}
use Rattle.index_file.specs.declared.fault.OpenFault.{OpenFault}
use Rattle.index_file.specs.PlainWords.{opening_magic}
use Rattle.index_file.specs.PackedWords.{packed_magic}
use Rattle.index_file.specs.FileWords.{format_read, IsIndex}
use Rattle.index_file.specs.FirstBroken.{frame_broken, IsFirstBroken}
use Rattle.word_files.specs.LoadWords.{LoadsWords}
use Rattle.command_ends.specs.Steps.LoadedIndex.{openings, AreIndexWords}

-- the frame breaks at the first word
frame-of-other : (format : FormatNumbers) (words : List ℕ) → 6 ≤ length words → slice_index words 0 ≢ opening_magic → frame_broken format words ≡ Some K2
frame-of-other format words many other = grind arith

-- Words begin with none of them.
record BeginsOther (words : List ℕ) : Type 0 where
  plain : slice_index words 0 ≢ opening_magic
  packed : slice_index words 0 ≢ packed_magic

begins-other : (words : List ℕ) → ¬ Contains openings (slice_index words 0) → BeginsOther words
begins-other words other = record { plain = λ is. other (0, omega arith, sym is); packed = λ is. other (1, omega arith, sym is) }

-- what is not read as a packed file is read as a plain one
read-plain : (words : List ℕ) → slice_index words 0 ≢ packed_magic → (numbers_of (format_read words)).kind ≡ Plain
read-plain words other = grind arith

-- such words break the same check first
same-first : (words all : List ℕ) (fault : OpenFault) → 6 ≤ length words → 6 ≤ length all → BeginsOther words → BeginsOther all → IsFirstBroken words fault → IsFirstBroken all fault
same-first words all fault some more here there first =
    grind (arith, frame-of-other (numbers_of (format_read words)) words, frame-of-other (numbers_of (format_read all)) all, read-plain words, read-plain all)

-- an index begins with one of them
opens : (words : List ℕ) → BeginsOther words → ¬ IsIndex words
opens words other (format, (c, parts, spells)) = grind arith

-- words that are an index are all that were loaded
pub kept_is_loaded : (name : List ℕ) (d d' : DepotState) (words : List ℕ) → AreIndexWords name d d' words → IsIndex words → LoadsWords Index name d d' (Ok words)
kept_is_loaded name d d' words kept index = grind (arith, begins-other words, opens words)

-- words that are no index are loaded where some of them are, and break the same check
pub kept_is_none : (name : List ℕ) (d d' : DepotState) (words : List ℕ) (fault : OpenFault) → AreIndexWords name d d' words → IsFirstBroken words fault
    → (all : List ℕ) × LoadsWords Index name d d' (Ok all) × IsFirstBroken all fault
kept_is_none name d d' words fault (all, inl same, loads) first = (all, loads, subst (λ ws. IsFirstBroken ws fault) same first)
kept_is_none name d d' words fault (all, inr o, loads) first =
    let here : BeginsOther words = begins-other words o.other in
    let there : BeginsOther all = grind arith in
    (all, loads, same-first words all fault o.many (omega (arith, o.many, o.no_more)) here there first)
