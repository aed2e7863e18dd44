-- The words of a file that a run loads from a slot, or does not.
use Rattle.std.proofs.Common.{◌≡◌, ℕ, ◌*◌, ◌≤◌, arith, ◌∙◌, ap, List, length}
use Rattle.std.specs.Prelude.{◌%◌, Ok, Err}
use Rattle.io_traits.specs.declared.fail.Slot.{Slot}
use Rattle.io_traits.specs.DepotState.{DepotState}
use Rattle.index_file.specs.Builder.{most_words}
use Rattle.command_model.specs.Found.{AreOfWords, most_bytes}
use Rattle.command_model.proofs.WordBytes.{word_bytes-length}
use Rattle.word_files.specs.declared.loading.LoadWordsError.{LoadWordsError}
use Rattle.word_files.specs.declared.loading.LoadWordsError.TheVariants as loading
use Rattle.word_files.specs.LoadWords.{LoadsWords}
use Rattle.outcomes.specs.declared.stop.Stop.{Stop}
use Rattle.outcomes.specs.Outside.{Count, OfFile}
use Rattle.outcomes.specs.Outcome.{Outcome, fault_of}
use Rattle.outcomes.specs.Ends.{EndsByFault}
use Rattle.outcomes.specs.Stops.{stop_of_loading}
use Rattle.command_ends.specs.Starts.{StartsOnly}
use Rattle.command_ends.proofs.Started.{loaded_starts}
use Rattle.outcomes.proofs.Counted.{slot_is, Of}

-- ---- bytes and words

pub length_of : (bytes words : List ℕ) → AreOfWords bytes words → length bytes ≡ 8 * length words
length_of bytes words of = ap length of.bytes_are ∙ word_bytes-length words

pub even : (bytes words : List ℕ) → AreOfWords bytes words → length bytes % 8 ≡ 0
even bytes words of = omega (arith, length_of bytes words of)

-- words that are not too many have bytes that are not too many
pub short : (bytes words : List ℕ) → AreOfWords bytes words → length words ≤ most_words → length bytes ≤ most_bytes
short bytes words of le = omega (arith, length_of bytes words of, le)

-- ---- words that are not loaded

-- how a run ends whose words are not loaded from a slot
abbrev pub unloaded : Slot → Stop → LoadWordsError → Outcome
unloaded slot ragged e = Err (stop_of_loading slot ragged e)

-- Words that are no whole ones end the run without a failed call.
module _ (slot : Slot) (ragged : Stop) (no_fault : (count : Count) → ¬ Of (fault_of (Err ragged)) count) where
  is_slot : (e : LoadWordsError) (other : Slot) → Of (fault_of (unloaded slot ragged e)) (OfFile other) → (e ≡ loading.Read) × (other ≡ slot)
  is_slot e other h = grind (arith, no_fault (OfFile other))

  module _ (name : List ℕ) (d d' : DepotState) (error : LoadWordsError) (w : LoadsWords slot name d d' (Err error)) where
    pub slots_unloaded : (other : Slot) → EndsByFault (OfFile other) (unloaded slot ragged error) (d.faults other) (d'.faults other)
    slots_unloaded other = grind (arith, slot_is other slot, is_slot error other)

    pub unloaded_starts : StartsOnly (λ s. name) (λ s. s ≡ slot) (unloaded slot ragged error) d d'
    unloaded_starts = loaded_starts slot name d d' (Err error) (unloaded slot ragged error) w (λ is. grind arith)

-- ---- words that are loaded

pub starts : (slot : Slot) (name : List ℕ) (d d' : DepotState) (words : List ℕ) → LoadsWords slot name d d' (Ok words) → (outcome : Outcome) → StartsOnly (λ s. name) (λ s. s ≡ slot) outcome d d'
starts slot name d d' words w outcome = loaded_starts slot name d d' (Ok words) outcome w (λ is. cc)

pub loaded_counts : (slot : Slot) (name : List ℕ) (d d' : DepotState) (words : List ℕ) → LoadsWords slot name d d' (Ok words) → (other : Slot) → d'.faults other ≡ d.faults other
loaded_counts slot name d d' words w other = grind (arith, slot_is other slot)
