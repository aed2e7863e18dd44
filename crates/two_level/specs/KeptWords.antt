use Rattle.std.specs.Prelude.{◌≡◌, ℕ, ◌<◌, ◌≤◌, length, slice_index}
use Rattle.sequence_words.specs.SequenceView.{SequencePlace, start_of_part}
use Rattle.part_directory.specs.KeptWords.{words_kept_by_part}

-- so many words of marks, of `most` from a number on, are those that the part of a place keeps
pub record AreKeptAt (p : SequencePlace) (first most words : ℕ) : Type 0 where
  pub part : ℕ
  pub within : part < length p.sequence.ends
  pub from : start_of_part p.sequence.ends part ≤ p.place
  pub to : p.place < slice_index p.sequence.ends part
  pub count : words ≡ words_kept_by_part p.sequence.values
      (start_of_part p.sequence.ends part) (slice_index p.sequence.ends part) first most
