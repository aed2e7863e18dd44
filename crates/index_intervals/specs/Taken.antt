-- Maxima that are made of the lists of a collection as these are checked.
use Rattle.std.specs.Prelude.{◌≡◌, ℕ, false}
use Rattle.collection_model.specs.Collection.{Collection, WellFormed, list_of}
use Rattle.collection_model.specs.FormatNumbers.{format_three}
use Rattle.interval_max.specs.Kept.{HoldsMaxima}
use Rattle.index_intervals.specs.LongLists.{has_maxima, long_postings}
use Rattle.index_intervals.specs.declared.taking.ListMaxima.{ListMaxima}

-- The maxima of the lists of the terms below t are held, where some words pay for them.
pub record AreTaken (m : ListMaxima) (c : Collection) (t : ℕ) : Type 0 where
  pub postings : m.postings ≡ long_postings c t
  pub maxima : HoldsMaxima (has_maxima m.words c) (list_of c) t m.writer

-- They are, for a collection that a packed file can hold, unless some list was lost.
abbrev pub AreTakenOrLost : ListMaxima → Collection → ℕ → Type 0
AreTakenOrLost m c t = WellFormed format_three c → m.is_lost ≡ false → AreTaken m c t
