use Rattle.std.specs.Prelude.{◌≡◌, ◌⊎◌, ℕ, ◌-◌, ◌==◌, if◌then◌else◌, List, [], ◌∷◌, ◌++◌, length}
use Rattle.collection_model.specs.Collection.{Collection}
use Rattle.index_file.specs.ListStarts.{AreNoneOr, kept_starts}
use Rattle.index_intervals.specs.LongLists.{AreIndexMaxima}
use Rattle.pefidx_c.specs.Asked.{collection_in}
use Rattle.pefidx_c.specs.Heads.{heads_of}

-- what may be asked to be kept is at most this sum of flags: 1 asks for where the lists begin, and
-- for their heads
abbrev pub all_flags : ℕ
all_flags = 1

-- what is kept of the lists of an index: where each begins, and behind these all heads
abbrev pub numbers_of_lists : List ℕ → List ℕ
numbers_of_lists words = kept_starts words
    ++ heads_of (collection_in words).documents words (kept_starts words)

-- the numbers that are kept beside the words of an index: how many tell of its lists, and these
abbrev pub numbers_beside : List ℕ → List ℕ
numbers_beside words = length (numbers_of_lists words) ∷ numbers_of_lists words

-- those of them that a sum of flags asks for
abbrev pub kept_by : ℕ → List ℕ → List ℕ
kept_by what words = if what == 0 then [] else numbers_beside words

-- Numbers that are kept tell where lists begin by these, and their heads by one fewer.
pub record TellsOf (kept starts heads : List ℕ) : Type 0 where
  pub numbers : kept ≡ length (starts ++ heads) ∷ (starts ++ heads)
  pub fewer : length heads ≡ length starts - 1

-- Nothing is kept, or these numbers are.
abbrev pub AreKept : List ℕ → List ℕ → Type 0
AreKept words kept = AreNoneOr (numbers_beside words) kept

-- No maxima are kept, or those of a collection where so many words pay.
abbrev pub AreMaxima : ℕ → Collection → List ℕ → Type 0
AreMaxima words c maxima = (maxima ≡ []) ⊎ AreIndexMaxima words c maxima
