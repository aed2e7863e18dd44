use Rattle.std.specs.Prelude.{ℕ}
use Rattle.part_cost.specs.declared.kinds.Kind.{Kind}
use Rattle.part_cost.specs.declared.kinds.Kind.TheVariants.{Ones, Bitmap, Ef}
use Rattle.ranked_bitmap.specs.WholeWords.{whole_words}

-- how many of so many words of marks are kept by a part of this kind from a place on: those that
-- lie whole in it, and none in Elias-Fano form
abbrev pub words_kept : Kind → ℕ → ℕ → ℕ → ℕ
words_kept Ones u from most = whole_words u from most
words_kept Bitmap u from most = whole_words u from most
words_kept Ef u from most = 0
