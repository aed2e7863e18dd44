-- The maxima of an index do not depend on what it was given of where its lists begin.
use Rattle.std.proofs.Common.{◌≡◌, ◌≢◌, refl, sym, subst, inl, inr, ℕ, List, []}
use Rattle.collection_model.specs.Collection.{Collection}
use Rattle.index_file.specs.IndexView.{IndexView, index_stated, with_starts, word_count}
use Rattle.index_intervals.specs.LongLists.{AreIndexMaxima}
use Rattle.pefidx_c.specs.Kept.{AreMaxima}

-- maxima of the index that words are, as of the one that is opened over them
pub opened-maxima : (words maxima : List ℕ) (opened : IndexView) → opened ≡ with_starts (index_stated words) opened.starts
    → AreMaxima (word_count (index_stated words)) (index_stated words).collection maxima → AreMaxima (word_count opened) opened.collection maxima
opened-maxima words maxima opened is these = subst (λ (i : IndexView). AreMaxima (word_count i) i.collection maxima) (sym is) these

-- and the way back
pub stated-maxima : (words maxima : List ℕ) (opened : IndexView) → opened ≡ with_starts (index_stated words) opened.starts
    → AreIndexMaxima (word_count opened) opened.collection maxima → AreIndexMaxima (word_count (index_stated words)) (index_stated words).collection maxima
stated-maxima words maxima opened is these = subst (λ (i : IndexView). AreIndexMaxima (word_count i) i.collection maxima) is these

-- maxima that are some are those of the lists that have some, also by another name of the words,
-- of the collection and of what is lent
pub lent-maxima : (words n : ℕ) (c lists : Collection) (maxima lent : List ℕ) → maxima ≢ []
    → AreMaxima words c maxima → n ≡ words → lists ≡ c → lent ≡ maxima → AreIndexMaxima n lists lent
lent-maxima words n c lists maxima lent some (inl none) paid same is = absurd (some none)
lent-maxima words n c lists maxima lent some (inr these) paid same is =
    subst (λ (xs : List ℕ). AreIndexMaxima n lists xs) (sym is)
    (subst (λ (x : Collection). AreIndexMaxima n x maxima) (sym same)
    (subst (λ (k : ℕ). AreIndexMaxima k c maxima) (sym paid) these))
