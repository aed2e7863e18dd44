-- Lemmas on lists that stand one after the other.
use Rattle.std.proofs.Common.{◌≡◌, refl, sym, ap, ◌∙◌, ℕ, ◌+◌, ◌<◌, List, [], ◌∷◌, length, get_or, take, drop, arith}
use Rattle.std.specs.Prelude.{sum}
use Rattle.std.proofs.lemmas.List.{drop-drop, drop_more}
use Rattle.std.proofs.lemmas.List.Sums.{sum_by_more}
use Rattle.collection_model.specs.Collection.{postings_of}
use Rattle.pefidx_c.specs.GivenLists.{lists_given}

-- there are as many lists as lengths
pub given-length : (lengths docs freqs : List ℕ) → length (lists_given lengths docs freqs) ≡ length lengths
given-length [] docs freqs = refl
given-length (m ∷ lengths) docs freqs = omega (arith, given-length lengths (drop m docs) (drop m freqs))

-- the next list, and those behind it
pub next-list : (lengths docs freqs ds fs : List ℕ) (t from m : ℕ) → t < length lengths → m ≡ get_or lengths t 0 → ds ≡ take m (drop from docs) → fs ≡ take m (drop from freqs)
    → lists_given (drop t lengths) (drop from docs) (drop from freqs) ≡ postings_of ds fs ∷ lists_given (drop (t + 1) lengths) (drop (from + m) docs) (drop (from + m) freqs)
next-list lengths docs freqs ds fs t from m within is docs_are freqs_are =
    ap (λ l. lists_given l (drop from docs) (drop from freqs)) (drop_more lengths t 0 within ∙ ap (λ k. k ∷ drop (t + 1) lengths) (sym is))
    ∙ (λ i. postings_of (sym docs_are i) (sym freqs_are i) ∷ lists_given (drop (t + 1) lengths) (drop-drop m from docs i) (drop-drop m from freqs i))

-- where it ends
pub next-from : (lengths : List ℕ) (t from m : ℕ) → t < length lengths → m ≡ get_or lengths t 0 → from ≡ sum (take t lengths) → from + m ≡ sum (take (t + 1) lengths)
next-from lengths t from m within is so = omega (arith, is, so, sum_by_more (λ x. x) lengths t 0 within)
