-- The words of what segments are joined to, and why there are none.
use Rattle.std.proofs.Common.{◌≡◌, refl, sym, ◌∙◌, ap, subst, ℕ, zero, suc, ◌+◌, ◌^◌, ◌<◌, ◌≤◌, List, [], ◌∷◌, ◌++◌, length, take, get_or, inl, inr, arith}
use Rattle.std.specs.Prelude.{Result, Ok, Err, IfOk, Vec}
use Rattle.std.specs.declared.alloc.Global.{Global}
use Rattle.std.specs.List.{All}
use Rattle.std.proofs.lemmas.List.{length-map, take_all}
use Rattle.std.proofs.lemmas.List.Elements.{All-append, All-cons, All-nil}
use Rattle.std.proofs.lemmas.List.Sums.{sum_by_push}
use Rattle.std.proofs.lemmas.Bool.{cases_lt}
use Rattle.collection_model.specs.FormatNumbers.{FormatNumbers, format_three}
use Rattle.collection_model.specs.Collection.{Collection, WellFormed}
use Rattle.part_cost.specs.declared.formats.Format.TheVariants.{Three}
use Rattle.index_file.specs.declared.builder.FinishError.{FinishError}
use Rattle.index_building.specs.WordsOfCollection as building
use Rattle.segments.specs.Joined.{documents_in, most_joined}
use Rattle.segments.specs.Laws.{IsWellFormed}
use Rattle.segments.specs.Totals.{AreTooFrequent, total_of}
use Rattle.pefidx_c.specs.declared.segment.Segment.{Segment}
use Rattle.pefidx_c.specs.Asked.{collection_in}
use Rattle.pefidx_c.specs.BuiltWords.{AreWordsOf, WouldBeTooMany}
use Rattle.pefidx_c.specs.Segments.{HasTooMany, collections_in, words_in}
use Rattle.pefidx_c.proofs.JoinedSegments.{joined-more}

-- the parts of a sequence are the same, and what was counted for them is left out
pub words-of : (c : Collection) (before after : ℕ) (r : Result (Vec ℕ Global) FinishError) → IfOk r (λ made. building.AreWordsOf Three c before after made.items)
    → IfOk r (λ made. AreWordsOf format_three c made.items)
words-of c before after (Ok made) are = record { within = are.within; parts = are.parts; near = are.cut.near.near; spelled = are.spelled }
words-of c before after (Err e) are = tt

pub too-large : (c : Collection) (before after n : ℕ) → building.WouldBeTooMany Three c before after n → WouldBeTooMany format_three c n
too-large c before after n would = record {
  too_many = would.too_many;
  parts = would.parts;
  near = would.cut.near.near;
  partitions = would.cut.near.partitions;
  count = would.count;
}

-- ---- how many documents there are with each segment
pub record AreCounted (words : List ℕ) (segments : List Segment) (k total : ℕ) : Type 0 where
  pub count : total ≡ documents_in (collections_in words (take k segments))
  pub few : total ≤ most_joined
  pub formed : All IsWellFormed (collections_in words (take k segments))

pub counted-none : (words : List ℕ) (segments : List Segment) → AreCounted words segments 0 0
counted-none words segments = record { count = refl; few = omega arith; formed = All-nil IsWellFormed }

collections-next : (words : List ℕ) (segments : List Segment) (k : ℕ) (s : Segment) (c : Collection) → k < length segments → s ≡ get_or segments k s → c ≡ collection_in (words_in words s)
    → collections_in words (take (k + 1) segments) ≡ collections_in words (take k segments) ++ c ∷ []
collections-next words segments k s c within is at =
    sym (joined-more words segments k s (collections_in words (take k segments)) (collections_in words (take k segments) ++ c ∷ []) c within is refl refl at)

total-next : (words : List ℕ) (segments : List Segment) (k total more n : ℕ) (s : Segment) (c : Collection) → k < length segments → s ≡ get_or segments k s → c ≡ collection_in (words_in words s)
    → n ≡ c.documents → more ≡ total + n → AreCounted words segments k total → more ≡ documents_in (collections_in words (take (k + 1) segments))
total-next words segments k total more n s c within is at of sum so =
    omega (arith, sum, of, so.count, sum_by_push (λ (d : Collection). d.documents) (collections_in words (take k segments)) c, ap documents_in (collections-next words segments k s c within is at))

pub counted-more : (format : FormatNumbers) (words : List ℕ) (segments : List Segment) (k total more n : ℕ) (s : Segment) (c : Collection) → k < length segments → s ≡ get_or segments k s
    → c ≡ collection_in (words_in words s) → n ≡ c.documents → more ≡ total + n → more ≤ most_joined → WellFormed format c → AreCounted words segments k total → AreCounted words segments (k + 1) more
counted-more format words segments k total more n s c within is at of sum few well so = record {
  count = total-next words segments k total more n s c within is at of sum so;
  few = few;
  formed = subst (All IsWellFormed) (sym (collections-next words segments k s c within is at))
      (All-append IsWellFormed (collections_in words (take k segments)) (c ∷ []) so.formed (All-cons IsWellFormed c [] (format, well) (All-nil IsWellFormed)));
}

collections-take : (words : List ℕ) (k : ℕ) (segments : List Segment) → collections_in words (take k segments) ≡ take k (collections_in words segments)
collections-take words zero segments = refl
collections-take words (suc k) [] = refl
collections-take words (suc k) (s ∷ segments) = ap (λ cs. collection_in (words_in words s) ∷ cs) (collections-take words k segments)

pub counted-passed : (words : List ℕ) (segments : List Segment) (k total more n : ℕ) (s : Segment) (c : Collection) → k < length segments → s ≡ get_or segments k s
    → c ≡ collection_in (words_in words s) → n ≡ c.documents → more ≡ total + n → most_joined < more → AreCounted words segments k total → HasTooMany (collections_in words segments) k
counted-passed words segments k total more n s c within is at of sum passed so =
    let next = total-next words segments k total more n s c within is at of sum so in record {
      before = omega (arith, so.few, so.count, ap documents_in (collections-take words k segments));
      passed = omega (arith, passed, next, ap documents_in (collections-take words (k + 1) segments));
    }

pub counted-all : (words : List ℕ) (segments : List Segment) (k total : ℕ) → length segments ≤ k → AreCounted words segments k total
    → (documents_in (collections_in words segments) ≤ most_joined) × All IsWellFormed (collections_in words segments)
counted-all words segments k total past so =
    let whole : take k segments ≡ segments = take_all k segments past in (
      omega (arith, so.count, so.few, ap (λ ss. documents_in (collections_in words ss)) whole),
      subst (λ ss. All IsWellFormed (collections_in words ss)) whole so.formed,
    )

-- a list is too frequent with a segment that is there
frequent-within : (cs : List Collection) (s : ℕ) → AreTooFrequent cs s → s < length cs
frequent-within cs s is = elim (cases_lt s (length cs)) as (λ _. s < length cs) [
  | inl within ↦ within
  | inr past ↦ (let same : take s cs ≡ take (suc s) cs = take_all s cs past ∙ sym (take_all (suc s) cs (omega (arith, past))) in
      absurd (omega (arith, is.before, is.passed, ap (λ ds. total_of ds is.term) same)))
]

-- a number of 32 bits tells it
pub few-frequent : (words : List ℕ) (segments : List Segment) (cs : List Collection) (s : ℕ) → cs ≡ collections_in words segments → length segments ≤ 64 → AreTooFrequent cs s → s < 2 ^ 32
few-frequent words segments cs s is few frequent =
    omega (arith, frequent-within cs s frequent, ap length is, length-map segments (λ s. collection_in (words_in words s)), few)
