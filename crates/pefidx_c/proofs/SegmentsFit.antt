-- Segments that are checked one after the other.
use Rattle.std.proofs.Common.{◌≡◌, rules, refl, sym, ◌∙◌, ap, subst, ℕ, zero, suc, ◌+◌, ◌^◌, ◌<◌, ◌≤◌, Bool, true, false, List, [], ◌∷◌, ◌++◌, length, map, take, drop, get_or, arith}
use Rattle.std.specs.Prelude.{◌==◌, nat_le, nat_lt, not, if◌then◌else◌, is_some, Option, Some, None, IfNone, IfSome}
use Rattle.std.specs.List.{All, list_all}
use Rattle.std.proofs.lemmas.Bool.{eq-eqb, leb-false, leb-true, ltb-false}
use Rattle.std.proofs.lemmas.Option.{none-some}
use Rattle.std.proofs.lemmas.List.{length-drop, length-take-le, map-append, take_all}
use Rattle.std.proofs.lemmas.List.Elements.{All-append, All-cons, All-nil, All-take, All-weaker}
use Rattle.std.proofs.lemmas.List.Sums.{AllPass-from_list_all, sum_by_push}
use Rattle.std.proofs.Math.Seq.{take-suc}
use Rattle.collection_model.specs.Collection.{Collection}
use Rattle.index_file.specs.FileWords.{IsIndex}
use Rattle.index_file.specs.FirstBroken.{IsFirstBroken}
use Rattle.segments.specs.declared.pushed.Joining.TheVariants.{Alike}
use Rattle.segments.specs.declared.pushed.SegRule.TheVariants.{G1, G2}
use Rattle.segments.specs.Joined.{documents_in, most_joined, terms_in, FitTogether}
use Rattle.segments.specs.Segments.{Pushed, rule_broken, with_segment}
use Rattle.pefidx_c.specs.declared.segment.Segment.{Segment}
use Rattle.pefidx_c.specs.declared.segment_checking.Unfit.{Unfit}
use Rattle.pefidx_c.specs.declared.segment_checking.Unfit.TheVariants.{NoIndex, NoJoin}
use Rattle.pefidx_c.specs.declared.status.Status.{Status}
use Rattle.pefidx_c.specs.declared.status.Status.TheVariants.{TooLarge, TooMany, NotWhole}
use Rattle.pefidx_c.specs.StatusNumber.{number_of}
use Rattle.pefidx_c.specs.Asked.{collection_in}
use Rattle.pefidx_c.specs.Segments.{AreIndexes, AreSegments, collections_in, is_within, most_segments, no_segment, places_refusal, rule_behind, segments_refusal, words_in}
use Rattle.pefidx_c.specs.SegmentChecks.{IsUnfit, IsUnfitBehind}
use Rattle.pefidx_c.proofs.Refusals.{no-refusal}

abbrev number-in : Option Status → ℕ
number-in None = 0
number-in (Some status) = number_of status

-- ---- segments that are not refused
pub places-none : (n : ℕ) (segments : List Segment) → places_refusal n segments ≡ None → (length segments ≤ 64) × All (λ s. s.first + s.count ≤ n) segments
places-none n segments is =
    let tests = no-refusal (nat_lt most_segments (length segments)) (list_all (is_within n) segments) TooMany NotWhole is in (
      ltb-false most_segments (length segments) tests.0,
      All-weaker (λ s. is_within n s ≡ true) (λ s. s.first + s.count ≤ n) (λ s e. leb-true (s.first + s.count) n e) segments
          (AllPass-from_list_all (is_within n) segments tests.1),
    )

not-large : (b : Bool) (n : ℕ) (segments : List Segment) → (if b then Some TooLarge else places_refusal n segments) ≡ None → (b ≡ false) × (places_refusal n segments ≡ None)
not-large true n segments is = absurd (none-some TooLarge (sym is))
not-large false n segments is = (refl, is)

pub few-words : (n : ℕ) (segments : List Segment) → segments_refusal n segments ≡ None → (n < 2 ^ 57) × (places_refusal n segments ≡ None)
few-words n segments is =
    let tests = not-large (nat_le (2 ^ 57) n) n segments is in
    (leb-false (2 ^ 57) n tests.0, tests.1)

-- ---- what is pushed
abbrev first_terms : List Collection → Option ℕ
first_terms [] = None
first_terms (c ∷ cs) = Some (length c.lists)

abbrev pub pushed_of : List Collection → Pushed
pushed_of cs = record { joining = Alike; documents = documents_in cs; terms = first_terms cs }

rule-is : (cs : List Collection) (c : Collection) → rule_broken (pushed_of cs) c.documents (length c.lists) ≡ rule_behind cs c
rule-is [] c =
    ap (λ n. if nat_lt most_joined n then Some G2 else None) (sym (sum_by_push (λ (d : Collection). d.documents) [] c))
    ∙ sym (ap (λ b. if not b then Some G1 else if nat_lt most_joined (documents_in (c ∷ [])) then Some G2 else None) (eq-eqb (length c.lists) (length c.lists) refl))
rule-is (x ∷ cs) c =
    ap (λ n. if not (length x.lists == length c.lists) then Some G1 else if nat_lt most_joined n then Some G2 else None)
    (sym (sum_by_push (λ (d : Collection). d.documents) (x ∷ cs) c))

with-pushed : (cs : List Collection) (c : Collection) → with_segment (pushed_of cs) c.documents (length c.lists) ≡ pushed_of (cs ++ c ∷ [])
with-pushed [] c = refl
with-pushed (x ∷ cs) c = rw (sum_by_push (λ (d : Collection). d.documents) (x ∷ cs) c)

few-more : (cs : List Collection) (c : Collection) → rule_broken (pushed_of cs) c.documents (length c.lists) ≡ None → documents_in (cs ++ c ∷ []) ≤ most_joined
few-more cs c is = omega (arith, sum_by_push (λ (d : Collection). d.documents) cs c, few cs is)
  where
    few : (cs : List Collection) → rule_broken (pushed_of cs) c.documents (length c.lists) ≡ None → documents_in cs + c.documents ≤ most_joined
    few [] is = grind arith
    few (x ∷ cs) is = grind arith

alike-more : (cs : List Collection) (c : Collection) → rule_broken (pushed_of cs) c.documents (length c.lists) ≡ None → All (λ d. length d.lists ≡ terms_in cs) cs
    → All (λ d. length d.lists ≡ terms_in (cs ++ c ∷ [])) (cs ++ c ∷ [])
alike-more [] c is all = search (rules, All-cons, All-nil)
alike-more (x ∷ cs) c is all = let same : length c.lists ≡ length x.lists = grind arith in search (rules, All-append, All-cons, All-nil)

-- ---- one segment more
take-more : {X : Type 0} (xs : List X) (k : ℕ) (x : X) → k < length xs → x ≡ get_or xs k x → take (k + 1) xs ≡ take k xs ++ x ∷ []
take-more xs k x within is =
    let next : suc k ≡ k + 1 = omega arith in
    sym (ap (λ n. take n xs) next) ∙ take-suc xs k x within ∙ ap (λ y. take k xs ++ y ∷ []) (sym is)

collections-more : (words : List ℕ) (segments : List Segment) (k : ℕ) (s : Segment) → k < length segments → s ≡ get_or segments k s
    → collections_in words (take (k + 1) segments) ≡ collections_in words (take k segments) ++ collection_in (words_in words s) ∷ []
collections-more words segments k s within is =
    let of : Segment → Collection = λ s. collection_in (words_in words s) in
    ap (map of) (take-more segments k s within is) ∙ map-append of (take k segments) (s ∷ [])

pub same-item : {X : Type 0} (xs : List X) (k : ℕ) (d e : X) → k < length xs → get_or xs k d ≡ get_or xs k e
same-item [] k d e within = absurd (omega (arith, within))
same-item (x ∷ xs) zero d e within = refl
same-item (x ∷ xs) (suc k) d e within = same-item xs k d e (omega (arith, within))

pub indexes-more : (words : List ℕ) (segments : List Segment) (k : ℕ) (s : Segment) → k < length segments → s ≡ get_or segments k s
    → All (λ s. s.first + s.count ≤ length words) segments → IsIndex (words_in words s) → AreIndexes words (take k segments) → AreIndexes words (take (k + 1) segments)
indexes-more words segments k s within is all index are = record {
  few = are.few;
  within = All-take (λ s. s.first + s.count ≤ length words) (k + 1) segments all;
  indexes = subst (All (λ s. IsIndex (words_in words s))) (sym (take-more segments k s within is))
      (All-append (λ s. IsIndex (words_in words s)) (take k segments) (s ∷ []) are.indexes
      (All-cons (λ s. IsIndex (words_in words s)) s [] index (All-nil (λ s. IsIndex (words_in words s)))));
}

pub own-few : (words own : List ℕ) (s : Segment) → length words < 2 ^ 57 → s.first + s.count ≤ length words → own ≡ words_in words s → length own < 2 ^ 57
own-few words own s few within of =
    let behind = length-drop s.first words in
    let taken = length-take-le s.count (drop s.first words) (omega (arith, behind, within)) in
    omega (arith, few, within, ap length of, taken)

-- what holds of those that were checked
pub record AreChecked (words : List ℕ) (segments : List Segment) (k : ℕ) (joined : Pushed) : Type 0 where
  pub pushed : joined ≡ pushed_of (collections_in words (take k segments))
  pub are : AreSegments words (take k segments)

pub checked-none : (words : List ℕ) (segments : List Segment) (joined : Pushed) → length words < 2 ^ 57 → joined ≡ pushed_of [] → AreChecked words segments 0 joined
checked-none words segments joined few none = record {
  pushed = none;
  are = record {
    indexes = record { few = few; within = All-nil (λ s. s.first + s.count ≤ length words); indexes = All-nil (λ s. IsIndex (words_in words s)) };
    together = record { terms = All-nil (λ c. length c.lists ≡ 0); documents = omega arith };
  };
}

pub checked-more : (words own : List ℕ) (segments : List Segment) (k : ℕ) (s : Segment) (before after : Pushed) (o : Option Unfit) → k < length segments → s ≡ get_or segments k s
    → own ≡ words_in words s → All (λ s. s.first + s.count ≤ length words) segments → is_some o ≡ false → AreChecked words segments k before
    → IfNone o (IsIndex own) → IfNone o (rule_broken before (collection_in own).documents (length (collection_in own).lists) ≡ None)
    → IfNone o (after ≡ with_segment before (collection_in own).documents (length (collection_in own).lists)) → AreChecked words segments (k + 1) after
checked-more words own segments k s before after (Some u) within is of all none so index fits pushed = absurd cc
checked-more words own segments k s before after None within is of all none so index fits pushed =
    let cs : List Collection = collections_in words (take k segments) in
    let c : Collection = collection_in own in
    let more : collections_in words (take (k + 1) segments) ≡ cs ++ c ∷ [] =
    collections-more words segments k s within is ∙ ap (λ ws. cs ++ collection_in ws ∷ []) (sym of) in
    let fit : rule_broken (pushed_of cs) c.documents (length c.lists) ≡ None = ap (λ p. rule_broken p c.documents (length c.lists)) (sym so.pushed) ∙ fits in
    record {
      pushed = pushed ∙ ap (λ p. with_segment p c.documents (length c.lists)) so.pushed ∙ with-pushed cs c ∙ ap pushed_of (sym more);
      are = record {
        indexes = indexes-more words segments k s within is all (subst IsIndex of index) so.are.indexes;
        together = subst FitTogether (sym more) (record { terms = alike-more cs c fit so.are.together.terms; documents = few-more cs c fit });
      };
    }

pub checked-all : (words : List ℕ) (segments : List Segment) (k : ℕ) (joined : Pushed) → length segments ≤ k → AreChecked words segments k joined → AreSegments words segments
checked-all words segments k joined past so = subst (AreSegments words) (take_all k segments past) so.are

-- one that does not fit is the first
pub first-unfit : (words own : List ℕ) (segments : List Segment) (k : ℕ) (s : Segment) (before : Pushed) (o : Option Unfit) → k < length segments → s ≡ get_or segments k s
    → own ≡ words_in words s → AreChecked words segments k before → IfSome o (IsUnfitBehind before own k) → IfSome o (IsUnfit words segments)
first-unfit words own segments k s before None within is of so unfit = tt
first-unfit words own segments k s before (Some (NoIndex fault)) within is of so unfit =
    let at : own ≡ words_in words (get_or segments k no_segment) = of ∙ ap (words_in words) (is ∙ same-item segments k s no_segment within) in
    record {
      s = k;
      within = within;
      before = so.are;
      none = subst (λ ws. ¬ IsIndex ws) at unfit.1;
      broken = unfit.0;
      first = subst (λ ws. IsFirstBroken ws unfit.0) at unfit.2;
      told = unfit.3;
    }
first-unfit words own segments k s before (Some (NoJoin fault)) within is of so unfit =
    let at : own ≡ words_in words (get_or segments k no_segment) = of ∙ ap (words_in words) (is ∙ same-item segments k s no_segment within) in
    let cs : List Collection = collections_in words (take k segments) in
    record {
      s = k;
      within = within;
      before = so.are;
      index = subst IsIndex at unfit.1;
      rule = unfit.0;
      breaks = subst (λ ws. rule_behind cs (collection_in ws) ≡ Some unfit.0) at
          (sym (rule-is cs (collection_in own)) ∙ ap (λ p. rule_broken p (collection_in own).documents (length (collection_in own).lists)) (sym so.pushed) ∙ unfit.2);
      told = unfit.3;
    }

-- ---- the numbers of refusals
places-number-by : (many there : Bool) (n : ℕ) (status : Status) → (if many then Some TooMany else if not there then Some NotWhole else None) ≡ Some status
    → (11 ≤ number_of status) × (number_of status ≤ 12)
places-number-by true there n status is = (let e : 11 ≡ number_of status = ap number-in is in omega (arith, e), let e : 11 ≡ number_of status = ap number-in is in omega (arith, e))
places-number-by false false n status is = (let e : 12 ≡ number_of status = ap number-in is in omega (arith, e), let e : 12 ≡ number_of status = ap number-in is in omega (arith, e))
places-number-by false true n status is = absurd (none-some status is)

pub places-number : (n : ℕ) (segments : List Segment) (status : Status) → places_refusal n segments ≡ Some status → (11 ≤ number_of status) × (number_of status ≤ 12)
places-number n segments status is = places-number-by (nat_lt most_segments (length segments)) (list_all (is_within n) segments) n status is

large-number : (b : Bool) (n : ℕ) (segments : List Segment) (status : Status) → (if b then Some TooLarge else places_refusal n segments) ≡ Some status
    → (10 ≤ number_of status) × (number_of status ≤ 12)
large-number true n segments status is = (let e : 10 ≡ number_of status = ap number-in is in omega (arith, e), let e : 10 ≡ number_of status = ap number-in is in omega (arith, e))
large-number false n segments status is = let both = places-number n segments status is in (omega (arith, both.0), both.1)

pub refusal-number : (n : ℕ) (segments : List Segment) (status : Status) → segments_refusal n segments ≡ Some status → (10 ≤ number_of status) × (number_of status ≤ 12)
refusal-number n segments status is = large-number (nat_le (2 ^ 57) n) n segments status is
