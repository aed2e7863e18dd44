-- The lines of an audit: pieces of its text one after the other, and what is known of the sequences of an index.
use Rattle.std.proofs.Common.{◌≡◌, refl, sym, ap, ◌∙◌, subst, ℕ, zero, suc, ◌+◌, ◌-◌, ◌*◌, ◌^◌, ◌<◌, ◌≤◌, inl, inr, Bool, true, false, nat_le, nat_lt, ◌&&◌, cond, List, [], ◌∷◌, ◌++◌, length, length-append, get_or, take, drop, append-nil, append_assoc, arith}
use Rattle.std.specs.Prelude.{Result, Ok, Err, OnOk, filter, count_by}
use Rattle.std.specs.List.{All}
use Rattle.std.specs.List.Sorted.{IsStrictlyIncreasing}
use Rattle.std.proofs.Math.Seq.{take-append-add}
use Rattle.std.proofs.lemmas.List.{take-append-le, drop_all, drop_more}
use Rattle.std.proofs.lemmas.List.Elements.{All-weaker, All-head, All-tail, All-nil, All-cons, All-filter, All-get_or, filter-append}
use Rattle.std.proofs.lemmas.List.Sums.{sum_by-append, sum_by-cons}
use Rattle.std.proofs.lemmas.Bool.{le-leb, lt-leb, lt-ltb, le-ltb}
use Rattle.collection_model.specs.FormatNumbers.{FormatNumbers, part_charge}
use Rattle.collection_model.specs.Collection.{Posting, WellFormed, docs_of, freqs_of, postings_of, IsPostingList, list_of}
use Rattle.collection_model.specs.Sequences.{doc_sequence}
use Rattle.collection_model.proofs.Lists.{docs_of-length, freqs_of-length, docs-of_postings, freqs-of_postings}
use Rattle.collection_model.proofs.Sequences.{sums-length}
use Rattle.part_cost.specs.declared.kinds.Which.{Which}
use Rattle.part_cost.specs.declared.kinds.Which.TheVariants.{Docs, Freqs}
use Rattle.part_cost.specs.Formats.{HasRoom, numbers_of}
use Rattle.part_cost.specs.Laws.{SingleIsAllowed}
use Rattle.part_cost.specs.Payload.{widest_low}
use Rattle.part_cost.specs.StoredBits.{stored_bits}
use Rattle.part_cost.specs.StoredLaws.{LeastInPackedFiles}
use Rattle.io_traits.specs.declared.fail.IoFail.{IoFail}
use Rattle.io_traits.specs.declared.fail.IoFail.TheVariants as call
use Rattle.io_traits.specs.Calls.{Rose}
use Rattle.io_traits.specs.SinkState.{SinkState}
use Rattle.postings.specs.Laws.{SequencesRise}
use Rattle.index_file.specs.FileWords.{CutList, ListParts, ArePartitions, with_parts}
use Rattle.index_file.specs.IndexView.{IndexView, cut_lists, cut_list_at}
use Rattle.pef_report.specs.AuditLine.{audit_line, audit_end}
use Rattle.command_model.specs.AuditText.{CutSequence, cut_sequence, sequences_from, sequences_in, longest_audited, has_line, is_longer, part_costs, IsAuditLine, AreAuditLines, fewest_counted, most_counted}
use Rattle.index_printing.specs.PrintLine.{PrintsLine}
use Rattle.index_printing.specs.PrintAudit.{PrintsAudit, PrintsLines, IsAudited}
use Rattle.index_printing.proofs.LeastCosts.{least-allowed, least-of-all}
use Rattle.index_printing.proofs.FewestBits.{fewest-exist}
use Rattle.index_printing.proofs.PrintedLine.{not-made}

counted-all : {P : Type 0} (r : Result (Unit {0}) IoFail) → P → OnOk r P
counted-all (Ok u) p = p
counted-all (Err e) p = tt

-- ---- pieces that are printed one after the other

abbrev Printed : Type 0
Printed = Result (Unit {0}) IoFail

pub prints-none : (o : SinkState) → PrintsLine [] o o (Ok tt)
prints-none o = record {
  tells = refl;
  whole = λ t. sym (append-nil o.written);
  prefix = λ t. tt;
  write_only_where_it_rose = λ h. let b : ◌≡◌ {A = Printed} (Ok tt) (Err call.Failed) = h in cc;
  count_rises_only_there = inr refl;
  counts_never_fall = (omega arith, omega arith);
}

same-count : (a b o : SinkState) (text : List ℕ) → PrintsLine text a b (Ok tt) → b.faults ≡ a.faults
same-count a b o text p = elim p.count_rises_only_there [ inl h ↦ absurd (let b : ◌≡◌ {A = Printed} (Ok tt) (Err call.Failed) = h in cc) | inr same ↦ same ]

pub prints-more : (x y : List ℕ) (a b c : SinkState) (r : Printed) → PrintsLine x a b (Ok tt) → PrintsLine y b c r → PrintsLine (x ++ y) a c r
prints-more x y a b c (Ok u) p q = record {
  tells = q.tells ∙ p.tells;
  whole = λ t. q.whole (p.tells ∙ t) ∙ ap (λ w. w ++ y) (p.whole t) ∙ append_assoc a.written x y;
  prefix = λ t. tt;
  write_only_where_it_rose = λ h. let b : ◌≡◌ {A = Printed} (Ok tt) (Err call.Failed) = h in cc;
  count_rises_only_there = inr (same-count b c a y q ∙ same-count a b a x p);
  counts_never_fall = (omega (arith, p.counts_never_fall.0, q.counts_never_fall.0), omega (arith, p.counts_never_fall.1, q.counts_never_fall.1));
}
prints-more x y a b c (Err e) p q = record {
  tells = q.tells ∙ p.tells;
  whole = λ t. tt;
  prefix = λ t.
      let f = q.prefix (p.tells ∙ t) in (
        length x + f.0,
        omega (arith, f.1, length-append x y),
        f.2 ∙ ap (λ w. w ++ take f.0 y) (p.whole t) ∙ append_assoc a.written x (take f.0 y) ∙ ap (λ w. a.written ++ w) (sym (take-append-add x y f.0)),
      );
  write_only_where_it_rose = λ h. let P : ℕ → Type 0 = λ n. Rose n c.faults in subst P (same-count a b a x p) (q.write_only_where_it_rose h);
  count_rises_only_there = elim q.count_rises_only_there [ inl h ↦ inl h | inr same ↦ inr (same ∙ same-count a b a x p) ];
  counts_never_fall = (omega (arith, p.counts_never_fall.0, q.counts_never_fall.0), omega (arith, p.counts_never_fall.1, q.counts_never_fall.1));
}

-- what would have come behind a piece that is refused
pub prints-stopped : (x y : List ℕ) (a b : SinkState) (e : IoFail) → PrintsLine x a b (Err e) → PrintsLine (x ++ y) a b (Err e)
prints-stopped x y a b e p = record {
  tells = p.tells;
  whole = λ t. tt;
  prefix = λ t. let f = p.prefix t in (f.0, omega (arith, f.1, length-append x y), f.2 ∙ ap (λ w. a.written ++ w) (sym (take-append-le f.0 x y f.1)));
  write_only_where_it_rose = p.write_only_where_it_rose;
  count_rises_only_there = p.count_rises_only_there;
  counts_never_fall = p.counts_never_fall;
}

-- ---- lines

pub lines-append : (format : FormatNumbers) (ss more : List CutSequence) (x y : List ℕ) → AreAuditLines format ss x → AreAuditLines format more y → AreAuditLines format (ss ++ more) (x ++ y)
lines-append format [] more x y p q = let P : List ℕ → Type 0 = λ text. AreAuditLines format more text in subst P (ap (λ w. w ++ y) (sym p)) q
lines-append format (s ∷ ss) more x y p q = (p.0, p.1 ++ y, p.2, lines-append format ss more p.1 y p.3 q, ap (λ w. w ++ y) p.4 ∙ append_assoc p.0 p.1 y)

pub one-line : (format : FormatNumbers) (s : CutSequence) (text : List ℕ) → IsAuditLine format s text → AreAuditLines format (s ∷ []) text
one-line format s text is = (text, [], is, refl, sym (append-nil text))

-- A sequence of which each number is allowed alone has a line.
pub record HasCosts (format : FormatNumbers) (s : CutSequence) : Type 0 where
  pub single : (j : ℕ) → j < length s.values → part_costs format s j (j + 1) ≤ format.limit
  pub least : LeastInPackedFiles

pub line-exists : (format : FormatNumbers) (s : CutSequence) → HasCosts format s → (text : List ℕ) × IsAuditLine format s text
line-exists format s has =
    let allowed = least-allowed format.limit (part_costs format s) (length s.values) has.single in
    let any = least-of-all format.limit (part_costs format s) (length s.values) has.single in
    let fewest = fewest-exist format s.values allowed.0 any.0 allowed.1 any.1 has.least in
    let bits = stored_bits format s.values s.ends in (
      audit_line s.term s.which bits fewest.0 fewest.1,
      (bits, fewest.0, fewest.1, record { in_file = refl; least_allowed = fewest.2.least_allowed; least_of_all = fewest.2.least_of_all }, refl),
    )

lines-exist : (format : FormatNumbers) (ss : List CutSequence) → All (HasCosts format) ss → (text : List ℕ) × AreAuditLines format ss text
lines-exist format [] all = ([], refl)
lines-exist format (s ∷ ss) all =
    let first = line-exists format s (All-head (HasCosts format) s ss all) in
    let rest = lines-exist format ss (All-tail (HasCosts format) s ss all) in
    (first.0 ++ rest.0, (first.0, rest.0, first.1, rest.1, refl))

-- the sequences behind some of them
behind-have : (format : FormatNumbers) (ss more : List CutSequence) → All (HasCosts format) (ss ++ more) → All (HasCosts format) more
behind-have format [] more all = all
behind-have format (s ∷ ss) more all = behind-have format ss more (All-tail (HasCosts format) s (ss ++ more) all)

-- so have those that are shown of some
shown-have : (format : FormatNumbers) (ss : List CutSequence) → All (HasCosts format) ss → All (HasCosts format) (filter has_line ss)
shown-have format ss all = All-filter has_line (HasCosts format) ss all

-- ---- the sequences of an index

pub record IsFit (format : FormatNumbers) (values : List ℕ) (count : ℕ) : Type 0 where
  pub rising : IsStrictlyIncreasing values
  pub below : All (λ x. x < format.most_sum) values
  pub count_is : length values ≡ count

pub fits : (format : FormatNumbers) → HasRoom format → SequencesRise → (n : ℕ) → n ≤ format.most_documents → (t : ℕ) (which : Which) (c : CutList) → IsPostingList format n c.list
    → IsFit format (cut_sequence t which c).values (length c.list)
fits format room rise n few t Docs c is =
    let r = rise format n c.list is in
    record { rising = r.docs_rise; below = All-weaker (λ d. d < n) (λ d. d < format.most_sum) (λ d l. omega (arith, l, few, room.documents)) (doc_sequence c.list) r.docs_below; count_is = r.docs_count }
fits format room rise n few t Freqs c is = let r = rise format n c.list is in record { rising = r.sums_rise; below = r.sums_below; count_is = r.sums_count }

has-costs : (format : FormatNumbers) → HasRoom format → SingleIsAllowed → LeastInPackedFiles → (s : CutSequence) (count : ℕ) → IsFit format s.values count → HasCosts format s
has-costs format room single least s count fit = record {
  single = single (part_charge format) format.limit room.single s.values fit.rising
      (All-weaker (λ x. x < format.most_sum) (λ x. x < 2 ^ widest_low) (λ x l. omega (arith, l, room.sums)) s.values fit.below);
  least = least;
}

pub sequence-fits : (i : IndexView) → HasRoom (numbers_of i.format) → SequencesRise → WellFormed (numbers_of i.format) i.collection → (t : ℕ) → t < length i.collection.lists → (which : Which)
    → IsFit (numbers_of i.format) (cut_sequence t which (cut_list_at i t)).values (length (list_of i.collection t))
sequence-fits i room rise good t within which =
    fits (numbers_of i.format) room rise i.collection.documents good.documents t which (cut_list_at i t)
    (All-get_or (IsPostingList (numbers_of i.format) i.collection.documents) i.collection.lists t [] within good.lists)

pub sequence-has : (i : IndexView) → HasRoom (numbers_of i.format) → SequencesRise → SingleIsAllowed → LeastInPackedFiles → WellFormed (numbers_of i.format) i.collection → (t : ℕ) → t < length i.collection.lists
    → (which : Which) → HasCosts (numbers_of i.format) (cut_sequence t which (cut_list_at i t))
sequence-has i room rise single least good t within which =
    has-costs (numbers_of i.format) room single least (cut_sequence t which (cut_list_at i t)) (length (list_of i.collection t)) (sequence-fits i room rise good t within which)

all-have : (format : FormatNumbers) → HasRoom format → SequencesRise → SingleIsAllowed → LeastInPackedFiles → (n : ℕ) → n ≤ format.most_documents → (t : ℕ) (lists : List (List Posting)) (parts : List ListParts)
    → All (IsPostingList format n) lists → All (HasCosts format) (sequences_from t (with_parts lists parts))
all-have format room rise single least n few t [] parts are = All-nil (HasCosts format)
all-have format room rise single least n few t (list ∷ lists) [] are = All-nil (HasCosts format)
all-have format room rise single least n few t (list ∷ lists) (p ∷ parts) are =
    let c : CutList = record { list = list; parts = p } in
    let is = All-head (IsPostingList format n) list lists are in
    let rest = all-have format room rise single least n few (t + 1) lists parts (All-tail (IsPostingList format n) list lists are) in
    let more = sequences_from (t + 1) (with_parts lists parts) in
    All-cons (HasCosts format) (cut_sequence t Docs c) (cut_sequence t Freqs c ∷ more) (has-costs format room single least (cut_sequence t Docs c) (length list) (fits format room rise n few t Docs c is))
    (All-cons (HasCosts format) (cut_sequence t Freqs c) more (has-costs format room single least (cut_sequence t Freqs c) (length list) (fits format room rise n few t Freqs c is)) rest)

-- both sequences of a list have as many numbers as the list
pub values-count : (t : ℕ) (which : Which) (c : CutList) → length (cut_sequence t which c).values ≡ length c.list
values-count t Docs c = docs_of-length c.list
values-count t Freqs c = sums-length 0 (freqs_of c.list) ∙ freqs_of-length c.list

-- the documents and frequencies of a list
pub record IsListOf (i : IndexView) (t : ℕ) (docs freqs : List ℕ) : Type 0 where
  pub good : IsPostingList (numbers_of i.format) i.collection.documents (list_of i.collection t)
  pub docs_are : docs_of (list_of i.collection t) ≡ docs
  pub freqs_are : freqs_of (list_of i.collection t) ≡ freqs

pub list-is : (i : IndexView) → WellFormed (numbers_of i.format) i.collection → (t : ℕ) → t < length i.collection.lists → (docs freqs : List ℕ) → length docs ≡ length freqs
    → postings_of docs freqs ≡ list_of i.collection t → IsListOf i t docs freqs
list-is i good t within docs freqs same is = record {
  good = All-get_or (IsPostingList (numbers_of i.format) i.collection.documents) i.collection.lists t [] within good.lists;
  docs_are = sym (ap docs_of is) ∙ docs-of_postings docs freqs same;
  freqs_are = sym (ap freqs_of is) ∙ freqs-of_postings docs freqs same;
}

pub index-has : (i : IndexView) → HasRoom (numbers_of i.format) → SequencesRise → SingleIsAllowed → LeastInPackedFiles → WellFormed (numbers_of i.format) i.collection → All (HasCosts (numbers_of i.format)) (sequences_in i)
index-has i room rise single least good = all-have (numbers_of i.format) room rise single least i.collection.documents good.documents 0 i.collection.lists i.parts good.lists

-- ---- which have a line

in-line : (s : CutSequence) (n : ℕ) → length s.values ≡ n → 1 ≤ n → n ≤ longest_audited → (has_line s ≡ true) × (is_longer s ≡ false)
in-line s n is some few = (ap (λ k. nat_le 1 k && nat_le k longest_audited) is ∙ (λ j. le-leb 1 n some j && le-leb n longest_audited few j), ap (λ k. nat_lt longest_audited k) is ∙ le-ltb longest_audited n few)

too-long : (s : CutSequence) (n : ℕ) → length s.values ≡ n → longest_audited < n → (has_line s ≡ false) × (is_longer s ≡ true)
too-long s n is many = (ap (λ k. nat_le 1 k && nat_le k longest_audited) is ∙ (λ j. le-leb 1 n (omega (arith, many)) j && lt-leb n longest_audited many j), ap (λ k. nat_lt longest_audited k) is ∙ lt-ltb longest_audited n many)

without-values : (s : CutSequence) (n : ℕ) → length s.values ≡ n → n ≡ 0 → (has_line s ≡ false) × (is_longer s ≡ false)
without-values s n is none = (ap (λ k. nat_le 1 k && nat_le k longest_audited) (is ∙ none), ap (λ k. nat_lt longest_audited k) (is ∙ none))

keeps : {X : Type 0} (p : X → Bool) (s r : X) → p s ≡ true → p r ≡ true → filter p (s ∷ r ∷ []) ≡ s ∷ r ∷ []
keeps p s r a b = rw (a, b) refl

drops : {X : Type 0} (p : X → Bool) (s r : X) → p s ≡ false → p r ≡ false → filter p (s ∷ r ∷ []) ≡ []
drops p s r a b = rw (a, b) refl

counts-two : {X : Type 0} (p : X → Bool) (s r : X) → p s ≡ true → p r ≡ true → count_by p (s ∷ r ∷ []) ≡ 2
counts-two p s r a b = rw (a, b) refl

counts-none : {X : Type 0} (p : X → Bool) (s r : X) → p s ≡ false → p r ≡ false → count_by p (s ∷ r ∷ []) ≡ 0
counts-none p s r a b = rw (a, b) refl

count-append : {X : Type 0} (p : X → Bool) (xs ys : List X) → count_by p (xs ++ ys) ≡ count_by p xs + count_by p ys
count-append p xs ys = sum_by-append (λ x. cond (p x) 1 0) xs ys

-- ---- the lists of an index, one after the other

abbrev no_list : CutList
no_list = record { list = []; parts = record { doc_ends = []; freq_ends = [] } }

lists-count : (lists : List (List Posting)) (parts : List ListParts) → ArePartitions lists parts → length (with_parts lists parts) ≡ length lists
lists-count [] [] h = refl
lists-count [] (p ∷ parts) h = absurd h
lists-count (l ∷ lists) [] h = absurd h
lists-count (l ∷ lists) (p ∷ parts) h = ap suc (lists-count lists parts h.2)

list-at : (lists : List (List Posting)) (parts : List ListParts) → ArePartitions lists parts → (t : ℕ) → t < length lists
    → get_or (with_parts lists parts) t no_list ≡ record { list = get_or lists t []; parts = get_or parts t (record { doc_ends = []; freq_ends = [] }) }
list-at [] parts h t within = absurd (omega (arith, within))
list-at (l ∷ lists) [] h t within = absurd h
list-at (l ∷ lists) (p ∷ parts) h zero within = refl
list-at (l ∷ lists) (p ∷ parts) h (suc t) within = list-at lists parts h.2 t (omega (arith, within))

module _ (i : IndexView) (cut : ArePartitions i.collection.lists i.parts) where
  abbrev Format : FormatNumbers
  Format = numbers_of i.format

  -- the two sequences of a list
  abbrev pub two : ℕ → List CutSequence
  two t = cut_sequence t Docs (cut_list_at i t) ∷ cut_sequence t Freqs (cut_list_at i t) ∷ []

  -- what comes from a list on
  abbrev rest-from : ℕ → List CutSequence
  rest-from t = sequences_from t (drop t (cut_lists i))

  next-two : (t : ℕ) → t < length i.collection.lists → rest-from t ≡ two t ++ rest-from (t + 1)
  next-two t within =
      ap (sequences_from t) (drop_more (cut_lists i) t no_list (omega (arith, within, lists-count i.collection.lists i.parts cut))
      ∙ ap (λ c. c ∷ drop (t + 1) (cut_lists i)) (list-at i.collection.lists i.parts cut t within))

  pub audited-none : (o : SinkState) (s : ℕ) → IsAudited i 0 o o s s 0 0
  audited-none o s = record { done = []; text = []; all = refl; lines = refl; prints = prints-none o; counted = omega arith; bounded = omega arith; shown_is = refl; longer_is = refl; few = omega arith }

  more-done : (t : ℕ) (done : List CutSequence) → t < length i.collection.lists → sequences_in i ≡ done ++ rest-from t → sequences_in i ≡ (done ++ two t) ++ rest-from (t + 1)
  more-done t done within all = all ∙ ap (λ r. done ++ r) (next-two t within) ∙ sym (append_assoc done (two t) (rest-from (t + 1)))

  same-shown : (t : ℕ) (done : List CutSequence) → filter has_line (two t) ≡ [] → filter has_line (done ++ two t) ≡ filter has_line done
  same-shown t done none = filter-append has_line done (two t) ∙ ap (λ r. filter has_line done ++ r) none ∙ append-nil (filter has_line done)

  -- a list without postings
  pub audited-empty : (t : ℕ) (old now : SinkState) (before after shown longer : ℕ) → t < length i.collection.lists → length (list_of i.collection t) ≡ 0
      → IsAudited i t old now before after shown longer → IsAudited i (t + 1) old now before after shown longer
  audited-empty t old now before after shown longer within empty h =
      let c = cut_list_at i t in
      let d = without-values (cut_sequence t Docs c) _ (values-count t Docs c) empty in
      let f = without-values (cut_sequence t Freqs c) _ (values-count t Freqs c) empty in
      let same = same-shown t h.done (drops has_line (cut_sequence t Docs c) (cut_sequence t Freqs c) d.0 f.0) in
      record {
        done = h.done ++ two t;
        text = h.text;
        all = more-done t h.done within h.all;
        lines = let P : List CutSequence → Type 0 = λ ss. AreAuditLines Format ss h.text in subst P (sym same) h.lines;
        prints = h.prints;
        counted = let P : List CutSequence → Type 0 = λ ss. before + fewest_counted ss ≤ after in subst P (sym same) h.counted;
        bounded = let P : List CutSequence → Type 0 = λ ss. after ≤ before + most_counted ss in subst P (sym same) h.bounded;
        shown_is = omega (arith, h.shown_is, count-append has_line h.done (two t), counts-none has_line (cut_sequence t Docs c) (cut_sequence t Freqs c) d.0 f.0);
        longer_is = omega (arith, h.longer_is, count-append is_longer h.done (two t), counts-none is_longer (cut_sequence t Docs c) (cut_sequence t Freqs c) d.1 f.1);
        few = omega (arith, h.few);
      }

  -- all lists from one on, where they have no postings
  audited-all-empty : (k t : ℕ) (old now : SinkState) (before after shown longer : ℕ) → t + k ≤ length i.collection.lists → ((s : ℕ) → t ≤ s → list_of i.collection s ≡ [])
      → IsAudited i t old now before after shown longer → IsAudited i (t + k) old now before after shown longer
  audited-all-empty zero t old now before after shown longer within empty h = subst (λ n. IsAudited i n old now before after shown longer) (let e : t ≡ t + 0 = omega arith in e) h
  audited-all-empty (suc k) t old now before after shown longer within empty h =
      subst (λ n. IsAudited i n old now before after shown longer) (let e : t + 1 + k ≡ t + suc k = omega arith in e)
      (audited-all-empty k (t + 1) old now before after shown longer (omega (arith, within)) (λ s le. empty s (omega (arith, le)))
      (audited-empty t old now before after shown longer (omega (arith, within)) (ap length (empty t (omega arith))) h))

  pub audited-rest : (t : ℕ) (old now : SinkState) (before after shown longer : ℕ) → t ≤ length i.collection.lists → ((s : ℕ) → t ≤ s → list_of i.collection s ≡ [])
      → IsAudited i t old now before after shown longer → IsAudited i (length i.collection.lists) old now before after shown longer
  audited-rest t old now before after shown longer within empty h =
      subst (λ n. IsAudited i n old now before after shown longer) (let e : t + (length i.collection.lists - t) ≡ length i.collection.lists = omega (arith, within) in e)
      (audited-all-empty (length i.collection.lists - t) t old now before after shown longer (omega (arith, within)) empty h)

  -- a list that is too long
  pub audited-longer : (t : ℕ) (old now : SinkState) (before after shown longer : ℕ) → t < length i.collection.lists → longest_audited < length (list_of i.collection t)
      → IsAudited i t old now before after shown longer → IsAudited i (t + 1) old now before after shown (longer + 2)
  audited-longer t old now before after shown longer within many h =
      let c = cut_list_at i t in
      let d = too-long (cut_sequence t Docs c) _ (values-count t Docs c) many in
      let f = too-long (cut_sequence t Freqs c) _ (values-count t Freqs c) many in
      let same = same-shown t h.done (drops has_line (cut_sequence t Docs c) (cut_sequence t Freqs c) d.0 f.0) in
      record {
        done = h.done ++ two t;
        text = h.text;
        all = more-done t h.done within h.all;
        lines = let P : List CutSequence → Type 0 = λ ss. AreAuditLines Format ss h.text in subst P (sym same) h.lines;
        prints = h.prints;
        counted = let P : List CutSequence → Type 0 = λ ss. before + fewest_counted ss ≤ after in subst P (sym same) h.counted;
        bounded = let P : List CutSequence → Type 0 = λ ss. after ≤ before + most_counted ss in subst P (sym same) h.bounded;
        shown_is = omega (arith, h.shown_is, count-append has_line h.done (two t), counts-none has_line (cut_sequence t Docs c) (cut_sequence t Freqs c) d.0 f.0);
        longer_is = omega (arith, h.longer_is, count-append is_longer h.done (two t), counts-two is_longer (cut_sequence t Docs c) (cut_sequence t Freqs c) d.1 f.1);
        few = omega (arith, h.few);
      }

  -- a list whose two lines are shown
  module _ (t : ℕ) (old now new : SinkState) (before middle after shown longer : ℕ) (within : t < length i.collection.lists) (some : 1 ≤ length (list_of i.collection t))
      (short : length (list_of i.collection t) ≤ longest_audited) (h : IsAudited i t old now before middle shown longer) where
    kept : filter has_line (two t) ≡ two t
    kept =
        keeps has_line (cut_sequence t Docs (cut_list_at i t)) (cut_sequence t Freqs (cut_list_at i t)) (in-line (cut_sequence t Docs (cut_list_at i t)) _ (values-count t Docs (cut_list_at i t)) some short).0
        (in-line (cut_sequence t Freqs (cut_list_at i t)) _ (values-count t Freqs (cut_list_at i t)) some short).0

    shown-more : filter has_line (h.done ++ two t) ≡ filter has_line h.done ++ two t
    shown-more = filter-append has_line h.done (two t) ∙ ap (λ r. filter has_line h.done ++ r) kept

    pub audited-shown : PrintsLines Format (two t) now new middle after (Ok tt) → IsAudited i (t + 1) old new before after (shown + 2) longer
    audited-shown p =
        let d = in-line (cut_sequence t Docs (cut_list_at i t)) _ (values-count t Docs (cut_list_at i t)) some short in
        let f = in-line (cut_sequence t Freqs (cut_list_at i t)) _ (values-count t Freqs (cut_list_at i t)) some short in
        record {
          done = h.done ++ two t;
          text = h.text ++ p.text;
          all = more-done t h.done within h.all;
          lines = let P : List CutSequence → Type 0 = λ ss. AreAuditLines Format ss (h.text ++ p.text) in subst P (sym shown-more) (lines-append Format (filter has_line h.done) (two t) h.text p.text h.lines p.lines);
          prints = prints-more h.text p.text old now new (Ok tt) h.prints p.prints;
          counted = omega (arith, h.counted, p.counted, ap fewest_counted shown-more, sum_by-append (λ (s : CutSequence). 2 * length s.values) (filter has_line h.done) (two t));
          bounded = omega (arith, h.bounded, p.bounded, ap most_counted shown-more, sum_by-append (λ (s : CutSequence). length s.values * (length s.values + 1)) (filter has_line h.done) (two t));
          shown_is = omega (arith, h.shown_is, count-append has_line h.done (two t), counts-two has_line (cut_sequence t Docs (cut_list_at i t)) (cut_sequence t Freqs (cut_list_at i t)) d.0 f.0);
          longer_is = omega (arith, h.longer_is, count-append is_longer h.done (two t), counts-none is_longer (cut_sequence t Docs (cut_list_at i t)) (cut_sequence t Freqs (cut_list_at i t)) d.1 f.1);
          few = omega (arith, h.few);
        }

    -- or they are refused
    pub audit-stopped : All (HasCosts Format) (sequences_in i) → (e : IoFail) → PrintsLines Format (two t) now new middle after (Err e) → PrintsAudit i old new before after (Err e)
    audit-stopped have e p =
        let all = more-done t h.done within h.all in
        let tail = filter has_line (rest-from (t + 1)) in
        let rest = lines-exist Format tail (shown-have Format (rest-from (t + 1)) (behind-have Format (h.done ++ two t) (rest-from (t + 1)) (subst (All (HasCosts Format)) all have))) in
        let end = audit_end (count_by has_line (sequences_in i)) (count_by is_longer (sequences_in i)) in
        let shown : filter has_line (sequences_in i) ≡ (filter has_line h.done ++ two t) ++ tail =
        ap (filter has_line) all ∙ filter-append has_line (h.done ++ two t) (rest-from (t + 1)) ∙ ap (λ r. r ++ tail) shown-more in
        let P : List CutSequence → Type 0 = λ ss. AreAuditLines Format ss ((h.text ++ p.text) ++ rest.0) in
        record {
          text = h.text ++ (p.text ++ (rest.0 ++ end));
          audit = (
            (h.text ++ p.text) ++ rest.0,
            subst P (sym shown) (lines-append Format (filter has_line h.done ++ two t) tail (h.text ++ p.text) rest.0 (lines-append Format (filter has_line h.done) (two t) h.text p.text h.lines p.lines) rest.1),
            sym (append_assoc (h.text ++ p.text) rest.0 end ∙ append_assoc h.text p.text (rest.0 ++ end)),
          );
          prints = prints-more h.text (p.text ++ (rest.0 ++ end)) old now new (Err e) h.prints (prints-stopped p.text (rest.0 ++ end) now new e p.prints);
          counted = tt;
          bounded = omega (
            arith,
            h.bounded,
            p.bounded,
            ap most_counted shown,
            sum_by-append (λ (s : CutSequence). length s.values * (length s.values + 1)) (filter has_line h.done ++ two t) tail,
            sum_by-append (λ (s : CutSequence). length s.values * (length s.values + 1)) (filter has_line h.done) (two t),
          );
        }

  -- all lists are audited, and the last line is printed or not
  pub audit-ends : (t : ℕ) (old now new : SinkState) (before after shown longer : ℕ) (r : Printed) (end : List ℕ) → length i.collection.lists ≤ t → IsAudited i t old now before after shown longer
      → end ≡ audit_end shown longer → PrintsLine end now new r → PrintsAudit i old new before after r
  audit-ends t old now new before after shown longer r end past h is p =
      let none : rest-from t ≡ [] = ap (sequences_from t) (drop_all t (cut_lists i) (omega (arith, past, lists-count i.collection.lists i.parts cut))) in
      let all : h.done ≡ sequences_in i = sym (append-nil h.done) ∙ ap (λ r. h.done ++ r) (sym none) ∙ sym h.all in
      let P : List CutSequence → Type 0 = λ ss. AreAuditLines Format (filter has_line ss) h.text in
      let Q : List CutSequence → Type 0 = λ ss. after ≤ before + most_counted (filter has_line ss) in
      record {
        text = h.text ++ end;
        audit = (
          h.text,
          subst P all h.lines,
          ap (λ e. h.text ++ e) (is ∙ (λ j. audit_end (h.shown_is j) (h.longer_is j)) ∙ ap (λ ss. audit_end (count_by has_line ss) (count_by is_longer ss)) all),
        );
        prints = prints-more h.text end old now new r h.prints p;
        counted = counted-all r (let F : List CutSequence → Type 0 = λ ss. before + fewest_counted (filter has_line ss) ≤ after in subst F all h.counted);
        bounded = subst Q all h.bounded;
      }

-- ---- the two lines of a list

-- what is counted of one sequence
most-one : (s : CutSequence) → most_counted (s ∷ []) ≡ length s.values * (length s.values + 1)
most-one s = omega (arith, sum_by-cons (λ (s : CutSequence). length s.values * (length s.values + 1)) s [])

fewest-one : (s : CutSequence) → fewest_counted (s ∷ []) ≡ 2 * length s.values
fewest-one s = omega (arith, sum_by-cons (λ (s : CutSequence). 2 * length s.values) s [])

-- the line was made, and printed or not
pub line-printed : (format : FormatNumbers) (s : CutSequence) (values line : List ℕ) (old new : SinkState) (before after : ℕ) (r : Printed) → values ≡ s.values → IsAuditLine format s line
    → PrintsLine line old new r → before + 2 * length values ≤ after → after ≤ before + length values * (length values + 1) → PrintsLines format (s ∷ []) old new before after r
line-printed format s values line old new before after r is made p counted bounded =
    let P : List ℕ → Type 0 = λ vs. after ≤ before + length vs * (length vs + 1) in
    record {
      text = line;
      lines = one-line format s line made;
      prints = p;
      counted = counted-all r (omega (arith, counted, ap length is, fewest-one s));
      bounded = omega (arith, subst P is bounded, most-one s);
    }

-- or it was not made
pub line-unmade : (format : FormatNumbers) (s : CutSequence) (values : List ℕ) (old : SinkState) (before after : ℕ) → values ≡ s.values → HasCosts format s
    → after ≤ before + length values * (length values + 1) → PrintsLines format (s ∷ []) old old before after (Err call.NoMemory)
line-unmade format s values old before after is have bounded =
    let line = line-exists format s have in
    let P : List ℕ → Type 0 = λ vs. after ≤ before + length vs * (length vs + 1) in
    record {
      text = line.0;
      lines = one-line format s line.0 line.1;
      prints = not-made line.0 old;
      counted = tt;
      bounded = omega (arith, subst P is bounded, most-one s);
    }

-- the first is refused
pub first-refused : (format : FormatNumbers) (s r : CutSequence) (old new : SinkState) (before after : ℕ) (e : IoFail) → HasCosts format r
    → PrintsLines format (s ∷ []) old new before after (Err e) → PrintsLines format (s ∷ r ∷ []) old new before after (Err e)
first-refused format s r old new before after e have p =
    let line = line-exists format r have in
    record {
      text = p.text ++ line.0;
      lines = lines-append format (s ∷ []) (r ∷ []) p.text line.0 p.lines (one-line format r line.0 line.1);
      prints = prints-stopped p.text line.0 old new e p.prints;
      counted = tt;
      bounded = omega (arith, p.bounded, sum_by-append (λ (s : CutSequence). length s.values * (length s.values + 1)) (s ∷ []) (r ∷ []));
    }

-- it is printed, and the second then or not
pub second-printed : (format : FormatNumbers) (s t : CutSequence) (old now new : SinkState) (before middle after : ℕ) (r : Printed)
    → PrintsLines format (s ∷ []) old now before middle (Ok tt) → PrintsLines format (t ∷ []) now new middle after r → PrintsLines format (s ∷ t ∷ []) old new before after r
second-printed format s t old now new before middle after r p q = record {
  text = p.text ++ q.text;
  lines = lines-append format (s ∷ []) (t ∷ []) p.text q.text p.lines q.lines;
  prints = prints-more p.text q.text old now new r p.prints q.prints;
  counted = both-counted r q.counted;
  bounded = omega (arith, p.bounded, q.bounded, sum_by-append (λ (s : CutSequence). length s.values * (length s.values + 1)) (s ∷ []) (t ∷ []));
}
  where
    both-counted : (r : Printed) → OnOk r (middle + fewest_counted (t ∷ []) ≤ after) → OnOk r (before + fewest_counted (s ∷ t ∷ []) ≤ after)
    both-counted (Ok u) h = omega (arith, h, p.counted, sum_by-append (λ (s : CutSequence). 2 * length s.values) (s ∷ []) (t ∷ []))
    both-counted (Err e) h = tt

-- none is made
pub none-made : (format : FormatNumbers) (s t : CutSequence) (old : SinkState) (before : ℕ) → HasCosts format s → HasCosts format t
    → PrintsLines format (s ∷ t ∷ []) old old before before (Err call.NoMemory)
none-made format s t old before have more =
    first-refused format s t old old before before call.NoMemory more (line-unmade format s s.values old before before refl have (omega arith))
