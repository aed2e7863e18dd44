-- How many bytes a reply takes.
use Rattle.std.proofs.Common.{◌≡◌, refl, sym, ap, ◌∙◌, subst, ℕ, zero, suc, ◌+◌, ◌*◌, ◌^◌, ◌<◌, ◌≤◌, Bool, true, false, cond, eqb, List, [], ◌∷◌, ◌++◌, length, map, get_or, take, decimal, arith}
use Rattle.std.specs.Prelude.{◌||◌, ◌==◌, min, nat_le, Option, Some, Result, Ok, Err, MatchResult, sum}
use Rattle.std.specs.List.{All, filter, find, flat_map, fold, list_all, list_any, range_with_len, sum_by, zip}
use Rattle.std.specs.Option.{option_map, unwrap_or}
use Rattle.std.proofs.Math.Nat.{le-min}
use Rattle.std.proofs.lemmas.Bool.{eqb-true, ne_eqb}
use Rattle.std.proofs.lemmas.Fmt.{length-decimal-le}
use Rattle.std.proofs.lemmas.List.{length-append, map-append, take_all}
use Rattle.std.proofs.lemmas.List.Concat.{length-flat_map}
use Rattle.std.proofs.lemmas.List.Elements.{All-contains, All-filter, All-get_or, All-head, All-map, All-tail, All-weaker}
use Rattle.std.proofs.lemmas.List.FromFn.{get_or-range_with_len, length-range_with_len}
use Rattle.std.proofs.lemmas.List.Sums.{AllPass-from_list_all, count_by-le-length, fold-append, length-filter, sum_by-cons, sum_by-le, sum_by_push}
use Rattle.std.proofs.lemmas.Nat.{mul-le}
use Rattle.std.proofs.Math.Seq.{take-suc}
use Rattle.collection_model.specs.FormatNumbers.{FormatNumbers}
use Rattle.collection_model.specs.Collection.{Posting, Collection, WellFormed, IsPostingList, docs_of, first_at_least, freqs_of, list_of}
use Rattle.part_cost.specs.declared.formats.Format.{Format}
use Rattle.part_cost.specs.declared.formats.Format.TheVariants.{One, Two, Three}
use Rattle.part_cost.specs.Formats.{numbers_of}
use Rattle.query_text.specs.declared.query.Bad.{Bad}
use Rattle.query_text.specs.declared.query.Bad.TheVariants as bad
use Rattle.query_text.specs.declared.query.Query.{Query}
use Rattle.query_text.specs.declared.query.Query.TheVariants.{Next, And, Or, Top}
use Rattle.query_text.specs.Lines.{newline, space}
use Rattle.query_text.specs.declared.query.ParseError.{ParseError}
use Rattle.query_text.specs.declared.query.ParseError.TheVariants as parse_error
use Rattle.query_text.specs.Parse.{NamesTerms, Parses, parse_line}
use Rattle.query_text.specs.Texts.{bad_text, colon, list_text, next_text, top_text}
use Rattle.scan_plans.specs.Matches.{freq_of_doc, has_doc, in_all, in_any, score}
use Rattle.scan_plans.specs.IsTop.{IsTop}
use Rattle.command_model.specs.Replies.{IsAnswer, IsReply}
use Rattle.pefidx_c.specs.Asked.{lists_of}
use Rattle.pefidx_c.specs.ReplyRoom.{most_in_all, most_in_any, parsed_bytes, query_bytes, reply_bytes}

-- ---- the digits of numbers
doc-digits : (n : ℕ) → n < 2 ^ 32 → length (decimal n) ≤ 10
doc-digits n fits = length-decimal-le 10 n (omega arith) (omega arith) (omega arith)

score-digits : (n : ℕ) → n < 2 ^ 58 → length (decimal n) ≤ 18
score-digits n fits = length-decimal-le 18 n (omega arith) (omega arith) (omega arith)

-- ---- the texts of some elements
texts-fit : {A : Type 0} (f : A → List ℕ) (m : ℕ) (xs : List A) → All (λ x. length (f x) ≤ m) xs
    → length (flat_map f xs) ≤ length xs * m
texts-fit f m xs fit =
    subst (λ n. n ≤ length xs * m) (sym (length-flat_map f xs)) (sum_by-le (λ x. length (f x)) m xs fit)

list-fits : (docs : List ℕ) → length docs < 2 ^ 32 → All (λ d. d < 2 ^ 32) docs
    → length (list_text docs) ≤ 11 + 11 * length docs
list-fits docs few fit =
    let f : ℕ → List ℕ = λ d. space ∷ decimal d in
    let texts = texts-fit f 11 docs
    (All-weaker (λ d. d < 2 ^ 32) (λ d. length (f d) ≤ 11) (λ d lt. let l = doc-digits d lt in omega arith) docs fit) in
    let count = doc-digits (length docs) few in
    let whole : length (list_text docs) ≡ length (decimal (length docs) ++ flat_map f docs) + 1 =
    length-append (decimal (length docs) ++ flat_map f docs) (newline ∷ []) in
    omega (arith, texts, count, whole, length-append (decimal (length docs)) (flat_map f docs))

pair-fits : (d s : ℕ) → d < 2 ^ 32 → s < 2 ^ 58 → length (space ∷ decimal d ++ colon ∷ decimal s) ≤ 30
pair-fits d s doc light =
    let l = doc-digits d doc in
    let m = score-digits s light in
    omega (arith, l, m, length-append (decimal d) (colon ∷ decimal s))

top-fits : (r : List (ℕ × ℕ)) → length r < 2 ^ 32 → All (λ e. (e.0 < 2 ^ 32) × (e.1 < 2 ^ 58)) r
    → length (top_text r) ≤ 11 + 30 * length r
top-fits r few fit =
    let f : ℕ × ℕ → List ℕ = λ e. space ∷ decimal e.0 ++ colon ∷ decimal e.1 in
    let texts = texts-fit f 30 r
    (All-weaker (λ e. (e.0 < 2 ^ 32) × (e.1 < 2 ^ 58)) (λ e. length (f e) ≤ 30) (λ e is. pair-fits e.0 e.1 is.0 is.1) r fit) in
    let count = doc-digits (length r) few in
    let whole : length (top_text r) ≡ length (decimal (length r) ++ flat_map f r) + 1 =
    length-append (decimal (length r) ++ flat_map f r) (newline ∷ []) in
    omega (arith, texts, count, whole, length-append (decimal (length r)) (flat_map f r))

posting-fits : (d f : ℕ) → d < 2 ^ 32 → f < 2 ^ 32 → length (next_text (Some (d, f))) ≤ 22
posting-fits d f doc freq =
    let l = doc-digits d doc in
    let m = doc-digits f freq in
    let whole : length (next_text (Some (d, f))) ≡ length (decimal d ++ space ∷ decimal f) + 1 =
    length-append (decimal d ++ space ∷ decimal f) (newline ∷ []) in
    omega (arith, l, m, whole, length-append (decimal d) (space ∷ decimal f))

abbrev pair_of : Posting → ℕ × ℕ
pair_of p = (p.doc, p.freq)

next-step : (here : Bool) (p : Posting) (o : Option Posting) → p.doc < 2 ^ 32 → p.freq < 2 ^ 32 → length (next_text (option_map pair_of o)) ≤ 22
    → length (next_text (option_map pair_of (cond here (Some p) o))) ≤ 22
next-step true p o doc freq more = posting-fits p.doc p.freq doc freq
next-step false p o doc freq more = more

next-fits : (d : ℕ) (list : List Posting) → All (λ x. x < 2 ^ 32) (docs_of list) → All (λ f. f < 2 ^ 32) (freqs_of list)
    → length (next_text (option_map pair_of (first_at_least list d))) ≤ 22
next-fits d [] docs freqs = omega arith
next-fits d (p ∷ list) docs freqs =
    next-step (nat_le d p.doc) p (first_at_least list d)
    (All-head (λ x. x < 2 ^ 32) p.doc (docs_of list) docs) (All-head (λ f. f < 2 ^ 32) p.freq (freqs_of list) freqs)
    (next-fits d list (All-tail (λ x. x < 2 ^ 32) p.doc (docs_of list) docs) (All-tail (λ f. f < 2 ^ 32) p.freq (freqs_of list) freqs))

-- the text of a broken rule
pub bad-fits : (rule : Bad) → length (bad_text rule) ≤ 11
bad-fits bad.Length = omega arith
bad-fits bad.Verb = omega arith
bad-fits bad.Number = omega arith
bad-fits bad.Weight = omega arith
bad-fits bad.Terms = omega arith
bad-fits bad.Term = omega arith

-- ---- how many documents two tests keep
either-step : {X : Type 0} (a b : Bool) (x : X) (all some others : List X) → length all ≤ length some + length others
    → length (cond (a || b) (x ∷ all) all) ≤ length (cond a (x ∷ some) some) + length (cond b (x ∷ others) others)
either-step true true x all some others le = omega arith
either-step true false x all some others le = omega arith
either-step false true x all some others le = omega arith
either-step false false x all some others le = omega arith

kept-by_either : {X : Type 0} (p q : X → Bool) (xs : List X) → length (filter (λ x. p x || q x) xs) ≤ length (filter p xs) + length (filter q xs)
kept-by_either p q [] = omega arith
kept-by_either p q (x ∷ xs) = either-step (p x) (q x) x (filter (λ x. p x || q x) xs) (filter p xs) (filter q xs) (kept-by_either p q xs)

kept-by_none : {X : Type 0} (xs : List X) → length (filter (λ (x : X). false) xs) ≡ 0
kept-by_none [] = refl
kept-by_none (x ∷ xs) = kept-by_none xs

-- a test that asks more keeps no more
fewer-step : {X : Type 0} (a b : Bool) (x : X) (some all : List X) → (a ≡ true → b ≡ true) → length some ≤ length all
    → length (cond a (x ∷ some) some) ≤ length (cond b (x ∷ all) all)
fewer-step true true x some all weaker le = omega arith
fewer-step true false x some all weaker le = absurd (let h = weaker refl in cc)
fewer-step false true x some all weaker le = omega arith
fewer-step false false x some all weaker le = le

fewer-kept : {X : Type 0} (p q : X → Bool) (xs : List X) → ((x : X) → p x ≡ true → q x ≡ true) → length (filter p xs) ≤ length (filter q xs)
fewer-kept p q [] weaker = omega arith
fewer-kept p q (x ∷ xs) weaker = fewer-step (p x) (q x) x (filter p xs) (filter q xs) (weaker x) (fewer-kept p q xs weaker)

-- ---- a number is in a run once at most
before-run : (d a n : ℕ) → d < a → length (filter (λ e. eqb d e) (range_with_len a n)) ≡ 0
before-run d a zero lt = refl
before-run d a (suc n) lt =
    let not : eqb d a ≡ false = ne_eqb d a (λ same. omega (arith, same)) in
    ap (λ (b : Bool). length (cond b (a ∷ filter (λ e. eqb d e) (range_with_len (a + 1) n)) (filter (λ e. eqb d e) (range_with_len (a + 1) n)))) not ∙ before-run d (a + 1) n (omega arith)

once-step : (b : Bool) (d a n : ℕ) → eqb d a ≡ b → length (filter (λ e. eqb d e) (range_with_len (a + 1) n)) ≤ 1
    → length (cond b (a ∷ filter (λ e. eqb d e) (range_with_len (a + 1) n)) (filter (λ e. eqb d e) (range_with_len (a + 1) n))) ≤ 1
once-step true d a n is more = let same : d ≡ a = eqb-true d a is in let none = before-run d (a + 1) n (omega arith) in omega arith
once-step false d a n is more = more

once-in_run : (d a n : ℕ) → length (filter (λ e. eqb d e) (range_with_len a n)) ≤ 1
once-in_run d a zero = omega arith
once-in_run d a (suc n) = once-step (eqb d a) d a n refl (once-in_run d (a + 1) n)

-- ---- the documents of lists
one-list : (n : ℕ) (l : List Posting) → length (filter (λ d. has_doc d l) (range_with_len 0 n)) ≤ length l
one-list n [] = let none = kept-by_none (range_with_len 0 n) in omega arith
one-list n (p ∷ l) =
    let both = kept-by_either (λ d. eqb p.doc d) (λ d. has_doc d l) (range_with_len 0 n) in
    let here = once-in_run p.doc 0 n in
    let more = one-list n l in
    omega arith

any-of_lists : (n : ℕ) (lists : List (List Posting)) → length (in_any n lists) ≤ sum_by length lists
any-of_lists n [] = let none = kept-by_none (range_with_len 0 n) in omega arith
any-of_lists n (l ∷ lists) =
    let both = kept-by_either (λ d. has_doc d l) (λ d. list_any (has_doc d) lists) (range_with_len 0 n) in
    let here = one-list n l in
    let more = any-of_lists n lists in
    let whole = sum_by-cons length l lists in
    omega arith

kept-within : (n : ℕ) (p : ℕ → Bool) → length (filter p (range_with_len 0 n)) ≤ n
kept-within n p =
    omega (arith, length-filter p (range_with_len 0 n), count_by-le-length p (range_with_len 0 n), length-range_with_len 0 n)

any-few : (n : ℕ) (lists : List (List Posting)) → length (in_any n lists) ≤ most_in_any n lists
any-few n lists = le-min (kept-within n (λ d. list_any (has_doc d) lists)) (any-of_lists n lists)

least-above : (x a : ℕ) (ys : List ℕ) → x ≤ a → All (λ y. x ≤ y) ys → x ≤ fold min a ys
least-above x a [] le all = le
least-above x a (y ∷ ys) le all =
    least-above x (min a y) ys (le-min le (All-head (λ y. x ≤ y) y ys all)) (All-tail (λ y. x ≤ y) y ys all)

all-few : (n : ℕ) (lists : List (List Posting)) → length (in_all n lists) ≤ most_in_all n lists
all-few n [] = omega arith
all-few n (list ∷ lists) =
    let ls : List (List Posting) = list ∷ lists in
    let p : ℕ → Bool = λ d. list_all (has_doc d) ls in
    let found : ℕ = length (filter p (range_with_len 0 n)) in
    least-above found n (map length ls) (kept-within n p)
    (All-map (λ m. found ≤ m) length ls (λ k e lt.
    let l : List Posting = get_or ls k e in
    let fewer = fewer-kept p (λ d. has_doc d l) (range_with_len 0 n) (λ d is. AllPass-from_list_all (has_doc d) ls is k e lt) in
    let one = one-list n l in
    omega (arith, fewer, one)))

run-below : (n : ℕ) → All (λ d. d < n) (range_with_len 0 n)
run-below n = λ k e lt.
    let within : k < n = omega (arith, lt, length-range_with_len 0 n) in
    omega (arith, within, get_or-range_with_len 0 n k e within)

small-run : (n : ℕ) → n < 2 ^ 32 → All (λ d. d < 2 ^ 32) (range_with_len 0 n)
small-run n few = All-weaker (λ d. d < n) (λ d. d < 2 ^ 32) (λ d lt. omega arith) (range_with_len 0 n) (run-below n)

all-small : (n : ℕ) (lists : List (List Posting)) → n < 2 ^ 32 → All (λ d. d < 2 ^ 32) (in_all n lists)
all-small n [] few = λ k e lt. absurd (omega (arith, lt))
all-small n (list ∷ lists) few = All-filter (λ d. list_all (has_doc d) (list ∷ lists)) (λ d. d < 2 ^ 32) (range_with_len 0 n) (small-run n few)

any-small : (n : ℕ) (lists : List (List Posting)) → n < 2 ^ 32 → All (λ d. d < 2 ^ 32) (in_any n lists)
any-small n lists few = All-filter (λ d. list_any (has_doc d) lists) (λ d. d < 2 ^ 32) (range_with_len 0 n) (small-run n few)

-- ---- scores
freq-step : (here : Bool) (p : Posting) (list : List Posting) (d g : ℕ) → p.freq ≤ g → freq_of_doc d list ≤ g
    → unwrap_or (option_map (λ p. p.freq) (cond here (Some p) (find (λ p. eqb p.doc d) list))) 0 ≤ g
freq-step true p list d g at more = at
freq-step false p list d g at more = more

freq-fits : (d : ℕ) (list : List Posting) → All (λ f. f < 2 ^ 32) (freqs_of list) → freq_of_doc d list ≤ 4294967295
freq-fits d [] fit = omega arith
freq-fits d (p ∷ list) fit =
    let here = All-head (λ f. f < 2 ^ 32) p.freq (freqs_of list) fit in
    freq-step (eqb p.doc d) p list d 4294967295 (omega (arith, here)) (freq-fits d list (All-tail (λ f. f < 2 ^ 32) p.freq (freqs_of list) fit))

abbrev AreFit : List (List Posting) → Type 0
AreFit lists = All (λ list. All (λ f. f < 2 ^ 32) (freqs_of list)) lists

score-fits : (lists : List (List Posting)) (weights : List ℕ) (d : ℕ) → AreFit lists → score lists weights d ≤ 4294967295 * sum weights
score-fits [] weights d fit = omega arith
score-fits (list ∷ lists) [] d fit = omega arith
score-fits (list ∷ lists) (w ∷ weights) d fit =
    let more = score-fits lists weights d (All-tail (λ list. All (λ f. f < 2 ^ 32) (freqs_of list)) list lists fit) in
    let freq = freq-fits d list (All-head (λ list. All (λ f. f < 2 ^ 32) (freqs_of list)) list lists fit) in
    let here : w * freq_of_doc d list ≤ w * 4294967295 = mul-le w (freq_of_doc d list) w 4294967295 (omega arith) freq in
    let whole = sum_by-cons (λ (e : List Posting × ℕ). e.1 * freq_of_doc d e.0) (list, w) (zip lists weights) in
    let weight = sum_by-cons (λ (n : ℕ). n) w weights in
    omega (arith, more, here, whole, weight)

-- ---- replies
top-text_fits : (n k : ℕ) (lists : List (List Posting)) (weights : List ℕ) (r : List (ℕ × ℕ)) → n < 2 ^ 32 → AreFit lists → sum weights < 2 ^ 26
    → IsTop n lists weights k r → length (top_text r) ≤ 11 + 30 * min k (most_in_any n lists)
top-text_fits n k lists weights r small fit light top =
    let any = any-few n lists in
    let within : most_in_any n lists ≤ n = omega arith in
    let count : length r ≤ min k (most_in_any n lists) = omega (arith, top.count, any) in
    let each : All (λ e. (e.0 < 2 ^ 32) × (e.1 < 2 ^ 58)) r = λ i d lt.
    let doc = All-contains (λ d. d < 2 ^ 32) (in_any n lists) (get_or r i d).0 (any-small n lists small) (top.found i d lt) in
    let scored = top.scored i d lt in
    let most = score-fits lists weights (get_or r i d).0 fit in
    (doc, omega (arith, scored, most, light)) in
    let text = top-fits r (omega (arith, count, within, small)) each in
    omega (arith, text, count)

-- the reply to what is asked of a collection
pub answer-fits : (format : FormatNumbers) (c : Collection) (query : Query) (text : List ℕ) → WellFormed format c → c.documents < 2 ^ 32
    → NamesTerms (length c.lists) query → IsAnswer c query text → length text ≤ query_bytes c query
answer-fits format c (Next t d) text well small named is =
    let list = All-get_or (IsPostingList format c.documents) c.lists t [] named well.lists in
    let docs = All-weaker (λ d. d < c.documents) (λ d. d < 2 ^ 32) (λ d lt. omega arith) (docs_of (list_of c t)) list.in_range in
    subst (λ bytes. length bytes ≤ 22) (sym is) (next-fits d (list_of c t) docs list.fit)
answer-fits format c (And terms) text well small named is =
    let found : List ℕ = in_all c.documents (lists_of c terms) in
    let few = all-few c.documents (lists_of c terms) in
    let within = kept-few c.documents (lists_of c terms) in
    let list = list-fits found (omega (arith, within, small)) (all-small c.documents (lists_of c terms) small) in
    omega (arith, few, list, ap length is)
  where
    kept-few : (n : ℕ) (lists : List (List Posting)) → length (in_all n lists) ≤ n
    kept-few n [] = omega arith
    kept-few n (list ∷ lists) = kept-within n (λ d. list_all (has_doc d) (list ∷ lists))
answer-fits format c (Or terms) text well small named is =
    let found : List ℕ = in_any c.documents (lists_of c terms) in
    let few = any-few c.documents (lists_of c terms) in
    let within = kept-within c.documents (λ d. list_any (has_doc d) (lists_of c terms)) in
    let list = list-fits found (omega (arith, within, small)) (any-small c.documents (lists_of c terms) small) in
    omega (arith, few, list, ap length is)
answer-fits format c (Top k terms) text well small named is =
    let ts : List ℕ = map (λ t. t.0) terms in
    let weights : List ℕ = map (λ t. t.1) terms in
    let fit : AreFit (lists_of c ts) = All-map (λ list. All (λ f. f < 2 ^ 32) (freqs_of list)) (list_of c) ts
    (All-weaker (λ t. t < length c.lists) (λ t. All (λ f. f < 2 ^ 32) (freqs_of (list_of c t)))
    (λ t lt. (All-get_or (IsPostingList format c.documents) c.lists t [] lt well.lists).fit) ts named.0.below) in
    let top = top-text_fits c.documents k (lists_of c ts) weights is.0 small fit named.1.light is.1 in
    omega (arith, top, ap length is.2)

-- ---- how many documents can be found, from the counts of lists in turn
lists-next : (c : Collection) (terms : List ℕ) (k : ℕ) → k < length terms → lists_of c (take (k + 1) terms) ≡ lists_of c (take k terms) ++ list_of c (get_or terms k 0) ∷ []
lists-next c terms k within =
    let next : suc k ≡ k + 1 = omega arith in
    sym (ap (λ n. lists_of c (take n terms)) next) ∙ ap (map (list_of c)) (take-suc terms k 0 within) ∙ map-append (list_of c) (take k terms) (get_or terms k 0 ∷ [])

pub total-more : (c : Collection) (terms : List ℕ) (k total more count : ℕ) → k < length terms → total ≡ sum_by length (lists_of c (take k terms))
    → more ≡ total + count → count ≡ length (list_of c (get_or terms k 0)) → more ≡ sum_by length (lists_of c (take (k + 1) terms))
total-more c terms k total more count within so is of =
    let push = sum_by_push length (lists_of c (take k terms)) (list_of c (get_or terms k 0)) in
    omega (arith, so, is, of, push, ap (sum_by length) (lists-next c terms k within))

pub total-all : (c : Collection) (terms : List ℕ) (k n total result : ℕ) → length terms ≤ k → total ≡ sum_by length (lists_of c (take k terms))
    → result ≡ min total n → n ≡ c.documents → result ≡ most_in_any c.documents (lists_of c terms)
total-all c terms k n total result past so is of =
    omega (arith, is, of, so, ap (λ ts. sum_by length (lists_of c ts)) (take_all k terms past))

pub least-more : (c : Collection) (terms : List ℕ) (k most more count : ℕ) → k < length terms → most ≡ fold min c.documents (map length (lists_of c (take k terms)))
    → more ≡ min count most → count ≡ length (list_of c (get_or terms k 0)) → more ≡ fold min c.documents (map length (lists_of c (take (k + 1) terms)))
least-more c terms k most more count within so is of =
    let ls : List (List Posting) = lists_of c (take k terms) in
    let l : List Posting = list_of c (get_or terms k 0) in
    let lengths : map length (lists_of c (take (k + 1) terms)) ≡ map length ls ++ length l ∷ [] =
    ap (map length) (lists-next c terms k within) ∙ map-append length ls (l ∷ []) in
    let step : fold min c.documents (map length (lists_of c (take (k + 1) terms))) ≡ min (fold min c.documents (map length ls)) (length l) =
    ap (fold min c.documents) lengths ∙ fold-append min c.documents (map length ls) (length l ∷ []) in
    omega (arith, so, is, of, step)

pub least-all : (c : Collection) (terms : List ℕ) (k most : ℕ) → length terms ≤ k → (length terms == 0) ≡ false → most ≡ fold min c.documents (map length (lists_of c (take k terms)))
    → most ≡ most_in_all c.documents (lists_of c terms)
least-all c [] k most past some so = absurd cc
least-all c (t ∷ ts) k most past some so = so ∙ ap (λ xs. fold min c.documents (map length (lists_of c xs))) (take_all k (t ∷ ts) past)

-- ---- what a line asks
asked-is : (o : Result Query Bad) (query : Query) → Parses (Ok query) o → o ≡ Ok query
asked-is (Ok asked) query is = ap Ok (sym is)
asked-is (Err broken) query is = absurd cc

abbrev bad-of : Result Query ParseError → Bad
bad-of (Ok query) = bad.Length
bad-of (Err (parse_error.Bad rule)) = rule
bad-of (Err parse_error.NoMemory) = bad.Length

broken-is : (o : Result Query Bad) (rule : Bad) → Parses (Err (parse_error.Bad rule)) o → o ≡ Err rule
broken-is (Ok asked) rule is = absurd cc
broken-is (Err broken) rule is = ap Err (sym (ap bad-of is))

pub ok-value : (c : Collection) (line : List ℕ) (terms bytes : ℕ) (query : Query) → Parses (Ok query) (parse_line terms line) → terms ≡ length c.lists
    → bytes ≡ query_bytes c query → bytes ≡ reply_bytes c line
ok-value c line terms bytes query asked of is =
    is ∙ ap (parsed_bytes c) (sym (asked-is (parse_line terms line) query asked) ∙ ap (λ n. parse_line n line) of)

pub bad-value : (c : Collection) (line : List ℕ) (terms : ℕ) (rule : Bad) → Parses (Err (parse_error.Bad rule)) (parse_line terms line) → terms ≡ length c.lists
    → 11 ≡ reply_bytes c line
bad-value c line terms rule broken of =
    ap (parsed_bytes c) (sym (broken-is (parse_line terms line) rule broken) ∙ ap (λ n. parse_line n line) of)

small-format : (f : Format) → (numbers_of f).most_documents < 2 ^ 32
small-format One = omega arith
small-format Two = omega arith
small-format Three = omega arith

pub ok-enough : (f : Format) (c : Collection) (line : List ℕ) (terms bytes : ℕ) (query : Query) → WellFormed (numbers_of f) c → Parses (Ok query) (parse_line terms line)
    → NamesTerms terms query → terms ≡ length c.lists → bytes ≡ query_bytes c query → (reply : List ℕ) → IsReply c line reply → length reply ≤ bytes
ok-enough f c line terms bytes query well asked named of is = λ reply replied.
    let parsed : parse_line (length c.lists) line ≡ Ok query = sym (ap (λ n. parse_line n line) of) ∙ asked-is (parse_line terms line) query asked in
    let answer = subst (λ (o : Result Query Bad). MatchResult o (λ q. IsAnswer c q reply) (λ b. reply ≡ bad_text b)) parsed replied in
    let small : c.documents < 2 ^ 32 = let few = small-format f in omega (arith, few, well.documents) in
    let most = answer-fits (numbers_of f) c query reply well small (subst (λ n. NamesTerms n query) of named) answer in
    omega (arith, most, is)

pub bad-enough : (c : Collection) (line : List ℕ) (terms : ℕ) (rule : Bad) → Parses (Err (parse_error.Bad rule)) (parse_line terms line) → terms ≡ length c.lists
    → (reply : List ℕ) → IsReply c line reply → length reply ≤ 11
bad-enough c line terms rule broken of = λ reply replied.
    let parsed : parse_line (length c.lists) line ≡ Err rule = sym (ap (λ n. parse_line n line) of) ∙ broken-is (parse_line terms line) rule broken in
    let text = subst (λ (o : Result Query Bad). MatchResult o (λ q. IsAnswer c q reply) (λ b. reply ≡ bad_text b)) parsed replied in
    let most = bad-fits rule in
    omega (arith, most, ap length text)
