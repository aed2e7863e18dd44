use Rattle.std.proofs.Common.{◌≡◌, refl, sym, ap, ◌∙◌, subst, ℕ, ◌+◌, ◌<◌, true, false, cond, Bool, List, length, arith}
use Rattle.std.specs.List.{All}
use Rattle.collection_model.specs.Collection.{Collection, Posting, docs_of, list_of}
use Rattle.interval_max.proofs.Kept.{skipped}
use Rattle.index_intervals.specs.LongLists.{has_maxima, is_long, long_postings}
use Rattle.index_intervals.specs.Passed.{none-short, postings-more}
use Rattle.index_intervals.proofs.LongLists.{fits-not, fits-well, has-long, list-below, long-is}
use Rattle.index_intervals.proofs.maxima.add_by_cursor.Goals as goal

pub add-requires-clause-below : goal.add-requires-clause-below
add-requires-clause-below g c =
    let whole : Collection = g.S.ListSource.collection c.args.source.now in
    subst (λ (list : List Posting). All (λ d. d < c.documents-2.result) (docs_of list)) (sym c.in_ok-cursor.ensures.list)
    (subst (λ (n : ℕ). All (λ d. d < n) (docs_of (list_of whole c.args.term))) (sym c.documents-2.ensures) (list-below whole c.args.term c.requires.within c.requires.in_range))

-- the list is not long
pub returns-then-not-is_long-clause-added : goal.returns-then-not-is_long-clause-added
returns-then-not-is_long-clause-added g c = λ holds.
    let whole : Collection = g.S.ListSource.collection c.args.source.now in
    let list : List Posting = list_of whole c.args.term in
    let same : c.len-count.result ≡ length list = c.len-count.ensures ∙ ap length c.in_ok-cursor.ensures.list in
    let long : is_long whole.documents list ≡ c.is_long.result = sym (ap (λ n. is_long n list) c.documents.ensures) ∙ long-is c.documents.result c.len-count.result list c.is_long.result same c.is_long.ensures in
    record {
      whole = holds.whole;
      maxima = skipped (has_maxima c.args.words whole) (list_of whole) c.args.term _ _ _ holds.maxima (none-short c.args.words whole c.args.term (long ∙ c.if-not-is_long.true));
    }

pub returns-then-not-is_long-clause-postings : goal.returns-then-not-is_long-clause-postings
returns-then-not-is_long-clause-postings g c =
    let whole : Collection = g.S.ListSource.collection c.args.source.now in
    let list : List Posting = list_of whole c.args.term in
    let same : c.len-count.result ≡ length list = c.len-count.ensures ∙ ap length c.in_ok-cursor.ensures.list in
    let long : is_long whole.documents list ≡ c.is_long.result = sym (ap (λ n. is_long n list) c.documents.ensures) ∙ long-is c.documents.result c.len-count.result list c.is_long.result same c.is_long.ensures in
    omega (arith, c.requires.before, postings-more whole c.args.term c.requires.within, ap (λ (b : Bool). cond b (length list) 0) (long ∙ c.if-not-is_long.true))

-- it is, and enough words pay for it
pub returns-clause-added : goal.returns-clause-added
returns-clause-added g c = λ holds.
    let whole : Collection = g.S.ListSource.collection c.args.source.now in
    let list : List Posting = list_of whole c.args.term in
    let same : c.len-count.result ≡ length list = c.len-count.ensures ∙ ap length c.in_ok-cursor.ensures.list in
    let long : is_long whole.documents list ≡ true = sym (ap (λ n. is_long n list) c.documents.ensures) ∙ long-is c.documents.result c.len-count.result list c.is_long.result same c.is_long.ensures ∙ c.if-not-is_long.false in
    let is : c.args.before + c.from.result ≡ long_postings whole (c.args.term + 1) = omega (arith, c.requires.before, postings-more whole c.args.term c.requires.within, ap (λ (b : Bool). cond b (length list) 0) long, c.from.ensures, same) in
    c.in_ok-add.ensures.added (has_maxima c.args.words whole) (list_of whole) holds (has-long c.args.words whole c.args.term (c.args.before + c.from.result) true long is (fits-well _ _ _ refl c.if-postings-words.false)) (sym c.in_ok-cursor.ensures.list)

pub returns-clause-postings : goal.returns-clause-postings
returns-clause-postings g c =
    let whole : Collection = g.S.ListSource.collection c.args.source.now in
    let list : List Posting = list_of whole c.args.term in
    let same : c.len-count.result ≡ length list = c.len-count.ensures ∙ ap length c.in_ok-cursor.ensures.list in
    let long : is_long whole.documents list ≡ true = sym (ap (λ n. is_long n list) c.documents.ensures) ∙ long-is c.documents.result c.len-count.result list c.is_long.result same c.is_long.ensures ∙ c.if-not-is_long.false in
    omega (arith, c.requires.before, postings-more whole c.args.term c.requires.within, ap (λ (b : Bool). cond b (length list) 0) long, c.from.ensures, same)

-- or not
pub returns-then-postings-words-clause-added : goal.returns-then-postings-words-clause-added
returns-then-postings-words-clause-added g c = λ holds.
    let whole : Collection = g.S.ListSource.collection c.args.source.now in
    let list : List Posting = list_of whole c.args.term in
    let same : c.len-count.result ≡ length list = c.len-count.ensures ∙ ap length c.in_ok-cursor.ensures.list in
    let long : is_long whole.documents list ≡ true = sym (ap (λ n. is_long n list) c.documents.ensures) ∙ long-is c.documents.result c.len-count.result list c.is_long.result same c.is_long.ensures ∙ c.if-not-is_long.false in
    let is : c.args.before + c.from.result ≡ long_postings whole (c.args.term + 1) = omega (arith, c.requires.before, postings-more whole c.args.term c.requires.within, ap (λ (b : Bool). cond b (length list) 0) long, c.from.ensures, same) in
    record {
      whole = holds.whole;
      maxima = skipped (has_maxima c.args.words whole) (list_of whole) c.args.term _ _ _ holds.maxima (has-long c.args.words whole c.args.term (c.args.before + c.from.result) false long is (fits-not _ _ _ refl c.if-postings-words.true));
    }

pub returns-then-postings-words-clause-postings : goal.returns-then-postings-words-clause-postings
returns-then-postings-words-clause-postings g c =
    let whole : Collection = g.S.ListSource.collection c.args.source.now in
    let list : List Posting = list_of whole c.args.term in
    let same : c.len-count.result ≡ length list = c.len-count.ensures ∙ ap length c.in_ok-cursor.ensures.list in
    let long : is_long whole.documents list ≡ true = sym (ap (λ n. is_long n list) c.documents.ensures) ∙ long-is c.documents.result c.len-count.result list c.is_long.result same c.is_long.ensures ∙ c.if-not-is_long.false in
    omega (arith, c.requires.before, postings-more whole c.args.term c.requires.within, ap (λ (b : Bool). cond b (length list) 0) long, c.from.ensures, same)
