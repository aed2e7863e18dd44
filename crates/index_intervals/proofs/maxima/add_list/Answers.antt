use Rattle.std.proofs.Common.{◌≡◌, sym, ap, ◌∙◌, ◌+◌, true, false, cond, Bool, List, [], length, arith}
use Rattle.collection_model.specs.Collection.{Posting, list_of}
use Rattle.index_file.specs.IndexView.{IndexView, word_count}
use Rattle.interval_max.proofs.Kept.{skipped}
use Rattle.index_intervals.specs.LongLists.{has_maxima, is_long, long_postings}
use Rattle.index_intervals.specs.Passed.{none-short, postings-more}
use Rattle.index_intervals.proofs.LongLists.{ahead, count-taken, fits-not, fits-well, has-long, list-taken, long-is, none-here, passed, taken}
use Rattle.index_intervals.proofs.maxima.add_list.Goals as goal

-- the list is not the next that has postings
pub returns-then-not-is_next-clause-stands : goal.returns-then-not-is_next-clause-stands
returns-then-not-is_next-clause-stands c =
    let i : IndexView = c.args.index.now in
    passed i c.args.term c.args.lists.now c.requires.stands (ahead i c.args.term c.args.lists.now c.is_next.result c.requires.stands c.requires.within c.if-not-is_next.true c.is_next.ensures.next.1)

pub returns-then-not-is_next-clause-postings : goal.returns-then-not-is_next-clause-postings
returns-then-not-is_next-clause-postings c =
    let i : IndexView = c.args.index.now in
    let list : List Posting = list_of i.collection c.args.term in
    let none : list ≡ [] = none-here i c.args.term c.args.lists.now c.requires.stands (ahead i c.args.term c.args.lists.now c.is_next.result c.requires.stands c.requires.within c.if-not-is_next.true c.is_next.ensures.next.1) in
    omega (arith, c.requires.before, postings-more i.collection c.args.term c.requires.within, ap (λ (l : List Posting). cond (is_long i.collection.documents l) (length l) 0) none)

pub returns-then-not-is_next-clause-added : goal.returns-then-not-is_next-clause-added
returns-then-not-is_next-clause-added c = λ holds.
    let i : IndexView = c.args.index.now in
    let none : list_of i.collection c.args.term ≡ [] = none-here i c.args.term c.args.lists.now c.requires.stands (ahead i c.args.term c.args.lists.now c.is_next.result c.requires.stands c.requires.within c.if-not-is_next.true c.is_next.ensures.next.1) in
    record {
      whole = holds.whole;
      maxima = skipped (has_maxima (word_count i) i.collection) (list_of i.collection) c.args.term _ _ _ holds.maxima (none-short (word_count i) i.collection c.args.term (ap (is_long i.collection.documents) none));
    }

-- it is
pub next_list-list-requires : goal.next_list-list-requires
next_list-list-requires c =
    let next = c.is_next.ensures.next.0 c.if-not-is_next.false in
    omega (arith, next.0, next.1)

pub pass_list-requires : goal.pass_list-requires
pass_list-requires c =
    let next = c.is_next.ensures.next.0 c.if-not-is_next.false in
    omega (arith, next.0, next.1)

pub returns-then-not-is_long-clause-stands : goal.returns-then-not-is_long-clause-stands
returns-then-not-is_long-clause-stands c =
    let next = c.is_next.ensures.next.0 c.if-not-is_next.false in
    let e = c.pass_list.ensures in
    taken c.args.index.now c.args.term c.args.lists.now c.pass_list.new.self c.requires.stands next.1 e.collection e.later e.empty

pub returns-in_ok-add-clause-stands : goal.returns-in_ok-add-clause-stands
returns-in_ok-add-clause-stands c =
    let next = c.is_next.ensures.next.0 c.if-not-is_next.false in
    let e = c.pass_list.ensures in
    taken c.args.index.now c.args.term c.args.lists.now c.pass_list.new.self c.requires.stands next.1 e.collection e.later e.empty

pub returns-else-postings-word_count-clause-stands : goal.returns-else-postings-word_count-clause-stands
returns-else-postings-word_count-clause-stands c =
    let next = c.is_next.ensures.next.0 c.if-not-is_next.false in
    let e = c.pass_list.ensures in
    taken c.args.index.now c.args.term c.args.lists.now c.pass_list.new.self c.requires.stands next.1 e.collection e.later e.empty

pub returns-then-not-is_long-clause-added : goal.returns-then-not-is_long-clause-added
returns-then-not-is_long-clause-added c = λ holds.
    let i : IndexView = c.args.index.now in
    let list : List Posting = list_of i.collection c.args.term in
    let next = c.is_next.ensures.next.0 c.if-not-is_next.false in
    let same : c.len-count.result ≡ length list = c.len-count.ensures ∙ count-taken i c.args.term c.args.lists.now c.next_list-list.result.docs c.next_list-list.result.freqs c.next_list-list.result.greatest c.requires.stands next.1 c.next_list-list.ensures in
    let long : is_long i.collection.documents list ≡ c.is_long.result = sym (ap (λ n. is_long n list) c.documents.ensures) ∙ long-is c.documents.result c.len-count.result list c.is_long.result same c.is_long.ensures in
    record {
      whole = holds.whole;
      maxima = skipped (has_maxima (word_count i) i.collection) (list_of i.collection) c.args.term _ _ _ holds.maxima (none-short (word_count i) i.collection c.args.term (long ∙ c.if-not-is_long.true));
    }

pub returns-in_ok-add-clause-added : goal.returns-in_ok-add-clause-added
returns-in_ok-add-clause-added c = λ holds.
    let i : IndexView = c.args.index.now in
    let list : List Posting = list_of i.collection c.args.term in
    let next = c.is_next.ensures.next.0 c.if-not-is_next.false in
    let same : c.len-count.result ≡ length list = c.len-count.ensures ∙ count-taken i c.args.term c.args.lists.now c.next_list-list.result.docs c.next_list-list.result.freqs c.next_list-list.result.greatest c.requires.stands next.1 c.next_list-list.ensures in
    let long : is_long i.collection.documents list ≡ true = sym (ap (λ n. is_long n list) c.documents.ensures) ∙ long-is c.documents.result c.len-count.result list c.is_long.result same c.is_long.ensures ∙ c.if-not-is_long.false in
    let is : c.args.before + c.from.result ≡ long_postings i.collection (c.args.term + 1) = omega (arith, c.requires.before, postings-more i.collection c.args.term c.requires.within, ap (λ (b : Bool). cond b (length list) 0) long, c.from.ensures, same) in
    c.in_ok-add.ensures.added (has_maxima (word_count i) i.collection) (list_of i.collection) holds (has-long (word_count i) i.collection c.args.term (c.args.before + c.from.result) true long is (fits-well _ _ _ c.word_count.ensures c.if-postings-word_count.true)) (sym (c.new-cursor.ensures.list ∙ list-taken i c.args.term c.args.lists.now c.next_list-list.result.docs c.next_list-list.result.freqs c.next_list-list.result.greatest c.requires.stands next.1 c.next_list-list.ensures))

pub returns-else-postings-word_count-clause-added : goal.returns-else-postings-word_count-clause-added
returns-else-postings-word_count-clause-added c = λ holds.
    let i : IndexView = c.args.index.now in
    let list : List Posting = list_of i.collection c.args.term in
    let next = c.is_next.ensures.next.0 c.if-not-is_next.false in
    let same : c.len-count.result ≡ length list = c.len-count.ensures ∙ count-taken i c.args.term c.args.lists.now c.next_list-list.result.docs c.next_list-list.result.freqs c.next_list-list.result.greatest c.requires.stands next.1 c.next_list-list.ensures in
    let long : is_long i.collection.documents list ≡ true = sym (ap (λ n. is_long n list) c.documents.ensures) ∙ long-is c.documents.result c.len-count.result list c.is_long.result same c.is_long.ensures ∙ c.if-not-is_long.false in
    let is : c.args.before + c.from.result ≡ long_postings i.collection (c.args.term + 1) = omega (arith, c.requires.before, postings-more i.collection c.args.term c.requires.within, ap (λ (b : Bool). cond b (length list) 0) long, c.from.ensures, same) in
    record {
      whole = holds.whole;
      maxima = skipped (has_maxima (word_count i) i.collection) (list_of i.collection) c.args.term _ _ _ holds.maxima (has-long (word_count i) i.collection c.args.term (c.args.before + c.from.result) false long is (fits-not _ _ _ c.word_count.ensures c.if-postings-word_count.false));
    }

-- the postings of the long ones, with it
pub returns-then-not-is_long-clause-postings : goal.returns-then-not-is_long-clause-postings
returns-then-not-is_long-clause-postings c =
    let i : IndexView = c.args.index.now in
    let list : List Posting = list_of i.collection c.args.term in
    let next = c.is_next.ensures.next.0 c.if-not-is_next.false in
    let same : c.len-count.result ≡ length list = c.len-count.ensures ∙ count-taken i c.args.term c.args.lists.now c.next_list-list.result.docs c.next_list-list.result.freqs c.next_list-list.result.greatest c.requires.stands next.1 c.next_list-list.ensures in
    let long : is_long i.collection.documents list ≡ c.is_long.result = sym (ap (λ n. is_long n list) c.documents.ensures) ∙ long-is c.documents.result c.len-count.result list c.is_long.result same c.is_long.ensures in
    omega (arith, c.requires.before, postings-more i.collection c.args.term c.requires.within, ap (λ (b : Bool). cond b (length list) 0) (long ∙ c.if-not-is_long.true))

pub returns-in_ok-add-clause-postings : goal.returns-in_ok-add-clause-postings
returns-in_ok-add-clause-postings c =
    let i : IndexView = c.args.index.now in
    let list : List Posting = list_of i.collection c.args.term in
    let next = c.is_next.ensures.next.0 c.if-not-is_next.false in
    let same : c.len-count.result ≡ length list = c.len-count.ensures ∙ count-taken i c.args.term c.args.lists.now c.next_list-list.result.docs c.next_list-list.result.freqs c.next_list-list.result.greatest c.requires.stands next.1 c.next_list-list.ensures in
    let long : is_long i.collection.documents list ≡ true = sym (ap (λ n. is_long n list) c.documents.ensures) ∙ long-is c.documents.result c.len-count.result list c.is_long.result same c.is_long.ensures ∙ c.if-not-is_long.false in
    omega (arith, c.requires.before, postings-more i.collection c.args.term c.requires.within, ap (λ (b : Bool). cond b (length list) 0) long, c.from.ensures, same)

pub returns-else-postings-word_count-clause-postings : goal.returns-else-postings-word_count-clause-postings
returns-else-postings-word_count-clause-postings c =
    let i : IndexView = c.args.index.now in
    let list : List Posting = list_of i.collection c.args.term in
    let next = c.is_next.ensures.next.0 c.if-not-is_next.false in
    let same : c.len-count.result ≡ length list = c.len-count.ensures ∙ count-taken i c.args.term c.args.lists.now c.next_list-list.result.docs c.next_list-list.result.freqs c.next_list-list.result.greatest c.requires.stands next.1 c.next_list-list.ensures in
    let long : is_long i.collection.documents list ≡ true = sym (ap (λ n. is_long n list) c.documents.ensures) ∙ long-is c.documents.result c.len-count.result list c.is_long.result same c.is_long.ensures ∙ c.if-not-is_long.false in
    omega (arith, c.requires.before, postings-more i.collection c.args.term c.requires.within, ap (λ (b : Bool). cond b (length list) 0) long, c.from.ensures, same)
