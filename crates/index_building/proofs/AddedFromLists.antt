-- Lemmas on the words of a collection that are made list by list: what is kept from list to list, and how it ends.
use Rattle.std.proofs.Common.{◌≡◌, refl, sym, ap, ◌∙◌, subst, ℕ, ◌+◌, ◌*◌, ◌<◌, ◌≤◌, List, [], ◌∷◌, ◌++◌, length, length-append, append-nil, append_assoc, replicate, arith}
use Rattle.std.specs.Prelude.{Result, Ok, Err, IfOk, Vec}
use Rattle.std.specs.declared.alloc.Global.{Global}
use Rattle.std.proofs.lemmas.List.{length-map}
use Rattle.collection_model.specs.FormatNumbers.{most_terms}
use Rattle.collection_model.specs.Collection.{Posting, Collection, WellFormed, postings_of, IsPostingList}
use Rattle.part_cost.specs.declared.formats.Format.{Format}
use Rattle.part_cost.specs.Formats.{numbers_of}
use Rattle.cost_windows.specs.WindowBounds.{window_bounds}
use Rattle.index_file.specs.declared.builder.FinishError.{FinishError}
use Rattle.index_file.specs.FileWords.{CutList, words_of_file}
use Rattle.index_file.specs.Builder.{Built, StandsFor, AddsList, AddsEmptyLists, lists_added, most_words}
use Rattle.index_file.specs.Laws.{ListsAreCounted, FilesSpellCollections}
use Rattle.index_file.proofs.FittingFiles.{fits-file}
use Rattle.index_building.specs.AddedFromFiles.{AreAdded}
use Rattle.index_building.specs.AddedFromLists.{IsMaking}
use Rattle.index_building.specs.WordsOfCollection.{AreWordsOf, WouldBeTooMany}
use Rattle.index_building.proofs.AddedFromFiles.{none-added, one-added, empty-added, all-added}

-- no list is added yet, and one more is
pub making-begins : (format : Format) (c : Collection) (lists : List (List Posting)) (b : Built) (steps : ℕ)
    → lists ≡ c.lists → b.format ≡ format → b.documents ≡ c.documents → StandsFor b [] → IsMaking format c lists b steps steps
making-begins format c lists b steps all format_is documents stands = record {
  first = [];
  all = sym all;
  added = none-added format b c.documents steps format_is documents stands;
}

pub making-more : (format : Format) (c : Collection) (lists more : List (List Posting)) (old new : Built) (docs freqs : List ℕ) (before middle after : ℕ)
    → IsMaking format c lists old before middle → lists ≡ postings_of docs freqs ∷ more → length docs ≡ length freqs
    → AddsList old new (postings_of docs freqs) middle after → after ≤ middle + 6 * length (window_bounds old.format) * (length docs + 1)
    → IsMaking format c more new before after
making-more format c lists more old new docs freqs before middle after h next same adds most = record {
  first = h.first ++ postings_of docs freqs ∷ [];
  all = h.all ∙ ap (λ l. h.first ++ l) next ∙ sym (append_assoc h.first (postings_of docs freqs ∷ []) more);
  added = one-added format old new c.documents h.first docs freqs before middle after h.added same adds most;
}

-- the next list may be added, and there is room for it
pub next-fits : (format : Format) (c : Collection) (lists : List (List Posting)) (b : Built) (list : List Posting) (before after : ℕ)
    → IsMaking format c lists b before after → IsPostingList (numbers_of format) c.documents list → IsPostingList (numbers_of b.format) b.documents list
next-fits format c lists b list before after h is =
    subst (λ f. IsPostingList (numbers_of f) b.documents list) (sym h.added.format_is) (subst (λ n. IsPostingList (numbers_of format) n list) (sym h.added.documents) is)

pub next-has_room : ListsAreCounted → (format : Format) (c : Collection) (lists more : List (List Posting)) (b : Built) (list : List Posting) (before after : ℕ)
    → IsMaking format c lists b before after → lists ≡ list ∷ more → length c.lists ≤ most_terms → lists_added b < most_terms
next-has_room count format c lists more b list before after h next few =
    let cuts = h.added.cuts in
    let added : lists_added b ≡ length cuts = count b cuts h.added.stands in
    let as_lists : length cuts ≡ length h.first = sym (length-map cuts (λ c. c.list)) ∙ ap length h.added.lists_are in
    omega (arith, added, as_lists, ap length h.all, ap length next, length-append h.first lists, few)

-- as many lists were added as there are before those that are to come
pub making-counted : ListsAreCounted → (format : Format) (c : Collection) (lists : List (List Posting)) (b : Built) (before after : ℕ) → IsMaking format c lists b before after
    → lists_added b + length lists ≡ length c.lists
making-counted count format c lists b before after h =
    let cuts = h.added.cuts in
    let added : lists_added b ≡ length cuts = count b cuts h.added.stands in
    let as_lists : length cuts ≡ length h.first = sym (length-map cuts (λ c. c.list)) ∙ ap length h.added.lists_are in
    omega (arith, added, as_lists, ap length h.all, length-append h.first lists)

-- those that are to come have no postings, and are added at once
pub making-ends-empty : (format : Format) (c : Collection) (lists : List (List Posting)) (old new : Built) (before after k : ℕ) → IsMaking format c lists old before after → lists ≡ replicate k []
    → AddsEmptyLists old new k → AreAdded format new c.documents c.lists before after
making-ends-empty format c lists old new before after k h rest adds =
    subst (λ l. AreAdded format new c.documents l before after) (ap (λ l. h.first ++ l) (sym rest) ∙ sym h.all) (empty-added format old new c.documents k h.first before after h.added adds)

-- all were added
pub making-ends : (format : Format) (c : Collection) (lists : List (List Posting)) (b : Built) (before after : ℕ)
    → IsMaking format c lists b before after → lists ≡ [] → AreAdded format b c.documents c.lists before after
making-ends format c lists b before after h last =
    let all : h.first ≡ c.lists = sym (append-nil h.first) ∙ ap (λ l. h.first ++ l) (sym last) ∙ sym h.all in
    subst (λ l. AreAdded format b c.documents l before after) all h.added

-- the words were finished, or are too many
made-words : (format : Format) → FilesSpellCollections → (c : Collection) (b : Built) (sizes words : List ℕ) (before after : ℕ)
    → AreAdded format b c.documents c.lists before after → WellFormed (numbers_of format) c → sizes ≡ c.sizes
    → ((cs : List CutList) → StandsFor b cs → words ≡ words_of_file (numbers_of b.format) b.documents cs sizes) → length words ≤ most_words
    → AreWordsOf format c before after words
made-words format spell c b sizes words before after added good sizes_are made within =
    let all = all-added format spell b c before after added in
    let is : words ≡ words_of_file (numbers_of b.format) b.documents all.cuts c.sizes =
    made all.cuts all.stands ∙ ap (λ z. words_of_file (numbers_of b.format) b.documents all.cuts z) sizes_are in
    record {
      within = within;
      parts = all.parts;
      cut = record { collection = refl; near = all.near; counted = all.counted };
      spelled = record {
        well_formed = good;
        partitions = all.near.partitions;
        fits = fits-file (numbers_of format) c all.parts (subst (λ ws. length ws ≤ most_words) (is ∙ all.words_are) within);
        spelled = is ∙ all.words_are;
      };
    }

pub made-or-not : (format : Format) → FilesSpellCollections → (c : Collection) (b : Built) (sizes : List ℕ) (before after : ℕ)
    → AreAdded format b c.documents c.lists before after → WellFormed (numbers_of format) c → sizes ≡ c.sizes → (r : Result (Vec ℕ Global) FinishError)
    → ((cs : List CutList) → StandsFor b cs → IfOk r (λ words. words.items ≡ words_of_file (numbers_of b.format) b.documents cs sizes))
    → IfOk r (λ words. length words.items ≤ most_words) → IfOk r (λ words. AreWordsOf format c before after words.items)
made-or-not format spell c b sizes before after added good sizes_are (Ok words) made within = made-words format spell c b sizes words.items before after added good sizes_are made within
made-or-not format spell c b sizes before after added good sizes_are (Err e) made within = tt

pub made-too_many : (format : Format) → FilesSpellCollections → (c : Collection) (b : Built) (sizes : List ℕ) (before after n : ℕ)
    → AreAdded format b c.documents c.lists before after → sizes ≡ c.sizes
    → most_words < n → ((cs : List CutList) → StandsFor b cs → n ≡ length (words_of_file (numbers_of b.format) b.documents cs sizes))
    → WouldBeTooMany format c before after n
made-too_many format spell c b sizes before after n added sizes_are many made =
    let all = all-added format spell b c before after added in
    record {
      too_many = many;
      parts = all.parts;
      cut = record { collection = refl; near = all.near; counted = all.counted };
      count = made all.cuts all.stands
          ∙ ap (λ z. length (words_of_file (numbers_of b.format) b.documents all.cuts z)) sizes_are
          ∙ ap length all.words_are;
    }
