-- Lemmas on the lists of a collection that are added one after the other.
use Rattle.std.proofs.Common.{◌≡◌, refl, sym, ap, ◌∙◌, subst, ℕ, ◌^◌, ◌<◌, ◌≤◌, List, [], ◌∷◌, ◌++◌, map, length, get_or, drop, length-append, append-nil, append_assoc, arith}
use Rattle.std.specs.List.{All}
use Rattle.std.specs.Prelude.{Result, Ok, Err, IfOk, Vec}
use Rattle.std.specs.declared.alloc.Global.{Global}
use Rattle.std.proofs.lemmas.List.{length-map, map_push, drop_all}
use Rattle.std.proofs.lemmas.List.Elements.{All-get_or}
use Rattle.collection_model.specs.FormatNumbers.{FormatNumbers, most_terms}
use Rattle.collection_model.specs.Collection.{Posting, Collection, WellFormed, IsPostingList}
use Rattle.part_cost.specs.declared.formats.Format.{Format}
use Rattle.part_cost.specs.Formats.{numbers_of}
use Rattle.index_file.specs.declared.builder.FinishError.{FinishError}
use Rattle.index_file.specs.FileWords.{CutList, ListParts, with_parts, words_of_file, file_words, ArePartitions}
use Rattle.index_file.proofs.CutLists.{with-parts-of}
use Rattle.index_file.proofs.FittingFiles.{fits-file}
use Rattle.index_file.specs.Builder.{Built, StandsFor, AddsList, IsNearCut, lists_added, most_words}
use Rattle.index_file.specs.Laws.{ListsAreCounted, FilesSpellCollections, collection_cut}
use Rattle.pefidx_c.specs.GivenLists.{lists_given, collection_given}
use Rattle.pefidx_c.proofs.NextLists.{given-length}
use Rattle.pefidx_c.specs.BuiltWords.{AreWordsOf, WouldBeTooMany}

-- The first lists of a collection were added in a format; these are to come.
pub record IsAdding (format : Format) (c : Collection) (rest : List (List Posting)) (b : Built) : Type 0 where
  pub first : List (List Posting)
  pub all : c.lists ≡ first ++ rest
  pub cuts : List CutList
  pub format_is : b.format ≡ format
  pub documents : b.documents ≡ c.documents
  pub stands : StandsFor b cuts
  pub lists_are : map (λ c. c.list) cuts ≡ first

-- no list is added yet
pub adding-begins : (c : Collection) (rest : List (List Posting)) (b : Built) → rest ≡ c.lists → b.documents ≡ c.documents → StandsFor b [] → IsAdding b.format c rest b
adding-begins c rest b all documents stands = record {
  first = [];
  all = sym all;
  cuts = [];
  format_is = refl;
  documents = documents;
  stands = stands;
  lists_are = refl;
}

-- one more list is added
pub adding-more : (format : Format) (c : Collection) (rest more : List (List Posting)) (old new : Built) (list : List Posting) (before after : ℕ)
    → IsAdding format c rest old → rest ≡ list ∷ more → AddsList old new list before after → IsAdding format c more new
adding-more format c rest more old new list before after h next adds =
    let made = adds.2 h.cuts h.stands in
    let cut : CutList = record { list = list; parts = made.0 } in
    record {
      first = h.first ++ list ∷ [];
      all = h.all ∙ ap (λ l. h.first ++ l) next ∙ sym (append_assoc h.first (list ∷ []) more);
      cuts = h.cuts ++ cut ∷ [];
      format_is = adds.0 ∙ h.format_is;
      documents = adds.1 ∙ h.documents;
      stands = made.1;
      lists_are = map_push (λ c. c.list) h.cuts cut ∙ ap (λ l. l ++ list ∷ []) h.lists_are;
    }

-- the next list is one, and there is room for it
pub next-fits : (format : Format) (c : Collection) (rest more : List (List Posting)) (b : Built) (list : List Posting)
    → IsAdding format c rest b → All (IsPostingList (numbers_of format) c.documents) c.lists → rest ≡ list ∷ more → IsPostingList (numbers_of b.format) b.documents list
next-fits format c rest more b list h good next =
    let numbers : FormatNumbers = numbers_of format in
    let at : c.lists ≡ h.first ++ list ∷ more = h.all ∙ ap (λ l. h.first ++ l) next in
    let is : get_or (h.first ++ list ∷ more) (length h.first) [] ≡ list = get_or_at h.first (list ∷ more) in
    let within : length h.first < length c.lists = omega (arith, ap length at, length-append h.first (list ∷ more)) in
    let one : IsPostingList numbers c.documents list =
    subst (IsPostingList numbers c.documents) (ap (λ l. get_or l (length h.first) []) at ∙ is) (All-get_or (IsPostingList numbers c.documents) c.lists (length h.first) [] within good) in
    subst (λ f. IsPostingList (numbers_of f) b.documents list) (sym h.format_is) (subst (λ n. IsPostingList numbers n list) (sym h.documents) one)
  where
    get_or_at : (xs ys : List (List Posting)) → get_or (xs ++ ys) (length xs) [] ≡ get_or ys 0 []
    get_or_at [] ys = refl
    get_or_at (x ∷ xs) ys = get_or_at xs ys

pub next-has_room : ListsAreCounted → (format : Format) (c : Collection) (rest more : List (List Posting)) (b : Built) (list : List Posting)
    → IsAdding format c rest b → rest ≡ list ∷ more → length c.lists ≤ most_terms → lists_added b < most_terms
next-has_room count format c rest more b list h next few =
    let added : lists_added b ≡ length h.cuts = count b h.cuts h.stands in
    let as_lists : length h.cuts ≡ length h.first = sym (length-map h.cuts (λ c. c.list)) ∙ ap length h.lists_are in
    omega (arith, added, as_lists, ap length h.all, ap length next, length-append h.first rest, few)

-- All were added: the words of what is built are those of the collection.
record AreAllAdded (format : Format) (c : Collection) (b : Built) : Type 0 where
  cuts : List CutList
  parts : List ListParts
  stands : StandsFor b cuts
  near : All (IsNearCut (numbers_of format)) (with_parts c.lists parts)
  partitions : ArePartitions c.lists parts
  words_are : words_of_file (numbers_of b.format) b.documents cuts c.sizes ≡ file_words (numbers_of format) c parts

all-added : (format : Format) → FilesSpellCollections → (c : Collection) (rest : List (List Posting)) (b : Built) → IsAdding format c rest b → rest ≡ [] → AreAllAdded format c b
all-added format spell c rest b h last =
    let cuts : List CutList = h.cuts in
    let parts : List ListParts = map (λ c. c.parts) cuts in
    let all : h.first ≡ c.lists = sym (append-nil h.first) ∙ ap (λ l. h.first ++ l) (sym last) ∙ sym h.all in
    let lists_are : map (λ c. c.list) cuts ≡ c.lists = h.lists_are ∙ all in
    let same : collection_cut b.documents cuts c.sizes ≡ c = λ i. record { documents = h.documents i; lists = lists_are i; sizes = c.sizes } in
    let near : All (IsNearCut (numbers_of format)) cuts = subst (λ f. All (IsNearCut (numbers_of f)) cuts) h.format_is h.stands.near in
    record {
      cuts = cuts;
      parts = parts;
      stands = h.stands;
      near = subst (λ l. All (IsNearCut (numbers_of format)) (with_parts l parts)) lists_are
          (subst (All (IsNearCut (numbers_of format))) (sym (with-parts-of cuts)) near);
      partitions = subst (λ l. ArePartitions l parts) lists_are (spell.partitions b cuts h.stands);
      words_are = spell.words (numbers_of b.format) b.documents cuts c.sizes
          ∙ ap (λ d. file_words (numbers_of b.format) d parts) same
          ∙ ap (λ f. file_words (numbers_of f) c parts) h.format_is;
    }

-- the words were finished, or are too many
pub added-words : (format : Format) → FilesSpellCollections → (c : Collection) (rest : List (List Posting)) (b : Built) (words : List ℕ) → IsAdding format c rest b → rest ≡ [] → WellFormed (numbers_of format) c
    → ((cs : List CutList) → StandsFor b cs → words ≡ words_of_file (numbers_of b.format) b.documents cs c.sizes) → length words ≤ most_words → AreWordsOf (numbers_of format) c words
added-words format spell c rest b words h last good made within =
    let all = all-added format spell c rest b h last in
    let is : words ≡ file_words (numbers_of format) c all.parts = made all.cuts all.stands ∙ all.words_are in
    record {
      within = within;
      parts = all.parts;
      near = all.near;
      spelled = record {
        well_formed = good;
        partitions = all.partitions;
        fits = fits-file (numbers_of format) c all.parts (subst (λ ws. length ws ≤ most_words) is within);
        spelled = is;
      };
    }

pub added-too_many : (format : Format) → FilesSpellCollections → (c : Collection) (rest : List (List Posting)) (b : Built) (n : ℕ) → IsAdding format c rest b → rest ≡ []
    → most_words < n → ((cs : List CutList) → StandsFor b cs → n ≡ length (words_of_file (numbers_of b.format) b.documents cs c.sizes)) → WouldBeTooMany (numbers_of format) c n
added-too_many format spell c rest b n h last many made =
    let all = all-added format spell c rest b h last in
    record {
      too_many = many;
      parts = all.parts;
      near = all.near;
      partitions = all.partitions;
      count = made all.cuts all.stands ∙ ap length all.words_are;
    }

-- there are few lists
pub given-few : (lengths docs freqs : List ℕ) → length lengths < 2 ^ 32 → length (lists_given lengths docs freqs) ≤ most_terms
given-few lengths docs freqs few = omega (arith, few, given-length lengths docs freqs)

-- the collection is well formed
pub given-well_formed : (format : FormatNumbers) (lengths docs freqs sizes : List ℕ) → length lengths < 2 ^ 32 → length sizes ≤ format.most_documents → All (λ s. s < 2 ^ 32) sizes
    → All (IsPostingList format (length sizes)) (lists_given lengths docs freqs) → WellFormed format (collection_given lengths docs freqs sizes)
given-well_formed format lengths docs freqs sizes few documents fit good = record {
  documents = documents;
  terms = given-few lengths docs freqs few;
  lists = good;
  size_each = refl;
  sizes = fit;
}

-- behind the last length no list is to come
pub none-given : (lengths docs freqs : List ℕ) (t : ℕ) → length lengths ≤ t → lists_given (drop t lengths) docs freqs ≡ []
none-given lengths docs freqs t past = ap (λ l. lists_given l docs freqs) (drop_all t lengths past)

-- the words are finished, or not
pub finished : (format : Format) → FilesSpellCollections → (c : Collection) (rest : List (List Posting)) (b : Built) (result : Result (Vec ℕ Global) FinishError) → IsAdding format c rest b → rest ≡ [] → WellFormed (numbers_of format) c
    → ((cs : List CutList) → StandsFor b cs → IfOk result (λ words. words.items ≡ words_of_file (numbers_of b.format) b.documents cs c.sizes))
    → IfOk result (λ words. length words.items ≤ most_words) → IfOk result (λ words. AreWordsOf (numbers_of format) c words.items)
finished format spell c rest b (Ok words) h last good made within = added-words format spell c rest b words.items h last good made within
finished format spell c rest b (Err e) h last good made within = tt
