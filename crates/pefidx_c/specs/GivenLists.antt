use Rattle.std.specs.Prelude.{ℕ, ◌+◌, ◌<◌, ◌==◌, ◌&&◌, ◌||◌, nat_lt, not, if◌then◌else◌, List, [], ◌∷◌, length, take, drop, sum, get_or, Option, Some, None}
use Rattle.std.specs.List.{All}
use Rattle.collection_model.specs.FormatNumbers.{FormatNumbers, most_terms}
use Rattle.collection_model.specs.Collection.{Posting, Collection, postings_of, IsPostingList}
use Rattle.part_cost.specs.declared.formats.Format.{Format}
use Rattle.part_cost.specs.declared.formats.Format.TheVariants.{One, Two, Three}
use Rattle.part_cost.specs.Formats.{numbers_of}
use Rattle.pefidx_c.specs.declared.status.Status.{Status}
use Rattle.pefidx_c.specs.declared.status.Status.TheVariants.{NoFormat, TooMany, NotWhole}

-- the format of a number from 1 to 3, of which the third has the packed files
abbrev pub format_of : ℕ → Format
format_of number = if number == 1 then One else if number == 2 then Two else Three

-- the lists of these lengths that stand one after the other
abbrev pub lists_given : List ℕ → List ℕ → List ℕ → List (List Posting)
lists_given [] docs freqs = []
lists_given (m ∷ lengths) docs freqs =
    postings_of (take m docs) (take m freqs) ∷ lists_given lengths (drop m docs) (drop m freqs)

-- the collection of these lists, with a document for each size
abbrev pub collection_given : List ℕ → List ℕ → List ℕ → List ℕ → Collection
collection_given lengths docs freqs sizes = record {
  documents = length sizes;
  lists = lists_given lengths docs freqs;
  sizes = sizes;
}

-- how what is to be built in a format of this number is refused before a posting is looked at: a
-- number that is no format's, too many lists or documents for the format, or lengths that are not
-- those of the postings
abbrev pub build_refusal : ℕ → List ℕ → List ℕ → List ℕ → List ℕ → Option Status
build_refusal format lengths docs freqs sizes =
    if format == 0 || nat_lt 3 format then Some NoFormat
    else if nat_lt most_terms (length lengths)
    || nat_lt (numbers_of (format_of format)).most_documents (length sizes) then Some TooMany
    else if not (sum lengths == length docs && length docs == length freqs) then Some NotWhole
    else None

-- The first posting that cannot stand in its list: the lists before are posting lists, as is its
-- own up to it, and with it is none.
pub record IsFirstBad (format : FormatNumbers) (n : ℕ) (lists : List (List Posting))
    (term place : ℕ) : Type 0 where
  pub term_within : term < length lists
  pub before : All (IsPostingList format n) (take term lists)
  pub place_within : place < length (get_or lists term [])
  pub good : IsPostingList format n (take place (get_or lists term []))
  pub bad : ¬ IsPostingList format n (take (place + 1) (get_or lists term []))
