-- Files of both kinds: what their words spell, and what they state.
use Rattle.std.proofs.Common.{◌≡◌, ℕ, zero, suc, ◌+◌, ◌/◌, ◌^◌, ◌≤◌, ◌<◌, List, [], ◌∷◌, length, get_or, refl, sym, ap, ◌∙◌, subst, arith}
use Rattle.std.specs.Prelude.{slice_index, sum_by}
use Rattle.std.specs.List.{All, range_with_len, sum}
use Rattle.std.proofs.lemmas.Bool.{eq-eqb}
use Rattle.std.proofs.lemmas.List.{length-map}
use Rattle.std.proofs.lemmas.List.Elements.{All-weaker, All-from_get_or}
use Rattle.std.proofs.lemmas.List.FromFn.{get_or-map-range_with_len}
use Rattle.std.proofs.lemmas.List.Sums.{sum-map}
use Rattle.collection_model.specs.FormatNumbers.{Plain, format_three, most_terms}
use Rattle.collection_model.specs.Collection.{Posting, Collection, docs_of, greatest_freq, list_of, IsPostingList}
use Rattle.collection_model.specs.Sequences.{doc_sequence, freq_sequence, postings_in}
use Rattle.part_cost.specs.declared.formats.Format.{Format}
use Rattle.part_cost.specs.declared.formats.Format.TheVariants.{One, Two, Three}
use Rattle.part_cost.specs.Formats.{numbers_of}
use Rattle.part_cost.specs.Partition.{IsPartition}
use Rattle.part_cost.proofs.Rooms.{formats-have-room}
use Rattle.part_codec.specs.Laws.{TakesItsPayload}
use Rattle.cursor_api.specs.NextGeq.{IsCursorList}
use Rattle.two_level.specs.SequenceView.{SequenceView}
use Rattle.packed_list.specs.ListStated.{ListStated}
use Rattle.index_file.specs.CutLists.{CutList, ListParts, with_parts, ArePartitions}
use Rattle.index_file.specs.FileWords.{SpellsPlain, Spells, IsIndex, format_read}
use Rattle.index_file.specs.FirstBroken.{stated_documents, stated_terms}
use Rattle.index_file.specs.PackedAt.{HasPackedFrame}
use Rattle.index_file.specs.PackedWords.{packed_magic}
use Rattle.index_file.specs.PackedView.{size_at, sizes_at, packed_list_stated}
use Rattle.index_file.specs.IndexView.{IndexView, list_of_kind, sizes_of_kind, stated_in, index_stated, with_starts, docs_view, freqs_view}
use Rattle.index_file.specs.ListWalk.{AreOfList}
use Rattle.index_file.specs.Laws.{FileLaws, IndexIsRead}
use Rattle.index_file.proofs.Blocks.{partition-at}
use Rattle.index_file.proofs.StatedIndex.{collection-is, parts-are, sizes-are, lists-back}
use Rattle.index_file.proofs.Reading.{has-frame, documents-are, terms-are, opened-cut, docs-read, freqs-read}
use Rattle.index_file.proofs.PackedPieces.{packed-laid}
use Rattle.index_file.proofs.PackedStated as stated
use Rattle.index_file.proofs.PackedIndex.{IsPackedFile, HoldLists, packable, packed-states, hold-lists}

-- what is spelled in a format of plain files, and in the third
pub to-plain : (v : Format) (words : List ℕ) (c : Collection) (parts : List ListParts) → (numbers_of v).kind ≡ Plain → Spells (numbers_of v) words c parts → SpellsPlain (numbers_of v) words c parts
to-plain One words c parts e h = record { well_formed = h.well_formed; partitions = h.partitions; spelled = h.spelled }
to-plain Two words c parts e h = record { well_formed = h.well_formed; partitions = h.partitions; spelled = h.spelled }
to-plain Three words c parts e h = cc

pub of-plain : (v : Format) (words : List ℕ) (c : Collection) (parts : List ListParts) → (numbers_of v).kind ≡ Plain → SpellsPlain (numbers_of v) words c parts → Spells (numbers_of v) words c parts
of-plain One words c parts e h = record { well_formed = h.well_formed; partitions = h.partitions; fits = tt; spelled = h.spelled }
of-plain Two words c parts e h = record { well_formed = h.well_formed; partitions = h.partitions; fits = tt; spelled = h.spelled }
of-plain Three words c parts e h = cc

pub to-packed : (words : List ℕ) (c : Collection) (parts : List ListParts) → Spells (numbers_of Three) words c parts → IsPackedFile words c parts
to-packed words c parts h = record { well_formed = h.well_formed; partitions = h.partitions; fits = h.fits; spelled = h.spelled }

pub of-packed : (words : List ℕ) (c : Collection) (parts : List ListParts) → IsPackedFile words c parts → Spells (numbers_of Three) words c parts
of-packed words c parts h = record { well_formed = h.well_formed; partitions = h.partitions; fits = h.fits; spelled = h.spelled }

-- an index is read in its format
pub index-is-read : IndexIsRead
index-is-read One words (c, parts, s) = ap format_read s.spelled
index-is-read Two words (c, parts, s) = ap format_read s.spelled
index-is-read Three words (c, parts, s) = ap format_read s.spelled

-- an index is the one that its words state
same-view : (v : Format) (c d : Collection) (p q : List ListParts) → c ≡ d → p ≡ q → ◌≡◌ {A = IndexView} (record { format = v; collection = c; parts = p; starts = [] }) (record { format = v; collection = d; parts = q; starts = [] })
same-view v c d p q e f = ap (λ (x : Collection). record { format = v; collection = x; parts = p; starts = [] }) e ∙ ap (λ (x : List ListParts). record { format = v; collection = d; parts = x; starts = [] }) f

stated-in-is : FileLaws → (v : Format) (words : List ℕ) → All (λ w. w < 2 ^ 64) words → (c : Collection) (parts : List ListParts) → Spells (numbers_of v) words c parts
    → ◌≡◌ {A = IndexView} (stated_in v words) (record { format = v; collection = c; parts = parts; starts = [] })
stated-in-is laws One words narrow c parts h =
    let l = laws.sequences One in
    let p = to-plain One words c parts refl h in
    same-view One _ c _ parts (collection-is (numbers_of One) (formats-have-room One) l l.state words c parts p) (parts-are (numbers_of One) (formats-have-room One) l l.state words c parts p)
stated-in-is laws Two words narrow c parts h =
    let l = laws.sequences Two in
    let p = to-plain Two words c parts refl h in
    same-view Two _ c _ parts (collection-is (numbers_of Two) (formats-have-room Two) l l.state words c parts p) (parts-are (numbers_of Two) (formats-have-room Two) l l.state words c parts p)
stated-in-is laws Three words narrow c parts h =
    let p = to-packed words c parts h in
    let s = packed-states laws.appended laws.filled laws.part laws.takes laws.values laws.back (laws.sequences Three).give words narrow c parts p in
    same-view Three _ c _ parts s.0 s.1

pub stated-is : FileLaws → (v : Format) (words : List ℕ) → All (λ w. w < 2 ^ 64) words → (c : Collection) (parts : List ListParts) → Spells (numbers_of v) words c parts
    → ◌≡◌ {A = IndexView} (index_stated words) (record { format = v; collection = c; parts = parts; starts = [] })
unfolding index_stated
stated-is laws v words narrow c parts h = ap (λ x. stated_in x words) (index-is-read v words (c, parts, h)) ∙ stated-in-is laws v words narrow c parts h

-- the index that words state is given nothing of where its lists begin
pub none-given : (words : List ℕ) → ◌≡◌ {A = IndexView} (with_starts (index_stated words) []) (index_stated words)
unfolding index_stated
none-given words = refl

-- the words of an index spell what they state
pub spells-view : (words given : List ℕ) (i : IndexView) → Spells (numbers_of (index_stated words).format) words (index_stated words).collection (index_stated words).parts → with_starts (index_stated words) given ≡ i
    → Spells (numbers_of i.format) words i.collection i.parts
spells-view words given i h e = subst (λ x. Spells (numbers_of x.format) words x.collection x.parts) e h

pub spells-stated : FileLaws → (words : List ℕ) → All (λ w. w < 2 ^ 64) words → IsIndex words
    → Spells (numbers_of (index_stated words).format) words (index_stated words).collection (index_stated words).parts
spells-stated laws words narrow (v, i) =
    subst (λ x. Spells (numbers_of x.format) words x.collection x.parts) (sym (stated-is laws v words narrow i.0 i.1 i.2)) i.2

-- words with the frame of a packed file are read as one
pub packed-read : (words : List ℕ) → HasPackedFrame words → format_read words ≡ Three
packed-read words h = rw (eq-eqb (slice_index words 0) packed_magic h.opening) refl

-- and those that state one hold its lists
pub stated-hold : FileLaws → (words : List ℕ) → All (λ w. w < 2 ^ 64) words → IsIndex words → (index_stated words).format ≡ Three → HoldLists words (index_stated words).collection
stated-hold laws words narrow is packed =
    let i : IndexView = index_stated words in
    let spells : Spells (numbers_of Three) words i.collection i.parts = subst (λ v. Spells (numbers_of v) words i.collection i.parts) packed (spells-stated laws words narrow is) in
    hold-lists laws.appended laws.filled laws.part laws.takes laws.values words i.collection i.parts (to-packed words i.collection i.parts spells)

-- the numbers at the end of a file of either kind
pub record IsFramed (words : List ℕ) (c : Collection) : Type 0 where
  pub some : 6 ≤ length words
  pub documents : stated_documents words ≡ c.documents
  pub few : c.documents ≤ 4294967295
  pub terms : stated_terms words ≡ length c.lists
  pub few_terms : stated_terms words ≤ most_terms

plain-framed : (v : Format) (words : List ℕ) (c : Collection) (parts : List ListParts) → SpellsPlain (numbers_of v) words c parts → IsFramed words c
plain-framed v words c parts h =
    let frame = has-frame (numbers_of v) words c parts h in
    let room = formats-have-room v in
    record {
      some = frame.some;
      documents = documents-are (numbers_of v) words c parts h;
      few = omega (arith, h.well_formed.documents, room.fit);
      terms = terms-are (numbers_of v) words c parts h;
      few_terms = frame.terms;
    }

pub framed : TakesItsPayload → (v : Format) (words : List ℕ) (c : Collection) (parts : List ListParts) → Spells (numbers_of v) words c parts → IsFramed words c
framed takes One words c parts h = plain-framed One words c parts (to-plain One words c parts refl h)
framed takes Two words c parts h = plain-framed Two words c parts (to-plain Two words c parts refl h)
framed takes Three words c parts h =
    let p = to-packed words c parts h in
    let cs : List CutList = with_parts c.lists parts in
    let fits = packable words c parts p in
    let laid = packed-laid takes words c.documents cs c.sizes fits p.spelled in
    let count : length (with_parts c.lists parts) ≡ length c.lists = sym (length-map (with_parts c.lists parts) (λ x. x.list)) ∙ ap length (lists-back c.lists parts p.partitions) in
    record {
      some = laid.frame.some;
      documents = laid.docs;
      few = h.well_formed.documents;
      terms = laid.terms ∙ count;
      few_terms = laid.frame.terms;
    }

-- where its sizes stand
pub record IsSized (v : Format) (words : List ℕ) (c : Collection) : Type 0 where
  pub sizes : sizes_at words (sizes_of_kind (numbers_of v).kind words) (stated_documents words) ≡ c.sizes
  pub within : sizes_of_kind (numbers_of v).kind words + (stated_documents words + 1) / 2 ≤ length words

pub sized : FileLaws → (v : Format) (words : List ℕ) → All (λ w. w < 2 ^ 64) words → (c : Collection) (parts : List ListParts) → Spells (numbers_of v) words c parts → IsSized v words c
sized laws One words narrow c parts h =
    let p = to-plain One words c parts refl h in
    let frame = has-frame (numbers_of One) words c parts p in
    record { sizes = sizes-are (numbers_of One) words c parts p; within = omega (arith, frame.whole) }
sized laws Two words narrow c parts h =
    let p = to-plain Two words c parts refl h in
    let frame = has-frame (numbers_of Two) words c parts p in
    record { sizes = sizes-are (numbers_of Two) words c parts p; within = omega (arith, frame.whole) }
sized laws Three words narrow c parts h =
    let p = to-packed words c parts h in
    let fits = packable words c parts p in
    let frame = (packed-laid laws.takes words c.documents (with_parts c.lists parts) c.sizes fits p.spelled).frame in
    let s = packed-states laws.appended laws.filled laws.part laws.takes laws.values laws.back (laws.sequences Three).give words narrow c parts p in
    record { sizes = ap (λ x. x.sizes) s.0; within = omega (arith, frame.whole) }

-- a list of an index with its parts, as its words state it
pub record ListRead (v : Format) (words : List ℕ) (t : ℕ) (x : CutList) : Type 0 where
  pub docs : (list_of_kind (numbers_of v).kind (numbers_of v) words t).docs ≡ docs_view (numbers_of v) x
  pub freqs : (list_of_kind (numbers_of v).kind (numbers_of v) words t).freqs ≡ freqs_view (numbers_of v) x
  pub greatest : (list_of_kind (numbers_of v).kind (numbers_of v) words t).most ≡ greatest_freq x.list
  pub cursor : IsCursorList x.list
  pub give : postings_in (doc_sequence x.list) (freq_sequence x.list) ≡ x.list

pub cut-of-term : (lists : List (List Posting)) (parts : List ListParts) (d : CutList) (none : ListParts) → ArePartitions lists parts → (t : ℕ) → t < length lists
    → ◌≡◌ {A = CutList} (get_or (with_parts lists parts) t d) (record { list = get_or lists t []; parts = get_or parts t none })
cut-of-term [] parts d none h t lt = absurd (omega (arith, lt))
cut-of-term (l ∷ lists) [] d none h t lt = absurd h
cut-of-term (l ∷ lists) (p ∷ parts) d none h zero lt = refl
cut-of-term (l ∷ lists) (p ∷ parts) d none h (suc t) lt = cut-of-term lists parts d none h.2 t (omega (arith, lt))

pub list-read : FileLaws → (v : Format) (words : List ℕ) → All (λ w. w < 2 ^ 64) words → (c : Collection) (parts : List ListParts) (none : ListParts) → Spells (numbers_of v) words c parts
    → (t : ℕ) → t < length c.lists → ListRead v words t (record { list = list_of c t; parts = get_or parts t none })
list-read laws One words narrow c parts none h t lt =
    let p = to-plain One words c parts refl h in
    let l = laws.sequences One in
    let x : CutList = record { list = list_of c t; parts = get_or parts t none } in
    let o = opened-cut (numbers_of One) (formats-have-room One) l words c parts none p t (omega (arith, lt, terms-are (numbers_of One) words c parts p)) in
    record { docs = docs-read (numbers_of One) l words t x o; freqs = freqs-read (numbers_of One) l words t x o; greatest = o.most; cursor = o.cursor; give = o.give }
list-read laws Two words narrow c parts none h t lt =
    let p = to-plain Two words c parts refl h in
    let l = laws.sequences Two in
    let x : CutList = record { list = list_of c t; parts = get_or parts t none } in
    let o = opened-cut (numbers_of Two) (formats-have-room Two) l words c parts none p t (omega (arith, lt, terms-are (numbers_of Two) words c parts p)) in
    record { docs = docs-read (numbers_of Two) l words t x o; freqs = freqs-read (numbers_of Two) l words t x o; greatest = o.most; cursor = o.cursor; give = o.give }
list-read laws Three words narrow c parts none h t lt =
    let p = to-packed words c parts h in
    let cs : List CutList = with_parts c.lists parts in
    let give = (laws.sequences Three).give in
    let fits = packable words c parts p in
    let laid = packed-laid laws.takes words c.documents cs c.sizes fits p.spelled in
    let x : CutList = record { list = list_of c t; parts = get_or parts t none } in
    let list : IsPostingList format_three c.documents (list_of c t) = h.well_formed.lists t [] lt in
    let within : t < stated_terms words = omega (arith, lt, (framed laws.takes Three words c parts h).terms) in
    let is : packed_list_stated words t ≡ stated.stated-of x =
    stated.list-states laws.appended laws.filled laws.part laws.takes laws.values laws.back give words narrow c.documents cs c.sizes fits laid t within x
    ∙ ap stated.stated-of (cut-of-term c.lists parts x none p.partitions t lt) in
    record {
      docs = ap (λ (s : ListStated). s.docs) is;
      freqs = ap (λ (s : ListStated). s.freqs) is;
      greatest = ap (λ (s : ListStated). s.most) is;
      cursor = record {
        rising = list.rising;
        docs = All-weaker (λ d. d < c.documents) (λ d. d < 4294967295) (λ d l. omega (arith, l, h.well_formed.documents)) (docs_of (list_of c t)) list.in_range;
        not_zero = list.not_zero;
        fit = list.fit;
      };
      give = give format_three c.documents (list_of c t) list;
    }

-- those that words state of a list of an index are its own
pub list-of-views : FileLaws → (v : Format) (words : List ℕ) → All (λ w. w < 2 ^ 64) words → (c : Collection) (parts : List ListParts) → Spells (numbers_of v) words c parts
    → (t : ℕ) → t < stated_terms words → (docs freqs : SequenceView) (greatest : ℕ)
    → docs ≡ (list_of_kind (numbers_of v).kind (numbers_of v) words t).docs → freqs ≡ (list_of_kind (numbers_of v).kind (numbers_of v) words t).freqs
    → greatest ≡ (list_of_kind (numbers_of v).kind (numbers_of v) words t).most → AreOfList docs freqs greatest (list_of c t)
list-of-views laws v words narrow c parts h t lt docs freqs greatest docs_are freqs_are most =
    let none : ListParts = record { doc_ends = []; freq_ends = [] } in
    let within : t < length c.lists = omega (arith, lt, (framed laws.takes v words c parts h).terms) in
    let read = list-read laws v words narrow c parts none h t within in
    let as_docs = docs_are ∙ read.docs in
    let as_freqs = freqs_are ∙ read.freqs in
    let is : postings_in docs.values freqs.values ≡ list_of c t =
    ap (λ k. postings_in k.values freqs.values) as_docs ∙ ap (λ k. postings_in (doc_sequence (list_of c t)) k.values) as_freqs ∙ read.give in
    let rise = (laws.sequences v).rise (numbers_of v) c.documents (list_of c t) (h.well_formed.lists t [] within) in
    record {
      same_length = ap (λ k. length k.values) as_docs ∙ rise.docs_count ∙ sym rise.sums_count ∙ sym (ap (λ k. length k.values) as_freqs);
      cursor = subst IsCursorList (sym is) read.cursor;
      most = most ∙ read.greatest ∙ ap greatest_freq (sym is);
      give = is;
      cut = subst (λ (v : SequenceView). IsPartition (length v.values) v.ends) (sym as_docs)
          (subst (λ m. IsPartition m (get_or parts t none).doc_ends) (sym rise.docs_count) (partition-at c.lists parts none h.partitions t within));
    }

-- words of 64 bits
pub narrow-words : (words : List ℕ) → ((k : ℕ) → get_or words k 0 < 2 ^ 64) → All (λ w. w < 2 ^ 64) words
narrow-words words small = All-from_get_or (λ w. w < 2 ^ 64) words 0 (λ k lt. small k)

-- a size, and the sum of all
pub size-read : (v : Format) (words : List ℕ) (c : Collection) → IsSized v words c → stated_documents words ≡ c.documents → (d : ℕ) → d < c.documents
    → size_at words (sizes_of_kind (numbers_of v).kind words) d ≡ slice_index c.sizes d
size-read v words c h documents d lt =
    let f : ℕ → ℕ = size_at words (sizes_of_kind (numbers_of v).kind words) in
    sym (get_or-map-range_with_len f 0 (stated_documents words) d d 0 (omega (arith, lt, documents)) (omega arith)) ∙ ap (λ xs. slice_index xs d) h.sizes

pub sizes-summed : (v : Format) (words : List ℕ) (c : Collection) → IsSized v words c → stated_documents words ≡ c.documents
    → sum_by (size_at words (sizes_of_kind (numbers_of v).kind words)) (range_with_len 0 c.documents) ≡ sum c.sizes
sizes-summed v words c h documents =
    let f : ℕ → ℕ = size_at words (sizes_of_kind (numbers_of v).kind words) in
    ap (λ n. sum_by f (range_with_len 0 n)) (sym documents) ∙ sym (sum-map f (range_with_len 0 (stated_documents words))) ∙ ap sum h.sizes
