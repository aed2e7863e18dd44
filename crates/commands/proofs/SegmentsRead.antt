-- Segments that are read one after the other, and what is left at several indexes.
use Rattle.std.proofs.Common.{add-one, ◌≡◌, rules, refl, sym, ◌∙◌, ap, subst, ℕ, suc, ◌+◌, ◌-◌, ◌<◌, ◌≤◌, List, [], ◌∷◌, ◌++◌, length, take, get_or, inl, inr, arith, ◌≢◌, ◌⊎◌, IsTrue, Some, None, Err, string_bytes, Global, All, String}
use Rattle.std.proofs.lemmas.Bool.{cases_lt}
use Rattle.std.proofs.lemmas.List.{append_assoc, append-nil, length_push, length-append, map-append, get_or_append_left, get_or_push, get_or-map, take_all}
use Rattle.std.proofs.lemmas.List.Elements.{All-nil, All-append, All-cons}
use Rattle.commands.proofs.Names.{Collection, Slot, fault_of, Index, DepotState, OnlyReads, WasStartedAs, bytes_under, OnlyReads-trans, IndexView, SegRule, terms_in, none_pushed, IsIndexSlot, most_bytes, texts, collections_of, Stop, OfFile, BrokenIndex, BrokenSegment, UnfitSegment, FileFault, NoMemory, TooLarge, Outcome, EndsByFault, FindsIndexOf, no_collection, FindsSegments, IsUnfit, Accepts, EndsAt, IndexAt, IndexesAt, IsUnread, was_read, stays, Of, Laws, ended_there, refuses_none, AreAccepted, comes_to, OnSegment, raised, IsSegmentCount, StartedUnder, StartsInTurn, IsUnloaded, pushed_of, rule_at, IsAccepted, IsRejected, AreLoaded, at_segment, documents_in, most_joined, Pushed, with_segment, Joining, Alike, Wide, CanJoin, AreJoinedTo, G1, G2, G3, Starts}
use Rattle.std.proofs.lemmas.List.Sums.{sum_by_push}
use Rattle.std.proofs.Math.Seq.{take-suc}
use Rattle.io_traits.specs.Starting.{Starting, StartedAs}
use Rattle.index_file.specs.declared.fault.OpenFault.{OpenFault}
use Rattle.command_ends.specs.FoundIndex.{HasBroken}
use Rattle.commands.proofs.FilesRead.{bytes_stay, same_refusals}
use Rattle.commands.proofs.SegmentsFound.{come}

-- ---- what is pushed

with_pushed : (joining : Joining) (cs : List Collection) (c : Collection) → with_segment (pushed_of joining cs) c.documents (length c.lists) ≡ pushed_of joining (cs ++ c ∷ [])
with_pushed joining [] c = refl
with_pushed joining (x ∷ cs) c = rw (sum_by_push (λ (d : Collection). d.documents) (x ∷ cs) c)

-- Where no rule is broken, there are not too many documents with one more collection,
few_more : (joining : Joining) (cs : List Collection) (c : Collection) → rule_at (pushed_of joining cs) c ≡ None → documents_in (cs ++ c ∷ []) ≤ most_joined
few_more joining cs c is = omega (arith, sum_by_push (λ (d : Collection). d.documents) cs c, few joining cs is)
  where
    few : (joining : Joining) (cs : List Collection) → rule_at (pushed_of joining cs) c ≡ None → documents_in cs + c.documents ≤ most_joined
    few Alike [] is = grind arith
    few Alike (x ∷ cs) is = grind arith
    few Wide cs is = grind arith

-- it has as many terms as the first, where all have to be alike,
alike_more : (cs : List Collection) (c : Collection) → rule_at (pushed_of Alike cs) c ≡ None → All (λ d. length d.lists ≡ terms_in cs) cs
    → All (λ d. length d.lists ≡ terms_in (cs ++ c ∷ [])) (cs ++ c ∷ [])
alike_more [] c is all = search (rules, All-cons, All-nil)
alike_more (x ∷ cs) c is all = let same : length c.lists ≡ length x.lists = grind arith in search (rules, All-append, All-cons, All-nil)

-- and they can be joined.
fits_more : (joining : Joining) (cs : List Collection) (c : Collection) → rule_at (pushed_of joining cs) c ≡ None → CanJoin joining cs → CanJoin joining (cs ++ c ∷ [])
fits_more Alike cs c is fit = record { terms = alike_more cs c is fit.terms; documents = few_more Alike cs c is }
fits_more Wide cs c is fit = few_more Wide cs c is

-- and where one is, it is unfit
unfit : (joining : Joining) (cs : List Collection) (c : Collection) (rule : SegRule) → rule_at (pushed_of joining cs) c ≡ Some rule → IsUnfit joining cs c rule
unfit Alike [] c rule is = grind arith
unfit Alike (x ∷ cs) c rule is = grind arith
unfit Wide cs c rule is = grind arith

-- which is not the rule on the sums of all
not_frequent : (joining : Joining) (cs : List Collection) (c : Collection) → IsUnfit joining cs c G3 → ⊥
not_frequent Alike cs c is = is
not_frequent Wide cs c is = is

-- ---- files that stay while others are read

module _ {old mid : DepotState} {name : List ℕ} (reads : OnlyReads IsIndexSlot old mid) where
  found_before : (c : Collection) → FindsIndexOf name mid c → FindsIndexOf name old c
  found_before c (format, parts, found) = (format, parts, grind arith)

  broken_before : {fault : OpenFault} → IsTrue old.tells → HasBroken name mid fault → HasBroken name old fault
  broken_before {fault} t broken = grind arith

-- ---- one after the other

-- a run ended before all segments were accepted
unread : (joining : Joining) (names : List (List ℕ)) (old now : DepotState) → Laws (IndexesAt joining names) → (outcome : Outcome)
    → EndsAt (IndexesAt joining names) old outcome ⊎ (outcome ≡ Err NoMemory) → OnlyReads IsIndexSlot old now
    → EndsByFault (OfFile Index) outcome (old.faults Index) (now.faults Index) → StartsInTurn joining names outcome old now → (outcome ≡ Err NoMemory) ⊎ (now.refusals ≡ old.refusals)
    → IsUnread (IndexesAt joining names) old now outcome
unread joining names old now laws outcome ends reads faults starts refusals =
    let came : (slot : Slot) → Of (fault_of outcome) (OfFile slot) → IsIndexSlot slot = comes_to (IndexesAt joining names) old outcome ends in
    ended_there (IndexesAt joining names) laws old now outcome ends (grind arith)

-- one more start behind those under some names
started_more : (names : List (List ℕ)) (name : List ℕ) (a b c : Starting) → StartedUnder names a b → StartedAs name b c → StartedUnder (names ++ name ∷ []) a c
started_more names name a b c before this =
    let more : length (names ++ name ∷ []) ≡ suc (length names) = omega (arith, length_push names name) in
    grind (arith, append_assoc a.names names (name ∷ []), ap (λ n. raised n a.count) more)

-- none is read
pub none_accepted : (joining : Joining) (old : DepotState) → AreAccepted joining [] (none_pushed joining) old old []
none_accepted Alike old = grind (arith, All-nil, append-nil (old.starts Index).names)
none_accepted Wide old = grind (arith, append-nil (old.starts Index).names)

-- one more is
push_accepted : (joining : Joining) (names : List (List ℕ)) (name : List ℕ) (before after : Pushed) (old mid now : DepotState) (indexes : List IndexView) (index : IndexView)
    → AreAccepted joining names before old mid indexes → IsAccepted name before after mid now index → AreAccepted joining (names ++ name ∷ []) after old now (indexes ++ index ∷ [])
push_accepted joining names name before after old mid now indexes index accepted w = record {
  found = rw all (record {
    as_many = omega (arith, length-append cs (c ∷ []), length-append names (name ∷ []), accepted.found.as_many);
    each = each c (index.format, index.parts, w.loaded.found);
    fit = fits_more joining cs c (ap (λ p. rule_at p c) (sym accepted.pushed) ∙ w.fits) accepted.found.fit;
  });
  pushed = w.pushed ∙ ap (λ p. with_segment p c.documents (length c.lists)) accepted.pushed ∙ with_pushed joining cs c ∙ ap (pushed_of joining) (sym all);
  reads = OnlyReads-trans accepted.reads w.loaded.read.reads;
  faults = w.loaded.read.counts Index ∙ accepted.faults;
  starts = started_more names name (old.starts Index) (mid.starts Index) (now.starts Index) accepted.starts w.started;
  refusals = same_refusals w.loaded ∙ accepted.refusals;
}
  where
    cs : List Collection
    cs = collections_of indexes

    c : Collection
    c = index.collection

    all : collections_of (indexes ++ index ∷ []) ≡ cs ++ c ∷ []
    all = map-append (λ (i : IndexView). i.collection) indexes (index ∷ [])

    each : (c : Collection) → FindsIndexOf name mid c → (s : ℕ) → s < length (names ++ name ∷ []) → FindsIndexOf (get_or (names ++ name ∷ []) s []) old (get_or (cs ++ c ∷ []) s no_collection)
    each c found s inside = elim (cases_lt s (length names)) as (λ _. FindsIndexOf (get_or (names ++ name ∷ []) s []) old (get_or (cs ++ c ∷ []) s no_collection)) [
      | inl earlier ↦
          rw (get_or_append_left names (name ∷ []) [] s earlier, get_or_append_left cs (c ∷ []) no_collection s (omega (arith, earlier, accepted.found.as_many))) (accepted.found.each s earlier)
      | inr last ↦
          let here : length names ≡ s = omega (arith, last, inside, length-append names (name ∷ [])) in
          rw (get_or_push names name [] s here, get_or_push cs c no_collection s (accepted.found.as_many ∙ here)) (found_before accepted.reads c found)
    ]

module _ (joining : Joining) (names : List (List ℕ)) (k : ℕ) (name : List ℕ) (before : Pushed) (old mid now : DepotState) (indexes : List IndexView)
    (accepted : AreAccepted joining (take k names) before old mid indexes)
    (lt : k < length names) (is : name ≡ get_or names k []) where
  abbrev cs : List Collection
  cs = collections_of indexes

  next : take (suc k) names ≡ take k names ++ name ∷ []
  next = take-suc names k [] lt ∙ ap (λ n. take k names ++ n ∷ []) (sym is)

  -- the next one is accepted
  pub one_accepted : (after : Pushed) (index : IndexView) (more : List IndexView) → IsAccepted name before after mid now index → more ≡ indexes ++ index ∷ []
      → AreAccepted joining (take (k + 1) names) after old now more
  one_accepted after index more w pushed = rw (add-one, next, pushed) (push_accepted joining (take k names) name before after old mid now indexes index accepted w)

  -- the next one is rejected
  module _ (laws : Laws (IndexesAt joining names)) where
    abbrev Unread : Outcome → Type 0
    Unread outcome = IsUnread (IndexesAt joining names) old now outcome

    on_segment : (P : List Collection → List ℕ → Type 0) → P cs name → OnSegment joining names old k P
    on_segment P p = (lt, (cs, accepted.found, subst (P cs) is p))

    ended : WasStartedAs name Index mid now → (outcome : Outcome) → EndsAt (IndexesAt joining names) old outcome ⊎ (outcome ≡ Err NoMemory) → IsSegmentCount joining names old outcome (suc k)
        → OnlyReads IsIndexSlot mid now → EndsByFault (OfFile Index) outcome (mid.faults Index) (now.faults Index) → (outcome ≡ Err NoMemory) ⊎ (now.refusals ≡ mid.refusals) → Unread outcome
    ended started outcome ends count reads faults refusals =
        unread joining names old now laws outcome ends (OnlyReads-trans accepted.reads reads) (subst (λ n. EndsByFault (OfFile Index) outcome n (now.faults Index)) accepted.faults faults)
        (suc k, count, come joining names old cs k (suc k) accepted.found (omega arith) (omega (arith, lt)), rw next (started_more (take k names) name (old.starts Index) (mid.starts Index) (now.starts Index) accepted.starts started))
        (elim refusals [ inl refused ↦ inl refused | inr same ↦ inr (same ∙ accepted.refusals) ])

    -- it is no index
    not_loaded : WasStartedAs name Index mid now → (at : Stop) → IsUnloaded name mid now at → Unread (Err (at_segment k at))
    not_loaded started at w = go at w (λ other. elim w.ends [ inl here ↦ here | inr memory ↦ absurd (other memory) ])
      where
        go : (at : Stop) → IsUnloaded name mid now at → (◌≢◌ {A = Outcome} (Err at) (Err NoMemory) → EndsAt (IndexAt name) mid (Err at)) → Unread (Err (at_segment k at))
        go (BrokenIndex fault) w here =
            ended started (Err (BrokenSegment fault k))
            (inl (λ t. on_segment (λ cs n. HasBroken n old fault) (broken_before accepted.reads t (here (λ h. cc) (accepted.reads.tells ∙ t))))) refl w.still.reads
            (grind (arith, w.still.files Index)) (grind (arith, w.still.starts.refusals))
        go (FileFault slot) w here =
            ended started (Err (FileFault slot)) (inl (here (λ h. cc))) (omega arith, omega (arith, lt)) w.still.reads (w.still.files Index) w.still.starts.refusals
        go (TooLarge slot) w here =
            let long : IsTrue old.tells → OnSegment joining names old k (λ cs n. most_bytes < length (bytes_under old n)) = λ t.
            on_segment (λ cs n. most_bytes < length (bytes_under old n)) (subst (λ bytes. most_bytes < length bytes) (bytes_stay name accepted.reads t) ((here (λ h. cc)).1 (accepted.reads.tells ∙ t))) in
            ended started (Err (TooLarge slot)) (inl ((here (λ h. cc)).0, λ t. ((here (λ h. cc)).0, (k, long t)))) (inl (k, refl, lt, long)) w.still.reads (w.still.files Index) w.still.starts.refusals
        go NoMemory w here = ended started (Err NoMemory) (inr refl) (omega (arith, lt)) w.still.reads (w.still.files Index) w.still.starts.refusals
        go it w here = absurd (here (λ h. cc))

    -- it cannot be joined behind those before it
    unfit_at : (rule : SegRule) → OnSegment joining names old k (λ cs n. (c : Collection) × FindsIndexOf n old c × IsUnfit joining cs c rule)
        → EndsAt (IndexesAt joining names) old (Err (UnfitSegment rule k)) × IsSegmentCount joining names old (Err (UnfitSegment rule k)) (suc k)
    unfit_at G1 on = (on, refl)
    unfit_at G2 on = (on, refl)
    unfit_at G3 (lt, (ds, f, (c, found, is))) = absurd (not_frequent joining ds c is)

    pub one_rejected : (it : Stop) → IsRejected name k before mid now it → Unread (Err it)
    one_rejected it w = elim w.why [
      | inl (at, unloaded, so) ↦ subst (λ x. Unread (Err x)) (sym so) (not_loaded w.started at unloaded)
      | inr (rule, view, loaded, broken, so) ↦
          let P : List Collection → List ℕ → Type 0 = λ cs n. (c : Collection) × FindsIndexOf n old c × IsUnfit joining cs c rule in
          let is : IsUnfit joining cs view.collection rule = unfit joining cs view.collection rule (ap (λ p. rule_at p view.collection) (sym accepted.pushed) ∙ broken) in
          let at = unfit_at rule (on_segment P (view.collection, found_before accepted.reads view.collection (view.format, view.parts, loaded.found), is)) in
          subst (λ x. Unread (Err x)) (sym so)
          (ended w.started (Err (UnfitSegment rule k)) (inl at.0) at.1
          loaded.read.reads (stays (OfFile Index) (Err (UnfitSegment rule k)) _ _ (λ h. cc) (loaded.read.counts Index)) (inr (same_refusals loaded)))
    ]

-- memory was refused behind some of them
pub no_room : (joining : Joining) (names : List (List ℕ)) (k : ℕ) (pushed : Pushed) (old mid : DepotState) (indexes : List IndexView) → Laws (IndexesAt joining names)
    → AreAccepted joining (take k names) pushed old mid indexes → k ≤ length names → IsUnread (IndexesAt joining names) old mid (Err NoMemory)
no_room joining names k pushed old mid indexes laws accepted le =
    unread joining names old mid laws (Err NoMemory) (inr refl) accepted.reads (grind arith)
    (k, le, come joining names old (collections_of indexes) k k accepted.found (omega arith) le, accepted.starts) (inr accepted.refusals)

-- all are accepted
module _ (joining : Joining) (names : List (List ℕ)) (pushed : Pushed) (old now : DepotState) (indexes : List IndexView) (laws : Laws (IndexesAt joining names))
    (w : AreAccepted joining (take (length names) names) pushed old now indexes) where
  found : FindsSegments joining names old (collections_of indexes)
  found = subst (λ ns. FindsSegments joining ns old (collections_of indexes)) (take_all (length names) names (omega arith)) w.found

  in_turn : (outcome : Outcome) → IsSegmentCount joining names old outcome (length names) → StartsInTurn joining names outcome old now
  in_turn outcome count = (length names, count, come joining names old (collections_of indexes) (length names) (length names) w.found (omega arith) (omega arith), w.starts)

  started : (outcome : Outcome) → IsSegmentCount joining names old outcome (length names) → Starts (IndexesAt joining names) outcome old now
  started outcome count = let turn : StartsInTurn joining names outcome old now = in_turn outcome count in grind arith

  -- all are read by a run that is not refused what it reads
  count : (outcome : Outcome) → IsTrue (was_read outcome) → IsSegmentCount joining names old outcome (length names)
  count (Err NoMemory) h = omega arith
  count outcome h = grind arith

  accepted : (c : Collection) → AreJoinedTo joining (collections_of indexes) c → Accepts (IndexesAt joining names) old
  accepted c is = (c, (collections_of indexes, found, is))

  pub all_loaded : AreLoaded joining names old now indexes
  all_loaded = record {
    found = found;
    read = λ c is. record {
      accepted = accepted c is;
      refuses = refuses_none (IndexesAt joining names) laws old (accepted c is);
      reads = w.reads;
      starts = λ outcome h. started outcome (count outcome h);
      counts = λ slot. grind arith;
    };
    starts = started;
    unread = λ outcome ends none n.
        unread joining names old now laws outcome ends w.reads (stays (OfFile Index) outcome _ _ (λ h. cc) w.faults) (in_turn outcome n) (inr w.refusals);
  }

-- the name of a segment
pub name_at : (names : List (String Global)) (k : ℕ) (name : String Global) (text : List ℕ) → k < length names → name ≡ get_or names k name → text ≡ string_bytes name → text ≡ get_or (texts names) k []
name_at names k name text lt is so = so ∙ ap string_bytes is ∙ sym (get_or-map string_bytes names k name [] lt)
