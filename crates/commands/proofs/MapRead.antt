-- A collection and an order of its documents: they are refused in one way only, and in none where they stand there; and what a run leaves at them.
use Rattle.std.proofs.Common.{◌≡◌, ℕ, refl, sym, ◌∙◌, ap, List, inl, inr, ◌⊎◌, arith, IsTrue, Ok, Err}
use Rattle.commands.proofs.Names.{Collection, Two, DepotState, bytes_under, Fault, FindsCollection, remap_numbers, NamedFile, ImageError, MakesImage, BrokenCollection, NoMemory, Outcome, CollectionAt, EndsAt, IsRefusedAs, MapAt, Stands, Starts, IsRead, IsUnread, was_read, stop_of_image, Laws, ended_there, refuses_none, IsStill, BrokenMap}
use Rattle.collection_model.specs.Laws.{OneCollection}
use Rattle.remap.specs.MapFaults.{IsMapFault}
use Rattle.remap.specs.ReadMap.{OneMapFault}
use Rattle.remapped_files.specs.declared.image.ImageError.TheVariants as making
use Rattle.commands.proofs.CollectionRead.{at_base}

-- ---- the source

-- where the collection alone is refused in one way only, has one spelling, and maps have one fault
module _ (base map : List ℕ) (alone : Laws (at_base Two base)) (one_collection : OneCollection remap_numbers) (one_fault : OneMapFault) where
  -- a collection that stands there is not refused
  accepted : {P : Type 0} (d : DepotState) → IsTrue d.tells → (c : Collection) → FindsCollection remap_numbers base d c → (fault : Fault)
      → IsRefusedAs (CollectionAt remap_numbers base) d (Err (BrokenCollection fault)) → P
  accepted d t c found fault x = absurd (alone.none d (t, (c, found)) (Err (BrokenCollection fault)) x)

  same : (d : DepotState) → IsTrue d.tells → (c e : Collection) → FindsCollection remap_numbers base d c → FindsCollection remap_numbers base d e → c ≡ e
  same d t c e f g = one_collection c e f.well_formed g.well_formed (sym (f.files t) ∙ g.files t)

  one : (d : DepotState) → IsTrue d.tells → (a b : Outcome) → IsRefusedAs (MapAt base map) d a → IsRefusedAs (MapAt base map) d b → a ≡ b
  one d t (Err (BrokenCollection f)) (Err (BrokenCollection g)) x y = alone.one d t (Err (BrokenCollection f)) (Err (BrokenCollection g)) x y
  one d t (Err (BrokenCollection f)) (Err (BrokenMap g)) x y = accepted d t y.0.0 y.0.1 f x
  one d t (Err (BrokenMap f)) (Err (BrokenCollection g)) x y = accepted d t x.0.0 x.0.1 g y
  one d t (Err (BrokenMap f)) (Err (BrokenMap g)) x y =
      let p = x.1 t in
      let q = y.1 t in
      ap (λ it. Err (BrokenMap it)) (one_fault.one p.0.documents (bytes_under d map) f g p.2 (rw (same d t q.0 p.0 q.1 p.1) at q.2))
  one d t a b x y = grind arith

  none : (d : DepotState) → Stands (MapAt base map) d → (a : Outcome) → IsRefusedAs (MapAt base map) d a → ⊥
  none d (t, (c, (ids, both))) (Err (BrokenCollection f)) x = accepted d t c both.collection f x
  none d (t, (c, (ids, both))) (Err (BrokenMap f)) x =
      let p = x.1 t in
      let order = both.order in
      let here : IsMapFault c.documents (bytes_under d map) f = rw (same d t p.0 c p.1 both.collection) at p.2 in
      one_fault.none_in_order ids f order.new_ids (omega (arith, order.each, both.collection.well_formed.documents)) (rw (← order.each, order.bytes t) at here)
  none d stands a x = x

  pub map_laws : Laws (MapAt base map)
  map_laws = record { one = one; none = none }

-- ---- the files are not made

-- how a run ends whose files are not made
abbrev pub unmade : ImageError → Outcome
unmade e = Err (stop_of_image e)

module _ (base map to : List ℕ) (d d1 : DepotState) (laws : Laws (MapAt base map)) where
  still : (error : ImageError) → MakesImage base map to d d1 (Err error) → IsStill (MapAt base map) d d1 (unmade error)
  still (making.Broken fault) w = grind arith
  still (making.BrokenMap fault) w = grind arith
  still (making.Read slot) w = grind arith
  still making.NoMemory w = grind arith

  ends : (error : ImageError) → MakesImage base map to d d1 (Err error) → EndsAt (MapAt base map) d (unmade error) ⊎ (unmade error ≡ Err NoMemory)
  ends (making.Broken fault) w = grind arith
  ends (making.BrokenMap fault) w = grind arith
  ends (making.Read slot) w = inl (elim (w.read_only_where_it_rose slot refl).0 [ inl is ↦ inl is | inr is ↦ inr (is, w.accepted_at_read (rw is refl)) ])
  ends making.NoMemory w = inr refl

  pub image_unmade : (error : ImageError) → MakesImage base map to d d1 (Err error) → IsUnread (MapAt base map) d d1 (unmade error)
  image_unmade error w = ended_there (MapAt base map) laws d d1 (unmade error) (ends error w) (still error w)

  -- ---- they are made

  module _ (files : List NamedFile) (w : MakesImage base map to d d1 (Ok files)) where
    both_started : (outcome : Outcome) → IsTrue (was_read outcome) → Starts (MapAt base map) outcome d d1
    both_started (Err (BrokenCollection fault)) read = grind arith
    both_started outcome read = grind arith

    pub map_read : IsRead (MapAt base map) d d1
    map_read = record {
      accepted = (w.files.0, (w.files.1, w.files.3));
      refuses = refuses_none (MapAt base map) laws d (w.files.0, (w.files.1, w.files.3));
      reads = w.reads;
      starts = both_started;
      counts = λ slot. grind arith;
    }
