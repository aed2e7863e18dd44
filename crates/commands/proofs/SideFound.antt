-- An index and its side file: they are refused in one way only, and in none where they stand there.
use Rattle.std.proofs.Common.{◌≡◌, ℕ, arith, sym, ◌∙◌, ap, subst, List, length, inl, inr, ◌%◌, ◌==◌, not, true, false, IsTrue, Bool, MatchBool, Err}
use Rattle.commands.proofs.Names.{Collection, Format, numbers_of, DepotState, bytes_under, ListParts, WordsAreRead, OneBrokenCheck, OneIndex, SideFault, BlockList, IsFirstSideFault, side_words, AreOfWords, BrokenIndex, BrokenSide, TooLarge, Outcome, FindsIndex, HasBrokenSide, IsFirstSideFaultOfFile, Accepts, IndexAt, IsRefusedAs, SideAt, Stands, index_laws, is_even, even, short, ragged_side, side_of, block_lists, not_both_lengths}
use Rattle.block_max.specs.Laws.{OneSideFault}
use Rattle.index_blocks.specs.Laws.{SideFilesFit}
use Rattle.command_ends.proofs.SourceRead as source
use Rattle.commands.proofs.FilesRead.{same_view}

module _ (read : WordsAreRead) (check : OneBrokenCheck) (one_index : OneIndex) (faults : OneSideFault) (fit : SideFilesFit) where
  -- bytes have one first fault
  one_fault : (lists : List BlockList) (bytes : List ℕ) (f g : SideFault) → IsFirstSideFaultOfFile lists bytes f → IsFirstSideFaultOfFile lists bytes g → f ≡ g
  one_fault lists bytes f g = go (not (length bytes % 8 == 0))
    where
      go : (b : Bool) → MatchBool b (f ≡ ragged_side) ((v : List ℕ) × AreOfWords bytes v × IsFirstSideFault lists v f)
          → MatchBool b (g ≡ ragged_side) ((w : List ℕ) × AreOfWords bytes w × IsFirstSideFault lists w g) → f ≡ g
      go true x y = x ∙ sym y
      go false (v, a, x) (w, b, y) = faults.one lists v f g x (rw (read w v b.fit a.fit (sym b.bytes_are ∙ a.bytes_are)) at y)

  -- and those of the side file have none
  no_fault : (lists : List BlockList) (bytes : List ℕ) (fault : SideFault) → AreOfWords bytes (side_words lists) → IsFirstSideFaultOfFile lists bytes fault → ⊥
  no_fault lists bytes fault of first =
      let it = rw (is_even (length bytes % 8) (even bytes (side_words lists) of)) at first in
      faults.none lists fault (rw (read it.0 (side_words lists) it.1.fit of.fit (sym it.1.bytes_are ∙ of.bytes_are)) at it.2)

  -- an index under a name has one list of blocks
  same_lists : (name : List ℕ) (d : DepotState) → IsTrue d.tells → (v w : Format) (c e : Collection) (p q : List ListParts)
      → FindsIndex (numbers_of v) name d c p → FindsIndex (numbers_of w) name d e q → block_lists c.lists p ≡ block_lists e.lists q
  same_lists name d t v w c e p q f g =
      let one = same_view one_index read name d t v w c e p q f g in
      ap (λ (a : Collection). block_lists a.lists p) one.1 ∙ ap (λ (ps : List ListParts). block_lists e.lists ps) one.2

  module _ (index side : List ℕ) where
    -- the index alone
    alone : source.Laws (IndexAt index)
    alone = index_laws read check index

    abbrev Refused : DepotState → Outcome → Type 0
    Refused d outcome = IsRefusedAs (SideAt index side) d outcome

    denied : {P : Type 0} (d : DepotState) → IsTrue d.tells → Accepts (IndexAt index) d → (a : Outcome) → IsRefusedAs (IndexAt index) d a → P
    denied d t is a x = absurd (source.refused_there (IndexAt index) alone d t is a x)

    one_side : (d : DepotState) → IsTrue d.tells → (f g : SideFault) → HasBrokenSide index side d f → HasBrokenSide index side d g → f ≡ g
    one_side d t f g x y =
        one_fault (block_lists x.collection.lists x.parts) (bytes_under d side) f g x.first
        (subst (λ lists. IsFirstSideFaultOfFile lists (bytes_under d side) g)
        (same_lists index d t y.format x.format y.collection x.collection y.parts x.parts y.found x.found) y.first)

    one : (d : DepotState) → IsTrue d.tells → (a b : Outcome) → Refused d a → Refused d b → a ≡ b
    one d t (Err (BrokenIndex f)) (Err (BrokenIndex g)) x y = alone.one d t (Err (BrokenIndex f)) (Err (BrokenIndex g)) x y
    one d t (Err (BrokenIndex f)) (Err (BrokenSide g)) x y = denied d t y.0 (Err (BrokenIndex f)) x
    one d t (Err (BrokenIndex f)) (Err (TooLarge slot)) x (inl y) = alone.one d t (Err (BrokenIndex f)) (Err (TooLarge slot)) x y
    one d t (Err (BrokenIndex f)) (Err (TooLarge slot)) x (inr y) = denied d t y.1 (Err (BrokenIndex f)) x
    one d t (Err (BrokenSide f)) (Err (BrokenIndex g)) x y = denied d t x.0 (Err (BrokenIndex g)) y
    one d t (Err (BrokenSide f)) (Err (BrokenSide g)) x y = ap (λ it. Err (BrokenSide it)) (one_side d t f g (x.1 t) (y.1 t))
    one d t (Err (BrokenSide f)) (Err (TooLarge slot)) x (inl y) = denied d t x.0 (Err (TooLarge slot)) y
    one d t (Err (BrokenSide f)) (Err (TooLarge slot)) x (inr y) = absurd (not_both_lengths _ _ (x.1 t).within (y.2 t))
    one d t (Err (TooLarge slot)) (Err (BrokenIndex g)) (inl x) y = alone.one d t (Err (TooLarge slot)) (Err (BrokenIndex g)) x y
    one d t (Err (TooLarge slot)) (Err (BrokenIndex g)) (inr x) y = denied d t x.1 (Err (BrokenIndex g)) y
    one d t (Err (TooLarge slot)) (Err (BrokenSide g)) (inl x) y = denied d t y.0 (Err (TooLarge slot)) x
    one d t (Err (TooLarge slot)) (Err (BrokenSide g)) (inr x) y = absurd (not_both_lengths _ _ (y.1 t).within (x.2 t))
    one d t (Err (TooLarge slot)) (Err (TooLarge other)) (inl x) (inr y) = denied d t y.1 (Err (TooLarge slot)) x
    one d t (Err (TooLarge slot)) (Err (TooLarge other)) (inr x) (inl y) = denied d t x.1 (Err (TooLarge other)) y
    one d t (Err (TooLarge slot)) (Err (TooLarge other)) (inl x) (inl y) = ap (λ it. Err (TooLarge it)) (x.0 ∙ sym y.0)
    one d t (Err (TooLarge slot)) (Err (TooLarge other)) (inr x) (inr y) = ap (λ it. Err (TooLarge it)) (x.0 ∙ sym y.0)
    one d t a b x y = grind arith

    -- where both stand there
    none : (d : DepotState) → Stands (SideAt index side) d → (a : Outcome) → Refused d a → ⊥
    none d (t, (c, (v, p, f, s))) (Err (BrokenIndex fault)) x = denied d t (c, (v, p, f)) (Err (BrokenIndex fault)) x
    none d (t, (c, (v, p, f, s))) (Err (BrokenSide fault)) x =
        let h = x.1 t in
        no_fault (block_lists c.lists p) (bytes_under d side) fault (s t)
        (subst (λ lists. IsFirstSideFaultOfFile lists (bytes_under d side) fault)
        (same_lists index d t h.format v h.collection c h.parts p h.found f) h.first)
    none d (t, (c, (v, p, f, s))) (Err (TooLarge slot)) (inl x) = denied d t (c, (v, p, f)) (Err (TooLarge slot)) x
    none d (t, (c, (v, p, f, s))) (Err (TooLarge slot)) (inr x) =
        not_both_lengths _ _ (short (bytes_under d side) (side_of c p) (s t) (omega (arith, fit (numbers_of v) c p f.well_formed f.partitions f.within))) (x.2 t)
    none d stands a x = x

    pub side_laws : source.Laws (SideAt index side)
    side_laws = record { one = one; none = none }
