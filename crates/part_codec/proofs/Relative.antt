-- The values of a part whose places are all taken, and that every view holds one list.
use Rattle.std.proofs.Common.{◌≡◌, ℕ, ◌≤◌, ◌<◌, List, arith, sym, ◌∙◌, subst}
use Rattle.std.specs.Prelude.{slice_index}
use Rattle.std.proofs.lemmas.List.FromFn.{get_or-range_with_len}
use Rattle.part_cost.specs.Span.{AreRelative}
use Rattle.part_cost.specs.Payload.{ef_spacing, bitmap_spacing}
use Rattle.part_cost.proofs.Parts.{relative-range}
use Rattle.elias_fano.proofs.OneList as elias_fano
use Rattle.ranked_bitmap.proofs.OneList as bitmap
use Rattle.part_codec.specs.declared.views.PartView.{PartView}
use Rattle.part_codec.specs.declared.forms.Form.{Form}
use Rattle.part_codec.specs.declared.forms.Form.TheVariants.{Ones, Bitmap, Ef}
use Rattle.part_codec.specs.Forms.{HoldsIn, universe_in, count_in, all_ones}
use Rattle.part_codec.specs.PartView.{Holds, universe_of, count_of}

-- value k of all ones is k
pub at-all_ones : (u k : ℕ) → k < u → slice_index (all_ones u) k ≡ k
at-all_ones u k h = let e = get_or-range_with_len 0 u k 0 h in omega (arith, e)

-- the values of all ones are relative
pub AreRelative-all_ones : (u : ℕ) (ys : List ℕ) → 1 ≤ u → ys ≡ all_ones u → AreRelative u u ys
AreRelative-all_ones u ys some h = subst (AreRelative u u) (sym h) (relative-range u some)

-- a view holds one list
one_list-in : (f : Form) (xs ys : List ℕ) → HoldsIn f xs → HoldsIn f ys → xs ≡ ys
one_list-in (Ones v) xs ys h g = h ∙ sym g
one_list-in (Bitmap v) xs ys h g = bitmap.one-list bitmap_spacing v xs ys h g
one_list-in (Ef v) xs ys h g = elias_fano.one-list ef_spacing v xs ys h g

pub one_list-held : (v : PartView) (xs ys : List ℕ) → Holds v xs → Holds v ys → xs ≡ ys
one_list-held v xs ys h g = one_list-in v.form xs ys h g

-- what a view holds are relative values
relative-in : (f : Form) (ys : List ℕ) → HoldsIn f ys → AreRelative (universe_in f) (count_in f) ys
relative-in (Ones v) ys h = AreRelative-all_ones v.u ys v.some h
relative-in (Bitmap v) ys h = h.values
relative-in (Ef v) ys h = h.values

pub relative-held : (v : PartView) (ys : List ℕ) → Holds v ys → AreRelative (universe_of v) (count_of v) ys
relative-held v ys h = relative-in v.form ys h
