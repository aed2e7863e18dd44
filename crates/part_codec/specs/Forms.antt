use Rattle.std.specs.Prelude.{◌≡◌, ℕ, List}
use Rattle.std.specs.List.{range_with_len}
use Rattle.part_cost.specs.declared.kinds.Kind.{Kind}
use Rattle.part_cost.specs.declared.kinds.Kind.TheVariants as kinds
use Rattle.part_cost.specs.Payload.{ef_spacing, bitmap_spacing}
use Rattle.elias_fano.specs.EfView as elias_fano
use Rattle.ranked_bitmap.specs.MapView as bitmap
use Rattle.part_codec.specs.declared.forms.Form.{Form}
use Rattle.part_codec.specs.declared.forms.Form.TheVariants.{Ones, Bitmap, Ef}

-- the values of a part whose places are all taken
abbrev pub all_ones : ℕ → List ℕ
all_ones u = range_with_len 0 u

-- the universe of a view in one of the forms
abbrev pub universe_in : Form → ℕ
universe_in (Ones v) = v.u
universe_in (Bitmap v) = v.part.u
universe_in (Ef v) = v.part.u

-- how many values it has
abbrev pub count_in : Form → ℕ
count_in (Ones v) = v.u
count_in (Bitmap v) = v.part.m
count_in (Ef v) = v.part.m

-- the kind that has this form
abbrev pub kind_in : Form → Kind
kind_in (Ones v) = kinds.Ones
kind_in (Bitmap v) = kinds.Bitmap
kind_in (Ef v) = kinds.Ef

-- The view's bits are those of these relative values.
abbrev pub HoldsIn : Form → List ℕ → Type 0
HoldsIn (Ones v) ys = ys ≡ all_ones v.u
HoldsIn (Bitmap v) ys = bitmap.Holds bitmap_spacing v ys
HoldsIn (Ef v) ys = elias_fano.Holds ef_spacing v ys
