use Rattle.std.specs.Prelude.{ℕ, ◌*◌, ◌<◌, ◌≤◌, ◌^◌, List, slice_index}
use Rattle.part_cost.specs.Payload.{digits, widest_low, ef_spacing, ef_payload, low_width_of}
use Rattle.part_cost.specs.Span.{AreRelative}
use Rattle.part_cost.specs.CodeLaws.{ObeysCodeLaws}
use Rattle.elias_fano.specs.declared.EfView.{EfView}
use Rattle.elias_fano.specs.EfBits.{high_place, ef_bits}
use Rattle.elias_fano.specs.EfPlaces.{ef_length}
use Rattle.elias_fano.specs.EfView.{Holds}

-- The laws of a form of parts, for universes that the format allows.
abbrev pub EfLaws : Type 0
EfLaws = ObeysCodeLaws EfView Holds ef_bits ef_length (λ u. u ≤ 2 ^ widest_low) ef_spacing
    ef_payload

-- The place of each number among the high bits has room in a sample.
abbrev pub PlacesFit : Type 0
PlacesFit = (u m : ℕ) (ys : List ℕ) → u ≤ 2 ^ widest_low → AreRelative u m ys → (k : ℕ) → k < m
    → high_place (low_width_of u m) k (slice_index ys k) < 2 ^ digits (3 * m)
