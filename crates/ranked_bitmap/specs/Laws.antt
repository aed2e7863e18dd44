use Rattle.std.specs.Prelude.{◌≤◌}
use Rattle.part_cost.specs.Payload.{bitmap_spacing, bitmap_payload}
use Rattle.part_cost.specs.CodeLaws.{ObeysCodeLaws}
use Rattle.ranked_bitmap.specs.declared.MapView.{MapView}
use Rattle.ranked_bitmap.specs.MapBits.{map_bits}
use Rattle.ranked_bitmap.specs.MapPlaces.{map_length}
use Rattle.ranked_bitmap.specs.MapView.{Holds}

-- The laws of a form of parts, for all universes.
abbrev pub MapLaws : Type 0
MapLaws = ObeysCodeLaws MapView Holds map_bits map_length (λ u. 0 ≤ u) bitmap_spacing bitmap_payload
