use Rattle.std.specs.Prelude.{◌≡◌, ℕ, Option, None, Some}
use Rattle.two_level.specs.SequenceView.{SequenceView, SequencePlace}

-- the place of a cursor, the start where there is none yet
abbrev pub place_of : Option SequencePlace → ℕ
place_of None = 0
place_of (Some cursor) = cursor.place

-- a cursor, where there is one, goes over a sequence
abbrev pub IsOver : SequenceView → Option SequencePlace → Type 0
IsOver sequence None = Unit {0}
IsOver sequence (Some cursor) = cursor.sequence ≡ sequence
