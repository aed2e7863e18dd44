use Rattle.two_level.specs.SequenceView.{SequenceView}
use Rattle.packed_sequence.specs.declared.stands.Stands.{Stands}
use Rattle.packed_sequence.specs.declared.stands.Stands.TheVariants.{Read, Unread}
use Rattle.packed_sequence.specs.Sums.{sums_at, SumsStand}

-- a sequence that was read, or that words state
abbrev pub view_of : Stands → SequenceView
view_of (Read view) = view
view_of (Unread sums) = sums_at sums.words.now sums.docs sums.m sums.greatest

-- Where words are to state it, it stands there.
abbrev pub StandsWell : Stands → Type 0
StandsWell (Read view) = Unit {0}
StandsWell (Unread sums) = SumsStand sums.words.now sums.docs sums.m sums.greatest
