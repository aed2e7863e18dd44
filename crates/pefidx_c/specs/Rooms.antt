use Rattle.std.specs.Prelude.{ℕ, ◌++◌, nat_lt, if◌then◌else◌, List, length, take, drop}
use Rattle.collection_model.specs.Collection as collection
use Rattle.pefidx_c.specs.declared.asking.Posting.{Posting}
use Rattle.pefidx_c.specs.declared.ranking.Scored.{Scored}
use Rattle.pefidx_c.specs.declared.status.Status.{Status}
use Rattle.pefidx_c.specs.declared.status.Status.TheVariants.{Done, Room}

-- what a room holds after items were put in from its start on, as many as there is room for: the
-- rest of it stays
abbrev pub put_in : {A : Type 0} → List A → List A → List A
put_in room items = take (length room) items ++ drop (length items) room

-- how it ends where so many are to be given and there is so much room
abbrev pub given_in : ℕ → ℕ → Status
given_in room count = if nat_lt room count then Room else Done

-- a posting as it is told, and a document with its score
abbrev pub posting_of : Posting → collection.Posting
posting_of p = record { doc = p.doc; freq = p.freq }

abbrev pub pair_of : Scored → ℕ × ℕ
pair_of s = (s.doc, s.score)
