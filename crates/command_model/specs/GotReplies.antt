use Rattle.std.specs.Prelude.{◌≡◌, ℕ, IsTrue, List, ◌++◌, take}
use Rattle.collection_model.specs.Collection.{Collection}
use Rattle.io_traits.specs.SourceState.{SourceState}
use Rattle.io_traits.specs.SinkState.{SinkState}
use Rattle.io_traits.specs.Helpers.{AppendsPrefix}
use Rattle.command_model.specs.Replies.{AreReplies}

-- The input and out of a text that is answered tell their bytes.
pub record TextIsTold (source : SourceState) (sink : SinkState) : Type 0 where
  pub input : IsTrue source.tells
  pub out : IsTrue sink.tells

-- Out got the replies to these lines.
abbrev pub GotReplies : Collection → List (List ℕ) → SinkState → SinkState → Type 0
GotReplies c lines old new = (text : List ℕ) × AreReplies c lines text
    × (new.written ≡ old.written ++ text)

-- Out got a prefix of the replies to some first ones of these lines, which is a prefix of the
-- replies to all of them.
abbrev pub GotPrefixOfReplies : Collection → List (List ℕ) → SinkState → SinkState → Type 0
GotPrefixOfReplies c lines old new =
    (n : ℕ) × (text : List ℕ) × AreReplies c (take n lines) text
    × AppendsPrefix old.written new.written text
