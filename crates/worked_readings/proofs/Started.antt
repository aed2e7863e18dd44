-- The slots of a collection stay started.
use Rattle.io_traits.specs.DepotState.{DepotState, OnlyReads}
use Rattle.collection_reader.specs.Starting.{IsCollectionSlot, AreStarted}

pub stay_started : (before after : DepotState) → AreStarted before → OnlyReads IsCollectionSlot before after → AreStarted after
stay_started before after started reads = record {
  docs = reads.stay_started _ started.docs;
  freqs = reads.stay_started _ started.freqs;
  sizes = reads.stay_started _ started.sizes;
}
