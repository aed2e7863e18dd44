use Rattle.index_reading.specs.JoinedSegments as read
use Rattle.segments.specs.Joined.{joined_wide}
use Rattle.pefidx_c.proofs.Merged.{words-of, too-large}
use Rattle.pefidx_c.proofs.merging.words_of_joined.Goals as goal

pub collected_words-requires : goal.collected_words-requires
collected_words-requires g c = c.requires.well

pub returns-clause-words : goal.returns-clause-words
returns-clause-words g c = words-of (joined_wide (read.collections_in c.args.joined.now.segments.items)) _ _ c.collected_words.result c.collected_words.ensures.words

pub returns-clause-too_large : goal.returns-clause-too_large
returns-clause-too_large g c = λ n is. too-large (joined_wide (read.collections_in c.args.joined.now.segments.items)) _ _ n (c.collected_words.ensures.too_large n is)
