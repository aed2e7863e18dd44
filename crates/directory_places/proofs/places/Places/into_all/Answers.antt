use Rattle.std.proofs.Common.{◌∙◌}
use Rattle.directory_places.proofs.Left.{spelled-marks, places-back}
use Rattle.directory_places.proofs.places.Places.into_all.Goals as goal

pub invariant_of-result : goal.invariant_of-result
invariant_of-result c =
    let s = c.self.inside in
    spelled-marks c.words_are_bits.ensures.bits s.marks s.ends.items c.into_words.result.items c.len-lists.result c.self.invariant c.into_words.ensures c.len-lists.ensures

pub returns : goal.returns
returns c =
    let s = c.self.inside in
    places-back c.words_are_bits.ensures.bits s.marks s.ends.items c.into_words.result.items c.len-lists.result c.self.invariant c.into_words.ensures c.len-lists.ensures ∙ c.self.view_is
