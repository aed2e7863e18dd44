use Rattle.std.proofs.Common.{ap, inl, inr}
use Rattle.index_building.specs.WordsOfFiles.{words_built}
use Rattle.pefidx_c.proofs.packing.pefidx_pack.Goals as goal

pub returns-in-Ok-clause-broken : goal.returns-in-Ok-clause-broken
returns-in-Ok-clause-broken c = λ broken first.
    let is = ap words_built c.in-Ok.is in
    elim (c.packed.ensures.broken broken first) [ inl e ↦ cc (is, e) | inr e ↦ cc (is, e) ]

pub returns-in-Err-TooLarge-clause-broken : goal.returns-in-Err-TooLarge-clause-broken
returns-in-Err-TooLarge-clause-broken c = λ broken first.
    let is = ap words_built c.in-Err-TooLarge.is in
    elim (c.packed.ensures.broken broken first) [
      | inl e ↦ cc (is, e, c.in-Err-TooLarge.field-0-is)
      | inr e ↦ cc (is, e, c.in-Err-TooLarge.field-0-is)
    ]
