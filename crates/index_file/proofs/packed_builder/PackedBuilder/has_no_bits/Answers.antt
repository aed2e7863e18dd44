use Rattle.std.proofs.Common.{◌∙◌, sym, ap, length, length-drop, drop, arith}
use Rattle.std.proofs.lemmas.Bool.{eqb-true, eq-eqb}
use Rattle.index_file.proofs.PackedBuilt.{packed-holds}
use Rattle.index_file.proofs.EmptyLists.{nothing}
use Rattle.index_file.proofs.packed_builder.PackedBuilder.has_no_bits.Goals as goal

pub returns : goal.returns
returns c =
    let s = c.self.inside in
    let long = (packed-holds s.documents s.bits s.starts c.self.invariant).long in (
      λ yes. sym (ap (λ b. b.words) c.self.view_is) ∙ nothing (drop 128 s.bits) (omega (arith, length-drop 128 s.bits, c.len.ensures, eqb-true c.len.result 128 yes)),
      λ none. eq-eqb c.len.result 128 (omega (arith, ap (λ b. length b.words) c.self.view_is, ap length none, length-drop 128 s.bits, c.len.ensures, long)),
    )
