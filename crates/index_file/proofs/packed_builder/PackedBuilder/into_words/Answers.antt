use Rattle.std.proofs.Common.{◌≡◌, ◌∙◌, ℕ, ◌+◌, ◌-◌, ◌^◌, ◌≤◌, ◌++◌, ◌∷◌, [], length, refl, sym, ap, subst, rules, arith}
use Rattle.bit_words.specs.Bits.{words_of}
use Rattle.part_cost.specs.Payload.{widest_low}
use Rattle.part_cost.specs.Span.{AreRelative}
use Rattle.part_cost.proofs.Growth.{payload-short}
use Rattle.part_codec.specs.PartBits.{part_bits}
use Rattle.directory_places.specs.Source.{AreLeft}
use Rattle.index_file.specs.PlainWords.{sizes_words}
use Rattle.index_file.specs.PackedWords.{packed_end, packed_words}
use Rattle.index_file.specs.Builder.{StandsFor, packed_built}
use Rattle.index_file.proofs.PackedBuilt.{packed-holds, packed-file}
use Rattle.index_file.proofs.packed_builder.PackedBuilder.into_words.Goals as goal

pub overflow_sub-lists : goal.overflow_sub-lists
overflow_sub-lists c = let s = c.self.inside in let h = packed-holds s.documents s.bits s.starts c.self.invariant in omega (arith, h.some, c.len-lists.ensures)

pub overflow_sub-list_bits : goal.overflow_sub-list_bits
overflow_sub-list_bits c = let s = c.self.inside in let h = packed-holds s.documents s.bits s.starts c.self.invariant in omega (arith, h.long, c.len-list_bits.ensures)

pub overflow_add-list_bits : goal.overflow_add-list_bits
overflow_add-list_bits c = let s = c.self.inside in let h = packed-holds s.documents s.bits s.starts c.self.invariant in omega (arith, h.within, c.len-lists.ensures, c.len-list_bits.ensures)

pub overflow_add-list_bits-2 : goal.overflow_add-list_bits-2
overflow_add-list_bits-2 c = let s = c.self.inside in let h = packed-holds s.documents s.bits s.starts c.self.invariant in omega (arith, h.within, c.len-lists.ensures, c.len-list_bits.ensures)

relative : (c : goal.After-directory-2-1) → AreRelative (c.len-list_bits.result - 128 + (c.len-lists.result - 1) + 1) (length c.self.inside.starts) c.self.inside.starts
relative c =
    let s = c.self.inside in
    let h = packed-holds s.documents s.bits s.starts c.self.invariant in
    let u : length c.self.inside.bits - 128 + (length c.self.inside.starts - 1) + 1 ≡ c.len-list_bits.result - 128 + (c.len-lists.result - 1) + 1 = omega (arith, c.len-lists.ensures, c.len-list_bits.ensures) in
    subst (λ k. AreRelative k (length s.starts) s.starts) u h.relative

-- the places that the directory is made of
given : (c : goal.After-directory-2-1) → AreLeft c.source.result c.self.inside.starts
given c = subst (AreLeft c.source.result) c.into_all-places.ensures c.source.ensures

pub write_part-requires-clause-values : goal.write_part-requires-clause-values
write_part-requires-clause-values c = (c.self.inside.starts, given c, relative c)

pub write_part-requires-clause-in_range : goal.write_part-requires-clause-in_range
write_part-requires-clause-in_range c = let s = c.self.inside in let h = packed-holds s.documents s.bits s.starts c.self.invariant in omega (arith, h.within, c.len-lists.ensures, c.len-list_bits.ensures)

pub write_part-requires-clause-room : goal.write_part-requires-clause-room
write_part-requires-clause-room c =
    let s = c.self.inside in
    let h = packed-holds s.documents s.bits s.starts c.self.invariant in
    let u : ℕ = c.len-list_bits.result - 128 + (c.len-lists.result - 1) + 1 in
    let within : c.len-list_bits.result - 128 + (c.len-lists.result - 1) + 1 ≤ 2 ^ widest_low = omega (arith, h.within, c.len-lists.ensures, c.len-list_bits.ensures) in (
      s.starts,
      given c,
      omega (arith, ap length c.in_ok-directory.ensures.empty, within, c.part_takes_its_payload.ensures.payload u (length s.starts) s.starts within (relative c), payload-short u (length s.starts)),
    )

pub same-directory : goal.same-directory
same-directory c = refl

pub returns : goal.returns
returns c cs stands =
    let s = c.self.inside in
    let sizes = c.args.sizes.now in
    let u : ℕ = c.len-list_bits.result - 128 + (c.len-lists.result - 1) + 1 in
    let at : StandsFor (packed_built c.self.inside.documents c.self.inside.bits c.self.inside.starts) cs = subst (λ b. StandsFor b cs) (sym c.self.view_is) stands in
    let written : c.extend_from_slice-2.new.self.items ≡ c.into_words-words.result.items ++ sizes_words c.args.sizes.now ++ c.into_words.result.items
    ++ (c.self.inside.documents ∷ (c.len-lists.result - 1) ∷ (c.len-list_bits.result - 128) ∷ packed_end ∷ []) = search rules in
    let left : AreLeft c.source.result c.self.inside.starts = subst (AreLeft c.source.result) c.into_all-places.ensures c.source.ensures in
    let part : c.write_part.new.to ≡ part_bits c.self.inside.starts (c.len-list_bits.result - 128 + (c.len-lists.result - 1) + 1) =
    c.in_ok-write_part.ensures.ok s.starts left ∙ ap (λ x. x ++ part_bits s.starts u) c.in_ok-directory.ensures.empty in
    written
    ∙ packed-file c.part_takes_its_payload.ensures.bits s.documents (c.len-lists.result - 1) (c.len-list_bits.result - 128) s.bits s.starts c.into_words-words.result.items c.into_words.result.items sizes cs c.self.invariant.opening at
    c.into_words-words.ensures (c.into_words.ensures ∙ ap words_of part) (omega (arith, c.len-lists.ensures)) (omega (arith, c.len-list_bits.ensures))
    ∙ ap (λ b. packed_words b.documents cs sizes) c.self.view_is
