use Rattle.std.proofs.Common.{◌≡◌, [], ◌∷◌, arith}
use Rattle.bit_words.specs.Bits.{bits_of}
use Rattle.collection_model.specs.FormatNumbers.{format_three}
use Rattle.index_file.specs.PackedWords.{packed_magic}
use Rattle.index_file.proofs.PackedBuilt.{kept-none, none-stands, opening-put}
use Rattle.index_file.proofs.packed_builder.PackedBuilder.new.Goals as goal

put : (c : goal.In_ok-starts) → c.put-2.new.self ≡ bits_of (packed_magic ∷ format_three.version ∷ [])
put c = opening-put c.in_ok-bits.bits c.put.new.self c.put-2.new.self c.version.result c.in_ok-bits.ensures.empty c.in_ok-put.ensures.ok c.in_ok-put-2.ensures.ok c.version.ensures

first : (c : goal.In_ok-starts) → c.in_ok-starts.starts ≡ 0 ∷ []
first c = c.in_ok-starts.ensures

pub invariant_of-result : goal.invariant_of-result
invariant_of-result c = kept-none c.args.documents c.put-2.new.self c.in_ok-starts.starts (omega (arith, c.ranges.documents.fits)) (put c) (first c)

pub returns-clause-no_list : goal.returns-clause-no_list
returns-clause-no_list c = none-stands c.args.documents c.put-2.new.self c.in_ok-starts.starts (put c) (first c)
