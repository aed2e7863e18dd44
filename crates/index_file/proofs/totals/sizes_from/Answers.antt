use Rattle.std.proofs.Common.{◌+◌, ◌/◌, sym, ap, ◌∙◌, subst, arith}
use Rattle.part_cost.specs.declared.formats.Format.TheVariants.{Three}
use Rattle.part_cost.specs.Formats.{numbers_of}
use Rattle.index_file.specs.IndexView.{sizes_of_kind}
use Rattle.index_file.specs.FileWords.{IsIndexIn}
use Rattle.index_file.proofs.FileKinds.{framed, to-packed}
use Rattle.index_file.proofs.PackedPieces.{packed-laid}
use Rattle.index_file.proofs.PackedIndex.{packable}
use Rattle.index_file.specs.CutLists.{with_parts}
use Rattle.index_file.proofs.totals.sizes_from.Goals as goal

pub frame_of-requires : goal.frame_of-requires
frame_of-requires c = let i = c.requires.index in omega (arith, (framed c.file_laws.ensures.takes c.args.format c.args.words.now i.0 i.1 i.2).some)

pub returns-in-One : goal.returns-in-One
returns-in-One c = c.frame_of.ensures.sizes ∙ ap (λ v. sizes_of_kind (numbers_of v).kind c.args.words.now) (sym c.in-One.is)

pub frame_of-requires-in-Two : goal.frame_of-requires-in-Two
frame_of-requires-in-Two c = let i = c.requires.index in omega (arith, (framed c.file_laws.ensures.takes c.args.format c.args.words.now i.0 i.1 i.2).some)

pub returns-in-Two : goal.returns-in-Two
returns-in-Two c = c.frame_of-in-Two.ensures.sizes ∙ ap (λ v. sizes_of_kind (numbers_of v).kind c.args.words.now) (sym c.in-Two.is)

pub packed_frame_of-requires : goal.packed_frame_of-requires
packed_frame_of-requires c = let i = c.requires.index in omega (arith, (framed c.file_laws.ensures.takes c.args.format c.args.words.now i.0 i.1 i.2).some)

pub packed_sizes_of-requires : goal.packed_sizes_of-requires
packed_sizes_of-requires c =
    let words = c.args.words.now in
    let i : IsIndexIn (numbers_of Three) c.args.words.now = subst (λ v. IsIndexIn (numbers_of v) words) c.in-Three.is c.requires.index in
    let p = to-packed words i.0 i.1 i.2 in
    let laid = packed-laid c.file_laws.ensures.takes words i.0.documents (with_parts i.0.lists i.1) i.0.sizes (packable words i.0 i.1 p) p.spelled in
    record { bits = omega (arith, laid.frame.bits, c.packed_frame_of.ensures.bits) }

pub returns-in-Three : goal.returns-in-Three
returns-in-Three c =
    c.packed_sizes_of.ensures ∙ ap (λ b. 2 + (b + 63) / 64) c.packed_frame_of.ensures.bits ∙ ap (λ v. sizes_of_kind (numbers_of v).kind c.args.words.now) (sym c.in-Three.is)
