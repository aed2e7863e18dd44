use Rattle.std.proofs.Common.{◌∙◌, subst}
use Rattle.part_cost.specs.declared.formats.Format.TheVariants.{Three}
use Rattle.part_cost.specs.Formats.{numbers_of}
use Rattle.index_file.specs.FileWords.{Spells}
use Rattle.index_file.specs.IndexView.{index_stated}
use Rattle.index_file.specs.PackedAt.{starts_stated, PassesPacked}
use Rattle.index_file.proofs.Both.{file-passes}
use Rattle.index_file.proofs.FileKinds.{to-packed}
use Rattle.index_file.proofs.PackedStarts.{stands, starts-from}
use Rattle.index_file.proofs.walk.directory_kept.Goals as goal
use Rattle.index_file.proofs.walk.directory_kept.Goals.{After-packed_frame_of}

-- no check of the file breaks
passes : (c : After-packed_frame_of) → PassesPacked c.args.words.now
passes c =
    let words = c.args.words.now in
    let i = index_stated c.args.words.now in
    let s : Spells (numbers_of Three) c.args.words.now (index_stated c.args.words.now).collection (index_stated c.args.words.now).parts =
    subst (λ v. Spells (numbers_of v) words i.collection i.parts) c.in-Three.is c.requires.index in
    file-passes c.file_laws.ensures words i.collection i.parts (to-packed words i.collection i.parts s)

pub starts_part-requires-clause-frame : goal.starts_part-requires-clause-frame
starts_part-requires-clause-frame c = (passes (goal.at.starts_part-requires-clause-frame c).After-packed_frame_of).frame

pub returns-in-Three-clause-packed : goal.returns-in-Three-clause-packed
returns-in-Three-clause-packed c =
    let words = c.args.words.now in
    let good = passes (goal.at.returns-in-Three-clause-packed c).After-packed_frame_of in
    let p = c.starts_part.result in
    let held = (c.at.ensures.part (starts_stated words)).1
    (starts-from words p.bits.words.now p.place p.u p.m (starts_stated words) c.starts_part.ensures.bits c.starts_part.ensures.place c.starts_part.ensures.u c.starts_part.ensures.m
    (stands c.file_laws.ensures.values words good.starts)) in
    (c.in-Three.is, record { held = held; count = c.at.ensures.m ∙ c.starts_part.ensures.m })
