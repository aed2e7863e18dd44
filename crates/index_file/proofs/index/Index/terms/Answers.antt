use Rattle.std.proofs.Common.{◌∙◌, arith}
use Rattle.index_file.proofs.FileKinds.{spells-view, framed}
use Rattle.index_file.proofs.index.Index.terms.Goals as goal

pub frame_of-requires : goal.frame_of-requires
frame_of-requires c =
    let now = c.args.self.now in
    let words = c.self.inside.words.now in
    let spells = spells-view words c.self.inside.starts.now now c.self.invariant.0 c.self.view_is in
    omega (arith, (framed c.file_laws.ensures.takes now.format words now.collection now.parts spells).some)

pub returns : goal.returns
returns c =
    let now = c.args.self.now in
    let words = c.self.inside.words.now in
    let spells = spells-view words c.self.inside.starts.now now c.self.invariant.0 c.self.view_is in
    c.frame_of.ensures.terms ∙ (framed c.file_laws.ensures.takes now.format words now.collection now.parts spells).terms

pub overflow_cast-result : goal.overflow_cast-result
overflow_cast-result c =
    let now = c.args.self.now in
    let words = c.self.inside.words.now in
    let spells = spells-view words c.self.inside.starts.now now c.self.invariant.0 c.self.view_is in
    omega (arith, (framed c.file_laws.ensures.takes now.format words now.collection now.parts spells).few_terms, c.frame_of.ensures.terms)
