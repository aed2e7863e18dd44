use Rattle.std.proofs.Common.{◌≡◌, ◌∙◌, ap, sym, subst, arith}
use Rattle.part_cost.specs.Formats.{numbers_of}
use Rattle.index_file.specs.FileWords.{Spells}
use Rattle.index_file.specs.IndexView.{sizes_of_kind}
use Rattle.index_file.specs.PackedView.{size_at}
use Rattle.index_file.proofs.FileKinds.{spells-view, framed, sized, size-read}
use Rattle.index_file.proofs.index.Index.size_of.Goals as goal

pub sizes_from-requires-clause-index : goal.sizes_from-requires-clause-index
sizes_from-requires-clause-index c =
    let now = c.args.self.now in
    let words = c.self.inside.words.now in
    let spells = spells-view words c.self.inside.starts.now now c.self.invariant.0 c.self.view_is in
    (now.collection, now.parts, subst (λ v. Spells (numbers_of v) words now.collection now.parts) (sym c.format.ensures) spells)

pub size_at-requires-clause-within : goal.size_at-requires-clause-within
size_at-requires-clause-within c =
    let now = c.args.self.now in
    let words = c.self.inside.words.now in
    let spells = spells-view words c.self.inside.starts.now now c.self.invariant.0 c.self.view_is in
    let f = framed c.file_laws.ensures.takes now.format words now.collection now.parts spells in
    let s = sized c.file_laws.ensures now.format words c.self.invariant.2 now.collection now.parts spells in
    let first : c.sizes_from.result ≡ sizes_of_kind (numbers_of c.args.self.now.format).kind c.self.inside.words.now = c.sizes_from.ensures ∙ ap (λ v. sizes_of_kind (numbers_of v).kind words) c.format.ensures in
    omega (arith, first, s.within, f.documents, c.requires.within)

pub returns : goal.returns
returns c =
    let now = c.args.self.now in
    let words = c.self.inside.words.now in
    let spells = spells-view words c.self.inside.starts.now now c.self.invariant.0 c.self.view_is in
    let f = framed c.file_laws.ensures.takes now.format words now.collection now.parts spells in
    let s = sized c.file_laws.ensures now.format words c.self.invariant.2 now.collection now.parts spells in
    let first : c.sizes_from.result ≡ sizes_of_kind (numbers_of c.args.self.now.format).kind c.self.inside.words.now = c.sizes_from.ensures ∙ ap (λ v. sizes_of_kind (numbers_of v).kind words) c.format.ensures in
    c.size_at.ensures ∙ ap (λ i. size_at words i c.args.d) first ∙ size-read now.format words now.collection s f.documents c.args.d c.requires.within
