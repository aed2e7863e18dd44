use Rattle.std.proofs.Common.{◌∙◌, [], sym, ap, subst, arith}
use Rattle.part_cost.specs.Formats.{numbers_of}
use Rattle.index_file.specs.FileWords.{ListParts, Spells}
use Rattle.index_file.specs.IndexView.{list_of_kind}
use Rattle.index_file.proofs.FileKinds.{spells-view, framed, list-read}
use Rattle.index_file.proofs.ListStarts.{of-index}
use Rattle.index_file.proofs.index.Index.list.Goals as goal

pub list_views-requires-clause-index : goal.list_views-requires-clause-index
list_views-requires-clause-index c =
    let now = c.args.self.now in
    let words = c.self.inside.words.now in
    let spells = spells-view words c.self.inside.starts.now now c.self.invariant.0 c.self.view_is in
    (now.collection, now.parts, subst (λ v. Spells (numbers_of v) words now.collection now.parts) (sym c.format.ensures) spells)

pub list_views-requires-clause-within : goal.list_views-requires-clause-within
list_views-requires-clause-within c =
    let now = c.args.self.now in
    let words = c.self.inside.words.now in
    let spells = spells-view words c.self.inside.starts.now now c.self.invariant.0 c.self.view_is in
    omega (arith, c.requires.within, (framed c.file_laws.ensures.takes now.format words now.collection now.parts spells).terms)

pub returns-clause-docs : goal.returns-clause-docs
returns-clause-docs c =
    let now = c.args.self.now in
    let words = c.self.inside.words.now in
    let spells = spells-view words c.self.inside.starts.now now c.self.invariant.0 c.self.view_is in
    let none : ListParts = record { doc_ends = []; freq_ends = [] } in
    let read = list-read c.file_laws.ensures now.format words c.self.invariant.2 now.collection now.parts none spells c.args.t c.requires.within in
    c.list_views.ensures.docs ∙ ap (λ v. (list_of_kind (numbers_of v).kind (numbers_of v) words c.args.t).docs) c.format.ensures ∙ read.docs

pub returns-clause-freqs : goal.returns-clause-freqs
returns-clause-freqs c =
    let now = c.args.self.now in
    let words = c.self.inside.words.now in
    let spells = spells-view words c.self.inside.starts.now now c.self.invariant.0 c.self.view_is in
    let none : ListParts = record { doc_ends = []; freq_ends = [] } in
    let read = list-read c.file_laws.ensures now.format words c.self.invariant.2 now.collection now.parts none spells c.args.t c.requires.within in
    c.list_views.ensures.freqs ∙ ap (λ v. (list_of_kind (numbers_of v).kind (numbers_of v) words c.args.t).freqs) c.format.ensures ∙ read.freqs

pub list_views-requires-clause-starts : goal.list_views-requires-clause-starts
list_views-requires-clause-starts c is = of-index c.self.inside.words.now c.self.inside.starts.now c.args.self.now c.format.result c.self.invariant.3 c.self.view_is c.format.ensures is
