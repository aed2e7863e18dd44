use Rattle.std.proofs.Common.{◌≡◌, ◌∙◌, [], sym, subst, arith, length}
use Rattle.std.specs.Prelude.{sum_by}
use Rattle.collection_model.specs.Collection.{list_of}
use Rattle.index_file.proofs.FileKinds.{spells-view, framed}
use Rattle.index_file.proofs.index.Index.walked_terms.Goals as goal

pub returns-clause-within : goal.returns-clause-within
returns-clause-within c =
    let now = c.args.self.now in
    let words = c.self.inside.words.now in
    let spells = spells-view words c.self.inside.starts.now now c.self.invariant.0 c.self.view_is in
    omega (arith, c.walked_terms.ensures.within, (framed c.file_laws.ensures.takes now.format words now.collection now.parts spells).terms)

pub returns-clause-rest : goal.returns-clause-rest
returns-clause-rest c t le = subst (λ i. list_of i.collection t ≡ []) c.self.view_is (c.walked_terms.ensures.rest t le)

pub returns-clause-none : goal.returns-clause-none
returns-clause-none c is none =
    c.walked_terms.ensures.none (c.format.ensures ∙ is) (subst (λ i. sum_by length i.collection.lists ≡ 0) (sym c.self.view_is) none)
