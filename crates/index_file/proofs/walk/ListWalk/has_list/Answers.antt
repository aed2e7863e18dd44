use Rattle.std.proofs.Common.{◌≡◌, ap, length, arith}
use Rattle.std.proofs.lemmas.Bool.{ltb-true, lt-ltb}
use Rattle.index_file.specs.IndexView.{index_stated}
use Rattle.index_file.specs.ListWalk.{ListsInTurn}
use Rattle.index_file.proofs.FileKinds.{framed}
use Rattle.index_file.proofs.walk.ListWalk.has_list.Goals as goal

pub returns-clause-next : goal.returns-clause-next
returns-clause-next c =
    let s = c.self.inside in
    let i = index_stated s.words.now in
    let h = c.self.invariant.0 in
    let f = framed c.file_laws.ensures.takes s.format s.words.now i.collection i.parts h.spells in
    let all : length c.args.self.now.collection.lists ≡ s.terms = omega (arith, f.terms, h.terms_are, ap (λ (v : ListsInTurn). length v.collection.lists) c.self.view_is) in
    (λ e. omega (arith, ltb-true c.args.next s.terms e, all), λ within. lt-ltb c.args.next s.terms (omega (arith, within, all)))
