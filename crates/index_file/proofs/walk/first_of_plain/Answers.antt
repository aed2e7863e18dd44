use Rattle.std.proofs.Common.{◌≡◌, [], inl, inr, sym, ap, subst, ◌∙◌, arith}
use Rattle.std.proofs.lemmas.Bool.{cases_lt}
use Rattle.collection_model.specs.Collection.{list_of}
use Rattle.packed_list.specs.ListStated.{ListStated}
use Rattle.index_file.specs.IndexView.{index_stated}
use Rattle.index_file.specs.ListWalk.{AreOfList}
use Rattle.index_file.proofs.FileKinds.{to-plain}
use Rattle.index_file.proofs.ListsInTurn.{kind-of-plain, viewed, views-none, views-some}
use Rattle.index_file.proofs.walk.first_of_plain.Goals as goal
use Rattle.index_file.proofs.walk.first_of_plain.Goals.{After-len}

-- list t, as it is viewed
seen : (c : After-len) → AreOfList c.plain_list_views.result.docs c.plain_list_views.result.freqs c.plain_list_views.result.greatest (list_of (index_stated c.args.words.now).collection c.loop-t.t)
seen c =
    let list = c.plain_list_views in
    let kind = kind-of-plain c.args.format c.args.words.now c.loop-t.t c.requires.plain in
    viewed c.file_laws.ensures c.args.format c.args.words.now c.args.terms c.loop-t.t c.requires.index c.loop-t-test.true list.result.docs list.result.freqs list.result.greatest (list.ensures.docs ∙ ap (λ (l : ListStated). l.docs) (sym kind))
    (list.ensures.freqs ∙ ap (λ (l : ListStated). l.freqs) (sym kind)) (list.ensures.greatest ∙ ap (λ (l : ListStated). l.most) (sym kind))

pub plain_list_views-requires-clause-index : goal.plain_list_views-requires-clause-index
plain_list_views-requires-clause-index c =
    let words = c.args.words.now in
    let i = index_stated c.args.words.now in
    (i.collection, i.parts, to-plain c.args.format words i.collection i.parts c.requires.plain c.requires.index.spells)

pub returns-then-len-gt0-clause-stands : goal.returns-then-len-gt0-clause-stands
returns-then-len-gt0-clause-stands c =
    let list = c.plain_list_views.result in
    let some = views-some list.docs list.freqs list.greatest (list_of (index_stated c.args.words.now).collection c.loop-t.t) (seen (goal.at.returns-then-len-gt0-clause-stands c).After-len) (omega (arith, c.len.ensures, c.if-len-gt0.true)) in
    record { within = omega (arith, c.loop-t-test.true); some = λ lt. some }

pub loop-t-preserved : goal.loop-t-preserved
loop-t-preserved c t ge lt =
    let list = c.plain_list_views.result in
    let none = views-none list.docs list.freqs list.greatest (list_of (index_stated c.args.words.now).collection c.loop-t.t) (seen (goal.at.loop-t-preserved c).After-len) (omega (arith, c.len.ensures, c.if-len-gt0.false)) in
    elim (cases_lt t c.loop-t.t) [
      | inl less ↦ c.loop-t.invariant t ge less
      | inr past ↦ subst (λ u. list_of (index_stated c.args.words.now).collection u ≡ []) (let e : c.loop-t.t ≡ t = omega (arith, lt, past) in e) none
    ]

pub returns-clause-empty : goal.returns-clause-empty
returns-clause-empty c t ge lt = c.loop-t.invariant t ge (omega (arith, lt, c.loop-t-test.false))
