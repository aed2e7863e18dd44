use Rattle.std.proofs.Common.{◌≡◌, ◌≤◌, [], ◌∷◌, length, inl, inr, sym, ap, ◌∙◌, arith}
use Rattle.std.proofs.lemmas.Bool.{cases_lt}
use Rattle.collection_model.specs.Collection.{list_of}
use Rattle.part_cost.specs.Formats.{numbers_of}
use Rattle.two_level.specs.SequenceView.{SequenceView}
use Rattle.packed_list.specs.ListStated.{ListStated}
use Rattle.index_file.specs.IndexView.{index_stated, list_of_kind}
use Rattle.index_file.specs.ListWalk.{AreOfList}
use Rattle.index_file.proofs.FileKinds.{to-plain}
use Rattle.index_file.proofs.ListsInTurn.{first-small, kind-of-plain, single-viewed, viewed, views-none}
use Rattle.index_file.proofs.walk.plain_read.Goals as goal
use Rattle.index_file.proofs.walk.plain_read.Goals.{After-len}

pub plain_list_views-list-requires-clause-index : goal.plain_list_views-list-requires-clause-index
plain_list_views-list-requires-clause-index c =
    let words = c.args.words.now in
    let i = index_stated c.args.words.now in
    (i.collection, i.parts, to-plain c.args.format words i.collection i.parts c.requires.plain c.requires.index.spells)

-- what is stated of the list
abbrev stated : (c : After-len) → ListStated
stated c = list_of_kind (numbers_of c.args.format).kind (numbers_of c.args.format) c.args.words.now c.args.t

-- it is viewed
record IsSeen (c : After-len) : Type 0 where
  docs : c.plain_list_views-list.result.docs ≡ (stated c).docs
  freqs : c.plain_list_views-list.result.freqs ≡ (stated c).freqs
  most : c.plain_list_views-list.result.greatest ≡ (stated c).most
  list : AreOfList c.plain_list_views-list.result.docs c.plain_list_views-list.result.freqs c.plain_list_views-list.result.greatest (list_of (index_stated c.args.words.now).collection c.args.t)

seen : (c : After-len) → IsSeen c
seen c =
    let v = c.plain_list_views-list in
    let kind = kind-of-plain c.args.format c.args.words.now c.args.t c.requires.plain in
    let docs = v.ensures.docs ∙ ap (λ (l : ListStated). l.docs) (sym kind) in
    let freqs = v.ensures.freqs ∙ ap (λ (l : ListStated). l.freqs) (sym kind) in
    let most = v.ensures.greatest ∙ ap (λ (l : ListStated). l.most) (sym kind) in
    record {
      docs = docs;
      freqs = freqs;
      most = most;
      list = viewed c.file_laws.ensures c.args.format c.args.words.now c.args.terms c.args.t c.requires.index c.requires.within v.result.docs v.result.freqs v.result.greatest docs freqs most;
    }

-- it has postings
some : (c : After-len) → 1 ≤ length c.plain_list_views-list.result.docs.values
some c = elim (cases_lt 0 (length c.plain_list_views-list.result.docs.values)) as (λ _. 1 ≤ length c.plain_list_views-list.result.docs.values) [
  | inl lt ↦ omega (arith, lt)
  | inr none ↦ absurd (c.requires.not_empty (views-none _ _ _ _ (seen c).list (omega (arith, none))))
]

pub get-requires : goal.get-requires
get-requires c = record { within = omega (arith, some (goal.at.get-requires c).After-len) }

pub overflow_cast-result : goal.overflow_cast-result
overflow_cast-result c =
    let a = (goal.at.overflow_cast-result c).After-len in
    omega (arith, c.get.ensures, first-small _ _ _ _ (seen a).list (some a))

pub returns-then-len-eq1 : goal.returns-then-len-eq1
returns-then-len-eq1 c =
    let a = (goal.at.returns-then-len-eq1 c).After-len in
    let s = seen a in
    let is = single-viewed _ _ _ _ (stated a) s.list (omega (arith, c.len.ensures, c.if-len-eq1.true)) s.docs s.freqs s.most in
    (is.0 ∙ ap (λ d. d ∷ []) (sym c.get.ensures), is.1, is.2)

pub returns : goal.returns
returns c =
    let a = (goal.at.returns c).After-len in
    let s = seen a in
    let many : 2 ≤ length (stated a).docs.values = omega (arith, c.len.ensures, c.if-len-eq1.false, some a, ap (λ (v : SequenceView). length v.values) s.docs) in
    (s.docs, s.freqs, s.most, many)
