use Rattle.std.proofs.Common.{sym, ap, ◌∙◌, subst, arith, ◌≤◌}
use Rattle.std.specs.List.{All, sum}
use Rattle.collection_model.specs.Sequences.{lessened, sums_from}
use Rattle.index_printing.proofs.Auditing.{IsListOf, list-is}
use Rattle.index_printing.proofs.audit.sequences_of.Goals as goal
use Rattle.index_printing.proofs.audit.sequences_of.Goals.{After-deref}

-- what was read is the list
read-is : (c : After-deref) → IsListOf c.args.index.now c.args.term c.read_list.new.docs.items c.read_list.new.freqs.items
read-is c =
    list-is c.args.index.now c.stands_for_a_collection.ensures.well_formed c.args.term c.requires.within c.read_list.new.docs.items c.read_list.new.freqs.items
    c.in_ok-read_list.ensures.same_length (c.in_ok-read_list.ensures.list ∙ c.cursor.ensures.list)

pub freq_sums-requires-clause-not_zero : goal.freq_sums-requires-clause-not_zero
freq_sums-requires-clause-not_zero c =
    let is = read-is (goal.at.freq_sums-requires-clause-not_zero c).After-deref in
    subst (All (λ f. 1 ≤ f)) (is.freqs_are ∙ sym c.deref-2.ensures.value) is.good.not_zero

pub freq_sums-requires-clause-sum_within : goal.freq_sums-requires-clause-sum_within
freq_sums-requires-clause-sum_within c =
    let is = read-is (goal.at.freq_sums-requires-clause-sum_within c).After-deref in
    omega (arith, is.good.sum_within, ap sum (is.freqs_are ∙ sym c.deref-2.ensures.value), (c.formats_have_room.ensures c.args.index.now.format).sums)

pub returns-clause-docs : goal.returns-clause-docs
returns-clause-docs c = c.in_ok-doc_values.ensures ∙ c.deref.ensures.value ∙ sym (read-is (goal.at.returns-clause-docs c).After-deref).docs_are

pub returns-clause-sums : goal.returns-clause-sums
returns-clause-sums c =
    let is = read-is (goal.at.returns-clause-sums c).After-deref in
    c.in_ok-freq_sums.ensures ∙ ap (λ fs. lessened (sums_from 0 fs)) (c.deref-2.ensures.value ∙ sym is.freqs_are)
