use Rattle.std.proofs.Common.{refl, sym, subst, arith}
use Rattle.std.proofs.lemmas.Result.{on_ok_weaker}
use Rattle.segments.specs.Joined.{most_joined, EndsBelow}
use Rattle.segments.specs.JoinedCursor.{part_of}
use Rattle.index_reading.specs.InTurn.{AreAdded}
use Rattle.index_reading.proofs.InTurn.{single-fits, some-values}
use Rattle.index_reading.proofs.turn.add_list.Goals as goal

pub overflow_add-first : goal.overflow_add-first
overflow_add-first c = omega (arith, single-fits c.args.first (record { doc = c.in-One.doc; freq = c.in-One.freq }) _ c.in-One.ensures c.requires.few)

pub add_several-requires-clause-some : goal.add_several-requires-clause-some
add_several-requires-clause-some c = some-values c.in-Several.list.docs.values c.in-Several.list.freqs.values _ c.in-Several.ensures.0.give c.requires.some

pub add_several-requires-clause-list : goal.add_several-requires-clause-list
add_several-requires-clause-list c =
    let h = c.in-Several.ensures.0 in
    record {
      same_length = h.same_length;
      cursor = h.cursor;
      most = h.most;
      give = refl;
      cut = h.cut;
    }

pub add_several-requires-clause-few : goal.add_several-requires-clause-few
add_several-requires-clause-few c = subst (λ l. EndsBelow (part_of c.args.first l) most_joined) (sym c.in-Several.ensures.0.give) c.requires.few

pub returns-in-Several : goal.returns-in-Several
returns-in-Several c =
    on_ok_weaker c.add_several.result (λ added. subst (λ l. AreAdded c.args.first l c.args.docs.now.items c.args.freqs.now.items c.add_several.new.docs.items c.add_several.new.freqs.items) c.in-Several.ensures.0.give added) c.add_several.ensures
