use Rattle.std.proofs.Common.{◌≡◌, drop}
use Rattle.index_building.specs.AddedFromLists.{IsMaking}
use Rattle.index_building.proofs.migrate.add_lists_of.Given as goal

abbrev pub invariant-loop-term : goal.invariant-loop-term
invariant-loop-term g l = record {
  making : IsMaking l.fn.format (g.S.ListSource.collection l.source) (drop l.term (g.S.ListSource.collection l.source).lists) l.builder l.initial.steps l.steps;
  source : g.S.Lists.ReadLists.collection l.lists ≡ g.S.ListSource.collection l.source;
  next : g.S.Lists.ReadLists.stands_before l.term l.lists;
}
