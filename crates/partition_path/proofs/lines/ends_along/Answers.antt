use Rattle.std.proofs.Common.{◌≡◌, sym, subst, ℕ, ◌-◌, ◌<◌, ◌≤◌, List, [], ◌∷◌, ◌++◌, length, reverse, get_or, arith}
use Rattle.std.proofs.lemmas.List.{get_or_default, reverse-append}
use Rattle.part_cost.specs.Partition.{IsPartitionFrom}
use Rattle.partition_path.specs.declared.lines.Open.{Open}
use Rattle.partition_path.specs.Lines.{no_open}
use Rattle.partition_path.proofs.lines.ends_along.Goals as goal

pub loop-end-preserved : goal.loop-end-preserved
loop-end-preserved c =
    let known = c.args.known.now in
    let n : ℕ = length known - 1 in
    let end = c.loop-end.end in
    let some : 0 < end = c.loop-end-test.true in
    let within : end ≤ n = c.loop-end.invariant.1 in
    let none : Open = record { least = 0; start = 0 } in
    let start = (get_or known end none).start in
    let inside : end < length known = omega (arith, within, c.requires.some) in
    let before : start < end = subst (λ (o : Open). o.start < end) (get_or_default known end no_open none inside) (c.requires.earlier end some inside) in
    let turned : reverse (c.loop-end.ends.items ++ end ∷ []) ≡ end ∷ reverse c.loop-end.ends.items = reverse-append c.loop-end.ends.items (end ∷ []) in
    let chain : IsPartitionFrom start n (end ∷ reverse c.loop-end.ends.items) = (before, c.loop-end.invariant.0) in
    let back : IsPartitionFrom start n (reverse (c.loop-end.ends.items ++ end ∷ [])) = subst (λ (x : List ℕ). IsPartitionFrom start n x) (sym turned) chain in
    (subst (λ (x : List ℕ). IsPartitionFrom start n (reverse x)) (sym c.in_ok-push.ensures.items) back, omega (arith, before, within))
