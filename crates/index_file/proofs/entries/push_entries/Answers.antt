use Rattle.std.proofs.Common.{rules, ◌≡◌, ◌∙◌, ap, ℕ, suc, ◌+◌, List, ◌++◌, append_assoc, arith}
use Rattle.index_file.specs.Builder.{repeated}
use Rattle.index_file.proofs.entries.push_entries.Goals as goal

pub loop-preserved : goal.loop-preserved
loop-preserved c =
    let old : List ℕ = c.args.to.now.items in
    let entry : List ℕ = c.args.entry in
    let added : c.extend_from_slice.new.self.items ≡ c.loop.to.items ++ c.args.entry = search rules in
    let next : suc c.loop.counter ≡ c.loop.counter + 1 = omega arith in
    added ∙ ap (λ (l : List ℕ). l ++ entry) c.loop.invariant ∙ append_assoc old (repeated c.loop.counter entry) entry ∙ ap (λ (n : ℕ). old ++ repeated n entry) next
