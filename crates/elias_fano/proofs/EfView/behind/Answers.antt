use Rattle.std.proofs.Common.{◌≡◌, ◌+◌, ◌/◌, ◌≤◌, ◌^◌, get_or, ap, arith}
use Rattle.elias_fano.specs.EfBits.{high_place}
use Rattle.elias_fano.specs.EfPlaces.{low_fields_at}
use Rattle.elias_fano.proofs.Passing.{past-number}
use Rattle.elias_fano.proofs.Views.{within-held}
use Rattle.elias_fano.proofs.Lookups.{behind-within}
use Rattle.elias_fano.proofs.EfView.behind.Given as given
use Rattle.elias_fano.proofs.EfView.behind.Goals as goal
use Rattle.elias_fano.proofs.EfView.behind.Goals.{Start}

-- it lies within the high bits
inside : (g : given.Over) (c : Start g) → c.args.self.now.part.place + c.args.number / 2 ^ c.args.self.now.low + c.args.k + 1 ≤ c.args.self.now.part.place + low_fields_at c.args.self.now.part.u c.args.self.now.part.m c.args.self.now.low
inside g c = let ys = c.requires.held.0 in let h = c.requires.held.1 in behind-within g.row.Q c.args.self.now ys c.args.k c.args.number h c.requires.within (c.requires.number ys h)

pub overflow_add-result : goal.overflow_add-result
overflow_add-result g c = omega (arith, inside g (goal.at.overflow_add-result g c).Start, within-held g.row.Q c.args.self.now c.requires.held.0 c.requires.held.1)

pub overflow_add-result-2 : goal.overflow_add-result-2
overflow_add-result-2 g c = omega (arith, inside g (goal.at.overflow_add-result-2 g c).Start, within-held g.row.Q c.args.self.now c.requires.held.0 c.requires.held.1)

pub overflow_add-result-3 : goal.overflow_add-result-3
overflow_add-result-3 g c = omega (arith, inside g (goal.at.overflow_add-result-3 g c).Start, within-held g.row.Q c.args.self.now c.requires.held.0 c.requires.held.1)

pub returns : goal.returns
returns g c = record {
  within = inside g (goal.at.returns g c).Start;
  past = λ ys h.
      let v = c.args.self.now in
      let one : v.part.place + c.args.number / 2 ^ v.low + c.args.k ≡ v.part.place + high_place v.low c.args.k (get_or ys c.args.k 0) = omega (arith, ap (λ n. n / 2 ^ v.low) (c.requires.number ys h)) in
      past-number v.part.place v.part.m v.low ys h.values.rising h.values.count c.args.k (v.part.place + c.args.number / 2 ^ v.low + c.args.k) c.requires.within one;
}
