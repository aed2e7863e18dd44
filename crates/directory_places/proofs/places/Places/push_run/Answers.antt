use Rattle.std.proofs.Common.{◌∙◌, ◌+◌, ◌-◌, ◌<◌, ◌^◌, ◌++◌, Result, Ok, Err, length, sym, ap, subst, arith}
use Rattle.std.specs.List.{range_with_len}
use Rattle.std.specs.Prelude.{OnOk, OnErr, slice_index}
use Rattle.std.proofs.lemmas.Result.{on_ok_weaker, on_err_weaker}
use Rattle.directory_places.specs.Places.{AreMarked, places_of}
use Rattle.directory_places.proofs.Marks.{length-places, places-run, marked-run}
use Rattle.directory_places.proofs.places.Places.push_run.Goals as goal

-- what holds in either case
either-way : {T E P : Type 0} (r : Result T E) → OnOk r P → OnErr r P → P
either-way (Ok v) p q = p
either-way (Err e) p q = q

pub invariant_of-self : goal.invariant_of-self
invariant_of-self c =
    let s = c.self.inside in
    let room : length c.self.inside.marks + c.args.count < 2 ^ 62 = omega (arith, c.requires.room, length-places s.marks s.ends.items, ap length c.self.view_is) in
    either-way c.put_zeros.result
    (on_ok_weaker c.put_zeros.result (λ e. subst (λ m. AreMarked m s.ends.items) (sym e) (marked-run s.marks s.ends.items c.args.count c.self.invariant room)) c.put_zeros.ensures.ok)
    (on_err_weaker c.put_zeros.result (λ e. subst (λ m. AreMarked m s.ends.items) (sym e) c.self.invariant) c.put_zeros.ensures.err)

pub returns-clause-ok : goal.returns-clause-ok
returns-clause-ok c =
    let s = c.self.inside in
    on_ok_weaker c.put_zeros.result
    (λ e. ap (λ m. places_of m s.ends.items) e ∙ places-run s.marks s.ends.items c.args.count c.self.invariant.one_each
    ∙ ap (λ l. l ++ range_with_len (slice_index l (length l - 1) + 1) c.args.count) c.self.view_is)
    c.put_zeros.ensures.ok
