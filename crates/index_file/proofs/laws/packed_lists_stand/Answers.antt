use Rattle.std.proofs.Common.{refl, sym, arith}
use Rattle.part_cost.specs.declared.formats.Format.TheVariants.{Three}
use Rattle.index_file.proofs.PackedLists.{lie-between}
use Rattle.index_file.proofs.ListStarts.{passes}
use Rattle.index_file.proofs.laws.packed_lists_stand.Goals as goal

pub returns : goal.returns
returns c words is three t lt =
    let p = passes c.file_laws.ensures words Three is (sym three) refl in
    let b = lie-between c.file_laws.ensures.values words p t lt in
    record {
      ordered = b.ordered;
      few = omega (arith, b.few, p.frame.bits);
      within = b.within;
      stored = p.lists t lt;
    }
