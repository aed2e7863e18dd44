use Rattle.std.proofs.Common.{◌∙◌, [], sym, arith}
use Rattle.index_file.proofs.AddedBoth.{halves-stand}
use Rattle.index_file.proofs.builder.Builder.new.Goals as goal

pub invariant_of-result : goal.invariant_of-result
invariant_of-result c =
    let p = c.in_ok-plain in
    let q = c.in_ok-packed in
    record {
      documents = omega (arith, p.ensures.documents, c.requires.few);
      plain_format = p.ensures.format;
      packed_format = q.ensures.format;
      same_documents = q.ensures.documents ∙ sym p.ensures.documents;
      stands = ([], halves-stand c.args.format p.plain q.packed [] p.ensures.format q.ensures.format (q.ensures.documents ∙ sym p.ensures.documents) p.ensures.no_list q.ensures.no_list);
    }

pub returns-clause-no_list : goal.returns-clause-no_list
returns-clause-no_list c =
    let p = c.in_ok-plain in
    let q = c.in_ok-packed in
    halves-stand c.args.format p.plain q.packed [] p.ensures.format q.ensures.format (q.ensures.documents ∙ sym p.ensures.documents) p.ensures.no_list q.ensures.no_list
