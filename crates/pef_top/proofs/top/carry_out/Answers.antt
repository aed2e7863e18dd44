use Rattle.pef_top.proofs.top.carry_out.Goals as goal

pub returns-in-Build-clause-leaves : goal.returns-in-Build-clause-leaves
returns-in-Build-clause-leaves g c = λ e e'. rw c.in-Build.is (c.build.ensures _ _ e e')

pub returns-in-Query-clause-leaves : goal.returns-in-Query-clause-leaves
returns-in-Query-clause-leaves g c = λ e e'. rw c.in-Query.is (c.query.ensures.leaves e e' _)

pub returns-in-Inspect-clause-leaves : goal.returns-in-Inspect-clause-leaves
returns-in-Inspect-clause-leaves g c = λ e e'. rw c.in-Inspect.is (c.inspect.ensures.leaves _ e e' _)

pub returns-in-Answer-clause-leaves : goal.returns-in-Answer-clause-leaves
returns-in-Answer-clause-leaves g c = λ e e'. rw c.in-Answer.is (c.answer.ensures.leaves e e')

pub returns-in-Generate-clause-leaves : goal.returns-in-Generate-clause-leaves
returns-in-Generate-clause-leaves g c = λ e e'. rw c.in-Generate.is (c.generate.ensures.leaves _ _ e e')

pub returns-in-Migrate-clause-leaves : goal.returns-in-Migrate-clause-leaves
returns-in-Migrate-clause-leaves g c = λ e e'. rw c.in-Migrate.is (c.migrate.ensures _ _ e e')

pub returns-in-Audit-clause-leaves : goal.returns-in-Audit-clause-leaves
returns-in-Audit-clause-leaves g c = λ e e'. rw c.in-Audit.is (c.audit.ensures.leaves _ e e')

pub returns-in-Blocks-clause-leaves : goal.returns-in-Blocks-clause-leaves
returns-in-Blocks-clause-leaves g c = λ e e'. rw c.in-Blocks.is (c.blocks-in-Blocks.ensures _ _ e e' _)

pub returns-in-BlockQuery-clause-leaves : goal.returns-in-BlockQuery-clause-leaves
returns-in-BlockQuery-clause-leaves g c = λ e e'. rw c.in-BlockQuery.is (c.bquery.ensures.leaves e e' _)

pub returns-in-Remap-clause-leaves : goal.returns-in-Remap-clause-leaves
returns-in-Remap-clause-leaves g c = λ e e'. rw c.in-Remap.is (c.remap.ensures _ _ e e' _)

pub returns-in-Segments-clause-leaves : goal.returns-in-Segments-clause-leaves
returns-in-Segments-clause-leaves g c = λ e e'. rw c.in-Segments.is (c.segments.ensures.leaves e e' _)

pub returns-in-Export-clause-leaves : goal.returns-in-Export-clause-leaves
returns-in-Export-clause-leaves g c = λ e e'. rw c.in-Export.is (c.export.ensures _ _ e e' _)

pub returns-in-IntervalQuery-clause-leaves : goal.returns-in-IntervalQuery-clause-leaves
returns-in-IntervalQuery-clause-leaves g c = λ e e'. rw c.in-IntervalQuery.is (c.iquery.ensures.leaves e e' _)

pub returns-in-Merge-clause-leaves : goal.returns-in-Merge-clause-leaves
returns-in-Merge-clause-leaves g c = λ e e'. rw c.in-Merge.is (c.merge.ensures _ _ e e')
