use Rattle.std.proofs.Common.{refl, ◌∙◌, ap, sym}
use Rattle.memory_io.specs.MemDepot.{mem_depot}
use Rattle.io_traits.specs.PerSlot.{at_slot}
use Rattle.memory_io.specs.Asked.{starting}
use Rattle.memory_io.proofs.FailedCalls.{failed-start}
use Rattle.memory_io.proofs.failing_depot.MemDepotDepot.start.Goals as goal

pub returns-then-fails_next-clause-starts : goal.returns-then-fails_next-clause-starts
returns-then-fails_next-clause-starts c =
    let fault = c.fail.ensures.fault in
    let same = c.fail.ensures.unchanged in
    let counts = fault.0 in
    let old = (mem_depot c.args.self.now).state in
    failed-start old _ c.args.slot c.args.name.now c.fail.result c.fail.ensures.failed refl
    (record { files = same.files; slots = same.slots; writing = same.writing })
    (record { this = counts.this; others = counts.others; writing = counts.writing; create_count = counts.create_count; finish_count = counts.finish_count; refusals = counts.refusals })
    (record {
      count = fault.1;
      told = λ t. c.note.ensures.told (sym fault.2 ∙ t);
      named = λ t. fault.3 ∙ c.note.ensures.named (sym fault.2 ∙ t);
    })
    (λ other ne. fault.4 other ne ∙ ap (starting (at_slot c.args.self.now.depot.calls.starts other)) (c.note.ensures.others other ne))
