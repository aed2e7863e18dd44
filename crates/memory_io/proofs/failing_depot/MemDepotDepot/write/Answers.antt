use Rattle.std.proofs.Common.{refl}
use Rattle.memory_io.proofs.FailedCalls.{same-count, at-err}
use Rattle.memory_io.proofs.failing_depot.MemDepotDepot.write.Goals as goal

pub returns-clause-writes : goal.returns-clause-writes
returns-clause-writes c =
    let w = c.write.ensures.writes in
    record {
      tells = w.tells;
      within = w.within;
      not_nothing = w.not_nothing;
      appended = w.appended;
      other_files = w.other_files;
      slots = w.slots;
      writing = w.writing;
      unchanged = at-err c.write.result (λ same. record { files = same.files; slots = same.slots; writing = same.writing }) w.unchanged;
      counts = record {
        this = same-count _ c.write.result c.write.ensures.never_fails;
        others = λ slot. refl;
        starts = w.counts.starts;
        refusals = w.counts.refusals;
      };
      create_count = refl;
      finish_count = refl;
    }
