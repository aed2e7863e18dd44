use Rattle.std.proofs.Common.{◌≡◌, refl}
use Rattle.std.specs.Prelude.{codes, Err}
use Rattle.io_traits.specs.declared.fail.Slot.TheVariants.{Docs, Index}
use Rattle.outcomes.specs.declared.status.Status.TheVariants as status
use Rattle.outcomes.specs.declared.stop.Stop.TheVariants.{FileFault, WriteFault, TooLarge}
use Rattle.outcomes.specs.Outcome.{status_of, line_of}

file-status : status_of (Err (FileFault Docs)) ≡ status.Read
file-status = refl

file-line : line_of (Err (FileFault Docs)) ≡ codes "read fault: docs\n"
file-line = refl

write-line : line_of (Err (WriteFault Index)) ≡ codes "write fault: index\n"
write-line = refl

large-line : line_of (Err (TooLarge Index)) ≡ codes "too large: index\n"
large-line = refl
