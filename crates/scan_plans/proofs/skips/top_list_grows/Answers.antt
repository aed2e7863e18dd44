use Rattle.scan_plans.proofs.Skipping.{top-none, top-offered, top-skipped, top-below}
use Rattle.scan_plans.proofs.Scans.{any-bound}
use Rattle.scan_plans.proofs.skips.top_list_grows.Goals as goal

pub returns : goal.returns
returns c = record { none = top-none; offered = top-offered; skipped = top-skipped; below = top-below; in_range = any-bound }
