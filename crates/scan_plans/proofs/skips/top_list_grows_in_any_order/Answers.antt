use Rattle.scan_plans.proofs.AnyOrder.{first-of_none, first-after_offer, first-after_pass, outranked-by_last, seen-none, seen-is_held, seen-after_offer, seen-after_skips, seen-all}
use Rattle.scan_plans.proofs.skips.top_list_grows_in_any_order.Goals as goal

pub returns : goal.returns
returns c = record {
  first_none = first-of_none;
  first_offered = first-after_offer;
  first_passed = first-after_pass;
  after_last = outranked-by_last;
  none = seen-none;
  not_held = seen-is_held;
  offered = seen-after_offer;
  skipped = seen-after_skips;
  all = seen-all;
}
