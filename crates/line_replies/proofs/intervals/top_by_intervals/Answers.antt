use Rattle.std.proofs.Common.{◌∙◌, ap, subst, sym, ℕ, List, length}
use Rattle.std.proofs.lemmas.List.{length-map}
use Rattle.collection_model.specs.Collection.{Collection, Posting, list_of}
use Rattle.command_model.specs.Replies.{lists_of}
use Rattle.index_intervals.specs.LongLists.{has_maxima}
use Rattle.interval_max.specs.Bounded.{AreBoundsOf}
use Rattle.interval_max.specs.declared.maxima.Bounds.{Bounds}
use Rattle.line_replies.proofs.intervals.top_by_intervals.Goals as goal

pub bounds_can_save-requires : goal.bounds_can_save-requires
bounds_can_save-requires g c =
    let whole : Collection = g.L.TermLists.collection c.args.lists.now in
    let words : ℕ = c.requires.maxima.0 in
    let are : AreBoundsOf (lists_of whole c.args.terms.now) c.in_ok-bounds.bounds.items =
    c.in_ok-bounds.ensures (has_maxima words whole) (list_of whole) (length whole.lists) c.requires.maxima.1 c.requires.named in
    ap length c.deref.ensures.value ∙ are.each ∙ sym (ap length c.requires.lists) ∙ length-map c.args.cursors.now _

pub top_intervals-requires-clause-maxima : goal.top_intervals-requires-clause-maxima
top_intervals-requires-clause-maxima g c =
    let whole : Collection = g.L.TermLists.collection c.args.lists.now in
    let words : ℕ = c.requires.maxima.0 in
    let are : AreBoundsOf (lists_of whole c.args.terms.now) c.in_ok-bounds.bounds.items =
    c.in_ok-bounds.ensures (has_maxima words whole) (list_of whole) (length whole.lists) c.requires.maxima.1 c.requires.named in
    subst (λ (ls : List (List Posting)). AreBoundsOf ls c.deref-2.result.now) (sym c.requires.lists)
    (subst (λ (bs : List Bounds). AreBoundsOf (lists_of whole c.args.terms.now) bs) (sym c.deref-2.ensures.value) are)
