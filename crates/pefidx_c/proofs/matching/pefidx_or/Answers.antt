use Rattle.std.proofs.Common.{◌≡◌, ap, ◌∙◌, subst, ℕ, List, length}
use Rattle.scan_plans.specs.Matches.{in_any}
use Rattle.pefidx_c.specs.Asked.{collection_in, lists_of}
use Rattle.pefidx_c.specs.Rooms.{put_in, given_in}
use Rattle.pefidx_c.specs.StatusNumber.{number_of}
use Rattle.pefidx_c.proofs.matching.pefidx_or.Goals as goal

pub returns-in-Ok-clause-given : goal.returns-in-Ok-clause-given
returns-in-Ok-clause-given c = λ asked done.
    let terms : List ℕ = c.args.terms.now in
    let all = collection_in c.args.words.now in
    let is : c.as_slice.result.now ≡ in_any all.documents (lists_of all terms) =
    c.as_slice.ensures.value ∙ c.in-Ok.ensures ∙ ap (λ x. in_any x.documents (lists_of x terms)) c.index_of-index.ensures.collection in
    let P = λ (xs : List ℕ). (c.give.result ≡ number_of (given_in (length c.args.docs.now) (length xs))) × (c.give.new.room ≡ put_in c.args.docs.now xs) × (c.give.new.count ≡ length xs) in
    subst P is (c.give.ensures.status, c.give.ensures.room, c.give.ensures.count)
