use Rattle.std.proofs.Common.{sym, ◌∙◌}
use Rattle.index_file.proofs.packed_checking.has_starts.Goals as goal

pub returns-then-not-starts_stand : goal.returns-then-not-starts_stand
returns-then-not-starts_stand c = (λ t. cc, λ h. sym c.if-not-starts_stand.true ∙ c.starts_stand.ensures.1 (h.starts, h.stand))

pub first_start-requires-clause-stand : goal.first_start-requires-clause-stand
first_start-requires-clause-stand c = c.starts_stand.ensures.0 c.if-not-starts_stand.false

pub returns-then-first_start-ne0 : goal.returns-then-first_start-ne0
returns-then-first_start-ne0 c = (λ t. cc, λ h. absurd (c.if-first_start-ne0.true (c.first_start.ensures h.starts h.stand ∙ h.first)))

pub returns : goal.returns
returns c =
    let it = c.starts_stand.ensures.0 c.if-not-starts_stand.false in (
      λ t. record { starts = it.0; stand = it.1; first = sym (c.first_start.ensures it.0 it.1) ∙ c.if-first_start-ne0.false; filled = c.starts_filled.ensures.0 t },
      λ h. c.starts_filled.ensures.1 h.filled,
    )
