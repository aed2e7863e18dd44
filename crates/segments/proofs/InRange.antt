-- The documents of a well-formed collection are below their number.
use Rattle.std.proofs.Common.{◌<◌}
use Rattle.std.specs.List.{All}
use Rattle.std.proofs.lemmas.List.Elements.{All-weaker}
use Rattle.collection_model.specs.FormatNumbers.{FormatNumbers}
use Rattle.collection_model.specs.Collection.{Collection, IsPostingList, WellFormed, docs_of}
use Rattle.segments.specs.Laws.{IsInRange}

pub well-in-range : (format : FormatNumbers) (c : Collection) → WellFormed format c → IsInRange c
well-in-range format c well =
    All-weaker (IsPostingList format c.documents) (λ list. All (λ d. d < c.documents) (docs_of list))
    (λ list is. is.in_range) c.lists well.lists
