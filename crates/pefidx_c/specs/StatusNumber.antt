use Rattle.std.specs.Prelude.{ℕ}
use Rattle.pefidx_c.specs.declared.status.Status.{Status}
use Rattle.pefidx_c.specs.declared.status.Status.TheVariants.{Done, End, Room, NoIndex, NoTerm, NoDocument, TooManyTerms, BadWeights, NoPlan, NoMemory, TooLarge, TooMany, NotWhole, BadPosting, NoFormat, NoFlag, NoJoin, NoCollection}

-- the number that stands for how a call ended
abbrev pub number_of : Status → ℕ
number_of Done = 0
number_of End = 1
number_of Room = 2
number_of NoIndex = 3
number_of NoTerm = 4
number_of NoDocument = 5
number_of TooManyTerms = 6
number_of BadWeights = 7
number_of NoPlan = 8
number_of NoMemory = 9
number_of TooLarge = 10
number_of TooMany = 11
number_of NotWhole = 12
number_of BadPosting = 13
number_of NoFormat = 14
number_of NoFlag = 15
number_of NoJoin = 16
number_of NoCollection = 17
