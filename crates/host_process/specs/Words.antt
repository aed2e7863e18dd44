use Rattle.std.specs.Prelude.{◌≡◌, ◌≢◌, [], Result, IfOk, IfErr, IsOk, IsErr, String, Vec}
use Rattle.std.specs.Vec.Iter.{into_iter_items}
use Rattle.std.specs.IoError.{error_kind}
use Rattle.std.specs.declared.alloc.Global.{Global}
use Rattle.std.specs.declared.vec.IntoIter.{IntoIter}
use Rattle.std.specs.declared.io.Error.{Error}
use Rattle.std.specs.declared.io.ErrorKind.TheVariants.{OutOfMemory}
use Rattle.no_memory.specs.declared.NoMemory.{NoMemory}

-- the words that the system gave, or why it gave none
abbrev pub GivenWords : Type 0
GivenWords = Result (IntoIter (String Global) Global) Error

-- the words that were taken of these, or that memory was refused for them
abbrev pub TakenWords : Type 0
TakenWords = Result (Vec (String Global) Global) NoMemory

-- The words of the command line: all that were given, in their order. Where the system was refused
-- memory for them this is said, and where it gave none for another reason, as for one that is no
-- UTF-8, there are none.
pub record TakesWords (given : GivenWords) (result : TakenWords) : Type 0 where
  pub all : IfOk given (λ words. IfOk result (λ taken. taken.items ≡ into_iter_items words))
  pub no_memory : IfErr given (λ e. error_kind e ≡ OutOfMemory → IsErr result)
  pub none : IfErr given (λ e. error_kind e ≢ OutOfMemory
      → IsOk result × IfOk result (λ taken. taken.items ≡ []))
