use Rattle.std.specs.Prelude.{◌≡◌, ℕ, ◌⊎◌, List, Result, Err}
use Rattle.io_traits.specs.SinkState.{SinkState}
use Rattle.io_traits.specs.declared.fail.IoFail.{IoFail}
use Rattle.io_traits.specs.declared.fail.IoFail.TheVariants.{NoMemory}
use Rattle.index_printing.specs.PrintLine.{PrintsLine}

-- Memory is refused before out is called.
abbrev pub IsUnmade : SinkState → SinkState → Result (Unit {0}) IoFail → Type 0
IsUnmade old new result = (result ≡ Err NoMemory) × (new ≡ old)

-- A text of this property is made and printed on out, or memory is refused before.
abbrev pub MakesAndPrints : (List ℕ → Type 0) → SinkState → SinkState → Result (Unit {0}) IoFail
    → Type 0
MakesAndPrints Is old new result = IsUnmade old new result
    ⊎ ((text : List ℕ) × Is text × PrintsLine text old new result)
