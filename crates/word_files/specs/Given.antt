use Rattle.std.specs.Prelude.{◌≡◌, ℕ, List, ◌++◌, Result, Ok, Err}
use Rattle.io_traits.specs.declared.fail.IoFail.{IoFail}
use Rattle.io_traits.specs.DepotState.{DepotState}
use Rattle.io_traits.specs.Helpers.{WritesAllToFile}

-- What giving bytes to the file that is being written gives: they come behind those that were held,
-- what of both is not held then is written, and on a refusal a prefix of both.
abbrev pub Gives : List ℕ → List ℕ → List ℕ → DepotState → DepotState → Result (Unit {0}) IoFail
    → Type 0
Gives bytes held after old new (Ok u) = (written : List ℕ) × (held ++ bytes ≡ written ++ after)
    × WritesAllToFile old new written (Ok u)
Gives bytes held after old new (Err fail) = WritesAllToFile old new (held ++ bytes) (Err fail)
