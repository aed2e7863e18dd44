use Rattle.std.specs.Prelude.{ℕ, List, drop}
use Rattle.memory_io.specs.declared.opened.Opened.{Opened}

-- the bytes that are left
abbrev pub rest : Opened → List ℕ
rest opened = drop opened.at opened.bytes.items
