use Rattle.std.specs.Prelude.{◌≡◌, ℕ, ◌+◌, ◌-◌, ◌^◌, ◌<◌, ◌≤◌, ◌⊎◌, max, min, Result, IsOk, IsErrOf}
use Rattle.io_traits.specs.declared.fail.IoFail.{IoFail}
use Rattle.io_traits.specs.declared.fail.IoFail.TheVariants.{Failed, NoMemory}

-- A count rose, or stands at a counter's last value.
abbrev pub Rose : ℕ → ℕ → Type 0
Rose before now = (before < now) ⊎ (now ≡ 2 ^ 64 - 1)

-- one more, up to a counter's last value
abbrev pub one_more : ℕ → ℕ
one_more n = max n (min (n + 1) (2 ^ 64 - 1))

-- how the count of faults of a kind of call goes on in one such call
pub record CountsFaults {A : Type 0} (before now : ℕ) (result : Result A IoFail) : Type 0 where
  pub never_falls : before ≤ now
  pub failed_only_where_it_rose : IsErrOf result Failed → Rose before now
  pub same_at_ok : IsOk result → now ≡ before
  pub same_at_no_memory : IsErrOf result NoMemory → now ≡ before

-- how the count of refusals of memory goes on in a call
pub record CountsRefusals {A : Type 0} (before now : ℕ) (result : Result A IoFail) : Type 0 where
  pub never_falls : before ≤ now
  pub no_memory_only_where_it_rose : IsErrOf result NoMemory → Rose before now
  pub rises_only_there : IsErrOf result NoMemory ⊎ (now ≡ before)
