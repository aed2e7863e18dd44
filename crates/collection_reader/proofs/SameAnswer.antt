-- What two equal answers have in common.
use Rattle.std.proofs.Common.{◌≡◌, Result, Ok, Err}
use Rattle.collection_reader.specs.declared.fault.CollError.{CollError}
use Rattle.collection_reader.specs.declared.fault.CollError.TheVariants.{Broken, NoMemory}
use Rattle.collection_reader.specs.declared.fault.Fault.{Fault}

pub same-fault : {A B : Type 0} (e : CollError) (fault : Fault) → (let r : Result A CollError = Err e in r ≡ Err (Broken fault)) → let s : Result B CollError = Err e in s ≡ Err (Broken fault)
same-fault e fault h = cc

pub ok-not-broken : {A : Type 0} (x : A) (fault : Fault) → (let r : Result A CollError = Ok x in r ≡ Err (Broken fault)) → ⊥
ok-not-broken x fault h = cc

pub no_memory-not-broken : {A : Type 0} (fault : Fault) → (let r : Result A CollError = Err NoMemory in r ≡ Err (Broken fault)) → ⊥
no_memory-not-broken fault h = cc

pub fault-of : {A : Type 0} (f g : Fault) → (let r : Result A CollError = Err (Broken f) in r ≡ Err (Broken g)) → f ≡ g
fault-of f g h = cc
