-- What the answers of a held piece say of its file.
use Rattle.std.proofs.Common.{◌≡◌, refl, ℕ, Bool, true, false, List, Option, Some, None, Result, Ok, Err}
use Rattle.io_traits.specs.declared.fail.IoFail.{IoFail}
use Rattle.io_traits.specs.declared.fail.IoFail.TheVariants as call
use Rattle.io_traits.specs.declared.fail.Slot.{Slot}
use Rattle.io_traits.specs.DepotState.{DepotState}
use Rattle.held_pieces.specs.Pieces.{LooksAhead as PieceLooks, TakesNumber as PieceTakes}
use Rattle.collection_reader.specs.declared.fault.CollError.{CollError}
use Rattle.collection_reader.specs.declared.fault.CollError.TheVariants.{Broken}
use Rattle.collection_reader.specs.declared.fault.Fault.{Fault}
use Rattle.collection_reader.specs.declared.position.Position.{Position}
use Rattle.collection_reader.specs.OneFile.{LooksAhead, TakesNumber, call_error, cut_at}
use Rattle.collection_reader.proofs.SameAnswer.{ok-not-broken}
use Rattle.collection_reader.proofs.ReadsFrom.{from-ok, from-broken, from-refused}

same-look : (more b : Bool) → (let r : Result Bool CollError = Ok more in r ≡ Ok b) → let s : Result Bool IoFail = Ok more in s ≡ Ok b
same-look more b h = cc

refused-not_ok : (e : CollError) (b : Bool) → (let r : Result Bool CollError = Err e in r ≡ Ok b) → ⊥
refused-not_ok e b h = cc

refused-not_broken : {A : Type 0} (slot : Slot) (fail : IoFail) (fault : Fault) → (let r : Result A CollError = Err (call_error slot fail) in r ≡ Err (Broken fault)) → ⊥
refused-not_broken slot call.Failed fault h = cc
refused-not_broken slot call.NoMemory fault h = cc

-- a look that was answered, and one that was refused
pub look-answered : (slot : Slot) (held after : List ℕ) (old new : DepotState) (more : Bool) → PieceLooks slot held after old new (Ok more) → LooksAhead slot held after old new (Ok more)
look-answered slot held after old new more look = record {
  same_rest = look.same_rest;
  more = λ is. look.more (same-look more true is);
  at_end = λ t is. look.at_end t (same-look more false is);
  no_fault = λ fault h. ok-not-broken more fault h;
  depot = from-ok more look.depot;
}

pub look-refused : (slot : Slot) (held after : List ℕ) (old new : DepotState) (fail : IoFail) → PieceLooks slot held after old new (Err fail) → LooksAhead slot held after old new (Err (call_error slot fail))
look-refused slot held after old new fail look = record {
  same_rest = λ t. tt;
  more = λ is. absurd (refused-not_ok (call_error slot fail) true is);
  at_end = λ t is. absurd (refused-not_ok (call_error slot fail) false is);
  no_fault = λ fault h. refused-not_broken {A = Bool} slot fail fault h;
  depot = from-refused {A = Bool} {B = Bool} fail look.depot;
}

-- a number that was taken, one that is cut, and one that was refused
pub number-taken : (at : Position) (held after : List ℕ) (old new : DepotState) (n : ℕ) → PieceTakes at.file held after old new (Ok (Some n)) → TakesNumber at held after old new (Ok n)
number-taken at held after old new n takes = record {
  fits = takes.fits n refl;
  number = λ t. takes.number t n refl;
  cut = λ fault h. absurd (ok-not-broken n fault h);
  too_short = λ t fault h. absurd (ok-not-broken n fault h);
  depot = from-ok n takes.depot;
}

pub number-cut : (at : Position) (held after : List ℕ) (old new : DepotState) → PieceTakes at.file held after old new (Ok None) → TakesNumber at held after old new (Err (Broken (cut_at at)))
number-cut at held after old new takes = record {
  fits = tt;
  number = λ t. tt;
  cut = λ fault h. cc;
  too_short = λ t fault h. takes.too_short t refl;
  depot = from-broken {A = Option ℕ} {B = ℕ} (cut_at at) takes.depot;
}

pub number-refused : (at : Position) (held after : List ℕ) (old new : DepotState) (fail : IoFail) → PieceTakes at.file held after old new (Err fail) → TakesNumber at held after old new (Err (call_error at.file fail))
number-refused at held after old new fail takes = record {
  fits = tt;
  number = λ t. tt;
  cut = λ fault h. absurd (refused-not_broken {A = ℕ} at.file fail fault h);
  too_short = λ t fault h. absurd (refused-not_broken {A = ℕ} at.file fail fault h);
  depot = from-refused {A = Option ℕ} {B = ℕ} fail takes.depot;
}
