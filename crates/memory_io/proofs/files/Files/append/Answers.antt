use Rattle.std.proofs.Common.{◌≡◌, ◌++◌, List, [], Result, Ok, Err, is_ok, cond, OnOk, OnErr, ℕ, String, Vec, get_or, set, string_bytes, unwrap_or, refl}
use Rattle.std.specs.declared.alloc.Global.{Global}
use Rattle.std.proofs.lemmas.List.Quantifiers.{position-Some}
use Rattle.memory_io.specs.InMemory.{file_in}
use Rattle.memory_io.specs.Files.{has_name, name_at, IsFirst, Puts}
use Rattle.memory_io.proofs.FileLists.{Puts-append, Puts-set, same_files}
use Rattle.memory_io.proofs.files.Files.append.Goals as goal

at_ok : {E : Type 0} (r : Result (Unit {0}) E) (files : List (String Global × Vec ℕ Global)) (at : ℕ) (file put : String Global × Vec ℕ Global) (piece : List ℕ) → file ≡ get_or files at file → string_bytes put.0 ≡ string_bytes file.0 → IsFirst files at → put.1.items ≡ cond {A = List ℕ} (is_ok r) (file.1.items ++ piece) file.1.items → OnOk r (Puts files (set files at put) at (name_at files at) (unwrap_or (file_in files (name_at files at)) [] ++ piece))
at_ok (Ok u) files at file put piece e s first items = Puts-append files at file put piece e s first items
at_ok (Err u) files at file put piece e s first items = tt

at_err : {E : Type 0} (r : Result (Unit {0}) E) (files : List (String Global × Vec ℕ Global)) (at : ℕ) (file put : String Global × Vec ℕ Global) (piece : List ℕ) → file ≡ get_or files at file → string_bytes put.0 ≡ string_bytes file.0 → IsFirst files at → put.1.items ≡ cond {A = List ℕ} (is_ok r) (file.1.items ++ piece) file.1.items → OnErr r ((name : List ℕ) → file_in (set files at put) name ≡ file_in files name)
at_err (Ok u) files at file put piece e s first items = tt
at_err (Err u) files at file put piece e s first items = same_files files at file put e s items first

puts : (files : List (String Global × Vec ℕ Global)) (at : ℕ) (file put : String Global × Vec ℕ Global) → file ≡ get_or files at file → string_bytes put.0 ≡ string_bytes file.0 → IsFirst files at → Puts files (set files at put) at (name_at files at) put.1.items
puts files at file put e s first = Puts-set files at file put (name_at files at) (position-Some (has_name (name_at files at)) files at file first).0 e s first

pub returns-clause-first : goal.returns-clause-first
returns-clause-first c =
    let file = c.index_mut-file.result.now in
    (puts c.args.self.now.list.items c.args.at file (file.0, c.extend_from_slice.new.self) c.index_mut-file.ensures.value refl c.requires).first

pub returns-clause-named : goal.returns-clause-named
returns-clause-named c =
    let file = c.index_mut-file.result.now in
    (puts c.args.self.now.list.items c.args.at file (file.0, c.extend_from_slice.new.self) c.index_mut-file.ensures.value refl c.requires).named

pub returns-clause-put : goal.returns-clause-put
returns-clause-put c =
    let file = c.index_mut-file.result.now in
    at_ok c.extend_from_slice.result c.args.self.now.list.items c.args.at file (file.0, c.extend_from_slice.new.self)
    c.args.piece.now c.index_mut-file.ensures.value refl c.requires c.extend_from_slice.ensures.items

pub returns-clause-unchanged : goal.returns-clause-unchanged
returns-clause-unchanged c =
    let file = c.index_mut-file.result.now in
    at_err c.extend_from_slice.result c.args.self.now.list.items c.args.at file (file.0, c.extend_from_slice.new.self)
    c.args.piece.now c.index_mut-file.ensures.value refl c.requires c.extend_from_slice.ensures.items
