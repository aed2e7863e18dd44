use Rattle.std.proofs.Common.{◌≡◌, ◌≢◌, ℕ, ◌+◌, ◌<◌, ◌≤◌, Bool, true, false, not, cond, add-zero, ltb, List, [], ◌∷◌, ◌++◌, length, get_or, set, Option, Some, None, Vec, String, string_bytes, bytes_eq, option_map, unwrap_or, refl, sym, ◌∙◌, ap, subst, arith, slice_get}
use Rattle.std.specs.List.{position, position_or_len, find}
use Rattle.std.specs.declared.alloc.Global.{Global}
use Rattle.std.proofs.lemmas.List.{length-set, get_or-set_same, length_push, get_or_push}
use Rattle.std.proofs.lemmas.List.Folds.{find-set, find_past, find-append, find_at, position_or_len-set, position_or_len_push}
use Rattle.std.proofs.lemmas.List.Sums.{position_or_len_is, prefix_len-le-length}
use Rattle.std.proofs.lemmas.List.Quantifiers.{position-Some}
use Rattle.std.proofs.lemmas.Option.{slice_get_read, slice_get_past}
use Rattle.std.specs.Option.{option_or}
use Rattle.std.proofs.lemmas.Slice.Eq.{bytes_eq-Decides}
use borrow.Author.Tests.{lt-ltb, ltb-false, eq-eqb}
use Rattle.memory_io.specs.InMemory.{file_in}
use Rattle.memory_io.specs.Files.{has_name, name_at, IsFirst, Puts}

-- the first place, where it is known
pub position-at : {X : Type 0} (p : X → Bool) (xs : List X) (i : ℕ) → i < length xs → position_or_len p xs ≡ i → position p xs ≡ Some i
position-at p xs i l e =
    let Q : ℕ → Type 0 = λ n. cond {A = Option ℕ} (ltb n (length xs)) (Some n) None ≡ Some i in
    subst Q (sym e) (ap (λ b. cond {A = Option ℕ} b (Some i) None) (lt-ltb i (length xs) l))

-- the first place, as it was found
pub position_or_len-at : {X : Type 0} (p : X → Bool) (xs : List X) (i : ℕ) (d : X) → position p xs ≡ Some i → position_or_len p xs ≡ i
position_or_len-at p xs i d e =
    let f = position-Some p xs i d e in
    let within : i ≤ length xs = omega (arith, f.0) in
    position_or_len_is p xs i d within f.2 (λ _. f.1)

-- the name of a file that stands at a place
pub name_at-read : (files : List (String Global × Vec ℕ Global)) (at : ℕ) (file : String Global × Vec ℕ Global) → at < length files → file ≡ get_or files at file → name_at files at ≡ string_bytes file.0
name_at-read files at file l e = ap (λ found. unwrap_or (option_map (λ f. string_bytes f.0) found) []) (slice_get_read files (length files) at file refl l e)

-- a text equals itself
same_text : (name : List ℕ) → bytes_eq name name ≡ true
same_text name = (bytes_eq-Decides name name).1 refl

-- texts that differ do not compare equal
other_text : (a b : List ℕ) → a ≢ b → bytes_eq a b ≡ false
other_text a b n = not_true (bytes_eq a b) (λ e. n ((bytes_eq-Decides a b).0 e))
  where
    not_true : (t : Bool) → (t ≡ true → ⊥) → t ≡ false
    not_true true h = absurd (h refl)
    not_true false h = refl

-- a file put in the place of one with its name
pub Puts-set : (files : List (String Global × Vec ℕ Global)) (at : ℕ) (file put : String Global × Vec ℕ Global) (name : List ℕ) → at < length files → file ≡ get_or files at file → string_bytes put.0 ≡ string_bytes file.0 → position (has_name name) files ≡ Some at → Puts files (set files at put) at name put.1.items
Puts-set files at file put name l e s first =
    let found = position-Some (has_name name) files at file first in
    let file_name : string_bytes file.0 ≡ name = ap (λ f. string_bytes f.0) e ∙ (bytes_eq-Decides _ name).0 found.1 in
    let put_name : string_bytes put.0 ≡ name = s ∙ file_name in
    let passes : has_name name put ≡ true = ap (λ t. bytes_eq t name) put_name ∙ same_text name in
    let len : length (set files at put) ≡ length files = length-set files at put in
    let within : at < length (set files at put) = omega (arith, len) in
    let named : name_at (set files at put) at ≡ name =
    name_at-read (set files at put) at put within (sym (get_or-set_same files at put put l)) ∙ put_name in
    let place = position_or_len-at (has_name name) files at file first in
    record {
      named = named;
      first = ap (λ n. position (has_name n) (set files at put)) named ∙ position-at (has_name name) (set files at put) at within
          (position_or_len-set (has_name name) files at put file (passes ∙ sym found.1) ∙ place);
      file = ap (option_map (λ f. f.1.items)) (find-set (has_name name) files at put (sym place) l passes);
      others = λ other ne.
          let differs : bytes_eq name other ≡ false = other_text name other (λ q. ne (sym q)) in
          ap (option_map (λ f. f.1.items)) (find_past (has_name other) files at put file
          (ap (λ f. bytes_eq (string_bytes f.0) other) (sym e) ∙ ap (λ t. bytes_eq t other) file_name ∙ differs)
          (ap (λ t. bytes_eq t other) put_name ∙ differs));
    }

-- where nothing passes
pub position-none : {X : Type 0} (p : X → Bool) (xs : List X) → position p xs ≡ None → position_or_len p xs ≡ length xs
position-none {X} p xs none = by_test (ltb (position_or_len p xs) (length xs)) refl none
  where
    by_test : (t : Bool) → ltb (position_or_len p xs) (length xs) ≡ t → cond {A = Option ℕ} t (Some (position_or_len p xs)) None ≡ None → position_or_len p xs ≡ length xs
    by_test true e h = cc
    by_test false e h = omega (arith, ltb-false (position_or_len p xs) (length xs) e, prefix_len-le-length (λ x. not (p x)) xs)

-- where nothing passes, nothing is found
pub find-none : {X : Type 0} (p : X → Bool) (xs : List X) → position p xs ≡ None → find p xs ≡ None
find-none p xs none = find_at p xs ∙ slice_get_past xs (position_or_len p xs) (omega (arith, position-none p xs none))

-- a file put behind files of other names
pub Puts-push : (files : List (String Global × Vec ℕ Global)) (put : String Global × Vec ℕ Global) (name : List ℕ) → string_bytes put.0 ≡ name → position (has_name name) files ≡ None → Puts files (files ++ put ∷ []) (length files) name put.1.items
Puts-push files put name s none =
    let passes : has_name name put ≡ true = ap (λ t. bytes_eq t name) s ∙ same_text name in
    let within : length files < length (files ++ put ∷ []) = omega (arith, length_push files put) in
    let named : name_at (files ++ put ∷ []) (length files) ≡ name =
    name_at-read (files ++ put ∷ []) (length files) put within (sym (get_or_push files put put (length files) refl)) ∙ s in
    let place : position_or_len (has_name name) (files ++ put ∷ []) ≡ length files =
    position_or_len_push (has_name name) files put
    ∙ ap (λ t. cond {A = ℕ} t (length files + cond {A = ℕ} (has_name name put) 0 1) (position_or_len (has_name name) files)) (eq-eqb _ _ (position-none (has_name name) files none))
    ∙ ap (λ t. length files + cond {A = ℕ} t 0 1) passes
    ∙ add-zero (length files) in
    record {
      named = named;
      first = ap (λ n. position (has_name n) (files ++ put ∷ [])) named ∙ position-at (has_name name) (files ++ put ∷ []) (length files) within place;
      file = ap (option_map (λ f. f.1.items))
          (find-append (has_name name) files (put ∷ []) ∙ ap (λ f. option_or f (find (has_name name) (put ∷ []))) (find-none (has_name name) files none)
          ∙ ap (λ t. cond {A = Option (String Global × Vec ℕ Global)} t (Some put) None) passes);
      others = λ other ne.
          let differs : has_name other put ≡ false = ap (λ t. bytes_eq t other) s ∙ other_text name other (λ q. ne (sym q)) in
          ap (option_map (λ f. f.1.items))
          (find-append (has_name other) files (put ∷ [])
          ∙ ap (λ t. option_or (find (has_name other) files) (cond {A = Option (String Global × Vec ℕ Global)} t (Some put) None)) differs
          ∙ option_or_none (find (has_name other) files));
    }
  where
    option_or_none : (found : Option (String Global × Vec ℕ Global)) → option_or found None ≡ found
    option_or_none None = refl
    option_or_none (Some file) = refl

-- the bytes of the first file of a name
pub file_in-first : (files : List (String Global × Vec ℕ Global)) (at : ℕ) (file : String Global × Vec ℕ Global) (name : List ℕ) → file ≡ get_or files at file → position (has_name name) files ≡ Some at → file_in files name ≡ Some file.1.items
file_in-first files at file name e first =
    let within = (position-Some (has_name name) files at file first).0 in
    ap (option_map (λ f. f.1.items))
    (find_at (has_name name) files
    ∙ ap (λ i. slice_get files i) (position_or_len-at (has_name name) files at file first)
    ∙ slice_get_read files (length files) at file refl within e)

-- there is no file of a name that none has
pub file_in-none : (files : List (String Global × Vec ℕ Global)) (name : List ℕ) → position (has_name name) files ≡ None → file_in files name ≡ None
file_in-none files name none = ap (option_map (λ f. f.1.items)) (find-none (has_name name) files none)

-- a file with a piece at its end, or the same file, in the place of the file
pub Puts-append : (files : List (String Global × Vec ℕ Global)) (at : ℕ) (file put : String Global × Vec ℕ Global) (more : List ℕ) → file ≡ get_or files at file → string_bytes put.0 ≡ string_bytes file.0 → IsFirst files at → put.1.items ≡ file.1.items ++ more → Puts files (set files at put) at (name_at files at) (unwrap_or (file_in files (name_at files at)) [] ++ more)
Puts-append files at file put more e s first items =
    let P : List ℕ → Type 0 = λ bytes. Puts files (set files at put) at (name_at files at) bytes in
    let within = (position-Some (has_name (name_at files at)) files at file first).0 in
    subst P (items ∙ ap (λ found. unwrap_or found [] ++ more) (sym (file_in-first files at file (name_at files at) e first)))
    (Puts-set files at file put (name_at files at) within e s first)

-- an empty file put behind files of other names
pub Puts-new : (files new : List (String Global × Vec ℕ Global)) (at : ℕ) (put : String Global × Vec ℕ Global) (name : List ℕ) → new ≡ files ++ put ∷ [] → at ≡ length files → string_bytes put.0 ≡ name → put.1.items ≡ [] → position (has_name name) files ≡ None → Puts files new at name []
Puts-new files new at put name e a s items none =
    let P : List (String Global × Vec ℕ Global) → Type 0 = λ list. Puts files list at name [] in
    let Q : ℕ → Type 0 = λ i. Puts files (files ++ put ∷ []) i name [] in
    let R : List ℕ → Type 0 = λ bytes. Puts files (files ++ put ∷ []) (length files) name bytes in
    subst P (sym e) (subst Q (sym a) (subst R items (Puts-push files put name s none)))

-- an empty file in the place of the file
pub Puts-empty : (files : List (String Global × Vec ℕ Global)) (at : ℕ) (file put : String Global × Vec ℕ Global) (name : List ℕ) → file ≡ get_or files at file → string_bytes put.0 ≡ string_bytes file.0 → put.1.items ≡ [] → position (has_name name) files ≡ Some at → Puts files (set files at put) at name []
Puts-empty files at file put name e s items first =
    let P : List ℕ → Type 0 = λ bytes. Puts files (set files at put) at name bytes in
    subst P items (Puts-set files at file put name (position-Some (has_name name) files at file first).0 e s first)

-- a file put in the place of one with its name and its bytes
pub same_files : (files : List (String Global × Vec ℕ Global)) (at : ℕ) (file put : String Global × Vec ℕ Global) → file ≡ get_or files at file → string_bytes put.0 ≡ string_bytes file.0 → put.1.items ≡ file.1.items → IsFirst files at → (name : List ℕ) → file_in (set files at put) name ≡ file_in files name
same_files files at file put e s items first name = by_test (has_name name file) refl
  where
    within : at < length files
    within = (position-Some (has_name (name_at files at)) files at file first).0

    by_test : (t : Bool) → has_name name file ≡ t → file_in (set files at put) name ≡ file_in files name
    by_test true same =
        let named : name_at files at ≡ name = name_at-read files at file within e ∙ (bytes_eq-Decides (string_bytes file.0) name).0 same in
        let P : List ℕ → Type 0 = λ n. position (has_name n) files ≡ Some at in
        let found = subst P named first in
        (Puts-set files at file put name within e s found).file
        ∙ ap (λ bytes. Some bytes) items
        ∙ sym (file_in-first files at file name e found)
    by_test false differs =
        ap (option_map (λ f. f.1.items)) (find_past (has_name name) files at put file
        (ap (λ f. bytes_eq (string_bytes f.0) name) (sym e) ∙ differs)
        (ap (λ t. bytes_eq t name) s ∙ differs))
