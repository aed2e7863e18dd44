-- The ids of a map, as they are read one after another to its end.
use Rattle.std.proofs.Common.{◌≡◌, ◌≢◌, refl, ◌∙◌, sym, ap, inl, inr, subst, ℕ, ◌^◌, ◌<◌, ◌≤◌, ◌+◌, List, [], ◌∷◌, ◌++◌, length, get_or, arith, IsTrue, Result, Ok, Err, true, false, Bool, flat_map, length-append}
use Rattle.std.specs.Prelude.{AllPairs}
use Rattle.std.specs.List.{All}
use Rattle.std.proofs.Math.ListN.{set, replicate}
use Rattle.std.proofs.lemmas.Bool.{false≢true, cases_lt}
use Rattle.std.proofs.lemmas.Bool.Decides.{eqb_tells}
use Rattle.std.proofs.lemmas.List.{append-nil, nil_from_length, length_push, length-set, length-replicate, get_or-replicate, get_or_past, get_or_push, get_or_append_left, get_or_default, get_or-set_same, get_or-set_other}
use Rattle.std.proofs.lemmas.List.Elements.{All-nil, All-push}
use Rattle.std.proofs.lemmas.List.Quantifiers.{all_pairs_push}
use Rattle.collection_model.specs.Bytes.{le32}
use Rattle.io_traits.specs.declared.fail.IoFail.{IoFail}
use Rattle.io_traits.specs.declared.fail.IoFail.TheVariants as call
use Rattle.io_traits.specs.declared.fail.Slot.TheVariants.{Map}
use Rattle.io_traits.specs.DepotState.{DepotState}
use Rattle.remap.specs.declared.fault.MapRule.TheVariants.{M1, M3, M4, M5}
use Rattle.remap.specs.declared.fault.MapError.{MapError}
use Rattle.remap.specs.declared.fault.MapError.TheVariants.{Broken, NoMemory}
use Rattle.remap.specs.declared.fault.MapFault.{MapFault}
use Rattle.remap.specs.MapFaults.{IsMapFault}
use Rattle.held_pieces.specs.Pieces.{LooksAhead}
use Rattle.remap.specs.OneMap.{call_error, rest_of}
use Rattle.remap.specs.OneSequence.{ReadsFrom, ReadsNumber, ReadsLength, ReadsIds}
use Rattle.remap.proofs.MapReads.{answers-ok, answers-broken, answers-no_memory, answers-err, reads-then, from-ok, from-broken, from-refused}
use Rattle.collection_reader.proofs.Begun.{begun, begun-none, begun-next}
use Rattle.remap.proofs.MapFaultsFound.{cut-at_id, large-at_id, twice-at_id, left-over}

-- what is known once k of n ids were read
pub record IdsSoFar (n k : ℕ) (held now_held : List ℕ) (old now : DepotState) (ids : List ℕ) (seen : List Bool) : Type 0 where
  pub fits : n < 2 ^ 32
  pub count : length ids ≡ k
  pub below : All (λ x. x < n) ids
  pub apart : AllPairs (λ a b. a ≢ b) ids
  pub marks : length seen ≡ n
  pub marked : (j : ℕ) → j < k → get_or seen (get_or ids j 0) false ≡ true
  pub only : (e : ℕ) → get_or seen e false ≡ true → (j : ℕ) × (j < k) × (get_or ids j 0 ≡ e)
  pub rest : IsTrue old.tells → rest_of held old ≡ begun n ids (rest_of now_held now)
  pub depot : ReadsFrom old now (Ok k)

fault-of : {A : Type 0} (f g : MapFault) → (let r : Result A MapError = Err (Broken f) in r ≡ Err (Broken g)) → f ≡ g
fault-of f g h = cc

same-fault : {A B : Type 0} (e : MapError) (fault : MapFault) → (let r : Result A MapError = Err e in r ≡ Err (Broken fault)) → let s : Result B MapError = Err e in s ≡ Err (Broken fault)
same-fault e fault h = cc

unmarked : (n e : ℕ) → get_or (replicate n false) e false ≡ false
unmarked n e = elim (cases_lt e n) as (λ _. get_or (replicate n false) e false ≡ false) [
  | inl lt ↦ get_or-replicate n e false false lt
  | inr past ↦ get_or_past (replicate n false) e false (omega (arith, length-replicate n false))
]

pub none-read : (n : ℕ) (held mid ids : List ℕ) (seen : List Bool) (a b : DepotState) → n < 2 ^ 32 → ids ≡ [] → seen ≡ replicate n false → ReadsLength n held mid a b (Ok tt) → IdsSoFar n 0 held mid a b ids seen
none-read n held mid ids seen a b fits none clear length_read =
    let start : IdsSoFar n 0 held mid a b [] (replicate n false) = record {
      fits = fits;
      count = refl;
      below = All-nil (λ x. x < n);
      apart = λ i j d lt within. absurd (omega arith);
      marks = length-replicate n false;
      marked = λ j lt. absurd (omega arith);
      only = λ e is. absurd (false≢true (sym (unmarked n e) ∙ is));
      rest = λ t. length_read.rest t ∙ sym (begun-none n (rest_of mid b));
      depot = answers-ok {x = tt} 0 length_read.depot;
    } in
    subst (λ (l : List ℕ). IdsSoFar n 0 held mid a b l seen) (sym none) (subst (λ (l : List Bool). IdsSoFar n 0 held mid a b [] l) (sym clear) start)

-- one more id
pub one-more : (n k : ℕ) (held mid last ids new : List ℕ) (seen marked : List Bool) (x : ℕ) (a b c : DepotState) → IdsSoFar n k held mid a b ids seen → ReadsNumber k mid last b c (Ok x) → x < n → get_or seen x false ≡ false
    → marked ≡ set seen x true → new ≡ ids ++ x ∷ [] → IdsSoFar n (k + 1) held last a c new marked
one-more n k held mid last ids new seen marked x a b c so_far number small fresh mark push =
    let count = so_far.count in
    let marks = so_far.marks in
    let l = length_push ids x in
    let old_id : (j : ℕ) → j < k → get_or (ids ++ x ∷ []) j 0 ≡ get_or ids j 0 = λ j lt. get_or_append_left ids (x ∷ []) 0 j (omega arith) in
    let last_id : get_or (ids ++ x ∷ []) k 0 ≡ x = get_or_push ids x 0 k count in
    let other : (j : ℕ) → j < k → get_or ids j 0 ≢ x = λ j lt same. false≢true (sym fresh ∙ ap (λ (e : ℕ). get_or seen e false) (sym same) ∙ so_far.marked j lt) in
    let here : get_or (set seen x true) x false ≡ true = get_or-set_same seen x true false (omega arith) in
    let next : IdsSoFar n (k + 1) held last a c (ids ++ x ∷ []) (set seen x true) = record {
      fits = so_far.fits;
      count = omega arith;
      below = All-push (λ y. y < n) ids x so_far.below small;
      apart = all_pairs_push (λ a b. a ≢ b) ids x so_far.apart (λ j d within same. other j (omega arith) (get_or_default ids j 0 d within ∙ same));
      marks = length-set seen x true ∙ marks;
      marked = λ j lt. elim (cases_lt j k) as (λ _. get_or (set seen x true) (get_or (ids ++ x ∷ []) j 0) false ≡ true) [
        | inl before ↦ ap (λ (e : ℕ). get_or (set seen x true) e false) (old_id j before) ∙ get_or-set_other seen x (get_or ids j 0) true false (other j before) ∙ so_far.marked j before
        | inr past ↦ (let e : k ≡ j = omega arith in subst (λ (j : ℕ). get_or (set seen x true) (get_or (ids ++ x ∷ []) j 0) false ≡ true) e (ap (λ (e : ℕ). get_or (set seen x true) e false) last_id ∙ here))
      ];
      only = λ e is. elim (eqb_tells e x) as (λ _. (j : ℕ) × (j < k + 1) × (get_or (ids ++ x ∷ []) j 0 ≡ e)) [
        | inl (t, same) ↦ (k, omega arith, last_id ∙ sym same)
        | inr (t, differs) ↦ (let old = so_far.only e (sym (get_or-set_other seen x e true false differs) ∙ is) in let lt = old.1 in (old.0, omega arith, old_id old.0 lt ∙ old.2))
      ];
      rest = λ t. so_far.rest t ∙ ap (λ (r : List ℕ). begun n ids r) (number.number (so_far.depot.only.tells ∙ t)) ∙ begun-next n ids x (rest_of last c);
      depot = answers-ok {x = x} (k + 1) (reads-then {x = k} so_far.depot number.depot);
    } in
    subst (λ (l : List ℕ). IdsSoFar n (k + 1) held last a c l marked) (sym push) (subst (λ (l : List Bool). IdsSoFar n (k + 1) held last a c (ids ++ x ∷ []) l) (sym mark) next)

-- ---- the refusals
refused : {A : Type 0} (n : ℕ) (held last : List ℕ) (a c : DepotState) (e : MapError) → (IsTrue a.tells → (fault : MapFault) → e ≡ Broken fault → IsMapFault n (rest_of held a) fault) → (let r : Result A MapError = Err e in ReadsFrom a c r) → ReadsIds n held last a c (Err e)
refused {A = A} n held last a c e fault depot = record {
  count = tt;
  below = tt;
  apart = tt;
  rest = λ t. tt;
  none_left = λ t. tt;
  first_fault = λ t f h. fault t f cc;
  depot = answers-err {A = A} {B = List ℕ} e depot;
}

pub length-refused : (n : ℕ) (held mid : List ℕ) (a b : DepotState) (e : MapError) → ReadsLength n held mid a b (Err e) → ReadsIds n held mid a b (Err e)
length-refused n held mid a b e read = refused {A = Unit {0}} n held mid a b e (λ t f is. read.first_fault t f (ap Err is)) read.depot

pub number-refused : (n k : ℕ) (held mid last ids : List ℕ) (seen : List Bool) (a b c : DepotState) (e : MapError) → k < n → IdsSoFar n k held mid a b ids seen → ReadsNumber k mid last b c (Err e) → ReadsIds n held last a c (Err e)
number-refused n k held mid last ids seen a b c e lt so_far number =
    let count = so_far.count in
    refused {A = ℕ} n held last a c e (λ t f is.
    let short = number.too_short (so_far.depot.only.tells ∙ t) f (ap Err is) in
    let cut = number.cut f (ap Err is) in
    subst (λ (bytes : List ℕ). IsMapFault n bytes f) (sym (so_far.rest t)) (subst (λ (g : MapFault). IsMapFault n (begun n ids (rest_of mid b)) g) (ap (λ (k : ℕ). record { rule = M1; place = k }) count ∙ sym cut)
    (cut-at_id n ids (rest_of mid b) so_far.fits so_far.below so_far.apart (omega arith) short)))
    (reads-then {x = k} so_far.depot number.depot)

pub no-room : {A : Type 0} {x : A} (n : ℕ) (held last : List ℕ) (a b : DepotState) → (let r : Result A MapError = Ok x in ReadsFrom a b r) → ReadsIds n held last a b (Err NoMemory)
no-room {A = A} {x = x} n held last a b depot = refused {A = ℕ} n held last a b NoMemory (λ t f is. absurd cc) (answers-no_memory {A = A} {B = ℕ} {x = x} depot)

pub not-kept : (n k : ℕ) (held mid last ids : List ℕ) (seen : List Bool) (x : ℕ) (a b c : DepotState) → IdsSoFar n k held mid a b ids seen → ReadsNumber k mid last b c (Ok x) → ReadsIds n held last a c (Err NoMemory)
not-kept n k held mid last ids seen x a b c so_far number = no-room {A = ℕ} {x = x} n held last a c (reads-then {A = ℕ} {B = ℕ} {x = k} so_far.depot number.depot)

pub too-large : (n k : ℕ) (held mid last ids : List ℕ) (seen : List Bool) (x : ℕ) (a b c : DepotState) → k < n → n ≤ x → IdsSoFar n k held mid a b ids seen → ReadsNumber k mid last b c (Ok x) → ReadsIds n held last a c (Err (Broken (record { rule = M3; place = k })))
too-large n k held mid last ids seen x a b c lt large so_far number =
    let count = so_far.count in
    refused {A = ℕ} n held last a c (Broken (record { rule = M3; place = k })) (λ t f is.
    let bytes = so_far.rest t ∙ ap (λ (r : List ℕ). begun n ids r) (number.number (so_far.depot.only.tells ∙ t)) in
    let same : record { rule = M3; place = k } ≡ f = cc in
    subst (λ (bytes : List ℕ). IsMapFault n bytes f) (sym bytes) (subst (λ (g : MapFault). IsMapFault n (begun n ids (le32 x ++ rest_of last c)) g) (ap (λ (k : ℕ). record { rule = M3; place = k }) count ∙ same)
    (large-at_id n ids x (rest_of last c) so_far.fits number.fits so_far.below so_far.apart (omega arith) large)))
    (answers-broken {A = ℕ} {B = ℕ} {x = x} (record { rule = M3; place = k }) (reads-then {x = k} so_far.depot number.depot))

pub came-before : (n k : ℕ) (held mid last ids : List ℕ) (seen : List Bool) (x : ℕ) (a b c : DepotState) → k < n → x < n → get_or seen x false ≡ true → IdsSoFar n k held mid a b ids seen → ReadsNumber k mid last b c (Ok x) → ReadsIds n held last a c (Err (Broken (record { rule = M4; place = k })))
came-before n k held mid last ids seen x a b c lt small marked so_far number =
    let count = so_far.count in
    let first = so_far.only x marked in
    let first_in = first.1 in
    refused {A = ℕ} n held last a c (Broken (record { rule = M4; place = k })) (λ t f is.
    let bytes = so_far.rest t ∙ ap (λ (r : List ℕ). begun n ids r) (number.number (so_far.depot.only.tells ∙ t)) in
    let same : record { rule = M4; place = k } ≡ f = cc in
    subst (λ (bytes : List ℕ). IsMapFault n bytes f) (sym bytes) (subst (λ (g : MapFault). IsMapFault n (begun n ids (le32 x ++ rest_of last c)) g) (ap (λ (k : ℕ). record { rule = M4; place = k }) count ∙ same)
    (twice-at_id n ids x first.0 (rest_of last c) so_far.fits small so_far.below so_far.apart (omega arith) (omega arith) first.2)))
    (answers-broken {A = ℕ} {B = ℕ} {x = x} (record { rule = M4; place = k }) (reads-then {x = k} so_far.depot number.depot))

pub end-refused : (n : ℕ) (held mid last ids : List ℕ) (seen : List Bool) (a b c : DepotState) (fail : IoFail) → IdsSoFar n n held mid a b ids seen → LooksAhead Map mid last b c (Err fail) → ReadsIds n held last a c (Err (call_error fail))
end-refused n held mid last ids seen a b c fail so_far look = refused {A = ℕ} n held last a c (call_error fail) (no-fault fail) (reads-then {x = n} so_far.depot (from-refused {A = Bool} {B = ℕ} fail look.depot))
  where
    no-fault : (fail : IoFail) → IsTrue a.tells → (fault : MapFault) → call_error fail ≡ Broken fault → IsMapFault n (rest_of held a) fault
    no-fault call.Failed t f is = absurd cc
    no-fault call.NoMemory t f is = absurd cc

pub more-left : (n : ℕ) (held mid last ids : List ℕ) (seen : List Bool) (a b c : DepotState) → IdsSoFar n n held mid a b ids seen → LooksAhead Map mid last b c (Ok true) → ReadsIds n held last a c (Err (Broken (record { rule = M5; place = n })))
more-left n held mid last ids seen a b c so_far look = refused {A = ℕ} n held last a c (Broken (record { rule = M5; place = n })) (λ t f is.
    let same : record { rule = M5; place = n } ≡ f = cc in
    let some : 0 < length (rest_of mid b) = omega (arith, look.more refl, length-append last (c.left Map), ap length (look.same_rest (so_far.depot.only.tells ∙ t))) in
    subst (λ (bytes : List ℕ). IsMapFault n bytes f) (sym (so_far.rest t)) (subst (λ (g : MapFault). IsMapFault n (begun n ids (rest_of mid b)) g) same (left-over n ids (rest_of mid b) so_far.fits so_far.below so_far.apart so_far.count some)))
    (reads-then {x = n} so_far.depot (from-broken {A = Bool} {B = ℕ} {x = true} (record { rule = M5; place = n }) look.depot))

-- all ids are read
pub all-read : (n : ℕ) (held mid last ids : List ℕ) (seen : List Bool) (a b c : DepotState) → IdsSoFar n n held mid a b ids seen → LooksAhead Map mid last b c (Ok false) → ReadsIds n held last a c (Ok ids)
all-read n held mid last ids seen a b c so_far look =
    let none : IsTrue a.tells → rest_of mid b ≡ [] = λ t. look.at_end (so_far.depot.only.tells ∙ t) refl in
    let still : IsTrue a.tells → rest_of last c ≡ [] = λ t. look.same_rest (so_far.depot.only.tells ∙ t) ∙ none t in
    record {
      count = so_far.count;
      below = so_far.below;
      apart = so_far.apart;
      rest = λ t. so_far.rest t ∙ ap (λ (r : List ℕ). begun n ids r) (none t) ∙ append-nil (le32 n ++ flat_map le32 ids) ∙ ap (λ (k : ℕ). le32 k ++ flat_map le32 ids) (sym so_far.count);
      none_left = λ t. nil_from_length (c.left Map) (omega (arith, length-append last (c.left Map), ap length (still t)));
      first_fault = λ t f h. absurd cc;
      depot = answers-ok {x = n} ids (reads-then {x = n} so_far.depot (from-ok {x = false} n look.depot));
    }
