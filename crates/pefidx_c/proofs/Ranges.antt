-- Lemmas on what ranges gave, one after the other.
use Rattle.std.proofs.Common.{◌≡◌, sym, ap, ◌∙◌, subst, ℕ, ◌+◌, ◌<◌}
use Rattle.std.proofs.Common.{List, ◌∷◌, ◌++◌, length, get_or, map, take, drop, arith}
use Rattle.std.proofs.Common.{append_assoc}
use Rattle.std.specs.List.{All}
use Rattle.std.proofs.lemmas.List.{drop-drop, drop_more, length-append, length-map, get_or-map}
use Rattle.std.proofs.lemmas.List.{get_or-append-add, get_or_append_left}
use Rattle.pefidx_c.proofs.Firsts.{Pair}
use Rattle.pefidx_c.specs.JoinedTop.{joined_pairs, AreOnce}

-- a pair whose document is counted on
abbrev pub shift : ℕ → Pair → Pair
shift first e = (first + e.0, e.1)

-- what the next range gave, and those behind it
pub next-range : (documents counts : List ℕ) (pairs : List Pair) (t first from n m : ℕ)
    → t < length documents → t < length counts → n ≡ get_or documents t 0 → m ≡ get_or counts t 0
    → joined_pairs first (drop t documents) (drop t counts) (drop from pairs)
    ≡ map (shift first) (take m (drop from pairs))
    ++ joined_pairs (first + n) (drop (t + 1) documents) (drop (t + 1) counts)
    (drop (from + m) pairs)
next-range documents counts pairs t first from n m in_documents in_counts n_is m_is =
    let ds : drop t documents ≡ n ∷ drop (t + 1) documents = drop_more documents t 0 in_documents
    ∙ ap (λ k. k ∷ drop (t + 1) documents) (sym n_is) in
    let cs : drop t counts ≡ m ∷ drop (t + 1) counts = drop_more counts t 0 in_counts
    ∙ ap (λ k. k ∷ drop (t + 1) counts) (sym m_is) in
    (λ i. joined_pairs first (ds i) (cs i) (drop from pairs))
    ∙ ap (λ l. map (shift first) (take m (drop from pairs))
    ++ joined_pairs (first + n) (drop (t + 1) documents) (drop (t + 1) counts) l)
    (drop-drop m from pairs)

-- it is added to those before
pub range-added : (documents counts : List ℕ) (pairs so_far new : List Pair) (t first from n m : ℕ)
    → t < length documents → t < length counts → n ≡ get_or documents t 0 → m ≡ get_or counts t 0
    → so_far ++ joined_pairs first (drop t documents) (drop t counts) (drop from pairs)
    ≡ joined_pairs 0 documents counts pairs
    → new ≡ so_far ++ map (shift first) (take m (drop from pairs))
    → new ++ joined_pairs (first + n) (drop (t + 1) documents) (drop (t + 1) counts)
    (drop (from + m) pairs) ≡ joined_pairs 0 documents counts pairs
range-added documents counts pairs so_far new t first from n m in_documents in_counts n_is m_is are
    added =
    let rest : List Pair = joined_pairs (first + n) (drop (t + 1) documents) (drop (t + 1) counts)
    (drop (from + m) pairs) in
    ap (λ l. l ++ rest) added
    ∙ append_assoc so_far (map (shift first) (take m (drop from pairs))) rest
    ∙ ap (λ l. so_far ++ l) (sym
    (next-range documents counts pairs t first from n m in_documents in_counts n_is m_is)) ∙ are

-- what holds of a list holds of what stands within it
within-append : (P : Pair → Type 0) (xs ys zs all : List Pair) → xs ++ ys ++ zs ≡ all → All P all
    → All P ys
within-append P xs ys zs all is holds i d lt =
    let here : get_or (xs ++ ys ++ zs) (length xs + i) d
    ≡ get_or ys i d = get_or_append_left (xs ++ ys) zs d (length xs + i)
    (omega (arith, lt, length-append xs ys)) ∙ get_or-append-add xs ys i d in
    subst P (ap (λ l. get_or l (length xs + i) d) (sym is) ∙ here)
    (holds (length xs + i) d (omega
    (arith, lt, length-append xs ys, length-append (xs ++ ys) zs, ap length is)))

-- so the next documents, counted on, are below the number of documents
pub next-below : (documents counts : List ℕ) (pairs so_far : List Pair) (t first from n m all : ℕ)
    → t < length documents → t < length counts → n ≡ get_or documents t 0 → m ≡ get_or counts t 0
    → so_far ++ joined_pairs first (drop t documents) (drop t counts) (drop from pairs)
    ≡ joined_pairs 0 documents counts pairs
    → AreOnce all (joined_pairs 0 documents counts pairs)
    → All (λ (e : Pair). first + e.0 < all) (take m (drop from pairs))
next-below documents counts pairs so_far t first from n m all in_documents in_counts n_is m_is are
    once i d lt =
    let next : List Pair = take m (drop from pairs) in
    let rest : List Pair = joined_pairs (first + n) (drop (t + 1) documents) (drop (t + 1) counts)
    (drop (from + m) pairs) in
    let whole : so_far ++ map (shift first) next ++ rest ≡ joined_pairs 0 documents counts pairs =
    append_assoc so_far (map (shift first) next) rest
    ∙ ap (λ l. so_far ++ l) (sym
    (next-range documents counts pairs t first from n m in_documents in_counts n_is m_is))
    ∙ are in
    let below = within-append (λ (e : Pair). e.0 < all) so_far (map (shift first) next) rest
    (joined_pairs 0 documents counts pairs) whole once.below in
    let mapped : get_or (map (shift first) next) i (shift first d)
    ≡ shift first (get_or next i d) = get_or-map (shift first) next i d (shift first d) lt in
    subst (λ (e : Pair). e.0 < all) mapped
    (below i (shift first d) (omega (arith, lt, length-map next (shift first))))
