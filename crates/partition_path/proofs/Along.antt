-- Lemmas on the known routes, place by place.
use Rattle.std.proofs.Common.{◌≡◌, refl, sym, subst, ◌∙◌, ap, ℕ, suc, ◌+◌, ◌-◌, ◌*◌, ◌^◌, ◌<◌, ◌≤◌, ◌⊎◌, ◌++◌, inl, inr, List, [], ◌∷◌, length, get_or, arith, length-append}
use Rattle.std.proofs.lemmas.Bool.{cases_eq}
use Rattle.std.proofs.lemmas.List.{get_or_append_left}
use Rattle.std.proofs.Math.Seq.{get_or-append_seam}
use Rattle.std.specs.List.Sorted.{IsStrictlyIncreasing}
use Rattle.part_cost.specs.Partition.{IsPartitionFrom, cost_from}
use Rattle.part_cost.specs.Span.{past, cost_of_part}
use Rattle.part_cost.proofs.Partitions.{ends-within}
use Rattle.part_cost.proofs.Parts.{rises}
use Rattle.partition_path.specs.declared.lines.Open.{Open}
use Rattle.partition_path.specs.Lines.{AreKnown, AreLonger, IsLonger, IsOpen, gap_at, known_to, no_open, weights_to, width_weight}
use Rattle.partition_path.proofs.Below.{part-below}

-- The routes to place j: the known ones, and those whose last part is open, of each low width, of a bitmap, and of one that takes all places.
pub record Along (charge : ℕ) (xs : List ℕ) (widths j : ℕ) (known routes : List Open) (bitmap full : Open) : Type 0 where
  pub routes_known : AreKnown (cost_of_part charge xs) j known
  pub count : length routes ≡ widths
  pub widths_open : (k : ℕ) → k < widths → IsOpen (1024 * (charge - 10)) (weights_to k xs) known j (get_or routes k no_open)
  pub starts : (k : ℕ) → k < widths → (get_or routes k no_open).start ≤ j
  pub bitmap_open : IsOpen (1024 * charge) (λ e. 1024 * past xs e) known j bitmap
  pub bitmap_start : bitmap.start ≤ j
  pub full_open : (i : ℕ) → i < j → past xs j ≡ past xs i + (j - i) → full.least ≤ known_to known i + 1024 * charge
  pub full_start : full.start ≤ j
  pub short : known_to known j ≤ 1024 * (charge * j + past xs j)

-- an open route with a number more
open-more : (charge : ℕ) (to : ℕ → ℕ) (known : List Open) (j weight : ℕ) (old new : Open) → IsOpen charge to known j old → IsLonger j (known_to known j) charge weight old new → to (suc j) ≡ to j + weight → IsOpen charge to known (suc j) new
open-more charge to known j weight old new was one sum i l = elim (cases_eq i j) [
  | inl at ↦ subst (λ (x : ℕ). new.least + to x ≤ known_to known x + charge + to (suc j)) (sym at) (omega (arith, one.begins, sum))
  | inr before ↦ omega (arith, was i (omega (arith, l, before)), one.stays, sum)
]

-- where one more route is known, it stands last, and the others stay
same-known : (known : List Open) (x : Open) (i : ℕ) → i < length known → get_or (known ++ x ∷ []) i no_open ≡ get_or known i no_open
same-known known x i l = get_or_append_left known (x ∷ []) no_open i l

last-known : (known : List Open) (x : Open) (j : ℕ) → length known ≡ j → get_or (known ++ x ∷ []) j no_open ≡ x
last-known known x j e = subst (λ (i : ℕ). get_or (known ++ x ∷ []) i no_open ≡ x) e (get_or-append_seam known x [] no_open)

module _ (charge : ℕ) (xs : List ℕ) (up : IsStrictlyIncreasing xs) (w : ℕ) (narrow : (j : ℕ) → j < length xs → gap_at xs j < 2 ^ suc w) (some : 10 ≤ charge) where
  -- one number more
  pub along-more : (j : ℕ) (known routes : List Open) (bitmap full : Open) → Along charge xs (suc w) j known routes bitmap full → j < length xs
      → (new : List Open) (best longer_bitmap longer_full x : Open) → AreLonger j (known_to known j) (1024 * (charge - 10)) (gap_at xs j) routes new best
      → IsLonger j (known_to known j) (1024 * charge) (1024 * gap_at xs j) bitmap longer_bitmap
      → ((gap_at xs j ≡ 1) × IsLonger j (known_to known j) (1024 * charge) 0 full longer_full) ⊎ ((gap_at xs j ≡ 1 → ⊥) × (longer_full.start ≤ j))
      → x.least ≤ best.least → x.least ≤ longer_bitmap.least → x.least ≤ longer_full.least → ((p : ℕ) → best.start ≤ p → longer_bitmap.start ≤ p → longer_full.start ≤ p → x.start ≤ p)
      → Along charge xs (suc w) (suc j) (known ++ x ∷ []) new longer_bitmap longer_full
  along-more j known routes bitmap full a below new best longer_bitmap longer_full x wide bits fulls x_best x_bits x_full x_start =
      let places : length known ≡ suc j = a.routes_known.places ∙ omega arith in
      let stays : (i : ℕ) → i < suc j → known_to (known ++ x ∷ []) i ≡ known_to known i = (λ i l. ap (λ (o : Open). o.least) (same-known known x i (omega (arith, l, places)))) in
      let last : get_or (known ++ x ∷ []) (suc j) no_open ≡ x = last-known known x (suc j) places in
      let starts : (k : ℕ) → k < suc w → (get_or new k no_open).start ≤ j = (λ k l. (wide.each k (omega (arith, l, a.count))).start (a.starts k l)) in
      let widths : (k : ℕ) → k < suc w → IsOpen (1024 * (charge - 10)) (weights_to k xs) known (suc j) (get_or new k no_open) = (λ k l. open-more (1024 * (charge - 10)) (weights_to k xs) known j (width_weight k (gap_at xs j)) (get_or routes k no_open) (get_or new k no_open) (a.widths_open k l) (wide.each k (omega (arith, l, a.count))) refl) in
      let one_far = rises xs up j (suc j) (omega arith) (omega (arith, below)) in
      let bitmaps : IsOpen (1024 * charge) (λ e. 1024 * past xs e) known (suc j) longer_bitmap = open-more (1024 * charge) (λ e. 1024 * past xs e) known j (1024 * gap_at xs j) bitmap longer_bitmap a.bitmap_open bits (omega (arith, one_far)) in
      let full_open : (i : ℕ) → i < suc j → past xs (suc j) ≡ past xs i + (suc j - i) → longer_full.least ≤ known_to known i + 1024 * charge = (λ i l taken. elim fulls [
        | inl one ↦ elim (cases_eq i j) [
          | inl at ↦ subst (λ (z : ℕ). longer_full.least ≤ known_to known z + 1024 * charge) (sym at) (omega (arith, one.1.begins))
          | inr before ↦ omega (arith, a.full_open i (omega (arith, l, before)) (omega (arith, taken, one.0, one_far, l, before)), one.1.stays)
        ]
        | inr apart ↦
            let so_far = rises xs up i j (omega (arith, l)) (omega (arith, below)) in
            absurd (apart.0 (omega (arith, taken, so_far, one_far, l)))
      ]) in
      let full_start : longer_full.start ≤ j = elim fulls [
        | inl one ↦ one.1.start a.full_start
        | inr apart ↦ apart.1
      ] in
      let before : (i : ℕ) → i < suc j → x.least ≤ known_to known i + 1024 * cost_of_part charge xs i (suc j) = (λ i l. elim (part-below xs up w narrow charge i (suc j) some l (omega (arith, below))) [
        | inl taken ↦ omega (arith, x_full, full_open i l taken)
        | inr packed ↦ elim packed [
          | inl bit ↦ omega (arith, x_bits, bitmaps i l, bit)
          | inr ef ↦ omega (arith, x_best, wide.cheapest ef.0 (omega (arith, ef.1, a.count)), widths ef.0 ef.1 i l, ef.2)
        ]
      ]) in
      record {
        routes_known = record {
          places = length-append known (x ∷ []) ∙ omega (arith, places);
          origin = stays 0 (omega arith) ∙ a.routes_known.origin;
          earlier = λ e l m. elim (cases_eq e (suc j)) [
            | inl at ↦ subst (λ (z : ℕ). (get_or (known ++ x ∷ []) z no_open).start < z) (sym at) (subst (λ (o : Open). o.start < suc j) (sym last) (omega (arith, x_start j (wide.start (λ k q. a.starts k (omega (arith, q, a.count)))) (bits.start a.bitmap_start) full_start)))
            | inr earlier ↦ subst (λ (o : Open). o.start < e) (sym (same-known known x e (omega (arith, m, earlier, places)))) (a.routes_known.earlier e l (omega (arith, m, earlier)))
          ];
          least = λ i e l m. elim (cases_eq e (suc j)) [
            | inl at ↦ subst (λ (z : ℕ). i < z → known_to (known ++ x ∷ []) z ≤ known_to (known ++ x ∷ []) i + 1024 * cost_of_part charge xs i z) (sym at) (λ q. omega (arith, ap (λ (o : Open). o.least) last, before i q, stays i q)) l
            | inr earlier ↦ omega (arith, stays e (omega (arith, m, earlier)), stays i (omega (arith, l, m)), a.routes_known.least i e l (omega (arith, m, earlier)))
          ];
        };
        count = wide.count ∙ a.count;
        widths_open = λ k l i q. omega (arith, widths k l i q, stays i q);
        starts = λ k l. omega (arith, starts k l);
        bitmap_open = λ i q. omega (arith, bitmaps i q, stays i q);
        bitmap_start = omega (arith, bits.start a.bitmap_start);
        full_open = λ i q taken. omega (arith, full_open i q taken, stays i q);
        full_start = omega (arith, full_start);
        short = omega (arith, ap (λ (o : Open). o.least) last, x_bits, bits.begins, a.short, one_far);
      }

-- the known route to the last place costs no more than that to a place before it, and 1024 times any partition of the rest
pub least-known : (cost : ℕ → ℕ → ℕ) (n : ℕ) (known : List Open) → AreKnown cost n known → (i : ℕ) (others : List ℕ) → IsPartitionFrom i n others → known_to known n ≤ known_to known i + 1024 * cost_from cost i others
least-known cost n known all i [] part = subst (λ (x : ℕ). known_to known x ≤ known_to known i + 1024 * 0) part (omega arith)
least-known cost n known all i (end ∷ others) part =
    let rest = least-known cost n known all end others part.1 in
    let one = all.least i end part.0 (ends-within end n others part.1) in
    omega (arith, rest, one)
