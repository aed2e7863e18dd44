use Rattle.std.proofs.Common.{◌≡◌, ℕ, ◌+◌, ◌-◌, ◌<◌, ◌≤◌, ◌==◌, Bool, true, false, cond, List, length, take, drop, get_or, max, min, refl, sym, ap, ◌∙◌, subst, arith}
use Rattle.std.specs.Prelude.{nat_le}
use Rattle.std.proofs.lemmas.Bool.{eqb-true}
use Rattle.std.proofs.lemmas.List.{ext_get_or}
use Rattle.std.proofs.lemmas.List.FromFn.{length-range_with_len, get_or-range_with_len}
use Rattle.collection_model.specs.NextBelow.{AreNextBelow}
use Rattle.part_cost.proofs.Numbers.{rises}
use Rattle.part_cost.specs.declared.kinds.Kind.{Kind}
use Rattle.part_cost.specs.declared.kinds.Kind.TheVariants.{Ones, Bitmap, Ef}
use Rattle.part_cost.specs.Payload.{kind_of, bitmap_payload, ef_payload}
use Rattle.part_cost.specs.Span.{AreRelative}
use Rattle.part_cost.specs.Stored.{HoldsPart, IsFirstAtLeast}
use Rattle.part_codec.specs.PartBits.{bits_of_kind, part_bits}
use Rattle.part_codec.specs.Forms.{all_ones}
use Rattle.part_codec.proofs.Relative.{AreRelative-all_ones, at-all_ones}

-- the bits of a part are those of its kind
pub part-of_kind : (u m : ℕ) (kind : Kind) (ys : List ℕ) → kind_of u m ≡ kind → length ys ≡ m → part_bits ys u ≡ bits_of_kind kind ys u
part-of_kind u m kind ys e count = ap (λ n. bits_of_kind (kind_of u n) ys u) count ∙ ap (λ k. bits_of_kind k ys u) e

-- so are those at a place, both ways
pub held-of_kind : (bits : List ℕ) (place u m : ℕ) (kind : Kind) (ys : List ℕ) → kind_of u m ≡ kind
    → HoldsPart part_bits bits place u m ys → HoldsPart (bits_of_kind kind) bits place u m ys
held-of_kind bits place u m kind ys e h = record {
  values = h.values;
  stored = subst (λ xs. take (length xs) (drop place bits) ≡ xs) (part-of_kind u m kind ys e h.values.count) h.stored;
}

pub of_kind-held : (bits : List ℕ) (place u m : ℕ) (kind : Kind) (ys : List ℕ) → kind_of u m ≡ kind
    → HoldsPart (bits_of_kind kind) bits place u m ys → HoldsPart part_bits bits place u m ys
of_kind-held bits place u m kind ys e h = record {
  values = h.values;
  stored = subst (λ xs. take (length xs) (drop place bits) ≡ xs) (sym (part-of_kind u m kind ys e h.values.count)) h.stored;
}

-- a part whose kind is all ones has a number at each place
first_kind : (b c : Bool) → cond b Ones (cond c Bitmap Ef) ≡ Ones → b ≡ true
first_kind true c h = refl
first_kind false true h = absurd (cc)
first_kind false false h = absurd (cc)

pub all_taken : (u m : ℕ) → kind_of u m ≡ Ones → m ≡ u
unfolding kind_of
all_taken u m h = eqb-true m u (first_kind (m == u) (nat_le (bitmap_payload u m) (ef_payload u m)) h)

-- relative values with a number at each place are all of them
pub relative-all_ones : (u : ℕ) (ys : List ℕ) → AreRelative u u ys → ys ≡ all_ones u
relative-all_ones u ys h =
    let count : length ys ≡ u = h.count in
    let last : get_or ys (u - 1) 0 + 1 ≡ u = h.last in
    ext_get_or 0 ys (all_ones u) (count ∙ sym (length-range_with_len 0 u))
    (λ i lt.
    let before = rises ys h.rising 0 i (omega arith) lt in
    let after = rises ys h.rising i (u - 1) (omega arith) (omega arith) in
    omega (arith, get_or-range_with_len 0 u i 0 (omega arith)))

pub ones-held : (bits : List ℕ) (place u m : ℕ) (ys : List ℕ) → kind_of u m ≡ Ones → 1 ≤ u → ys ≡ all_ones u → HoldsPart part_bits bits place u m ys
ones-held bits place u m ys e some h =
    of_kind-held bits place u m Ones ys e
    record { values = subst (λ n. AreRelative u n ys) (sym (all_taken u m e)) (AreRelative-all_ones u ys some h); stored = refl }

pub held-ones : (bits : List ℕ) (place u m : ℕ) (ys : List ℕ) → kind_of u m ≡ Ones → HoldsPart part_bits bits place u m ys → ys ≡ all_ones u
held-ones bits place u m ys e h = relative-all_ones u ys (subst (λ n. AreRelative u n ys) (all_taken u m e) h.values)

-- the first of them from a place on that is at least x: x itself, or the place
pub first-all_ones : (u from x p : ℕ) (ys : List ℕ) → x < u → from < u → ys ≡ all_ones u → p ≡ max x from
    → IsFirstAtLeast ys from x p × (p ≡ get_or ys p 0)
first-all_ones u from x p ys reached within h e =
    let low : p < u = omega arith in
    rw h (
      record {
        at_or_after = omega arith;
        within = omega (arith, length-range_with_len 0 u);
        at_least = omega (arith, at-all_ones u p low);
        first = λ q after before. omega (arith, at-all_ones u q (omega arith));
      },
      sym (at-all_ones u p low),
    )

-- those from a place on that are below x: as many as have room, are there and are below it
pub next-all_ones : (u from number x : ℕ) (given : List ℕ) (count : ℕ) (ys : List ℕ) → from < u → ys ≡ all_ones u → number ≡ from
    → count ≡ min (length given) (min (u - from) (x - number)) → ((j : ℕ) → j < count → get_or given j 0 ≡ number + j) → AreNextBelow ys from x given count
next-all_ones u from number x given count ys within h first e stand =
    rw h (record {
      room = omega arith;
      within = omega (arith, length-range_with_len 0 u);
      same = λ j lt. omega (arith, stand j lt, at-all_ones u (from + j) (omega arith));
      below = λ j lt. omega (arith, at-all_ones u (from + j) (omega arith));
      full = λ room more.
          let there : from + count < u = omega (arith, length-range_with_len 0 u) in
          omega (arith, at-all_ones u (from + count) there);
    })
