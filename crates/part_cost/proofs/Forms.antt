use Rattle.std.proofs.Common.{◌≡◌, sym, subst, ap, ◌∙◌, ℕ, ◌≤◌, ◌<◌, ⊎_elim, min, if◌then◌else◌, arith}
use Rattle.std.specs.Prelude.{nat_le}
use Rattle.std.proofs.lemmas.Bool.{cases_eq, cases_lt, eq-eqb, ne_eqb, le-leb, lt-leb}
use Rattle.part_cost.specs.declared.kinds.Kind.{Kind}
use Rattle.part_cost.specs.declared.kinds.Kind.TheVariants.{Ones, Bitmap, Ef}
use Rattle.part_cost.specs.Payload.{ef_payload, bitmap_payload, payload, kind_of}
use Rattle.part_cost.specs.Laws.{payload_of_kind, PayloadIsOfKind}

-- a part of which all places are taken
pub payload-ones : (u m : ℕ) → m ≡ u → payload u m ≡ 0
unfolding payload
payload-ones u m e = ap (λ b. if b then 0 else min (ef_payload u m) (bitmap_payload u m)) (eq-eqb m u e)

pub kind-ones : (u m : ℕ) → m ≡ u → kind_of u m ≡ Ones
unfolding kind_of
kind-ones u m e = ap (λ b. if b then Ones else if nat_le (bitmap_payload u m) (ef_payload u m) then Bitmap else Ef) (eq-eqb m u e)

-- a part with free places
pub payload-packed : (u m : ℕ) → (m ≡ u → ⊥) → payload u m ≡ min (ef_payload u m) (bitmap_payload u m)
unfolding payload
payload-packed u m ne = ap (λ b. if b then 0 else min (ef_payload u m) (bitmap_payload u m)) (ne_eqb m u ne)

kind-packed : (u m : ℕ) → (m ≡ u → ⊥) → kind_of u m ≡ (if nat_le (bitmap_payload u m) (ef_payload u m) then Bitmap else Ef)
unfolding kind_of
kind-packed u m ne = ap (λ b. if b then Ones else if nat_le (bitmap_payload u m) (ef_payload u m) then Bitmap else Ef) (ne_eqb m u ne)

pub kind-bitmap : (u m : ℕ) → (m ≡ u → ⊥) → bitmap_payload u m ≤ ef_payload u m → kind_of u m ≡ Bitmap
kind-bitmap u m ne le = kind-packed u m ne ∙ ap (λ b. if b then Bitmap else Ef) (le-leb (bitmap_payload u m) (ef_payload u m) le)

pub kind-ef : (u m : ℕ) → (m ≡ u → ⊥) → ef_payload u m < bitmap_payload u m → kind_of u m ≡ Ef
kind-ef u m ne lt = kind-packed u m ne ∙ ap (λ b. if b then Bitmap else Ef) (lt-leb (bitmap_payload u m) (ef_payload u m) lt)

-- the payload is that of the kind
of-kind : (u m : ℕ) (k : Kind) → kind_of u m ≡ k → payload u m ≡ payload_of_kind k u m → payload u m ≡ payload_of_kind (kind_of u m) u m
of-kind u m k e h = subst (λ x. payload u m ≡ payload_of_kind x u m) (sym e) h

pub payload-of-kind : PayloadIsOfKind
payload-of-kind u m = ⊎_elim
    (λ full. of-kind u m Ones (kind-ones u m full) (payload-ones u m full))
    (λ (ne : m ≡ u → ⊥). ⊎_elim
    (λ lt. of-kind u m Ef (kind-ef u m ne lt) (omega (arith, payload-packed u m ne)))
    (λ le. of-kind u m Bitmap (kind-bitmap u m ne le) (omega (arith, payload-packed u m ne)))
    (cases_lt (ef_payload u m) (bitmap_payload u m)))
    (cases_eq m u)
