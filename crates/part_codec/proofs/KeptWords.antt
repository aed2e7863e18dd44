-- How many words of marks a part keeps.
use Rattle.std.proofs.Common.{◌≡◌, refl, sym, ap, ◌∙◌, inl, inr, ℕ, ◌+◌, ◌-◌, ◌*◌, ◌/◌, ◌^◌, ◌<◌, ◌≤◌, arith}
use Rattle.std.proofs.lemmas.Bool.{cases_lt}
use Rattle.part_cost.specs.declared.kinds.Kind.{Kind}
use Rattle.part_cost.specs.declared.kinds.Kind.TheVariants.{Ones, Bitmap, Ef}
use Rattle.part_cost.specs.Payload.{digits, least_through, widest_low, ef_bits_at, ef_payload, bitmap_payload, kind_of, ef_spacing}
use Rattle.part_cost.proofs.Forms.{kind-ef}
use Rattle.part_cost.proofs.Growth.{least-at}
use Rattle.part_codec.specs.declared.forms.Form.{Form}
use Rattle.part_codec.specs.declared.views.PartView.{PartView}
use Rattle.part_codec.specs.Forms.{kind_in, universe_in}
use Rattle.part_codec.specs.PartView.{universe_of, count_of}
use Rattle.part_codec.specs.KeptWords.{words_kept}

-- the words of a form are those of its kind
pub words-of_form : (v : PartView) (f : Form) (from most n : ℕ) → v.form ≡ f → n ≡ words_kept (kind_in f) (universe_in f) from most → n ≡ words_kept (kind_of (universe_of v) (count_of v)) (universe_of v) from most
words-of_form v f from most n is told =
    told
    ∙ ap (λ (g : Form). words_kept (kind_in g) (universe_in g) from most) (sym is)
    ∙ ap (λ (k : Kind). words_kept k (universe_of v) from most) v.of_kind

-- they are told by how many places there are
pub words-moved : (k : Kind) (u from v first most : ℕ) → u - from ≡ v - first → words_kept k u from most ≡ words_kept k v first most
words-moved Ones u from v first most same = omega (arith, same)
words-moved Bitmap u from v first most same = omega (arith, same)
words-moved Ef u from v first most same = refl

-- fewer than 64 places have no whole word
words-few : (k : Kind) (v first most : ℕ) → v - first < 64 → words_kept k v first most ≡ 0
words-few Ones v first most few = omega (arith, few)
words-few Bitmap v first most few = omega (arith, few)
words-few Ef v first most few = refl

-- in 64 places and more one number is in Elias-Fano form
one-is-ef : (u : ℕ) → 64 ≤ u → kind_of u 1 ≡ Ef
unfolding ef_payload bitmap_payload
one-is-ef u wide =
    let least : least_through (ef_bits_at u 1) widest_low ≤ 1 * 6 + 1 + (u - 1) / 2 ^ 6 = least-at (ef_bits_at u 1) widest_low 6 (omega arith) in
    let samples : (1 - 1) / ef_spacing * digits (3 * 1) ≤ 0 = omega arith in
    kind-ef u 1 (λ e. omega (arith, e, wide)) (omega (arith, least, samples, wide))

-- so a part of one number has no words
pub words-of_one : (u v first most : ℕ) → v - first ≤ u → words_kept (kind_of u 1) v first most ≡ 0
words-of_one u v first most within = elim (cases_lt u 64) as (λ _. words_kept (kind_of u 1) v first most ≡ 0) [
  | inl few ↦ words-few (kind_of u 1) v first most (omega (arith, few, within))
  | inr wide ↦ ap (λ (k : Kind). words_kept k v first most) (one-is-ef u wide)
]
