-- The first posting of a list whose document is at least d, as its document and its frequency.
use Rattle.std.proofs.Common.{◌≡◌, refl, sym, ◌∙◌, ap, ℕ, List}
use Rattle.std.specs.Prelude.{Option, Some, None, option_map}
use Rattle.std.specs.List.{slice_get}
use Rattle.std.proofs.lemmas.Option.{slice_get-map, none-some}
use Rattle.collection_model.specs.Collection.{Posting, freqs_of, first_at_least}
use Rattle.cursor_api.specs.NextGeq.{next_geq_place}
use Rattle.cursor_api.proofs.FirstPosting.{first-is_next}

-- where a cursor went that stood there
first-at : (old new : List Posting) (start place d : ℕ) → start ≡ 0 → new ≡ old → place ≡ next_geq_place old start d → slice_get new place ≡ first_at_least old d
first-at old new start place d at same went =
    ap (λ list. slice_get list place) same ∙ ap (slice_get old) (went ∙ ap (λ n. next_geq_place old n d) at) ∙ sym (first-is_next old d)

abbrev pub pair_of : Posting → ℕ × ℕ
pair_of p = (p.doc, p.freq)

none-mapped : (o : Option Posting) → option_map (λ p. p.doc) o ≡ None → option_map pair_of o ≡ None
none-mapped None e = refl
none-mapped (Some p) e = absurd (none-some p.doc (sym e))

some-mapped : (o : Option Posting) (doc freq : ℕ) → option_map (λ p. p.doc) o ≡ Some doc → option_map (λ p. p.freq) o ≡ Some freq → option_map pair_of o ≡ Some (doc, freq)
some-mapped None doc freq d f = absurd (none-some doc d)
some-mapped (Some p) doc freq d f = cc

pub none-found : (old new : List Posting) (start place d : ℕ) → start ≡ 0 → new ≡ old → place ≡ next_geq_place old start d →
    option_map (λ p. p.doc) (slice_get new place) ≡ None → option_map pair_of (first_at_least old d) ≡ None
none-found old new start place d at same went none =
    let is = first-at old new start place d at same went in
    none-mapped (first_at_least old d) (ap (option_map (λ p. p.doc)) (sym is) ∙ none)

pub found : (old new : List Posting) (start place d doc freq : ℕ) → start ≡ 0 → new ≡ old → place ≡ next_geq_place old start d →
    option_map (λ p. p.doc) (slice_get new place) ≡ Some doc → slice_get (freqs_of new) place ≡ Some freq →
    option_map pair_of (first_at_least old d) ≡ Some (doc, freq)
found old new start place d doc freq at same went some of =
    let is = first-at old new start place d at same went in
    some-mapped (first_at_least old d) doc freq
    (ap (option_map (λ p. p.doc)) (sym is) ∙ some)
    (ap (option_map (λ p. p.freq)) (sym is) ∙ sym (slice_get-map (λ p. p.freq) new place) ∙ of)
