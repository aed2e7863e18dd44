use Rattle.std.proofs.Common.{◌≡◌, sym, subst, ap, ℕ, zero, suc, ◌+◌, ◌-◌, ◌*◌, ◌^◌, ◌<◌, ◌≤◌, ◌⊎◌, ◌++◌, ◌∷◌, [], List, inl, inr, length, get_or, arith}
use Rattle.std.proofs.lemmas.List.{get_or_read}
use Rattle.part_cost.proofs.Parts.{rises}
use Rattle.partition_path.specs.declared.lines.Open.{Open}
use Rattle.partition_path.specs.Lines.{AreLonger, IsLonger, gap_at, known_to, no_open}
use Rattle.partition_path.proofs.Along.{Along, along-more}
use Rattle.partition_path.proofs.lines.known_routes.Goals.{then-number-eq1, else-number-eq1}
use Rattle.partition_path.proofs.lines.known_routes.Goals as goal

pub widths_longer-best-requires-clause-few : goal.widths_longer-best-requires-clause-few
widths_longer-best-requires-clause-few c =
    let fewest = c.digits_hold.ensures.fewest c.greatest_gap.result 49 (omega (arith, c.greatest_gap.ensures.within)) (omega (arith, c.greatest_gap.ensures.within)) in
    omega (arith, c.loop-j.invariant.count, c.digits-widths.ensures, fewest)

pub loop-j-preserved : goal.loop-j-preserved
loop-j-preserved c =
    let xs = c.args.values.now in
    let charge = c.args.charge in
    let j = c.loop-j.j in
    let known = c.loop-j.known.items in
    let routes = c.loop-j.routes.items in
    let widths = c.digits-widths.result in
    let below : j < length xs = omega (arith, c.loop-j-test.true, c.loop-j.auto.j-end) in
    let gap : c.gap.result ≡ gap_at xs j = c.gap.ensures.value in
    let far = rises xs c.requires.rising j (suc j) (omega arith) (omega (arith, below)) in
    let hold : c.greatest_gap.result < 2 ^ widths = subst (λ (x : ℕ). c.greatest_gap.result < 2 ^ x) (sym c.digits-widths.ensures) (c.digits_hold.ensures.hold c.greatest_gap.result (omega (arith, c.greatest_gap.ensures.within))) in
    let each = c.greatest_gap.ensures.each in
    let some : 0 < widths = positive widths c.greatest_gap.result hold (omega (arith, each j below, far)) in
    let w = widths - 1 in
    let all : suc w ≡ widths = omega (arith, some) in
    let narrow : (m : ℕ) → m < length xs → gap_at xs m < 2 ^ suc w = (λ m l. subst (λ (x : ℕ). gap_at xs m < 2 ^ x) (sym all) (omega (arith, each m l, hold))) in
    let at : Along charge xs (suc w) j known routes c.loop-j.bitmap c.loop-j.full = subst (λ (x : ℕ). Along charge xs x j known routes c.loop-j.bitmap c.loop-j.full) (sym all) c.loop-j.invariant in
    let read : c.index.result.now ≡ get_or known j no_open = get_or_read known j c.index.result.now (omega (arith, at.routes_known.places)) c.index.ensures no_open in
    let cost : c.index.result.now.least ≡ known_to known j = ap (λ (o : Open). o.least) read in
    let wide : AreLonger j (known_to known j) (1024 * (charge - 10)) (gap_at xs j) routes c.widths_longer-best.new.routes.items c.widths_longer-best.result =
    subst (λ (x : ℕ). AreLonger j x (1024 * (charge - 10)) (gap_at xs j) routes c.widths_longer-best.new.routes.items c.widths_longer-best.result) cost
    (subst (λ (x : ℕ). AreLonger j c.index.result.now.least (1024 * (charge - 10)) x routes c.widths_longer-best.new.routes.items c.widths_longer-best.result) gap c.widths_longer-best.ensures) in
    let bits : IsLonger j (known_to known j) (1024 * charge) (1024 * gap_at xs j) c.loop-j.bitmap c.longer-bitmap.result =
    subst (λ (x : ℕ). IsLonger j x (1024 * charge) (1024 * gap_at xs j) c.loop-j.bitmap c.longer-bitmap.result) cost
    (subst (λ (x : ℕ). IsLonger j c.index.result.now.least (1024 * charge) (1024 * x) c.loop-j.bitmap c.longer-bitmap.result) gap c.longer-bitmap.ensures) in
    let fulls : ((gap_at xs j ≡ 1) × IsLonger j (known_to known j) (1024 * charge) 0 c.loop-j.full c.if-number-eq1.full) ⊎ ((gap_at xs j ≡ 1 → ⊥) × (c.if-number-eq1.full.start ≤ j)) = elim c.if-number-eq1.branch [
      | then-number-eq1 w ↦ inl (omega (arith, gap, w.if-number-eq1.true), subst (λ (o : Open). IsLonger j (known_to known j) (1024 * charge) 0 c.loop-j.full o) (sym w.full-is) (subst (λ (x : ℕ). IsLonger j x (1024 * charge) 0 c.loop-j.full w.longer-full.result) cost w.longer-full.ensures))
      | else-number-eq1 w ↦ inr (λ e. w.if-number-eq1.false (omega (arith, gap, e)), subst (λ (o : Open). o.start ≤ j) (sym w.full-is) (omega arith))
    ] in
    let one = c.or.ensures in
    let two = c.or-in-loop-j.ensures in
    let more : Along charge xs (suc w) (suc j) (known ++ c.or-in-loop-j.result ∷ []) c.widths_longer-best.new.routes.items c.longer-bitmap.result c.if-number-eq1.full =
    along-more charge xs c.requires.rising w narrow c.requires.charge.0 j known routes c.loop-j.bitmap c.loop-j.full at below c.widths_longer-best.new.routes.items c.widths_longer-best.result c.longer-bitmap.result c.if-number-eq1.full c.or-in-loop-j.result wide bits fulls
    (omega (arith, two.this, one.this)) (omega (arith, two.this, one.that)) two.that (λ p a b d. two.start p (one.start p a b) d) in
    let items = c.in_ok-push-2.ensures.items in
    let last : suc j ≡ j + 1 = omega arith in
    subst (λ (x : ℕ). Along charge xs widths x c.push-in-loop-j.new.self.items c.widths_longer-best.new.routes.items c.longer-bitmap.result c.if-number-eq1.full) last
    (subst (λ (x : ℕ). Along charge xs x (suc j) c.push-in-loop-j.new.self.items c.widths_longer-best.new.routes.items c.longer-bitmap.result c.if-number-eq1.full) all
    (subst (λ (x : List Open). Along charge xs (suc w) (suc j) x c.widths_longer-best.new.routes.items c.longer-bitmap.result c.if-number-eq1.full) (sym items) more))
  where
    positive : (k g : ℕ) → g < 2 ^ k → 0 < g → 0 < k
    positive zero g h some = absurd (omega (arith, h, some))
    positive (suc k) g h some = omega arith
