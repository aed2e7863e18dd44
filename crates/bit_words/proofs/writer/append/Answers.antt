use Rattle.std.proofs.Common.{◌≡◌, ℕ, ◌+◌, ◌-◌, ◌*◌, ◌/◌, ◌%◌, ◌^◌, ◌<◌, List, [], ◌∷◌, ◌++◌, length, get_or, bit_and, bit_or, arith, rules, subst, sym, ap, ◌∙◌, set}
use Rattle.std.proofs.lemmas.Grind.{get_or_default_zero}
use Rattle.bit_words.specs.Bits.{bits_of, bits_value}
use Rattle.bit_words.proofs.Writing.{put-at_border, put-last, put-across, pair-fits, last_word-below}
use Rattle.bit_words.proofs.writer.append.Goals as goal
use Rattle.bit_words.proofs.writer.append.Goals.{then-used-width-gt64+in_ok-append_fresh-2, else-used-width-gt64}

pub returns-then-used-eq0-clause-value : goal.returns-then-used-eq0-clause-value
returns-then-used-eq0-clause-value c =
    put-at_border c.args.words.now.items c.append_fresh.new.words.items c.args.len c.args.width c.args.value c.requires.held c.if-used-eq0.true (search rules) c.requires.fits
    c.in_ok-append_fresh.ensures.none c.in_ok-append_fresh.ensures.some

pub overflow_cast-pair-then-used-width-gt64 : goal.overflow_cast-pair-then-used-width-gt64
overflow_cast-pair-then-used-width-gt64 c =
    let fits : get_or c.args.words.now.items (c.len-last.result - 1) 0 < 2 ^ 64 = search rules in
    let last : c.len-last.result - 1 + 1 ≡ length c.args.words.now.items = omega (arith, c.requires.held.count) in
    let under = last_word-below c.args.words.now.items c.args.len (c.len-last.result - 1) c.requires.held last fits (omega arith) in
    let word : c.index.result.now ≡ get_or c.args.words.now.items (c.len-last.result - 1) 0 =
    c.index.ensures ∙ get_or_default_zero c.args.words.now.items (c.len-last.result - 1) c.index.result.now (omega arith) in
    let small : c.args.value < 2 ^ 64 = search rules in
    let high : bit_or (c.args.value * 2 ^ (c.args.len % 64) % 2 ^ 128) (get_or c.args.words.now.items (c.len-last.result - 1) 0) / 2 ^ 64 < 2 ^ 64 =
    pair-fits (get_or c.args.words.now.items (c.len-last.result - 1) 0) c.args.value (c.args.len % 64) (omega arith) under small in
    let same : bit_or (c.args.value * 2 ^ (c.args.len % 64) % 2 ^ 128) c.index.result.now / 2 ^ 64 < 2 ^ 64 =
    subst (λ w. bit_or (c.args.value * 2 ^ (c.args.len % 64) % 2 ^ 128) w / 2 ^ 64 < 2 ^ 64) (sym word) high in
    omega arith

pub returns-clause-value : goal.returns-clause-value
returns-clause-value c =
    let ws : List ℕ = c.args.words.now.items in
    let place : ℕ = c.len-last.result - 1 in
    let fits : get_or ws place 0 < 2 ^ 64 = search rules in
    let last : place + 1 ≡ length ws = omega (arith, c.requires.held.count) in
    let some : 0 < c.args.len % 64 = omega arith in
    let small : c.args.value < 2 ^ 64 = search rules in
    let word : c.index.result.now ≡ get_or ws place 0 = c.index.ensures ∙ get_or_default_zero ws place c.index.result.now (omega arith) in
    let low : ℕ → ℕ = λ w. bit_and (bit_or (c.args.value * 2 ^ (c.args.len % 64) % 2 ^ 128) w) (2 ^ 64 - 1) in
    let high : ℕ → ℕ = λ w. bit_or (c.args.value * 2 ^ (c.args.len % 64) % 2 ^ 128) w / 2 ^ 64 in
    elim c.if-used-width-gt64.branch [
      | then-used-width-gt64+in_ok-append_fresh-2 w ↦
          let longer : c.if-used-width-gt64.words.items ≡ ws ++ high c.index.result.now ∷ [] = ap (λ v. v.items) w.words-is ∙ w.in_ok-append_fresh-2.ensures.some (omega arith) in
          ap (λ xs. bits_value (bits_of (set xs place (low c.index.result.now)))) longer
          ∙ ap (λ v. bits_value (bits_of (set (ws ++ high v ∷ []) place (low v)))) word
          ∙ put-across ws c.args.len place c.args.value c.requires.held last some fits small
      | else-used-width-gt64 w ↦
          ap (λ v. bits_value (bits_of (set v.items place (low c.index.result.now)))) w.words-is
          ∙ ap (λ v. bits_value (bits_of (set ws place (low v)))) word
          ∙ put-last ws c.args.len place c.args.width c.args.value c.requires.held last some fits small c.requires.fits (omega arith)
    ]
