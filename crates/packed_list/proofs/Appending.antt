-- Bits that are appended piece by piece.
use Rattle.std.proofs.Common.{◌≡◌, ℕ, List, ◌++◌, length, sym, ap, ◌∙◌, arith, append-nil}
use Rattle.std.proofs.lemmas.List.{take_all}
use Rattle.bit_words.specs.Bits.{AppendsBits}
use Rattle.bit_words.proofs.Prefixes.{appends-prefix}

-- nothing is a prefix of all bits
pub appends-none : (old new bits : List ℕ) → new ≡ old → AppendsBits old new bits
appends-none old new bits e = (0, omega arith, e ∙ sym (append-nil old))

-- all of a piece is a prefix of it
pub appends-whole : (old new a : List ℕ) → new ≡ old ++ a → AppendsBits old new a
appends-whole old new a e = (length a, omega arith, e ∙ ap (λ xs. old ++ xs) (sym (take_all (length a) a (omega arith))))

-- and of the piece with another behind it
pub appends-some : (old new a b : List ℕ) → new ≡ old ++ a → AppendsBits old new (a ++ b)
appends-some old new a b e = appends-prefix old new a b (appends-whole old new a e)
