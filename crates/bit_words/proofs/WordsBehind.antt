use Rattle.std.proofs.Common.{◌≡◌, ℕ, ◌^◌, ◌<◌, List, ◌++◌, length, replicate, sym, ap, ◌∙◌, arith, append_assoc}
use Rattle.std.specs.List.{All}
use Rattle.std.proofs.lemmas.List.{length-append}
use Rattle.std.proofs.lemmas.List.Elements.{All-append}
use Rattle.bit_words.specs.Bits.{AreBits, bits_of, padding, padded, words_of}
use Rattle.bit_words.proofs.Value.{each_bit, length-bits_of}
use Rattle.bit_words.proofs.AllBits.{bits-fields}
use Rattle.bit_words.proofs.WordLaws.{bits_of_appended, bits_of_words, words_of_bits, words_of-fit, words_of_padded}

padded-behind : (ws bits : List ℕ) → padded (bits_of ws ++ bits) ≡ bits_of ws ++ padded bits
padded-behind ws bits =
    let all : List ℕ = bits_of ws ++ bits in
    let same : padding (length all) ≡ padding (length bits) = omega (arith, length-append (bits_of ws) bits, length-bits_of ws) in
    ap (λ n. all ++ replicate n 0) same ∙ append_assoc (bits_of ws) bits (replicate (padding (length bits)) 0)

-- bits behind those of whole words lie in words behind these
pub words-behind : (ws bits : List ℕ) → All (λ w. w < 2 ^ 64) ws → AreBits bits → words_of (bits_of ws ++ bits) ≡ ws ++ words_of bits
words-behind ws bits fit are =
    let all : List ℕ = bits_of ws ++ bits in
    let fits : All (λ w. w < 2 ^ 64) (ws ++ words_of bits) = All-append (λ w. w < 2 ^ 64) ws (words_of bits) fit (words_of-fit bits (each_bit bits are)) in
    sym (words_of_padded all (All-append (λ b. b < 2) (bits_of ws) bits (bits-fields 64 ws) are))
    ∙ ap words_of (padded-behind ws bits ∙ ap (λ xs. bits_of ws ++ xs) (sym (bits_of_words bits are)) ∙ sym (bits_of_appended ws (words_of bits)))
    ∙ words_of_bits (ws ++ words_of bits) fits
