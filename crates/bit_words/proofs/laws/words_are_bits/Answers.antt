use Rattle.bit_words.proofs.WordLaws.{bits_of_appended, bits_of_words, words_of_bits, words_of_padded}
use Rattle.bit_words.proofs.laws.words_are_bits.Goals as goal

pub returns : goal.returns
returns c = record { appended = bits_of_appended; bits = bits_of_words; words = words_of_bits; padded = words_of_padded }
