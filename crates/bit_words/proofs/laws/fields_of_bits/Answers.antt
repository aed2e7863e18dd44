use Rattle.bit_words.proofs.WordLaws.{field_stays, field_read_back, field_of_appended, field_of_two}
use Rattle.bit_words.proofs.laws.fields_of_bits.Goals as goal

pub returns : goal.returns
returns c = record { stays = field_stays; read_back = field_read_back; appended = field_of_appended; two = field_of_two }
