use Rattle.index_file.proofs.Spelled.{files-spell}
use Rattle.index_file.proofs.laws.files_spell_collections.Goals as goal

pub returns : goal.returns
returns c = files-spell
