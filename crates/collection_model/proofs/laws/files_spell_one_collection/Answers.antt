use Rattle.collection_model.proofs.Spelled.{one-collection}
use Rattle.collection_model.proofs.laws.files_spell_one_collection.Goals as goal

pub returns : goal.returns
returns c = one-collection
