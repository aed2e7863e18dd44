use Rattle.std.specs.Prelude.{List, map}
use Rattle.collection_model.specs.Collection.{Collection}
use Rattle.index_file.specs.IndexView.{IndexView}

-- the collections of some indexes
abbrev pub collections_of : List IndexView → List Collection
collections_of indexes = map (λ index. index.collection) indexes
