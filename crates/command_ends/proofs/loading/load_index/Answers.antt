use Rattle.std.proofs.Common.{ℕ, List}
use Rattle.std.proofs.lemmas.Result.{IfErr-weaker, IfOk-weaker}
use Rattle.io_traits.specs.DepotState.{DepotState}
use Rattle.command_ends.specs.Steps.LoadedIndex.{AreIndexWords, IsLoaded, IsUnloaded}
use Rattle.command_ends.proofs.loading.load_index.Goals as goal

pub returns-clause-loaded : goal.returns-clause-loaded
returns-clause-loaded g c =
    let name : List ℕ = c.args.name.now in
    let old : DepotState = g.D.Depot.state c.args.depot.now in
    let new : DepotState = g.D.Depot.state c.load_index_words.new.depot in
    IfOk-weaker c.open_index_words.result (λ index. (n : List ℕ) (d d' : DepotState) → AreIndexWords n d d' c.in_ok-words.words.items → IsLoaded n d d' index) (λ index. IsLoaded name old new index)
    (λ index is. is name old new c.in_ok-words.ensures.words)
    c.open_index_words.ensures.loaded

pub returns-clause-refused : goal.returns-clause-refused
returns-clause-refused g c =
    let name : List ℕ = c.args.name.now in
    let old : DepotState = g.D.Depot.state c.args.depot.now in
    let new : DepotState = g.D.Depot.state c.load_index_words.new.depot in
    IfErr-weaker c.open_index_words.result (λ stop. (n : List ℕ) (d d' : DepotState) → AreIndexWords n d d' c.in_ok-words.words.items → IsUnloaded n d d' stop) (λ stop. IsUnloaded name old new stop)
    (λ stop is. is name old new c.in_ok-words.ensures.words)
    c.open_index_words.ensures.refused
