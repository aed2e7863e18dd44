use Rattle.std.proofs.Common.{◌≡◌, ◌<◌, ◌-◌, get_or}
use Rattle.collection_reader.proofs.Documents.{DocumentsSoFar}
use Rattle.collection_reader.proofs.sequences.read_documents.Given as goal

abbrev pub invariant-loop-place : goal.invariant-loop-place
invariant-loop-place g l =
    record {
      so_far : DocumentsSoFar l.documents l.length l.place l.fn.held l.held (g.D.Depot.state l.fn.depot) (g.D.Depot.state l.depot) l.docs.items;
      last : 0 < l.place → l.last ≡ get_or l.docs.items (l.place - 1) 0;
    }
