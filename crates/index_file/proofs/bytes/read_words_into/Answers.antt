use Rattle.std.proofs.Common.{◌≡◌, ◌∙◌, ap, arith, ℕ, ◌<◌, ◌*◌, ◌/◌, List, [], length, get_or, take, drop}
use Rattle.std.proofs.lemmas.List.{length-set, take_more_set}
use Rattle.std.specs.Int.{from_le_bytes, w64}
use Rattle.collection_model.specs.Bytes.{le64, word_bytes}
use Rattle.index_file.proofs.WordBytes.{chunk-at, bytes-more, little-is, word-at}
use Rattle.index_file.proofs.bytes.read_words_into.Goals as goal

pub loop-k-preserved : goal.loop-k-preserved
loop-k-preserved c =
    let xs : List ℕ = c.args.bytes.now in
    let room : List ℕ = c.loop-k.room in
    let k : ℕ = c.loop-k.k in
    let so_far = c.loop-k.invariant in
    let within : k < length xs / 8 = omega (arith, c.as_chunks.ensures.front_len, c.loop-k-test.true) in
    let at : get_or c.as_chunks.result.0.now k [] ≡ take 8 (drop (k * 8) xs) = ap (λ pieces. get_or pieces k []) c.as_chunks.ensures.front ∙ chunk-at 8 (length xs / 8) k xs within in
    let are : (i : ℕ) → get_or xs i 0 < 256 = λ i. omega (arith, c.type_inv.bytes i) in
    let next : le64 c.read_u64.result ≡ take 8 (drop (k * 8) xs) = word-at xs c.read_u64.result k within are (c.read_u64.ensures ∙ little-is (get_or c.as_chunks.result.0.now k []) ∙ ap (from_le_bytes w64) at) in
    record {
      long = length-set room k c.read_u64.result ∙ so_far.long;
      read = ap word_bytes (take_more_set room k c.read_u64.result (omega (arith, so_far.long, c.loop-k-test.true))) ∙ bytes-more (take k room) xs c.read_u64.result k so_far.read next;
    }
