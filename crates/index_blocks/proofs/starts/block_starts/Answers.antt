use Rattle.std.proofs.Common.{rules, ◌≡◌, ◌∙◌, ap, ℕ, ◌+◌, ◌-◌, ◌*◌, ◌/◌, List, [], ◌∷◌, ◌++◌, length, map, arith}
use Rattle.std.specs.List.{range_with_len}
use Rattle.block_max.specs.Blocks.{BlockList, blocks_before}
use Rattle.index_file.specs.IndexView.{IndexView}
use Rattle.index_blocks.specs.BlockLists.{blocks_of_index, lists_a_start}
use Rattle.index_blocks.proofs.Read.{start-more}
use Rattle.index_blocks.proofs.starts.block_starts.Goals as goal

pub loop-place-preserved : goal.loop-place-preserved
loop-place-preserved c =
    let i : IndexView = c.args.index.now in
    let cs : List BlockList = blocks_of_index i in
    let k : ℕ = c.loop-place.place in
    let is : c.lists_a_start-every.result ≡ lists_a_start c.args.index.now = c.lists_a_start-every.ensures in
    let from = ap (λ (e : ℕ). blocks_before cs (k * e)) is in
    let to = ap (λ (e : ℕ). blocks_before cs ((k + 1) * e)) is in
    let room = ap (λ (e : ℕ). ((k + 1) * e - k * e) * 4294967295) is in
    let pushed : c.push.new.self.items ≡ c.loop-place.starts.items ++ c.loop-place.before ∷ [] = search rules in
    record {
      made = pushed ∙ ap (λ (l : List ℕ). l ++ c.loop-place.before ∷ []) c.loop-place.invariant.made ∙ start-more (λ (n : ℕ). blocks_before cs (n * lists_a_start i)) k c.loop-place.before c.loop-place.invariant.counted;
      counted = omega (arith, c.blocks_between-before.ensures.counted, c.loop-place.invariant.counted, from, to);
      few = omega (arith, c.blocks_between-before.ensures.few, c.loop-place.invariant.few, room);
    }

pub returns : goal.returns
returns c =
    let i : IndexView = c.args.index.now in
    let cs : List BlockList = blocks_of_index i in
    let f : ℕ → ℕ = λ n. blocks_before cs (n * lists_a_start i) in
    let all : c.loop-place.place ≡ c.from.result / c.lists_a_start-every.result = omega (arith, c.loop-place-test.false, c.loop-place.auto.place-end) in
    let lists : c.from.result ≡ length c.args.index.now.collection.lists = c.from.ensures ∙ c.terms.ensures in
    let end : c.loop-place.place ≡ length c.args.index.now.collection.lists / lists_a_start c.args.index.now = all ∙ (λ j. lists j / c.lists_a_start-every.ensures j) in
    let pushed : c.push-2.new.self.items ≡ c.loop-place.starts.items ++ c.loop-place.before ∷ [] = search rules in
    pushed ∙ ap (λ (l : List ℕ). l ++ c.loop-place.before ∷ []) c.loop-place.invariant.made ∙ start-more f c.loop-place.place c.loop-place.before c.loop-place.invariant.counted
    ∙ ap (λ (n : ℕ). map f (range_with_len 0 (n + 1))) end
