use Rattle.std.proofs.Common.{◌≡◌, ℕ, ◌<◌, ◌^◌, [], ◌∷◌, ◌++◌, length, refl, ap, ◌∙◌, arith}
use Rattle.std.proofs.lemmas.List.{length-append}
use Rattle.std.proofs.lemmas.Result.{on_ok_weaker, on_err_weaker}
use Rattle.bit_words.specs.Bits.{field_bits, bits_of, padded}
use Rattle.bit_words.proofs.Outcomes.{on-err}
use Rattle.collection_model.specs.FormatNumbers.{format_three}
use Rattle.part_cost.specs.Payload.{digits}
use Rattle.part_cost.proofs.DigitCounts.{digits-hold}
use Rattle.part_cost.proofs.Partitions.{few-parts}
use Rattle.two_level.specs.SequenceWords.{sequence_words}
use Rattle.packed_list.proofs.Written.{parted-head, length-head, length-parted, parted-number, parted-padded, prefix-head, prefix-words, all-words}
use Rattle.packed_list.proofs.write.append_parted.Goals as goal
use Rattle.packed_list.proofs.write.append_parted.Goals.{In_ok-put-2, After-new-words, After-deref}

pub put-requires-2-clause-fits : goal.put-requires-2-clause-fits
put-requires-2-clause-fits c =
    let m : ℕ = length c.args.values.now in
    let room : m < 2 ^ digits m = digits-hold m (omega (arith, c.requires.few)) in
    let width : 2 ^ c.digits.result ≡ 2 ^ digits m = ap (λ d. 2 ^ d) c.digits.ensures in
    omega (arith, few-parts 0 m c.args.ends.now c.requires.partition, room, width)

pub put-requires-2-clause-room : goal.put-requires-2-clause-room
put-requires-2-clause-room c =
    omega (
      arith,
      c.requires.room,
      ap length c.in_ok-put.ensures.ok,
      length-append c.args.to.now (1 ∷ []),
      length-parted c.args.to.now c.args.values.now c.args.ends.now,
      length-head c.args.to.now (digits (length c.args.values.now)) (length c.args.ends.now),
      c.digits.ensures,
    )

-- the head, up to its last zero
head : (c : In_ok-put-2) → padded c.put-2.new.self ≡ c.args.to.now ++ parted-head c.args.to.now (digits (length c.args.values.now)) (length c.args.ends.now)
head c =
    parted-padded c.args.to.now c.put-2.new.self (padded c.put-2.new.self) (digits (length c.args.values.now)) (length c.args.ends.now)
    (parted-number c.args.to.now c.put.new.self c.put-2.new.self (digits (length c.args.values.now)) (length c.args.ends.now) c.in_ok-put.ensures.ok (c.in_ok-put-2.ensures.ok ∙ ap (λ k. c.put.new.self ++ field_bits k (length c.args.ends.now)) c.digits.ensures)) refl

pub pad-requires : goal.pad-requires
pad-requires c = record {
  room = omega (arith, c.requires.room, ap length (head (goal.at.pad-requires c).In_ok-put-2), length-append c.args.to.now (parted-head c.args.to.now (digits (length c.args.values.now)) (length c.args.ends.now)), length-parted c.args.to.now c.args.values.now c.args.ends.now);
}

head-whole : (c : After-new-words) → c.pad.new.self ≡ c.args.to.now ++ parted-head c.args.to.now (digits (length c.args.values.now)) (length c.args.ends.now)
head-whole c = c.in_ok-pad.ensures.ok ∙ head (goal.at.After-new-words c).In_ok-put-2

pub returns-in_err-write_seq-clause-err : goal.returns-in_err-write_seq-clause-err
returns-in_err-write_seq-clause-err c = on-err _ _ (prefix-head c.args.to.now c.pad.new.self c.args.values.now c.args.ends.now (head-whole (goal.at.returns-in_err-write_seq-clause-err c).After-new-words))

-- the words behind it
words-are : (c : After-deref) → c.deref.result.now ≡ sequence_words format_three c.args.values.now c.args.ends.now
words-are c = c.deref.ensures.value ∙ c.in_ok-write_seq.ensures.ok ∙ ap (λ ws. ws ++ sequence_words format_three c.args.values.now c.args.ends.now) c.new-words.ensures.items

pub append_words-requires : goal.append_words-requires
append_words-requires c = record {
  room =
      omega (
        arith,
        c.requires.room,
        ap length (head-whole (goal.at.append_words-requires c).After-new-words),
        length-append c.args.to.now (parted-head c.args.to.now (digits (length c.args.values.now)) (length c.args.ends.now)),
        length-parted c.args.to.now c.args.values.now c.args.ends.now,
        ap (λ ws. length (bits_of ws)) (words-are (goal.at.append_words-requires c).After-deref),
      );
}

pub returns-clause-ok : goal.returns-clause-ok
returns-clause-ok c =
    on_ok_weaker c.append_words.result
    (λ e. all-words c.args.to.now c.pad.new.self c.append_words.new.to c.args.values.now c.args.ends.now c.deref.result.now (head-whole (goal.at.returns-clause-ok c).After-new-words) (words-are (goal.at.returns-clause-ok c).After-deref) e) c.append_words.ensures.ok

pub returns-clause-err : goal.returns-clause-err
returns-clause-err c =
    on_err_weaker c.append_words.result
    (λ h. prefix-words c.args.to.now c.pad.new.self c.append_words.new.to c.args.values.now c.args.ends.now c.deref.result.now (head-whole (goal.at.returns-clause-err c).After-new-words) (words-are (goal.at.returns-clause-err c).After-deref) h) c.append_words.ensures.err
