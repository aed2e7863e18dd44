use Rattle.std.proofs.Common.{◌≡◌, ◌-◌, ◌^◌, ◌<◌}
use Rattle.bit_words.specs.Bits.{bits_of}
use Rattle.bit_words.specs.Ones.{IsReading}
use Rattle.bit_words.proofs.ones.Ones.next.Given as goal

abbrev pub invariant-words : goal.invariant-words
invariant-words l =
    let o = l.self-inside in
    record {
      bits : bits_of o.words.now ≡ l.fn.self.bits;
      at : o.at ≡ l.fn.self.at;
      end : o.end ≡ l.fn.self.end;
      fits : o.rest < 2 ^ 64;
      reading : IsReading o.words.now o.start o.rest o.at o.end;
    }

abbrev pub decreases-words : goal.decreases-words
decreases-words l = l.self-inside.end - l.self-inside.start
