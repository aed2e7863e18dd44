use Rattle.std.proofs.Common.{◌≡◌, arith, subst}
use Rattle.sequence_words.specs.SequenceView.{words_used}
use Rattle.two_level.proofs.view.SeqView.used.Goals as goal

pub returns : goal.returns
returns c =
    let s = c.self.inside in
    let d = s.directory.stated in
    subst (λ v. c.div_ceil.result ≡ words_used v) c.self.view_is (omega (arith, c.div_ceil.ensures, c.bits_taken.ensures, d.used))
