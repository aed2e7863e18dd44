use Rattle.std.proofs.Common.{subst, refl, length}
use Rattle.part_codec.specs.Forms.{HoldsIn}
use Rattle.part_codec.specs.declared.forms.Form.TheVariants.{Ones, Bitmap, Ef}
use Rattle.part_codec.proofs.Kept.{ones-kept}
use Rattle.part_codec.proofs.KeptWords.{words-of_form}
use Rattle.part_codec.proofs.views.PartView.keep_in_words.Goals as goal

pub returns-in-Ones-clause-kept : goal.returns-in-Ones-clause-kept
returns-in-Ones-clause-kept c ys h =
    ones-kept c.in-Ones.ones.u c.args.from c.whole_words.result ys c.args.marks.now (subst (λ f. HoldsIn f ys) c.in-Ones.is h) c.whole_words.ensures

pub returns-in-Ones-clause-words : goal.returns-in-Ones-clause-words
returns-in-Ones-clause-words c =
    words-of_form c.args.self.now (Ones c.in-Ones.ones) c.args.from (length c.args.marks.now) c.whole_words.result c.in-Ones.is c.whole_words.ensures

pub returns-in-Bitmap-clause-words : goal.returns-in-Bitmap-clause-words
returns-in-Bitmap-clause-words c =
    words-of_form c.args.self.now (Bitmap c.in-Bitmap.map) c.args.from (length c.args.marks.now) c.keep_in_words.result c.in-Bitmap.is c.keep_in_words.ensures.words

pub returns-in-Ef-clause-words : goal.returns-in-Ef-clause-words
returns-in-Ef-clause-words c =
    words-of_form c.args.self.now (Ef c.in-Ef.field-0) c.args.from (length c.args.marks.now) 0 c.in-Ef.is refl
