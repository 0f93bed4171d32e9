use Rattle.lang_forms.specs.Forms.{text_forms}
use Rattle.lang_write.proofs.Written.{fits_unplaced}
use Rattle.lang_write.proofs.laws.forms_are_those_read.Goals as goal

pub returns : goal.returns
returns c = λ f t has. fits_unplaced f (text_forms t) has.fits
