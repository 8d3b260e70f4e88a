-- The worked texts, by computing them.
use Rattle.std.{proofs.Common.refl, specs.Fmt.digits}
use Rattle.report_text_law.specs.{Text.text_of, Names.WorkedTexts}

pub worked_texts : WorkedTexts
unfolding text_of digits
worked_texts = record { of_circle = refl; of_plane = refl; of_torus = refl; of_moore = refl; of_points = refl }
