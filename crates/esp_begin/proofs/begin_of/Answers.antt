use mathlib.Core.Path.{refl}
use Rattle.esp_begin.specs.Begin.{begin_of}
use Rattle.esp_begin.proofs.begin_of.Goals as goal

pub returns : goal.returns
unfolding begin_of
returns c = rw (c.word_at-4.ensures, c.word_at-3.ensures, c.word_at-2.ensures, c.word_at.ensures) refl
