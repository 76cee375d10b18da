use mathlib.Core.Path.{refl}
use Rattle.esp_requests.proofs.four_words.Goals as goal

pub returns : goal.returns
returns c = rw (c.bytes_of-s.ensures, c.bytes_of-r.ensures, c.bytes_of-q.ensures, c.bytes_of-p.ensures) refl
