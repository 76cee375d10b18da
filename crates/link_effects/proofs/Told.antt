-- A turn that tells something else.
use mathlib.Core.Path.{◌≡◌, ap}
use Rattle.link_events.specs.Moves.{Saying, sent, Move, move, moved}
use Rattle.link_events.specs.declared.Turn.{Turn}

pub told_too : (t : Turn) (m : Move) (s : Saying) → moved t ≡ m → move t.link s (sent t.reply) t.bytes ≡ move m.link s m.sends m.hands
told_too t m s h = ap (λ (n : Move). move n.link s n.sends n.hands) h
