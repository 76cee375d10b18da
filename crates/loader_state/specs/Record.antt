-- The loader's record: the line's state, the session, and the attach word, "0 when fresh".
use Rattle.slip_unframing.specs.Line.{fresh}
use Rattle.loader_sessions.specs.declared.Session.TheVariants.{Closed}
use Rattle.loader_state.specs.declared.Loader.{Loader}

-- the record that a start begins with
abbrev pub fresh_loader : Loader
fresh_loader = record { line = fresh; session = Closed; attach = 0 }
