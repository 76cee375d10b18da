-- The types of frames as the code has them, and the bytes that stand for them.
use Rattle.std.specs.Prelude.{ℕ, Result, Ok, Err}
use Rattle.link_frames.specs.Frames.{heartbeat_type, status_type, baud_type, control_type, data_type, by_type}
use Rattle.link_frames.specs.declared.kinds.Kind.{Kind}
use Rattle.link_frames.specs.declared.kinds.Kind.TheVariants.{Heartbeat, Status, Baud, Control, Data}
use Rattle.link_frames.specs.declared.kinds.UnknownKind.{UnknownKind}

-- the byte of a type
abbrev pub kind_number : Kind → ℕ
kind_number Heartbeat = heartbeat_type
kind_number Status = status_type
kind_number Baud = baud_type
kind_number Control = control_type
kind_number Data = data_type

-- the type of a byte, or that it has none
unfoldable pub kind_of : ℕ → Result Kind UnknownKind
kind_of byte = by_type byte (Ok Heartbeat) (Ok Status) (Ok Baud) (Ok Control) (Ok Data) (Err (record {}))
