-- "Frame: type, contents, XOR of all bytes before it, from 0."
use Rattle.std.specs.Prelude.{List, [], ◌∷◌, ◌++◌, Bool, true, false, cond, ℕ, ◌+◌, length, nat_le, nat_eq}
use Rattle.fields.specs.Words.{bytes_of}
use Rattle.fields.specs.Checksum.{xored}
use Rattle.link_frames.specs.Editions.{most_control}

-- "Contents are at most 65 bytes"; of data "size 0 to 64 and that many bytes"
abbrev pub most_contents : ℕ
most_contents = 65

abbrev pub most_data : ℕ
most_data = 64

-- what is held of a frame before its checksum comes: the type and the contents
abbrev pub most_held : ℕ
most_held = 66

-- "01 heartbeat", "02 status", "03 baud", "04 control", "05 data": the types
abbrev pub heartbeat_type : ℕ
heartbeat_type = 0x01

abbrev pub status_type : ℕ
status_type = 0x02

abbrev pub baud_type : ℕ
baud_type = 0x03

abbrev pub control_type : ℕ
control_type = 0x04

abbrev pub data_type : ℕ
data_type = 0x05

-- one of six by a frame's type, the last for no type
abbrev pub by_type : {A : Type 0} → ℕ → A → A → A → A → A → A → A
by_type type heartbeat status baud control bytes none =
    cond (nat_eq type heartbeat_type) heartbeat
    (cond (nat_eq type status_type) status
    (cond (nat_eq type baud_type) baud
    (cond (nat_eq type control_type) control
    (cond (nat_eq type data_type) bytes none))))

-- "01 heartbeat, none; 02 status, one byte 0 to 2; 03 baud, four bytes, least first (house, the source gives no order); 04 control, 0 start or 1 stop RPC; 05 data, size 0 to 64 and that many bytes":
-- whether a type is one of these and the first byte of its contents is allowed, a control code by the edition; where that byte is yet to come it counts as 0
unfoldable pub known : ℕ → ℕ → ℕ → Bool
known edition type first = by_type type true (nat_le first 2) true (nat_le first (most_control edition)) (nat_le first most_data) false

-- how many bytes stand before the checksum, the type among them
unfoldable pub size : ℕ → ℕ → ℕ
size type first = by_type type 1 2 5 2 (first + 2) 0

-- the frame of a type and its contents, the type in front
unfoldable pub frame_of : List ℕ → List ℕ
frame_of bytes = bytes ++ (xored 0 bytes ∷ [])

abbrev pub heartbeat : List ℕ
heartbeat = frame_of (heartbeat_type ∷ [])

abbrev pub status : ℕ → List ℕ
status code = frame_of (status_type ∷ code ∷ [])

abbrev pub baud_rate : ℕ → List ℕ
baud_rate rate = frame_of (baud_type ∷ bytes_of rate)

abbrev pub control : ℕ → List ℕ
control code = frame_of (control_type ∷ code ∷ [])

abbrev pub data_frame : List ℕ → List ℕ
data_frame bytes = frame_of (data_type ∷ length bytes ∷ bytes)
