-- "Answer: direction 1, same command, size 2, value (4 bytes, zero but for a good READ_REG), status 0 or 1, error. The error is 0 on success." Request Four: "the body is 16 raw bytes before the two status bytes, size field 18"; "A failure has the plain two-byte body."
use Rattle.std.specs.Prelude.{List, [], ◌∷◌, ◌++◌, ℕ, length, Option, Some, None}
use Rattle.fields.specs.Header.{header_of}
use Rattle.esp_commands.specs.Status.{status_of}

-- the status bytes that end an answer
abbrev pub status_bytes : ℕ → List ℕ
status_bytes error = status_of error ∷ error ∷ []

-- what stands before them: nothing, or a digest
abbrev pub Body : Type 0
Body = Option (List ℕ)

abbrev pub plain : Body
plain = None

abbrev pub with_digest : List ℕ → Body
with_digest d = Some d

-- a digest is written as its bytes are
abbrev pub body_bytes : Body → List ℕ
body_bytes (Some d) = d
body_bytes None = []

-- an answer with a body of any length, its status bytes included; the size field counts them
abbrev pub answer_with : ℕ → ℕ → List ℕ → List ℕ
answer_with command value body = header_of 1 command (length body) value ++ body

abbrev pub answer_bytes : ℕ → ℕ → ℕ → Body → List ℕ
answer_bytes command error value body = answer_with command value (body_bytes body ++ status_bytes error)
