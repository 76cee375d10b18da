-- The status byte of an answer: "status 0 or 1, error. The error is 0 on success."
use Rattle.std.specs.Prelude.{ℕ, cond, nat_eq}

abbrev pub status_of : ℕ → ℕ
status_of error = cond (nat_eq error 0) 0 1
