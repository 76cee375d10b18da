-- An answer is written whole, or, where the framing routine refuses, not at all; the longest answer buffer holds every one.
use Prim.Native.Nat.{ℕ, ◌+◌, ◌≤◌, ◌<◌}
use mathlib.Core.Path.{◌≡◌, refl, ap, sym}
use mathlib.Core.List.{List, ◌++◌}
use native.Mathlib.Omega.{arith}
use lib.ListN.{length, length-append}
use Rattle.std.specs.Prelude.{Result, Ok, Err}
use Rattle.std.specs.Result.{result_unwrap_or}
use Rattle.lists.specs.Lay.{lay}
use Rattle.fields.specs.Header.{header_of}
use Rattle.slip_framing.specs.Frame.{longest, framed, wrote, Framing, framing, Frames}
use Rattle.slip_framing.specs.declared.FrameError.{FrameError}
use Rattle.slip_framing.proofs.Escapes.{length-framed, escaped-most}
use Rattle.slip_framing.proofs.Refusals.{framing_written, framing-long}
use Rattle.loader_answers.specs.Answer.{Body, status_bytes, body_bytes, answer_with, answer_bytes}
use Rattle.loader_answers.specs.Reply.{longest_answer, sent_of, Replies}

-- what the framing routine answers, as a count: none where it refuses
pub replied : (bytes buffer after : List ℕ) (f : Result ℕ FrameError) → Frames (framing bytes buffer) f after → Replies bytes buffer (result_unwrap_or f 0) after
replied bytes buffer after (Ok n) h = record { sent = ap sent_of h.answer; buffer = h.buffer }
replied bytes buffer after (Err e) h = record { sent = ap sent_of h.answer; buffer = h.buffer }

-- the header before the body and the status bytes makes the answer
pub answer-whole :
    (c v n : ℕ) (head body status : List ℕ) → length status ≡ 2 → n ≡ length body + 2
    → head ≡ header_of 1 c n v → head ++ (body ++ status) ≡ answer_with c v (body ++ status)
answer-whole c v n head body status two e h =
    let k : n ≡ length (body ++ status) = rw (length-append body) (omega arith) in
    rw (h, k) refl

-- an answer longer than a packet may be is not sent
pub too_long : (c v : ℕ) (body status buffer : List ℕ) → longest < length body → Replies (answer_with c v (body ++ status)) buffer 0 buffer
too_long c v body status buffer h =
    let k : longest < length (answer_with c v (body ++ status)) = omega (arith, length-append body status) in
    let e = framing-long (answer_with c v (body ++ status)) buffer (omega arith) k in
    record { sent = ap (λ (x : Framing). sent_of x.report) (sym e); buffer = ap (λ (x : Framing). x.buffer) (sym e) }

module _ (c e v : ℕ) (b : Body) (short : length (body_bytes b) ≤ 16) where
  answer_length : length (answer_bytes c e v b) ≤ 26
  answer_length = omega (arith, length-append (body_bytes b) (status_bytes e))

  -- every answer fits the longest answer buffer
  pub answer-most : length (framed (answer_bytes c e v b)) ≤ longest_answer
  answer-most = omega (arith, length-framed (answer_bytes c e v b), escaped-most (answer_bytes c e v b), answer_length)

  module _ (r : ℕ) (before after : List ℕ) (fits : longest_answer ≤ length before) (h : Replies (answer_bytes c e v b) before r after) where
    written : framing (answer_bytes c e v b) before ≡ record { report = wrote (length (framed (answer_bytes c e v b))); buffer = lay before 0 (framed (answer_bytes c e v b)) }
    written = framing_written (answer_bytes c e v b) before (omega arith) (omega (arith, answer_length)) (omega (arith, answer-most))

    pub sent-whole : r ≡ length (framed (answer_bytes c e v b))
    sent-whole = rw written at h.sent

    pub laid_whole : after ≡ lay before 0 (framed (answer_bytes c e v b))
    laid_whole = rw written at h.buffer
