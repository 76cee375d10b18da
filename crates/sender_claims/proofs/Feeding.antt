-- However a line of framed packets is fed to a fresh loader, its packets are handled one after the other.
use mathlib.Core.Path.{◌≡◌, refl, sym, ap, ◌∙◌}
use mathlib.Core.List.{List, [], ◌∷◌, map, map-append}
use mathlib.Core.Bool.{true}
use mathlib.Core.Option.{none}
use Prim.Native.Nat.{ℕ, ◌≤◌}
use lib.ListN.{length}
use Rattle.slip_framing.specs.Frame.{framed_all}
use Rattle.slip_packets.proofs.Unescape.{closed_whole}
use Rattle.slip_packets.proofs.Cut.{todo}
use Rattle.loader_answers.specs.Reply.{longest_answer}
use Rattle.esp_begin.specs.Flash.{flash_length}
use Rattle.loader_effects.specs.Core.{Core}
use Rattle.loader_effects.specs.Handle.{handle}
use Rattle.loader_run.specs.Step.{Step}
use Rattle.loader_act.specs.Told.{Told, refused, taken, dropped, answered}
use Rattle.loader_claims.specs.Calls.{Machine, Call, start, stepped, next, line_bytes, closing_call, closing_calls, EachCall}
use Rattle.loader_claims.specs.CallHistory.{core_at}
use Rattle.loader_claims.specs.RunCalls.{RunCall, line_taken, closing_runs}
use Rattle.loader_claims.specs.Feeding.{State, if_closing, byte_call, one_byte, by_bytes}
use Rattle.loader_claims.specs.RunsAreBytes.{run_calls}
use Rattle.loader_claims.specs.HoweverCut.{joined, by_runs}
use Rattle.loader_claims.specs.Arrives.{bytes, after}
use Rattle.loader_claims.specs.WorkedLoad.{LongAnswers}
use Rattle.loader_claims.proofs.Passing.{packet_of, closings, core_left}
use Rattle.loader_claims.proofs.Line.{single, single_closings, single_left, single_line}
use Rattle.loader_claims.proofs.CallHistory.{from_start}
use Rattle.loader_claims.proofs.HoweverCut.{runs_as_bytes}
use Rattle.loader_claims.proofs.Demand3.{demand3}
use Rattle.loader_claims.proofs.WorkedLoad.{all-line, long-pass}
use Rattle.sender_claims.specs.Fed.{Accepted, LineFed, fed_by_bytes, fed_by_runs, cut_anywhere, fresh}
use Rattle.sender_claims.proofs.Over.{tells_over, core_over, AllFrameable}
use Rattle.sender_claims.proofs.Frames.{todo_frames}

-- ---- packets handled one after the other

tells_over_lem : (ps : List (List ℕ)) (c : Core) → map (λ h. h.told) (closings c (map closed_whole ps)) ≡ tells_over c ps
unfolding closings tells_over
tells_over_lem [] c = refl
tells_over_lem (p ∷ ps) c = rw (tells_over_lem ps (handle c (packet_of (closed_whole p))).core)

core_over_lem : (ps : List (List ℕ)) (c : Core) → core_left c (map closed_whole ps) ≡ core_over c ps
unfolding core_left core_over
core_over_lem [] c = refl
core_over_lem (p ∷ ps) c = core_over_lem ps (handle c (packet_of (closed_whole p))).core

-- ---- bytes fed one by one with one answer buffer: the calls that this makes

threaded : State → List ℕ → List Call
threaded s [] = []
threaded s (b ∷ bs) = byte_call s b ∷ threaded (one_byte s b).left bs

threaded_bytes : (bs : List ℕ) (s : State) → bytes (threaded s bs) ≡ bs
unfolding threaded bytes
threaded_bytes [] s = refl
threaded_bytes (b ∷ bs) s = ap (λ l. b ∷ l) (threaded_bytes bs (one_byte s b).left)

threaded_left : (bs : List ℕ) (s : State) → (by_bytes s bs).left.machine ≡ after s.machine (threaded s bs)
unfolding threaded by_bytes one_byte after
threaded_left [] s = refl
threaded_left (b ∷ bs) s = threaded_left bs (one_byte s b).left

-- a call that closes a packet tells the same in either list
closing-tells : (t : Told) (x : Step) (flash : List ℕ) → x.told ≡ t
    → map (λ y. y.told) (if_closing t x) ≡ map (λ h. h.told) (closing_call t flash)
unfolding if_closing closing_call
closing-tells (refused n) x flash e = refl
closing-tells taken x flash e = refl
closing-tells (dropped n w) x flash e = rw e
closing-tells (answered n c s d sent order) x flash e = rw e

threaded_tells : (bs : List ℕ) (s : State)
    → map (λ y. y.told) (by_bytes s bs).closings ≡ map (λ h. h.told) (closing_calls s.machine (threaded s bs))
unfolding threaded by_bytes one_byte closing_calls
threaded_tells [] s = refl
threaded_tells (b ∷ bs) s =
    let x : Step = stepped s.machine (byte_call s b) in
    map-append (λ y. y.told) (if_closing x.told x) (by_bytes (one_byte s b).left bs).closings
    ∙ rw (closing-tells x.told x x.flash refl, threaded_tells bs (one_byte s b).left)
    (sym (map-append (λ h. h.told) (closing_call x.told x.flash) (closing_calls (next s.machine (byte_call s b)) (threaded (one_byte s b).left bs))))

-- the answer buffer keeps its length, so it stays long enough
threaded_long : (bs : List ℕ) (s : State) → EachCall s.machine (threaded s bs) → longest_answer ≤ length s.answer → LongAnswers (threaded s bs)
unfolding threaded one_byte EachCall LongAnswers
threaded_long [] s e h = tt
threaded_long (b ∷ bs) s e h = (h, threaded_long bs (one_byte s b).left e.1 (rw e.0.answer_length h))

-- ---- the three ways of feeding

module _ (buffer flash words : List ℕ) (ps : List (List ℕ)) (accepted : Accepted buffer words) (good : flash_length (length flash) ≡ true)
    (frameable : AllFrameable ps) where
  abbrev m : Machine
  m = start buffer flash words

  abbrev Handled : List Told → Machine → Type 0
  Handled told left = (told ≡ tells_over (core_at m) ps) × (core_at left ≡ core_over (core_at m) ps)

  runs_over : (cs : List RunCall) → line_taken m cs ≡ framed_all ps → Handled (map (λ h. h.told) (closing_runs m cs)) (run_calls m cs).machine
  runs_over cs e =
      let f = from_start buffer flash words cs in
      let t : todo none (line_taken m cs) ≡ map closed_whole ps = ap (todo none) e ∙ todo_frames ps frameable in (
        ap (map (λ h. h.told)) (f.closes ∙ ap (closings (core_at m)) t) ∙ tells_over_lem ps (core_at m),
        f.left ∙ ap (core_left (core_at m)) t ∙ core_over_lem ps (core_at m),
      )

  -- byte calls are run calls of one byte
  bytes_over : (cs : List Call) → line_bytes m cs ≡ framed_all ps → Handled (map (λ h. h.told) (closing_calls m cs)) (after m cs)
  bytes_over cs e =
      let line : line_taken m (map single cs) ≡ framed_all ps = single_line cs m [] (from_start buffer flash words (map single cs)).each ∙ e in
      rw (single_closings cs m, single_left cs m) at (runs_over (map single cs) line)

  cut_over : (answer : List ℕ) (runs : List (List ℕ)) → longest_answer ≤ length answer → joined runs ≡ framed_all ps
      → Handled (map (λ x. x.told) (by_runs (fresh buffer flash words answer) runs).closings) (by_runs (fresh buffer flash words answer) runs).left.machine
  cut_over answer runs long e =
      let s : State = fresh buffer flash words answer in
      let cs : List Call = threaded s (framed_all ps) in
      let each = (demand3 buffer flash words cs).each_call in
      let pass = long-pass buffer flash words cs accepted.long good accepted.counted (threaded_long (framed_all ps) s each long) in
      let b = bytes_over cs (all-line m cs each pass ∙ threaded_bytes (framed_all ps) s) in
      rw (runs_as_bytes runs s, e, threaded_tells (framed_all ps) s, threaded_left (framed_all ps) s) b

pub fed_over : (buffer flash words : List ℕ) (ps : List (List ℕ)) (told : List Told) (left : Machine)
    → Accepted buffer words → flash_length (length flash) ≡ true → AllFrameable ps
    → LineFed buffer flash words (framed_all ps) told left
    → (told ≡ tells_over (core_at (start buffer flash words)) ps) × (core_at left ≡ core_over (core_at (start buffer flash words)) ps)
fed_over buffer flash words ps told left accepted good frameable (fed_by_bytes cs e) = bytes_over buffer flash words ps accepted good frameable cs e
fed_over buffer flash words ps told left accepted good frameable (fed_by_runs cs e) = runs_over buffer flash words ps accepted good frameable cs e
fed_over buffer flash words ps told left accepted good frameable (cut_anywhere answer runs long e) =
    cut_over buffer flash words ps accepted good frameable answer runs long e
