-- The calls of the listing print the lines of the packets that the loader handles, one behind the other.
use mathlib.Core.Path.{◌≡◌, refl, sym, ◌∙◌}
use mathlib.Core.List.{List, [], ◌∷◌, ◌++◌}
use Prim.Native.Nat.{ℕ, zero, suc, ◌+◌, ◌≤◌}
use native.Mathlib.Nat.{add-zero}
use native.Mathlib.Omega.{arith}
use borrow.Author.Tests.{le-leb}
use lib.ListN.{length, length-append}
use lib.Seq.{drop_at}
use Rattle.lists.specs.Lay.{lay}
use Rattle.lists.proofs.Laws.{lay-nil, lay-lay, length-lay}
use Rattle.slip_framing.specs.Frame.{end_byte, longest, escaped, framed, framed_all}
use Rattle.slip_unframing.specs.Reasons.{whole}
use Rattle.slip_packets.specs.Packets.{header}
use Rattle.loader_effects.specs.Core.{Core}
use Rattle.loader_effects.specs.Handle.{handle}
use Rattle.loader_run.specs.Step.{Step, told_of}
use Rattle.loader_act.specs.Told.{Told}
use Rattle.listing_lines.specs.Lines.{longest_line, line_of}
use Rattle.listing_report.specs.Listing.{number_after}
use Rattle.cases.specs.Feeding.{fed}
use Rattle.cases.specs.Listing.{Page, calls}
use Rattle.cases.proofs.Fed.{Idle, idle_after, idle_passes, idle_told}
use Rattle.cases.proofs.Runs.{packet-run}
use Rattle.cases.proofs.Calls.{page_of, fed-call}

-- what the call that closes a packet tells, where the core is c
abbrev pub told_for : Core → List ℕ → Told
told_for c p = told_of (length p) (handle c (header (whole p))).reply

-- the lines of packets that are handled one after the other, the first with this number
unfoldable pub lines : ℕ → Core → List (List ℕ) → List ℕ
lines number c [] = []
lines number c (p ∷ ps) = line_of number (told_for c p) ++ lines (number_after (told_for c p) number) (handle c (header (whole p))).core ps

-- packets that are not empty and fit the packet buffer
unfoldable pub Fit : List (List ℕ) → Type 0
Fit [] = Unit {0}
Fit (p ∷ ps) = (1 ≤ length p) × ((length p ≤ longest) × Fit ps)

-- so much text is laid behind the used bytes
pub record Adds (added text : List ℕ) (used : ℕ) (p : Page) : Type 0 where
  pub in_text : p.text ≡ lay text used added
  pub is_used : p.used ≡ used + length added

-- a framed packet is one call of the listing
one-call : {s : Step} {c : Core} → Idle s c → (p : List ℕ) → 1 ≤ length p → length p ≤ longest
    → (number : ℕ) (text : List ℕ) (used : ℕ) → used + longest_line ≤ length text → (more : List ℕ) (k : ℕ)
    → calls (suc k) (page_of s number text used) (framed p ++ more)
    ≡ calls k
    (page_of (fed s (framed p)) (number_after (told_for c p) number) (lay text used (line_of number (told_for c p))) (used + length (line_of number (told_for c p))))
    more
unfolding framed
one-call {s} {c} i p filled fits number text used space more k =
    fed-call (page_of s number text used) (le-leb (used + longest_line) (length text) space) (idle_passes i) end_byte ((escaped p ++ end_byte ∷ []) ++ more) _
    (packet-run i p filled fits more) k
    ∙ rw (idle_told i p filled fits, drop_at (framed p) more (length (framed p)) refl)

none_left : (k : ℕ) (q : Page) → calls k q [] ≡ q
unfolding calls
none_left zero q = refl
none_left (suc k) q = refl

-- packets, as many calls as they have bytes or more
pub lines_listed : (ps : List (List ℕ)) {s : Step} {c : Core} → Idle s c → Fit ps → (number : ℕ) (text : List ℕ) (used : ℕ)
    → (used + length (lines number c ps)) + longest_line ≤ length text → (k : ℕ) → length (framed_all ps) ≤ k
    → Adds (lines number c ps) text used (calls k (page_of s number text used) (framed_all ps))
unfolding lines framed_all Fit framed
lines_listed [] {s} {c} i fit number text used h k enough =
    rw (none_left k (page_of s number text used)) (record { in_text = sym (lay-nil text used); is_used = sym (add-zero used) })
lines_listed (p ∷ ps) {s} {c} i fit number text used h zero enough = absurd (omega arith)
lines_listed (p ∷ ps) {s} {c} i fit number text used h (suc k) enough =
    let core = (handle c (header (whole p))).core in
    let line = line_of number (told_for c p) in
    let then = number_after (told_for c p) number in
    let more = lines then core ps in
    let n = length-append line more in
    let m = length-append (escaped p ++ end_byte ∷ []) (framed_all ps) in
    let l = length-lay text used line (omega arith) in
    let rest = lines_listed ps (idle_after i p fit.0 fit.1.0) fit.1.1 then (lay text used line) (used + length line) (omega arith) k (omega arith) in
    rw (one-call i p fit.0 fit.1.0 number text used (omega arith) (framed_all ps) k)
    (record { in_text = rest.in_text ∙ lay-lay text used line more (omega arith); is_used = rest.is_used ∙ omega arith })
