-- "Silence counts frames" (document 02, Three): a link lives by entry to Baud and by whole good frames alone.
use Rattle.std.specs.Prelude.{◌≡◌, List, true, false, ◌&&◌, ◌⊎◌, ℕ, ◌<◌, nat_le, nat_eq}
use Rattle.std.proofs.Math.Option.{Option, none, some}
use Rattle.link_state.specs.Clock.{elapsed, silence_time}
use Rattle.link_state.specs.Link.{fresh}
use Rattle.link_state.specs.Silence.{lost, checked}
use Rattle.link_state.specs.declared.Link.{Link}
use Rattle.link_state.specs.declared.Phase.TheVariants.{Start}
use Rattle.link_events.specs.Moves.{detected}
use Rattle.link.specs.Answers.{Step}
use Rattle.link_claims.specs.Calls.{Call, tick_of, step, after}
use Rattle.link_claims.specs.Refusals.{refusal_of}
use Rattle.link_claims.specs.Answered.{answer_of, answers_to}
use Rattle.link_claims.specs.Activity.{is_activity, active, last_active}

-- there is a connection, or one is being made
abbrev pub Outside : Link → Type 0
Outside l = l.phase ≡ Start → ⊥

-- outside Start, last active at this tick, and with nothing held
pub record Refreshed (tick : ℕ) (l : Link) : Type 0 where
  pub outside : Outside l
  pub ticked : l.last ≡ tick
  pub empty : l.held ≡ 0

-- the tick of the last active call of those from a fresh link on, read off the calls and the answers to them
abbrev pub active_at : ℕ → List Call → Option ℕ
active_at edition calls = last_active calls (answers_to (fresh edition) calls)

-- there is such a tick, less than 250 ms before this one
abbrev pub Recent : Option ℕ → ℕ → Type 0
Recent none tick = ⊥
Recent (some before) tick = elapsed before tick < silence_time

-- the same step, but it tells that the link was lost
abbrev pub losing : Step → Step
losing s = record { link = s.link; saying = s.saying; lost = true; count = s.count; bytes = s.bytes; buffer = s.buffer }

pub record SilenceCountsFrames : Type 0 where
  -- whatever the record and the call: the answer shows whether the call is activity, and a refused one is none
  pub shown : (l : Link) (c : Call) → active c (answer_of (step l c)) ≡ (nat_eq (refusal_of l c) 0 && is_activity l c)
  -- activity leaves the link outside Start, with this call's tick as that of last activity, and with nothing held
  pub refreshes : (l : Link) (c : Call) → active c (answer_of (step l c)) ≡ true → Refreshed (tick_of c) (step l c).link
  -- and at nothing else does that tick move, but at a return to Start
  pub unmoved : (l : Link) (c : Call) → active c (answer_of (step l c)) ≡ false → Outside (step l c).link → (step l c).link.last ≡ l.last
  -- over every list of calls from a fresh link: outside Start it is the tick of the last active call
  pub ticks : (edition : ℕ) (calls : List Call) → Outside (after (fresh edition) calls) → active_at edition calls ≡ some (after (fresh edition) calls).last
  -- a call outside Start that is not refused tells a loss exactly where that tick was 250 ms or more before; in Start no call tells one
  pub loss_told :
      (edition : ℕ) (calls : List Call) (c : Call) (tick : ℕ) → Outside (after (fresh edition) calls) → active_at edition calls ≡ some tick → refusal_of (after (fresh edition) calls) c ≡ 0
      → (step (after (fresh edition) calls) c).lost ≡ nat_le silence_time (elapsed tick (tick_of c))
  pub none_lost : (l : Link) (c : Call) → l.phase ≡ Start → (step l c).lost ≡ false
  -- no call returns to Start untold: it tells a loss or a detected error
  pub returns : (l : Link) (c : Call) → Outside l → (step l c).link.phase ≡ Start → ((step l c).lost ≡ true) ⊎ ((step l c).saying ≡ detected)
  -- so a link that the silence check, which every call makes first, leaves outside Start, be the call refused or not, has had an active call less than
  -- 250 ms before this tick
  pub alive_at : (edition : ℕ) (calls : List Call) (tick : ℕ) → Outside (checked (after (fresh edition) calls) tick) → Recent (active_at edition calls) tick
  -- and where a call that is not refused leaves the link outside Start, it is active itself, or an active one was less than 250 ms before it
  pub alive :
      (edition : ℕ) (calls : List Call) (c : Call) → refusal_of (after (fresh edition) calls) c ≡ 0 → Outside (step (after (fresh edition) calls) c).link
      → (active c (answer_of (step (after (fresh edition) calls) c)) ≡ true) ⊎ Recent (active_at edition calls) (tick_of c)
  -- "A frame still unfinished at 250 ms is lost with the link": whatever is held, a call that finds the link lost and is not refused is that of a fresh
  -- link, and tells the loss; a send is refused then, with 10
  pub unfinished : (l : Link) (c : Call) → refusal_of l c ≡ 0 → lost l.phase l.last (tick_of c) ≡ true → step l c ≡ losing (step (fresh l.edition) c)
