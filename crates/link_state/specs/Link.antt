-- The link's record: what is held of the frame being received, and the records that the rules name.
use Rattle.std.specs.Prelude.{ℕ, ◌+◌, ◌-◌, Bool, true, false, cond, List, ◌∷◌, take, replicate, ◌==◌, slice_set}
use Rattle.link_frames.specs.Frames.{most_contents}
use Rattle.link_state.specs.declared.Link.{Link}
use Rattle.link_state.specs.declared.Phase.{Phase}
use Rattle.link_state.specs.declared.Phase.TheVariants.{Start, Baud, Open}

-- one of three by the phase
abbrev pub by_phase : {A : Type 0} → Phase → A → A → A → A
by_phase Start start baud open' = start
by_phase Baud start baud open' = baud
by_phase Open start baud open' = open'

-- the type byte and the holder of the contents
abbrev pub store : Link → List ℕ
store l = l.kind ∷ l.frame

-- the bytes of the frame being received
abbrev pub held_of : Link → List ℕ
held_of l = take l.held (store l)

-- "Contents are at most 65 bytes, all zero at rest."
abbrev pub at_rest : List ℕ
at_rest = replicate most_contents 0

-- a record at the start of a phase: power off, RPC closed, nothing outstanding, nothing held
abbrev pub entering : ℕ → Phase → ℕ → ℕ → Bool → Link
entering edition phase rate last dead =
    record { edition = edition; power = false; phase = phase; rate = rate; last = last; dead = dead; rpc = false; outstanding = false; held = 0; kind = 0; frame = at_rest }

-- "The initial connection SHALL always happen at 9600 baud" (000).
abbrev pub first_rate : ℕ
first_rate = 9600

-- A return to Start gives the fresh record of the edition: "Power is off at Start, a return to Start included" (document 02, Eight).
unfoldable pub fresh : ℕ → Link
fresh edition = entering edition Start first_rate 0 false

-- "sends 01 01 and enters Baud": this is activity
unfoldable pub in_baud : ℕ → ℕ → Link
in_baud edition tick = entering edition Baud first_rate tick false

-- "enters Open at that rate", with dead time running: the baud frame is activity
unfoldable pub in_open : ℕ → ℕ → ℕ → Link
in_open edition rate tick = entering edition Open rate tick true

-- the record after a whole frame, which is activity: the holder is renewed
unfoldable pub renewed : Link → ℕ → Link
renewed l tick =
    record { edition = l.edition; power = l.power; phase = l.phase; rate = l.rate; last = tick; dead = l.dead; rpc = l.rpc; outstanding = l.outstanding; held = 0; kind = 0; frame = at_rest }

-- the record with one byte more held; this is no activity
unfoldable pub kept : Link → ℕ → Link
kept l byte =
    record {
      edition = l.edition;
      power = l.power;
      phase = l.phase;
      rate = l.rate;
      last = l.last;
      dead = l.dead;
      rpc = l.rpc;
      outstanding = l.outstanding;
      held = l.held + 1;
      kind = cond (l.held == 0) byte l.kind;
      frame = cond (l.held == 0) l.frame (slice_set l.frame (l.held - 1) byte);
    }

-- the record with one of its flags set anew
abbrev pub with_rpc : Link → Bool → Link
with_rpc l rpc =
    record { edition = l.edition; power = l.power; phase = l.phase; rate = l.rate; last = l.last; dead = l.dead; rpc = rpc; outstanding = l.outstanding; held = l.held; kind = l.kind; frame = l.frame }

abbrev pub with_outstanding : Link → Bool → Link
with_outstanding l outstanding =
    record { edition = l.edition; power = l.power; phase = l.phase; rate = l.rate; last = l.last; dead = l.dead; rpc = l.rpc; outstanding = outstanding; held = l.held; kind = l.kind; frame = l.frame }

abbrev pub with_dead : Link → Bool → Link
with_dead l dead =
    record { edition = l.edition; power = l.power; phase = l.phase; rate = l.rate; last = l.last; dead = dead; rpc = l.rpc; outstanding = l.outstanding; held = l.held; kind = l.kind; frame = l.frame }

abbrev pub with_power : Link → Bool → Link
with_power l power =
    record { edition = l.edition; power = power; phase = l.phase; rate = l.rate; last = l.last; dead = l.dead; rpc = l.rpc; outstanding = l.outstanding; held = l.held; kind = l.kind; frame = l.frame }
