-- The calls of a worked probe, worked out.
use mathlib.Core.Path.{refl}
use Rattle.lists.specs.Checks.{first}
use Rattle.lists.specs.Bytes.{all_are}
use Rattle.lists.specs.Lay.{lay}
use Rattle.fields.specs.Words.{word}
use Rattle.fields.specs.Checksum.{xored}
use Rattle.link_frames.specs.Editions.{is_edition, most_control}
use Rattle.link_frames.specs.Frames.{known, size, frame_of}
use Rattle.link_frames.specs.Reading.{begins, lacks_sum, good_start, all_but_sum, reading}
use Rattle.link_state.specs.Clock.{silence, still_dead}
use Rattle.link_state.specs.Link.{fresh, in_baud, in_open, renewed, kept}
use Rattle.link_state.specs.Opening.{opening}
use Rattle.link_state.specs.Silence.{lost, checked}
use Rattle.link_state.specs.Rates.{on_list}
use Rattle.link_refusals.specs.Sound.{fits_edition, fits_phase, holder_good, sound}
use Rattle.link_refusals.specs.Refusals.{checks}
use Rattle.link_events.specs.Moves.{padded}
use Rattle.link_events.specs.Turns.{pulled, listens}
use Rattle.link_effects.specs.Whole.{baud_frame, control_frame, open_frame}
use Rattle.link.specs.Answers.{done}
use Rattle.link.specs.Hearing.{whole_frame, heard, received}
use Rattle.link.specs.Step.{call, pull_step, byte_step}
use Rattle.link_claims.specs.Calls.{step, after}
use Rattle.link_claims.specs.Worked.{to_open, lent, WorkedProbe}

pub worked_probe : WorkedProbe
unfolding
    opening to_open lent after step pull_step byte_step call first checks sound holder_good on_list fits_phase fits_edition is_edition most_control begins good_start lacks_sum all_but_sum known
    size reading xored all_are lost silence checked still_dead fresh in_baud in_open renewed kept pulled listens received heard whole_frame
    baud_frame open_frame control_frame done word padded frame_of lay
worked_probe = (
  record {
    connected = record { good = record { passes = refl; holder = refl }; connected = refl; awake = refl; empty = refl };
    rpc = refl;
    first_byte = (refl, refl);
    second_byte = (refl, refl);
  },
  record {
    connected = record { good = record { passes = refl; holder = refl }; connected = refl; awake = refl; empty = refl };
    rpc = refl;
    first_byte = (refl, refl);
    second_byte = (refl, refl);
  },
)
