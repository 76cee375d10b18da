-- "5 first (held bytes that begin no longer good frame, nonzero bytes behind them, a rate off the list; outside Open dead time, RPC open,
-- data outstanding or a rate not 9600; in Start a held byte)": the records that refusal 5 lets pass.
use Rattle.std.specs.Prelude.{List, Bool, true, false, not, ◌&&◌, ◌||◌, ℕ, take, drop, nat_le, nat_eq}
use Rattle.lists.specs.Bytes.{all_are}
use Rattle.link_frames.specs.Editions.{later_edition, is_edition}
use Rattle.link_frames.specs.Frames.{most_held}
use Rattle.link_frames.specs.Reading.{good_start}
use Rattle.link_state.specs.Link.{by_phase, store, first_rate}
use Rattle.link_state.specs.Rates.{on_list}
use Rattle.link_state.specs.declared.Link.{Link}
use Rattle.link_state.specs.declared.Phase.{Phase}

-- "outside Open dead time, RPC open, data outstanding or a rate not 9600; in Start a held byte"
unfoldable pub fits_phase : Phase → Bool → Bool → Bool → ℕ → ℕ → Bool
fits_phase phase dead rpc outstanding rate held =
    by_phase phase
    (not dead && (not rpc && (not outstanding && (nat_eq rate first_rate && nat_eq held 0))))
    (not dead && (not rpc && (not outstanding && nat_eq rate first_rate)))
    true

-- "held bytes that begin no longer good frame, nonzero bytes behind them"
unfoldable pub holder_good : ℕ → ℕ → List ℕ → Bool
holder_good edition held bytes = nat_le held most_held && (all_are 0 (drop held bytes) && good_start edition (take held bytes))

-- "5 also for a record with such an edition, or with power on outside Open or under the first" (document 02, Eight)
unfoldable pub fits_edition : ℕ → Bool → Phase → Bool
fits_edition edition power phase = is_edition edition && (not power || (nat_eq edition later_edition && by_phase phase false false true))

unfoldable pub sound : Link → Bool
sound l =
    holder_good l.edition l.held (store l)
    && (on_list l.rate
    && (fits_phase l.phase l.dead l.rpc l.outstanding l.rate l.held && fits_edition l.edition l.power l.phase))
