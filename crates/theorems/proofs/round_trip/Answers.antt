use Rattle.slip_packets.proofs.Theorems.{round_trip}
use Rattle.theorems.proofs.round_trip.Goals as goal

pub returns : goal.returns
returns c = round_trip
