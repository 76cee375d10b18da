-- Where a run is fed, some of it is taken, but no more than there is, and what is used lies within the text.
use Rattle.std.proofs.Common.{ℕ, ◌<◌, length, arith, length-take, length-drop}
use Rattle.std.proofs.lemmas.Bool.Decides.{nat_tests}
use Rattle.listing_report.proofs.Reports.{full_where}
use Rattle.listing_report.proofs.Progress.{fed_well}
use Rattle.listing.proofs.Lister.list_run.Goals as goal

pub slice_bounds-rest-count : goal.slice_bounds-rest-count
slice_bounds-rest-count g c =
    let fed = fed_well _ _ _ _ _ _ _ _ c.feed_run.ensures c.feed_run.auto.text (omega arith) c.in-Ok.is in fed.most

pub slice_bounds-rest-start : goal.slice_bounds-rest-start
slice_bounds-rest-start g c =
    let fed = fed_well _ _ _ _ _ _ _ _ c.feed_run.ensures c.feed_run.auto.text (omega arith) c.in-Ok.is in fed.most

pub loop-rest-smaller-in-Ok : goal.loop-rest-smaller-in-Ok
loop-rest-smaller-in-Ok g c =
    let fed = fed_well _ _ _ _ _ _ _ _ c.feed_run.ensures c.feed_run.auto.text (omega arith) c.in-Ok.is in
    let more : 0 < length c.loop-rest.rest.now = grind (arith, nat_tests) in
    omega (arith, length-take {A = ℕ}, length-drop {A = ℕ})

pub loop-rest-preserved-in-Ok : goal.loop-rest-preserved-in-Ok
loop-rest-preserved-in-Ok g c =
    let fed = fed_well _ _ _ _ _ _ _ _ c.feed_run.ensures c.feed_run.auto.text (omega arith) c.in-Ok.is in (omega arith, omega arith)

pub loop-rest-smaller : goal.loop-rest-smaller
loop-rest-smaller g c = omega (arith, full_where _ _ _ _ _ _ _ _ c.feed_run.ensures (rw c.in-Err-NoSpace.field-0-is at c.in-Err-NoSpace.is))
