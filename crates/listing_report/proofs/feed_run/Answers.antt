-- Where a line fits, the loader's contract and the line of what it tells.
use Rattle.std.proofs.Common.{sym, ◌∙◌}
use Rattle.listing_lines.proofs.Rows.{used_appends}
use Rattle.listing_report.specs.Listing.{list_step, full}
use Rattle.listing_report.proofs.Reports.{lists_fed}
use Rattle.listing_report.proofs.feed_run.Goals as goal

pub returns-then-not-has_space : goal.returns-then-not-has_space
unfolding list_step full
returns-then-not-has_space c =
    let no_space = sym c.has_space.ensures ∙ c.if-not-has_space.true in
    record { says = rw no_space; packet_buffer = rw no_space; answer_buffer = rw no_space; in_flash = rw no_space; in_words = rw no_space; in_text = rw no_space }

pub returns : goal.returns
returns c =
    let fits = sym c.has_space.ensures ∙ c.if-not-has_space.false in
    let puts = used_appends fits c.line.ensures _ c.in_ok-filled.ensures.ok_part in
    lists_fed _ _ _ _ _ _ _ _ fits _ _ _ _ _ c.feed_run-fed.ensures _ _ _ c.listed_as.result puts c.next_number.ensures c.listed_as.ensures
