use Rattle.std.proofs.Common.{inl, inr}
use Rattle.listing_report.specs.Listing.{number_after}
use Rattle.listing_report.proofs.next_number.Goals as goal

pub returns-in-Refused : goal.returns-in-Refused
unfolding number_after
returns-in-Refused c = elim c.in-Refused.is [ inl e ↦ rw e.1 | inr e ↦ rw e ]

pub returns-in-Dropped : goal.returns-in-Dropped
unfolding number_after
returns-in-Dropped c = elim c.in-Dropped.is [ inl e ↦ rw e.2 | inr e ↦ rw e.5 ]
