-- "A link is opened for the first edition or the later one." "Refusals: 18 for an edition other than 1 or 2, at opening" (document 02, Eight).
use Rattle.std.specs.Prelude.{ℕ, cond}
use Rattle.link_frames.specs.Editions.{is_edition}
use Rattle.link_state.specs.Link.{fresh}
use Rattle.link_state.specs.declared.Opening.{Opening}

abbrev pub unknown_edition : ℕ
unknown_edition = 18

-- 0 where the link is opened; with 18 comes a record of that edition, which every call refuses with 5
unfoldable pub opening : ℕ → Opening
opening edition = record { refusal = cond (is_edition edition) 0 unknown_edition; link = fresh edition }
