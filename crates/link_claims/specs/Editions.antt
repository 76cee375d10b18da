-- "A link is opened for the first edition or the later one. .. Refusals: 18 for an edition other than 1 or 2, at opening; 5 also for a record with such an
-- edition, or with power on outside Open or under the first" (document 02, Eight).
use Rattle.std.specs.Prelude.{◌≡◌, List, true, ℕ}
use Rattle.link_state.specs.Link.{held_of, fresh}
use Rattle.link_state.specs.Opening.{opening}
use Rattle.link_state.specs.declared.Link.{Link}
use Rattle.link_state.specs.declared.Phase.TheVariants.{Open}
use Rattle.link_events.specs.Moves.{refused}
use Rattle.link_claims.specs.Calls.{Call, step, after}
use Rattle.link_claims.specs.Refusals.{refusal_of}
use Rattle.link_claims.specs.Frames.{Longer}

pub record OpeningIs : Type 0 where
  pub of_the_first : (opening 1).refusal ≡ 0
  pub of_the_later : (opening 2).refusal ≡ 0
  pub of_another : (edition : ℕ) → (edition ≡ 1 → ⊥) → (edition ≡ 2 → ⊥) → (opening edition).refusal ≡ 18
  -- the record is the fresh one, of which the theorems over lists of calls speak
  pub record_is : (edition : ℕ) → (opening edition).link ≡ fresh edition
  -- whatever the calls, a return to Start among them, the edition stays
  pub edition_stays : (edition : ℕ) (calls : List Call) → (after (opening edition).link calls).edition ≡ edition
  -- with 18 comes a record that every call refuses with 5
  pub refused_with_5 : (edition : ℕ) → (opening edition).refusal ≡ 18 → (calls : List Call) (next : Call) → (step (after (opening edition).link calls) next).saying ≡ refused 5

-- whatever else is in the record, every call refuses it with 5; and so where no longer good frame of its own edition starts with the bytes that it holds
pub record EditionJudged : Type 0 where
  pub another : (l : Link) → (l.edition ≡ 1 → ⊥) → (l.edition ≡ 2 → ⊥) → (c : Call) → refusal_of l c ≡ 5
  pub under_the_first : (l : Link) → l.power ≡ true → l.edition ≡ 1 → (c : Call) → refusal_of l c ≡ 5
  pub held : (l : Link) → (Longer l.edition (held_of l) → ⊥) → (c : Call) → refusal_of l c ≡ 5
  pub outside_open : (l : Link) → l.power ≡ true → (l.phase ≡ Open → ⊥) → (c : Call) → refusal_of l c ≡ 5
