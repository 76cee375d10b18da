-- Data laid over flash with 0xFF up to the next sector: what then stands where, and that nothing else stands so.
use mathlib.Core.Path.{◌≡◌, sym, ap, ◌∙◌}
use mathlib.Core.List.{List, ◌++◌, append_assoc}
use Prim.Native.Nat.{ℕ, ◌+◌, ◌-◌, ◌≤◌}
use native.Mathlib.Omega.{arith}
use lib.ListN.{length, take, drop, replicate, length-append, length-take, length-replicate, take-append-drop}
use lib.Seq.{take_at, drop_at, drop-drop}
use Rattle.lists.specs.Lay.{lay}
use Rattle.lists.proofs.Laid.{take-lay, drop-lay, rest-lay}
use Rattle.esp_begin.specs.Begin.{round_up}
use Rattle.esp_begin.specs.declared.Begin.{Begin}
use Rattle.esp_begin.proofs.Sectors.{round_le}
use Rattle.grammar.specs.Loaded.{Loaded}

-- 0xFF from n up to the next sector
abbrev pub erased_from : ℕ → List ℕ
erased_from n = replicate (round_up n - n) 0xFF

-- what stands when n bytes d are laid, and 0xFF up to the next sector
module _ (off n : ℕ) (f d : List ℕ) (e : length d ≡ n) (h : off + round_up n ≤ length f) where
  tail : drop off (lay f off (d ++ erased_from n)) ≡ d ++ (erased_from n ++ drop (off + length (d ++ erased_from n)) f)
  tail = drop-lay f off (d ++ erased_from n) (omega arith) ∙ append_assoc d (erased_from n) _

  data_read : take n (drop off (lay f off (d ++ erased_from n))) ≡ d
  data_read = rw tail (take_at d _ n e)

  erased-read : take (round_up n - n) (drop (off + n) (lay f off (d ++ erased_from n))) ≡ erased_from n
  erased-read =
      rw (← drop-drop n off, tail, drop_at d (erased_from n ++ drop (off + length (d ++ erased_from n)) f) n e)
      (take_at (erased_from n) _ (round_up n - n) (length-replicate _ _))

  above-read : drop (off + round_up n) (lay f off (d ++ erased_from n)) ≡ drop (off + round_up n) f
  above-read = rest-lay f off (d ++ erased_from n) (round_up n) (omega arith) (simp (length-append, length-replicate) (omega (arith, round_le n)))

module _ (g : Begin) (d f : List ℕ) (enough : g.size ≤ length d) (within : g.offset + round_up g.size ≤ length f) where
  -- the announced bytes
  abbrev part : List ℕ
  part = take g.size d

  abbrev laid : List ℕ
  laid = lay f g.offset (part ++ erased_from g.size)

  part_length : length part ≡ g.size
  part_length = simp length-take (omega arith)

  pub laid_loaded : Loaded g d f laid
  laid_loaded =
      record {
        announced = data_read g.offset g.size f part part_length within;
        erased = erased-read g.offset g.size f part part_length within;
        below = take-lay f g.offset _ (omega arith);
        above = above-read g.offset g.size f part part_length within;
      }

  -- flash is what stands below the offset, the announced bytes, those that are erased, and what stands above
  in_parts : (after : List ℕ)
      → after ≡ take g.offset after ++ (take g.size (drop g.offset after)
      ++ (take (round_up g.size - g.size) (drop (g.offset + g.size) after) ++ drop (g.offset + round_up g.size) after))
  in_parts after =
      let up : g.size ≤ round_up g.size = round_le g.size in
      let above : g.offset + g.size + (round_up g.size - g.size) ≡ g.offset + round_up g.size = omega arith in
      let c : drop (round_up g.size - g.size) (drop (g.offset + g.size) after) ≡ drop (g.offset + round_up g.size) after =
      drop-drop (round_up g.size - g.size) (g.offset + g.size) after ∙ ap (λ n. drop n after) above in
      let b : drop g.size (drop g.offset after) ≡ drop (g.offset + g.size) after = drop-drop g.size g.offset after in
      sym (take-append-drop g.offset after)
      ∙ ap (λ r. take g.offset after ++ r)
      (sym (take-append-drop g.size (drop g.offset after))
      ∙ ap (λ r. take g.size (drop g.offset after) ++ r)
      (b ∙ sym (take-append-drop (round_up g.size - g.size) (drop (g.offset + g.size) after))
      ∙ ap (λ r. take (round_up g.size - g.size) (drop (g.offset + g.size) after) ++ r) c))

  laid_length : length (part ++ erased_from g.size) ≡ round_up g.size
  laid_length = simp (length-append, length-replicate) (omega (arith, part_length, round_le g.size))

  pub loaded_laid : (after : List ℕ) → Loaded g d f after → after ≡ laid
  unfolding lay
  loaded_laid after h =
      in_parts after
      ∙ rw (h.below, h.announced, h.erased, h.above, laid_length) (ap (λ r. take g.offset f ++ r) (sym (append_assoc part (erased_from g.size) _)))
