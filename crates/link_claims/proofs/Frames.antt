-- A good frame is one whose type and size the tests know, and what begins a longer one is what the test says.
use Prim.Native.Nat.{ℕ, zero, suc, ◌+◌, ◌-◌, ◌≤◌, ◌<◌}
use mathlib.Core.Path.{◌≡◌, refl, sym, ap, ◌∙◌}
use mathlib.Core.List.{List, [], ◌∷◌, ◌++◌, append_assoc}
use mathlib.Core.Bool.{Bool, true, false, cond}
use native.Mathlib.Omega.{arith}
use lib.ListN.{length, get_or, take, replicate, length-append, length-replicate, length-take}
use lib.Dec.{eqb, leb, eqb-suc-zero}
use lib.Seq.{take-append_seam, take-append-le}
use borrow.Author.Tests.{eqb-true, eq-eqb, ne_eqb, le-leb, leb-true}
use Rattle.lists.proofs.Tests.{absurd_test, both}
use Rattle.fields.specs.Checksum.{xored}
use Rattle.link_frames.specs.Editions.{later_edition, power_off, most_control}
use Rattle.link_frames.specs.Frames.{most_data, heartbeat_type, status_type, baud_type, control_type, data_type, known, size, frame_of}
use Rattle.link_frames.specs.Reading.{good_start, begins, all_but_sum, lacks_sum}
use Rattle.link_claims.specs.Frames.{Good, a_heartbeat, a_status, a_baud, a_control, a_power_on, a_power_off, a_data, Longer, StartsAre}

-- ---- the greatest code
pub code_of_both : (edition code : ℕ) → code ≤ 1 → code ≤ most_control edition
unfolding most_control
code_of_both edition code h = by_test (eqb edition later_edition) where
  by_test : (t : Bool) → code ≤ cond t power_off 1
  by_test true = omega arith
  by_test false = h

pub code_of_later : (edition code : ℕ) → edition ≡ later_edition → code ≤ power_off → code ≤ most_control edition
unfolding most_control
code_of_later edition code q h = rw (eq-eqb edition later_edition q) h

module _ (edition : ℕ) where
  -- ---- the tests in the type and the contents
  module _ (t : ℕ) (cs : List ℕ) where
    start_parts : good_start edition (t ∷ cs) ≡ true → (known edition t (get_or cs 0 0) ≡ true) × (suc (length cs) ≤ size t (get_or cs 0 0))
    unfolding good_start begins
    start_parts e =
        let a = both (known edition t (get_or cs 0 0)) _ (rw eqb-suc-zero at e) in
        (a.0, leb-true (suc (length cs)) (size t (get_or cs 0 0)) a.1)

    pub is-start : known edition t (get_or cs 0 0) ≡ true → suc (length cs) ≤ size t (get_or cs 0 0) → good_start edition (t ∷ cs) ≡ true
    unfolding good_start begins
    is-start e h = rw (eqb-suc-zero, e, le-leb (suc (length cs)) (size t (get_or cs 0 0)) h)

    sum_parts : all_but_sum edition (t ∷ cs) ≡ true → (known edition t (get_or cs 0 0) ≡ true) × (suc (length cs) ≡ size t (get_or cs 0 0))
    unfolding all_but_sum lacks_sum
    sum_parts e =
        let a = both (known edition t (get_or cs 0 0)) _ e in
        (a.0, eqb-true (suc (length cs)) (size t (get_or cs 0 0)) a.1)

    pub is_all : known edition t (get_or cs 0 0) ≡ true → suc (length cs) ≡ size t (get_or cs 0 0) → all_but_sum edition (t ∷ cs) ≡ true
    unfolding all_but_sum lacks_sum
    is_all e h = rw (e, eq-eqb (suc (length cs)) (size t (get_or cs 0 0)) h)

  -- where the contents are yet to come they count as zeros
  known-empty : (t c : ℕ) → known edition t c ≡ true → (known edition t 0 ≡ true) × (1 ≤ size t 0)
  unfolding known size
  known-empty t c = by_type_lem (eqb t heartbeat_type) (eqb t status_type) (eqb t baud_type) (eqb t control_type) (eqb t data_type) where
    by_type_lem : (a b d e f : Bool) → cond a true (cond b (leb c 2) (cond d true (cond e (leb c (most_control edition)) (cond f (leb c most_data) false)))) ≡ true
        → (cond a true (cond b true (cond d true (cond e (leb 0 (most_control edition)) (cond f true false)))) ≡ true) × (1 ≤ cond a 1 (cond b 2 (cond d 5 (cond e 2 (cond f 2 0)))))
    by_type_lem true b d e f h = (refl, omega arith)
    by_type_lem false true d e f h = (refl, omega arith)
    by_type_lem false false true e f h = (refl, omega arith)
    by_type_lem false false false true f h = (le-leb 0 (most_control edition) (omega arith), omega arith)
    by_type_lem false false false false true h = (refl, omega arith)
    by_type_lem false false false false false h = absurd_test h

  -- a frame without contents has none, whatever comes
  size-one : (t c : ℕ) → size t 0 ≡ 1 → size t c ≡ 1
  unfolding size
  size-one t c = by_type_lem (eqb t heartbeat_type) (eqb t status_type) (eqb t baud_type) (eqb t control_type) (eqb t data_type) where
    by_type_lem : (a b d e f : Bool) → ◌≡◌ {A = ℕ} (cond a 1 (cond b 2 (cond d 5 (cond e 2 (cond f 2 0))))) 1 → cond a 1 (cond b 2 (cond d 5 (cond e 2 (cond f (c + 2) 0)))) ≡ 1
    by_type_lem true b d e f h = refl
    by_type_lem false true d e f h = absurd (omega arith)
    by_type_lem false false true e f h = absurd (omega arith)
    by_type_lem false false false true f h = absurd (omega arith)
    by_type_lem false false false false true h = absurd (omega arith)
    by_type_lem false false false false false h = absurd (omega arith)

  none-all : all_but_sum edition [] ≡ true → ⊥
  unfolding all_but_sum lacks_sum known
  none-all e = absurd_test e

  -- ---- all of a good frame but its checksum
  four : (cs : List ℕ) → suc (length cs) ≡ 5 → Good edition (frame_of (baud_type ∷ cs))
  four [] h = absurd (omega arith)
  four (a ∷ []) h = absurd (omega arith)
  four (a ∷ b ∷ []) h = absurd (omega arith)
  four (a ∷ b ∷ c ∷ []) h = absurd (omega arith)
  four (a ∷ b ∷ c ∷ d ∷ []) h = a_baud a b c d
  four (a ∷ b ∷ c ∷ d ∷ x ∷ cs) h = absurd (omega arith)

  -- a code that the edition has
  coded : (code : ℕ) (later : Bool) → eqb edition later_edition ≡ later → leb code (cond later power_off 1) ≡ true → Good edition (frame_of (control_type ∷ code ∷ []))
  coded zero t q e = a_control 0 (omega arith)
  coded (suc zero) t q e = a_control 1 (omega arith)
  coded (suc (suc zero)) true q e = a_power_on (eqb-true edition later_edition q)
  coded (suc (suc zero)) false q e = absurd_test e
  coded (suc (suc (suc zero))) true q e = a_power_off (eqb-true edition later_edition q)
  coded (suc (suc (suc zero))) false q e = absurd_test e
  coded (suc (suc (suc (suc code)))) true q e = absurd (omega (arith, leb-true (suc (suc (suc (suc code)))) power_off e))
  coded (suc (suc (suc (suc code)))) false q e = absurd (omega (arith, leb-true (suc (suc (suc (suc code)))) 1 e))

  full : (t : ℕ) (cs : List ℕ) → known edition t (get_or cs 0 0) ≡ true → suc (length cs) ≡ size t (get_or cs 0 0) → Good edition (frame_of (t ∷ cs))
  unfolding known size most_control
  full zero cs e h = absurd_test e
  full (suc zero) [] e h = a_heartbeat
  full (suc zero) (c ∷ cs) e h = absurd (omega arith)
  full (suc (suc zero)) [] e h = absurd (omega arith)
  full (suc (suc zero)) (c ∷ []) e h = a_status c (leb-true c 2 e)
  full (suc (suc zero)) (c ∷ d ∷ cs) e h = absurd (omega arith)
  full (suc (suc (suc zero))) cs e h = four cs h
  full (suc (suc (suc (suc zero)))) [] e h = absurd (omega arith)
  full (suc (suc (suc (suc zero)))) (c ∷ []) e h = coded c (eqb edition later_edition) refl e
  full (suc (suc (suc (suc zero)))) (c ∷ d ∷ cs) e h = absurd (omega arith)
  full (suc (suc (suc (suc (suc zero))))) [] e h = absurd (omega arith)
  full (suc (suc (suc (suc (suc zero))))) (n ∷ bs) e h =
      let q : length bs ≡ n = omega arith in
      let g : Good edition (frame_of (data_type ∷ length bs ∷ bs)) = a_data bs (omega (arith, leb-true n most_data e)) in
      rw q at g
  full (suc (suc (suc (suc (suc (suc t)))))) cs e h = absurd_test (other (suc (suc (suc (suc (suc (suc t)))))) (omega arith) e) where
    other : (t : ℕ) → 5 < t → known edition t (get_or cs 0 0) ≡ true → ◌≡◌ {A = Bool} false true
    other t h e = rw (ne_eqb t 1 (λ q. omega arith), ne_eqb t 2 (λ q. omega arith), ne_eqb t 3 (λ q. omega arith), ne_eqb t 4 (λ q. omega arith), ne_eqb t 5 (λ q. omega arith)) at e

  pub to_good : (h : List ℕ) → all_but_sum edition h ≡ true → Good edition (frame_of h)
  to_good [] e = absurd (none-all e)
  to_good (t ∷ cs) e = let p = sum_parts t cs e in full t cs p.0 p.1

  module _ (n : ℕ) (most : n ≤ most_data) where
    known_data : known edition data_type n ≡ true
    unfolding known
    known_data = le-leb n most_data most

    size_data : size data_type n ≡ n + 2
    unfolding size
    size_data = refl

    pub data_full : (xs : List ℕ) → length xs ≡ n → all_but_sum edition (data_type ∷ n ∷ xs) ≡ true
    data_full xs h = is_all data_type (n ∷ xs) known_data (omega (arith, size_data))

    pub data_start : (xs : List ℕ) → length xs ≤ n → good_start edition (data_type ∷ n ∷ xs) ≡ true
    data_start xs h = is-start data_type (n ∷ xs) known_data (omega (arith, size_data))

  -- a good frame is such bytes and their checksum
  pub record Framed (f : List ℕ) : Type 0 where
    pub front : List ℕ
    pub is-frame : f ≡ front ++ (xored 0 front ∷ [])
    pub all_but : all_but_sum edition front ≡ true

  pub framed : (f : List ℕ) → Good edition f → Framed f
  unfolding frame_of all_but_sum lacks_sum known size
  framed _ a_heartbeat = record { front = heartbeat_type ∷ []; is-frame = refl; all_but = refl }
  framed _ (a_status code h) = record { front = status_type ∷ code ∷ []; is-frame = refl; all_but = rw (le-leb code 2 h) }
  framed _ (a_baud a b c d) = record { front = baud_type ∷ a ∷ b ∷ c ∷ d ∷ []; is-frame = refl; all_but = refl }
  framed _ (a_control code h) = record { front = control_type ∷ code ∷ []; is-frame = refl; all_but = rw (le-leb code (most_control edition) (code_of_both edition code h)) }
  framed _ (a_power_on q) = record { front = control_type ∷ 2 ∷ []; is-frame = refl; all_but = rw (le-leb 2 (most_control edition) (code_of_later edition 2 q (omega arith))) }
  framed _ (a_power_off q) = record { front = control_type ∷ 3 ∷ []; is-frame = refl; all_but = rw (le-leb 3 (most_control edition) (code_of_later edition 3 q (omega arith))) }
  framed _ (a_data bs h) = record { front = data_type ∷ length bs ∷ bs; is-frame = refl; all_but = data_full (length bs) h bs refl }

  -- ---- what begins a longer good frame
  first-same : (cs : List ℕ) (k : ℕ) → get_or (cs ++ replicate k 0) 0 0 ≡ get_or cs 0 0
  first-same [] zero = refl
  first-same [] (suc k) = refl
  first-same (c ∷ cs) k = refl

  -- bytes zs that lack for a good frame, and its checksum
  lacking : (bytes zs : List ℕ) → Good edition (frame_of (bytes ++ zs)) → Longer edition bytes
  unfolding frame_of
  lacking bytes zs g =
      let last : List ℕ = xored 0 (bytes ++ zs) ∷ [] in
      record { rest = zs ++ last; some = omega (arith, length-append zs last); good = rw append_assoc at g }

  longer : (t : ℕ) (cs : List ℕ) → known edition t (get_or cs 0 0) ≡ true → suc (length cs) ≤ size t (get_or cs 0 0) → Longer edition (t ∷ cs)
  longer t cs e h =
      let k : ℕ = size t (get_or cs 0 0) - suc (length cs) in
      let n : suc (length (cs ++ replicate k 0)) ≡ size t (get_or cs 0 0) = omega (arith, length-append cs (replicate k 0), length-replicate {A = ℕ} k 0) in
      lacking (t ∷ cs) (replicate k 0) (full t (cs ++ replicate k 0) (rw (first-same cs k) e) (rw (first-same cs k) n))

  pub to_longer : (bytes : List ℕ) → good_start edition bytes ≡ true → Longer edition bytes
  to_longer [] e = lacking [] (heartbeat_type ∷ []) a_heartbeat
  to_longer (t ∷ cs) e = let p = start_parts t cs e in longer t cs p.0 p.1

  type_starts : (t c : ℕ) → known edition t c ≡ true → good_start edition (t ∷ []) ≡ true
  type_starts t c e = let p = known-empty t c e in is-start t [] p.0 p.1

  -- the start of a good frame without its checksum
  starts_all : (h : List ℕ) (k : ℕ) → all_but_sum edition h ≡ true → good_start edition (take k h) ≡ true
  unfolding good_start begins
  starts_all [] k e = absurd (none-all e)
  starts_all (t ∷ cs) zero e = refl
  starts_all (t ∷ []) (suc zero) e = type_starts t 0 (sum_parts t [] e).0
  starts_all (t ∷ []) (suc (suc k)) e = type_starts t 0 (sum_parts t [] e).0
  starts_all (t ∷ c ∷ cs) (suc zero) e = type_starts t c (sum_parts t (c ∷ cs) e).0
  starts_all (t ∷ c ∷ cs) (suc (suc k)) e =
      let p = sum_parts t (c ∷ cs) e in
      is-start t (c ∷ take k cs) p.0 (omega (arith, length-take k cs))

  prefix : (h bytes rest : List ℕ) (s : ℕ) → h ++ (s ∷ []) ≡ bytes ++ rest → 0 < length rest → bytes ≡ take (length bytes) h
  prefix h bytes rest s e k =
      let a : length h + 1 ≡ length bytes + length rest = sym (length-append h (s ∷ [])) ∙ (ap length e ∙ length-append bytes rest) in
      sym (take-append_seam bytes rest) ∙ (ap (take (length bytes)) (sym e) ∙ take-append-le (length bytes) h (s ∷ []) (omega arith))

  pub from_longer : (bytes : List ℕ) → Longer edition bytes → good_start edition bytes ≡ true
  from_longer bytes l =
      let f = framed (bytes ++ l.rest) l.good in
      rw (prefix f.front bytes l.rest (xored 0 f.front) (sym f.is-frame) l.some) (starts_all f.front (length bytes) f.all_but)

  -- nothing longer starts with all of a good frame but its checksum, and a byte
  pub not-both : (h : List ℕ) (b : ℕ) → all_but_sum edition h ≡ true → good_start edition (h ++ (b ∷ [])) ≡ true → ⊥
  not-both [] b e g = none-all e
  not-both (t ∷ []) b e g =
      let p = sum_parts t [] e in
      let q = start_parts t (b ∷ []) g in
      omega (arith, size-one t b (sym p.1))
  not-both (t ∷ c ∷ cs) b e g =
      let p = sum_parts t (c ∷ cs) e in
      let q = start_parts t (c ∷ (cs ++ (b ∷ []))) g in
      omega (arith, length-append cs (b ∷ []))

pub starts_are : StartsAre
starts_are edition bytes = (to_longer edition bytes, from_longer edition bytes)
