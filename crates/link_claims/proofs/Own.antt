-- Frames that are written are read for what they are.
use Prim.Native.Nat.{ℕ, suc, ◌+◌, ◌≤◌, ◌<◌, ◌^◌}
use mathlib.Core.Path.{◌≡◌, refl, ◌∙◌}
use mathlib.Core.List.{List, [], ◌∷◌, ◌++◌, append_assoc, append-nil}
use mathlib.Core.Bool.{true, false}
use native.Mathlib.Omega.{arith}
use lib.ListN.{length, length-append}
use borrow.Author.Tests.{eq-eqb, ne_eqb, le-leb}
use Rattle.fields.specs.Words.{word, bytes_of}
use Rattle.fields.specs.Checksum.{xored}
use Rattle.fields.proofs.Theorems.{word_back}
use Rattle.link_frames.specs.Editions.{later_edition, most_control}
use Rattle.link_frames.specs.Frames.{most_data, heartbeat_type, status_type, baud_type, control_type, data_type, known, size, frame_of, heartbeat, status, control, data_frame}
use Rattle.link_frames.specs.Reading.{good_start, begins, all_but_sum, lacks_sum, reading}
use Rattle.link_claims.specs.Own.{frame, read_from, ReadsOwn}
use Rattle.link_claims.proofs.Frames.{code_of_both, code_of_later, data_full, data_start}

rate-back : (rate : ℕ) → rate < 2 ^ 32 → word (baud_type ∷ bytes_of rate) 1 ≡ rate
unfolding word
rate-back rate h = word_back rate h

module _ (edition : ℕ) where
  module _ (h : List ℕ) (b : ℕ) (bs : List ℕ) where
    -- the byte is the checksum
    closes : all_but_sum edition h ≡ true → b ≡ xored 0 h → read_from edition h (b ∷ bs) ≡ frame h bs
    unfolding read_from reading
    closes e q = rw (e, eq-eqb b (xored 0 h) q)

    -- the byte is held
    goes_on : all_but_sum edition h ≡ false → good_start edition (h ++ (b ∷ [])) ≡ true → read_from edition h (b ∷ bs) ≡ read_from edition (h ++ (b ∷ [])) bs
    unfolding read_from reading
    goes_on e q = rw (e, q)

  heartbeat-read : (rest : List ℕ) → read_from edition [] (heartbeat ++ rest) ≡ frame (heartbeat_type ∷ []) rest
  unfolding frame_of xored read_from reading all_but_sum good_start lacks_sum begins known size
  heartbeat-read rest = refl

  status-read : (code : ℕ) → code ≤ 2 → (rest : List ℕ) → read_from edition [] (status code ++ rest) ≡ frame (status_type ∷ code ∷ []) rest
  unfolding frame_of all_but_sum good_start lacks_sum begins known size
  status-read code h rest =
      goes_on [] status_type _ refl refl
      ∙ (goes_on (status_type ∷ []) code _ refl (rw (le-leb code 2 h))
      ∙ closes (status_type ∷ code ∷ []) _ rest (rw (le-leb code 2 h)) refl)

  control-read : (code : ℕ) → code ≤ most_control edition → (rest : List ℕ) → read_from edition [] (control code ++ rest) ≡ frame (control_type ∷ code ∷ []) rest
  unfolding frame_of all_but_sum good_start lacks_sum begins known size
  control-read code h rest =
      goes_on [] control_type _ refl (rw (le-leb 0 (most_control edition) (omega arith)))
      ∙ (goes_on (control_type ∷ []) code _ (rw (le-leb 0 (most_control edition) (omega arith))) (rw (le-leb code (most_control edition) h))
      ∙ closes (control_type ∷ code ∷ []) _ rest (rw (le-leb code (most_control edition) h)) refl)

  four-read : (a b c d : ℕ) (rest : List ℕ) → read_from edition [] (frame_of (baud_type ∷ a ∷ b ∷ c ∷ d ∷ []) ++ rest) ≡ frame (baud_type ∷ a ∷ b ∷ c ∷ d ∷ []) rest
  unfolding frame_of all_but_sum good_start lacks_sum begins known size
  four-read a b c d rest =
      goes_on [] baud_type _ refl refl
      ∙ (goes_on (baud_type ∷ []) a _ refl refl
      ∙ (goes_on (baud_type ∷ a ∷ []) b _ refl refl
      ∙ (goes_on (baud_type ∷ a ∷ b ∷ []) c _ refl refl
      ∙ (goes_on (baud_type ∷ a ∷ b ∷ c ∷ []) d _ refl refl
      ∙ closes (baud_type ∷ a ∷ b ∷ c ∷ d ∷ []) _ rest refl refl))))

  module _ (n : ℕ) (most : n ≤ most_data) where
    data_short : (xs : List ℕ) → length xs < n → all_but_sum edition (data_type ∷ n ∷ xs) ≡ false
    unfolding all_but_sum lacks_sum known size
    data_short xs h = rw (le-leb n most_data most, ne_eqb (suc (suc (length xs))) (n + 2) (λ e. omega arith))

    data_read : (xs ys rest : List ℕ) (sum : ℕ) → length xs + length ys ≡ n → sum ≡ xored 0 (data_type ∷ n ∷ (xs ++ ys))
        → read_from edition (data_type ∷ n ∷ xs) (ys ++ (sum ∷ rest)) ≡ frame (data_type ∷ n ∷ (xs ++ ys)) rest
    data_read xs [] rest sum h e =
        rw append-nil (closes (data_type ∷ n ∷ xs) sum rest (data_full edition n most xs (omega arith)) (rw append-nil at e))
    data_read xs (y ∷ ys) rest sum h e =
        let a : (xs ++ (y ∷ [])) ++ ys ≡ xs ++ (y ∷ ys) = append_assoc xs (y ∷ []) ys in
        goes_on (data_type ∷ n ∷ xs) y (ys ++ (sum ∷ rest)) (data_short xs (omega arith)) (data_start edition n most (xs ++ (y ∷ [])) (omega (arith, length-append xs (y ∷ []))))
        ∙ rw a at (data_read (xs ++ (y ∷ [])) ys rest sum (omega (arith, length-append xs (y ∷ []))) (rw a e))

  own_data : (bytes : List ℕ) → length bytes ≤ most_data → (rest : List ℕ) → read_from edition [] (data_frame bytes ++ rest) ≡ frame (data_type ∷ length bytes ∷ bytes) rest
  unfolding frame_of all_but_sum lacks_sum good_start begins known size
  own_data bytes h rest =
      let a : (bytes ++ (xored 0 (data_type ∷ length bytes ∷ bytes) ∷ [])) ++ rest ≡ bytes ++ (xored 0 (data_type ∷ length bytes ∷ bytes) ∷ rest) = append_assoc bytes _ rest in
      rw a
      (goes_on [] data_type _ refl refl
      ∙ (goes_on (data_type ∷ []) (length bytes) _ refl (data_start edition (length bytes) h [] (omega arith))
      ∙ data_read (length bytes) h [] bytes rest _ (omega arith) refl))

pub reads_own : ReadsOwn
reads_own =
    record {
      heartbeats = heartbeat-read;
      statuses = status-read;
      bauds = λ edition rate. four-read edition _ _ _ _;
      rates = rate-back;
      controls = λ edition code h. control-read edition code (code_of_both edition code h);
      powers = λ code low high. control-read later_edition code (code_of_later later_edition code refl high);
      data_frames = own_data;
    }
