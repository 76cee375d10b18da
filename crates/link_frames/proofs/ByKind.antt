-- One of six by the type that a byte stands for.
use Prim.Native.Nat.{ℕ}
use mathlib.Core.Path.{◌≡◌, refl}
use mathlib.Core.Bool.{Bool, true, false, cond}
use lib.Dec.{eqb}
use Rattle.std.proofs.Common.{Result, Ok, Err}
use Rattle.link_frames.specs.Frames.{by_type, heartbeat_type, status_type, baud_type, control_type, data_type}
use Rattle.link_frames.specs.Kinds.{kind_of}
use Rattle.link_frames.specs.declared.kinds.Kind.{Kind}
use Rattle.link_frames.specs.declared.kinds.Kind.TheVariants.{Heartbeat, Status, Baud, Control, Data}
use Rattle.link_frames.specs.declared.kinds.UnknownKind.{UnknownKind}

module _ {A : Type 0} where
  abbrev pub by_kind : Result Kind UnknownKind → A → A → A → A → A → A → A
  by_kind (Ok Heartbeat) heartbeat status baud control bytes none = heartbeat
  by_kind (Ok Status) heartbeat status baud control bytes none = status
  by_kind (Ok Baud) heartbeat status baud control bytes none = baud
  by_kind (Ok Control) heartbeat status baud control bytes none = control
  by_kind (Ok Data) heartbeat status baud control bytes none = bytes
  by_kind (Err e) heartbeat status baud control bytes none = none

  pub kind_found : (byte : ℕ) (r : Result Kind UnknownKind) (a b c d e f : A) → r ≡ kind_of byte → by_kind r a b c d e f ≡ by_type byte a b c d e f
  unfolding kind_of
  kind_found byte r a b c d e f h =
      rw h (by_tests (eqb byte heartbeat_type) (eqb byte status_type) (eqb byte baud_type) (eqb byte control_type) (eqb byte data_type)) where
        by_tests : (s t u v w : Bool)
            → by_kind (cond s (Ok Heartbeat) (cond t (Ok Status) (cond u (Ok Baud) (cond v (Ok Control) (cond w (Ok Data) (Err (record {}))))))) a b c d e f
            ≡ cond s a (cond t b (cond u c (cond v d (cond w e f))))
        by_tests true t u v w = refl
        by_tests false true u v w = refl
        by_tests false false true v w = refl
        by_tests false false false true w = refl
        by_tests false false false false true = refl
        by_tests false false false false false = refl
