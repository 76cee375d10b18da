use native.Mathlib.Omega.{arith}
use Rattle.slip_unframing.proofs.Steps.{stores, stores_no_space, stores_no_more}
use Rattle.slip_unframing.proofs.store_byte.Goals as goal

pub returns-then-held-buffer : goal.returns-then-held-buffer
returns-then-held-buffer c = stores c.args.held _ c.args.buffer.now _ (omega arith) (omega arith) c.silent.ensures

pub returns-then-held-lt-LONGEST : goal.returns-then-held-lt-LONGEST
returns-then-held-lt-LONGEST c = stores_no_space c.args.held _ _ _ (omega arith) (omega arith) c.silent-then-held-lt-LONGEST.ensures

pub returns : goal.returns
returns c = stores_no_more c.args.held _ _ _ (omega arith) c.silent-2.ensures
