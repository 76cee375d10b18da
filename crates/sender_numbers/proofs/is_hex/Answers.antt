use Rattle.std.proofs.Common.{rules}
use Rattle.sender_numbers.proofs.Library.{hex_told}
use Rattle.sender_numbers.proofs.is_hex.Goals as goal

pub returns-then-starts_with : goal.returns-then-starts_with
returns-then-starts_with c = let h = hex_told c.args.text.now in search rules

pub returns-else-starts_with : goal.returns-else-starts_with
returns-else-starts_with c = let h = hex_told c.args.text.now in search rules
