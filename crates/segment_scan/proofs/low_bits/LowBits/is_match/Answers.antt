-- The mask keeps the number modulo a power of two.
use Rattle.std.proofs.lemmas.Nat.{and_mask}
use Rattle.segment_scan.proofs.low_bits.LowBits.is_match.Goals as goal

pub returns : goal.returns
returns c = record { low_bits = rw (c.args.self.masked, and_mask, c.from.ensures) }
