use Rattle.std.proofs.Common.{◌*◌, vec_items}
use Rattle.hexadecimal.proofs.Decoding.{Read}
use Rattle.hexadecimal.proofs.reading.decode.Given as goal

abbrev pub invariant-loop-k : goal.invariant-loop-k
invariant-loop-k l = Read l.text (vec_items l.bytes) (2 * l.k)
