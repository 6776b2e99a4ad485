use Rattle.std.proofs.Common.{◌≡◌, ◌*◌, ◌/◌, ◌<◌, true, false, leb, length, sym, arith, below_more}
use Rattle.std.proofs.lemmas.Bool.Decides.{nat_tests}
use Rattle.protocol.specs.Bytes.{word}
use Rattle.guarantee.proofs.Passing.{first_fails}
use Rattle.ranges.specs.Parts.{residue_test}
use Rattle.ranges.proofs.Fields.{none_fails, entry_is}
use Rattle.ranges.proofs.parts.test_residues.Goals as goal

pub loop-i-preserved : goal.loop-i-preserved
loop-i-preserved c =
    let bytes = c.args.part.bytes.now in
    let less : c.loop-i.i < length bytes / 2 = omega (arith, c.loop-i-test.true, c.as_chunks.ensures.front_len) in
    let entry = entry_is bytes c.as_chunks.result.0.now c.loop-i.i c.from_le_bytes.result c.as_chunks.ensures.front less c.from_le_bytes.ensures in
    let below : leb c.args.q (word bytes (2 * c.loop-i.i)) ≡ false = grind (arith, nat_tests) in
    below_more _ _ c.loop-i.invariant below

pub returns-then-from_le_bytes-q : goal.returns-then-from_le_bytes-q
returns-then-from_le_bytes-q c =
    let bytes = c.args.part.bytes.now in
    let less : c.loop-i.i < length bytes / 2 = omega (arith, c.loop-i-test.true, c.as_chunks.ensures.front_len) in
    let entry = entry_is bytes c.as_chunks.result.0.now c.loop-i.i c.from_le_bytes.result c.as_chunks.ensures.front less c.from_le_bytes.ensures in
    let past : leb c.args.q (word bytes (2 * c.loop-i.i)) ≡ true = grind (arith, nat_tests) in
    sym (first_fails (residue_test bytes c.args.part.offset c.args.q) (length bytes / 2) c.loop-i.i (tt {0}) less c.loop-i.invariant past)

pub returns : goal.returns
returns c =
    let bytes = c.args.part.bytes.now in
    sym (none_fails (residue_test bytes c.args.part.offset c.args.q) (length bytes / 2) c.loop-i.i (omega (arith, c.loop-i-test.false, c.as_chunks.ensures.front_len)) c.loop-i.invariant)
