use Rattle.std.proofs.Common.{◌++◌, length, ap, ◌∙◌}
use Rattle.protocol.specs.Bytes.{le16}
use Rattle.protocol.specs.Parameters.{modulus}
use Rattle.protocol.specs.Streams.{first_bytes}
use Rattle.keccak.specs.Sponge.{shake128}
use Rattle.protocol.specs.Sets.{number}
use Rattle.lattice.proofs.Streams.{pairs_of_front}
use Rattle.lattice.proofs.rows.fill_row.Goals as goal

pub returns : goal.returns
returns c =
    c.read_residues.ensures
    ∙ pairs_of_front (modulus (number c.args.set)) (shake128 (le16 c.args.i ++ c.args.seed.now)) c.row_bytes.new.bytes
    (length c.args.row.now) (c.row_bytes.ensures ∙ ap (first_bytes (shake128 (le16 c.args.i ++ c.args.seed.now))) c.requires)
