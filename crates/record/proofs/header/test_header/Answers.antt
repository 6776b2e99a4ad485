use Rattle.std.proofs.Common.{rules}
use Rattle.protocol.proofs.Heads.{read_back}
use Rattle.record.proofs.header.test_header.Goals as goal

pub returns : goal.returns
returns c =
    let known = c.in_ok-test_kind.ensures.known in
    let bytes = c.args.bytes.now in
    let again = read_back bytes c.requires (λ i. (c.type_inv.bytes i).fits) known.0 known.1 known.2 in
    record { says = search rules; back = simp (c.in_ok-set.ensures.says, c.word-version.ensures, c.word-n.ensures, c.word-m.ensures, c.word-a.ensures) again }
