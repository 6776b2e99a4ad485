use Rattle.std.proofs.Common.{ap, ◌∙◌, arith}
use Rattle.std.specs.List.{flat_map}
use Rattle.protocol.specs.Book.{wrote}
use Rattle.protocol.specs.Bytes.{le16}
use Rattle.protocol.specs.Of.{parameters}
use Rattle.opening.proofs.Keys.{secret_first}
use Rattle.opening.proofs.key.put_secret.Goals as goal

pub returns : goal.returns
returns c =
    c.put_words.ensures
    ∙ ap (λ ws. wrote c.args.at (flat_map le16 ws) c.args.out.now)
    (secret_first (parameters c.args.kept.header) c.args.kept.flags.now c.args.values.now c.gather_kept.new.out c.entries.result _ c.gather_kept.ensures c.entries.ensures (omega arith))
