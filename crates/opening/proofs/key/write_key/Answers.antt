use Rattle.std.proofs.Common.{arith}
use Rattle.protocol.specs.Of.{parameters}
use Rattle.opening.proofs.Keys.{wrote_key}
use Rattle.opening.proofs.key.write_key.Goals as goal

pub returns : goal.returns
returns c =
    wrote_key (parameters c.args.kept.header) c.args.seed_a.now c.args.kept.flags.now c.args.values.now _ c.args.out.now c.put_secret.new.out _ (omega arith)
    c.put_secret.ensures c.put_public.ensures
