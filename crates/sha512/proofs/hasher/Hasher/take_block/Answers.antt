use Rattle.std.proofs.Common.{refl, arith, rules}
use Rattle.sha512.proofs.Absorbing.{taken_block}
use Rattle.sha512.proofs.hasher.Hasher.take_block.Goals as goal

pub returns : goal.returns
returns c = record {
  taken = taken_block c.args.self.now _ c.args.block.now c.requires.none (search rules) c.compress.ensures refl;
  none = omega (arith, c.requires.none);
}
