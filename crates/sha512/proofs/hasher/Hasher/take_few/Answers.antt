use Rattle.std.proofs.Common.{arith, rules}
use Rattle.sha512.specs.Hashing.{after}
use Rattle.sha512.proofs.Absorbing.{few_held, few_filled}
use Rattle.sha512.proofs.hasher.Hasher.take_few.Goals as goal

pub returns-then-end-eq-BLOCK : goal.returns-then-end-eq-BLOCK
unfolding after
returns-then-end-eq-BLOCK c = record {
  words = few_filled c.args.self.now.words c.args.self.now.block c.args.bytes.now _ c.args.self.now.total _ _
      c.filled-filled.ensures (search rules) c.copy_from_slice.ensures.after _ (omega arith) (omega arith) c.compress.ensures;
  total = search rules;
}

pub returns-else-end-eq-BLOCK : goal.returns-else-end-eq-BLOCK
unfolding after
returns-else-end-eq-BLOCK c = record {
  words = few_held c.args.self.now.words c.args.self.now.block c.args.bytes.now _ c.args.self.now.total _ _
      c.filled-filled.ensures (search rules) c.copy_from_slice.ensures.after (omega arith);
  total = search rules;
}
