use Rattle.std.proofs.Common.{◌%◌, ◌+◌, ◌^◌, get_or, rules}
use Rattle.sha512.specs.Sha512.{sums}
use Rattle.sha512.proofs.Arrays.{made_all}
use Rattle.sha512.proofs.compression.added.Goals as goal

pub returns : goal.returns
unfolding sums
returns c =
    made_all _ _ (λ k. (get_or c.args.words k 0 + get_or c.args.v k 0) % 2 ^ 64) (λ i y q call. search rules)
    c.from_fn.result 0 8 c.from_fn.ensures.items
