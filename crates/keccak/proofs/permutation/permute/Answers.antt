use Rattle.std.proofs.Common.{◌≡◌, refl, add-one, arith}
use Rattle.keccak.specs.Keccak.{rounds, keccak_f}
use Rattle.keccak.proofs.permutation.permute.Goals as goal

pub loop-constant-init : goal.loop-constant-init
unfolding rounds
loop-constant-init c = refl

pub loop-constant-preserved : goal.loop-constant-preserved
unfolding rounds
loop-constant-preserved c = rw add-one (cc)

pub returns : goal.returns
unfolding keccak_f
returns c =
    let e : c.loop-constant.constant-index ≡ 24 = omega arith in
    cc
