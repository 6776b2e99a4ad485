use Rattle.std.proofs.Common.{refl}
use Rattle.keccak.specs.Tables.{register, round_constant}
use Rattle.keccak.proofs.tables.constants_by_register.Goals as goal

pub returns : goal.returns
unfolding register round_constant
returns c = refl
