use Rattle.std.proofs.Common.{refl}
use Rattle.keccak.specs.Tables.{walk}
use Rattle.keccak.proofs.tables.offsets_by_walk.Goals as goal

pub returns : goal.returns
unfolding walk
returns c = refl
