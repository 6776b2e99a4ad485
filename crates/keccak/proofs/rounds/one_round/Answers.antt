use Rattle.keccak.specs.Keccak.{round, iota}
use Rattle.keccak.proofs.rounds.one_round.Goals as goal

pub returns : goal.returns
unfolding round iota
returns c = cc
