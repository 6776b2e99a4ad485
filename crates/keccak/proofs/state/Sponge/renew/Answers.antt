use Rattle.std.proofs.Common.{arith}
use Rattle.keccak.proofs.Squeezed.{renewed}
use Rattle.keccak.proofs.state.Sponge.renew.Goals as goal

pub returns-then-self-clause-same : goal.returns-then-self-clause-same
returns-then-self-clause-same g c = λ i. renewed g.row.RATE c.args.self.now.lanes c.permute.new.lanes c.args.self.now.used i (omega arith) (omega arith) c.permute.ensures
