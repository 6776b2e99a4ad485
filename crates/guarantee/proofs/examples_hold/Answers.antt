use Rattle.std.proofs.Common.{refl}
use Rattle.protocol.specs.Flags.{packed}
use Rattle.protocol.specs.Selection.{hidden_parties}
use Rattle.guarantee.proofs.examples_hold.Goals as goal

pub returns : goal.returns
unfolding packed hidden_parties
returns c = (refl, (refl, ((refl, refl), ((refl, refl), ((refl, refl), ((refl, refl), (refl, ((refl, refl, refl), tt))))))))
