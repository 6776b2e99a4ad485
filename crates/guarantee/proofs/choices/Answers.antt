use Rattle.guarantee.proofs.Choosing.{selected_picked, length-hidden, hidden_below, unpacked_packed}
use Rattle.guarantee.proofs.Counting.{ones_packed}
use Rattle.guarantee.proofs.choices.Goals as goal
use Rattle.std.proofs.Common.{arith}

pub returns : goal.returns
returns c = record {
  selection = λ s m sigma h. let p = selected_picked s m sigma h in (p.long, p.flag, p.many);
  hidden = λ s n tau some. (length-hidden s n tau, λ e less. hidden_below s n tau e some less);
  packing = λ flags n m small long room. (unpacked_packed flags n m small long room, ones_packed flags n small (omega arith));
}
