use Rattle.std.proofs.Common.{length, sym, ap, ◌∙◌}
use Rattle.protocol.specs.Of.{parameters}
use Rattle.sharing.proofs.Reading.{seed_a_long}
use Rattle.sharing.proofs.checked.Checked.seed_a.Goals as goal

pub copy_from_slice-requires : goal.copy_from_slice-requires
copy_from_slice-requires c = sym (ap length c.part.ensures.holds ∙ seed_a_long (parameters c.args.self.whole.view.header) c.args.self.whole.view.bytes.now c.args.self.whole.long)
