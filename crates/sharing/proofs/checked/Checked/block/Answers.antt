use Rattle.std.proofs.Common.{length, ap, ◌∙◌}
use Rattle.protocol.specs.Of.{parameters}
use Rattle.sharing.proofs.Reading.{commitment_long, seeds_long, offsets_long}
use Rattle.sharing.proofs.checked.Checked.block.Goals as goal

pub returns : goal.returns
returns c =
    let p = parameters c.args.self.whole.view.header in
    let r = c.args.self.whole.view.bytes.now in
    record {
      commitment = c.part.ensures.holds;
      commitment_long = ap length c.part.ensures.holds ∙ commitment_long p r c.args.self.whole.long c.args.self.number c.args.self.within;
      seeds = c.part-2.ensures.holds;
      seeds_long = ap length c.part-2.ensures.holds ∙ seeds_long p r c.args.self.whole.long c.args.self.number c.args.self.within;
      offsets = c.part-3.ensures.holds;
      offsets_long = ap length c.part-3.ensures.holds ∙ offsets_long p r c.args.self.whole.long c.args.self.number c.args.self.within;
    }
