use Rattle.std.proofs.Common.{◌-◌, sym, ◌∙◌, arith}
use Rattle.protocol.specs.Of.{parameters}
use Rattle.protocol.proofs.Tiling.{behind}
use Rattle.protocol.proofs.header.Header.field.Goals as goal

pub returns : goal.returns
returns c = c.block_field.ensures ∙ sym (behind (parameters c.args.self) c.args.index (c.args.index - 16) (omega arith))
