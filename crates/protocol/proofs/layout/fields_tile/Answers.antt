use Rattle.protocol.proofs.Tiling as tiling
use Rattle.protocol.proofs.layout.fields_tile.Goals as goal

pub returns : goal.returns
returns c = tiling.fields_tile
