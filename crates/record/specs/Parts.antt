-- A part of a record, as the reader hands it out.
use Rattle.std.specs.Prelude.{◌≡◌, ℕ, List}
use Rattle.record.specs.declared.view.Part.{Part}
use Rattle.protocol.specs.Bytes.{part}

-- it begins at this offset of the bytes, and has that many of them
pub record Lies (p : Part) (bytes : List ℕ) (offset size : ℕ) : Type 0 where
  pub begins : p.offset ≡ offset
  pub holds : p.bytes.now ≡ part bytes offset size
