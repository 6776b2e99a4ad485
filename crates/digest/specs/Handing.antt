-- What a call leaves of the makers that were lent to it.
use Rattle.std.specs.Prelude.{◌≡◌, Bool, true, false, ◌||◌, [], Ok, Err, Result, ◌==◌}
use Rattle.protocol.specs.declared.fault.Fault.{Fault}
use Rattle.protocol.specs.Faults.{number}
use Rattle.protocol.specs.Streams.{Digest}
use Rattle.digest.specs.Making.{Making, Holding}

-- a call that is refused so had digested already: d1 or d2 is not met, or is not the ceremony's
abbrev pub after_digests : Fault → Bool
after_digests f = number f == 8 || (number f == 9 || number f == 11)

-- a maker that was used is handed back begun, and one that was not is as it was
abbrev pub HandedBack : {X : Type 0} → Digest → Result X Fault → Making → Making → Type 0
HandedBack F (Ok x) m m' = Holding F [] m'
HandedBack F (Err f) m m' = (after_digests f ≡ true → Holding F [] m') × (after_digests f ≡ false → m' ≡ m)
