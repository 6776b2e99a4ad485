-- Ordered tests: the first that fails refuses.
use Rattle.std.specs.Prelude.{Bool, cond, List, [], ◌∷◌, Ok, Err, Result}
use Rattle.protocol.specs.declared.fault.Fault.{Fault}

-- a test, with the refusal that it gives where it fails
pub record Test : Type 0 where
  pub fails : Bool
  pub fault : Fault

-- the refusal of the first test that fails, or the answer where none does
abbrev pub first_failing : {X : Type 0} → List Test → X → Result X Fault
first_failing [] x = Ok x
first_failing (t ∷ ts) x = cond t.fails (Err t.fault) (first_failing ts x)

-- one stage after another, unless the first is refused
abbrev pub after : {X Y : Type 0} → Result X Fault → (X → Result Y Fault) → Result Y Fault
after (Ok x) next = next x
after (Err e) next = Err e
