-- A text in parts, each lent.
use Rattle.std.specs.Prelude.{ℕ, List, [], ◌∷◌, Result}
use Rattle.std.specs.Borrow.{Bor}
use Rattle.std.specs.List.{flat_map}
use Rattle.protocol.specs.declared.fault.Fault.{Fault}
use Rattle.protocol.specs.Tests.{first_failing}
use Rattle.digest.specs.Making.{limit_test}

-- the parts, one after the other
abbrev pub text_of : List (Bor (List ℕ)) → List ℕ
text_of parts = flat_map (λ p. p.now) parts

-- the answer to a digest of n bytes of a text: both within the limit
abbrev pub digests : ℕ → ℕ → Result (Unit {0}) Fault
digests text n = first_failing (limit_test text ∷ limit_test n ∷ []) (tt {0})
