-- What a digest maker means, and what its calls do to it.
use Rattle.std.specs.Prelude.{◌≡◌, ℕ, ◌+◌, ◌≤◌, List, [], ◌∷◌, ◌++◌, length, Result, nat_lt}
use Rattle.protocol.specs.declared.fault.Fault.{Fault}
use Rattle.protocol.specs.declared.fault.Fault.TheVariants.{Turn, PastLimit}
use Rattle.protocol.specs.Streams.{Digest, first_bytes}
use Rattle.protocol.specs.Tests.{Test, first_failing}

-- how many bytes a maker takes, and gives, at most
abbrev pub limit : ℕ
limit = 4294967295

-- the number of bytes taken, the number drawn, and for further bytes the stream still to come if they were taken
pub record Making : Type 0 where
  pub taken : ℕ
  pub drawn : ℕ
  pub rule : Digest

abbrev pub WithinLimit : Making → Type 0
WithinLimit m = (m.taken ≤ limit) × (m.drawn ≤ limit)

abbrev pub turn_test : Making → Test
turn_test m = record { fails = nat_lt 0 m.drawn; fault = Turn }

abbrev pub limit_test : ℕ → Test
limit_test n = record { fails = nat_lt limit n; fault = PastLimit }

-- the answer to a take of n bytes, and to a draw of n bytes
abbrev pub takes : Making → ℕ → Result (Unit {0}) Fault
takes m n = first_failing (turn_test m ∷ limit_test (m.taken + n) ∷ []) (tt {0})

abbrev pub draws : Making → ℕ → Result (Unit {0}) Fault
draws m n = first_failing (limit_test (m.drawn + n) ∷ []) (tt {0})

-- a maker of the kind F that was begun, has taken the text since, and gave nothing
pub record Holding (F : Digest) (text : List ℕ) (m : Making) : Type 0 where
  pub taken : m.taken ≡ length text
  pub drawn : m.drawn ≡ 0
  pub rule_is : (x : List ℕ) (i : ℕ) → m.rule x i ≡ F (text ++ x) i

-- m' is m after it took y
pub record Took (y : List ℕ) (m m' : Making) : Type 0 where
  pub taken : m'.taken ≡ m.taken + length y
  pub drawn : m'.drawn ≡ m.drawn
  pub rule_is : (x : List ℕ) (i : ℕ) → m'.rule x i ≡ m.rule (y ++ x) i

-- m' is m after out was drawn; if nothing was ever drawn, the whole rule stands
pub record Drew (out : List ℕ) (m m' : Making) : Type 0 where
  pub bytes : out ≡ first_bytes (m.rule []) (length out)
  pub taken : m'.taken ≡ m.taken
  pub drawn : m'.drawn ≡ m.drawn + length out
  pub rest : (i : ℕ) → m'.rule [] i ≡ m.rule [] (length out + i)
  pub undrawn : m'.drawn ≡ 0 → (x : List ℕ) (i : ℕ) → m'.rule x i ≡ m.rule x i
