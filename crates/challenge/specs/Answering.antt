-- What a challenger means, and what its calls do to it.
use Rattle.std.specs.Prelude.{◌≡◌, ℕ, ◌+◌, not, List, [], ◌∷◌, length, is_some, Some, None, Option, Result, option_map}
use Rattle.std.specs.Option.{option_map_or}
use Rattle.protocol.specs.declared.fault.Fault.{Fault}
use Rattle.protocol.specs.declared.fault.Fault.TheVariants.{Turn}
use Rattle.protocol.specs.Streams.{Digest, First, Second, first_bytes}
use Rattle.protocol.specs.Tests.{Test, first_failing}
use Rattle.digest.specs.Making.{Making, limit_test}

-- both answers, the rest of the stream last started, if any, and the number of bytes filled from it since
pub record Answering : Type 0 where
  pub first : First
  pub second : Second
  pub rest : Option (ℕ → ℕ)
  pub filled : ℕ

-- the stream that goes on; none is as good as zeros, since nothing is filled from it
abbrev pub stream_of : Option (ℕ → ℕ) → ℕ → ℕ
stream_of (Some s) = s
stream_of None = λ _. 0

abbrev pub asked_test : Answering → Test
asked_test m = record { fails = not (is_some m.rest); fault = Turn }

-- the answer to a fill of n bytes
abbrev pub nexts : Answering → ℕ → Result (Unit {0}) Fault
nexts m n = first_failing (asked_test m ∷ limit_test (m.filled + n) ∷ []) (tt {0})

-- m' is m after the stream s was started
pub record Started (s : ℕ → ℕ) (m m' : Answering) : Type 0 where
  pub first : m'.first ≡ m.first
  pub second : m'.second ≡ m.second
  pub rest : m'.rest ≡ Some s
  pub filled : m'.filled ≡ 0

-- m' is m after out was filled
pub record Filled (out : List ℕ) (m m' : Answering) : Type 0 where
  pub bytes : out ≡ first_bytes (stream_of m.rest) (length out)
  pub first : m'.first ≡ m.first
  pub second : m'.second ≡ m.second
  pub rest : m'.rest ≡ Some (λ i. stream_of m.rest (length out + i))
  pub filled : m'.filled ≡ m.filled + length out

-- u bytes of the stream s were filled since it was started, and both answers are those of o
pub record Reading (s : ℕ → ℕ) (u : ℕ) (o m : Answering) : Type 0 where
  pub first : m.first ≡ o.first
  pub second : m.second ≡ o.second
  pub rest : m.rest ≡ Some (λ i. s (u + i))
  pub filled : m.filled ≡ u

-- answers that are drawn on texts, by a maker of the kind F
abbrev pub drawn_on_first : Digest → (List ℕ → List ℕ → List ℕ) → First
drawn_on_first F text salt d1 = F (text salt d1)

abbrev pub drawn_on_second : Digest → (List ℕ → List ℕ → List ℕ → List ℕ) → Second
drawn_on_second F text salt d1 d2 = F (text salt d1 d2)

-- a challenger that answers by a maker: its stream is what the maker still gives, once a question was asked; none before
abbrev pub by_maker : First → Second → Option Making → Answering
by_maker G1 G2 m = record { first = G1; second = G2; rest = option_map (λ k. k.rule []) m; filled = option_map_or (λ k. k.drawn) m 0 }

-- no call alters the answers
pub record SameAnswers (m m' : Answering) : Type 0 where
  pub first : m'.first ≡ m.first
  pub second : m'.second ≡ m.second
