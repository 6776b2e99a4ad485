-- What a sponge has taken and has to give, and what a SHAKE256 maker means.
use Rattle.std.specs.Prelude.{◌≡◌, ℕ, ◌+◌, cond, List, ◌++◌, take, replicate, ◌==◌}
use Rattle.protocol.specs.Streams.{Digest}
use Rattle.digest.specs.Making.{Making}
use Rattle.keccak.specs.declared.state.Sponge.{Sponge}
use Rattle.keccak.specs.declared.state.Shake256.{Shake256}
use Rattle.keccak.specs.Sponge.{sponge, stream}

-- the state if what waits, and then x, were absorbed
abbrev pub absorbing : (r : ℕ) → Sponge r → List ℕ → List ℕ
absorbing r s x = sponge r s.lanes (take s.filled s.block ++ x)

-- what the lanes have still to give
abbrev pub giving : (r : ℕ) → Sponge r → ℕ → ℕ
giving r s i = stream r s.lanes (s.used + i)

-- the stream if what waits, and then x, were absorbed
abbrev pub by_absorbing : Shake256 → Digest
by_absorbing s x = stream 136 (absorbing 136 s.sponge x)

-- what the lanes have still to give
abbrev pub by_squeezing : Shake256 → ℕ → ℕ
by_squeezing s = giving 136 s.sponge

-- the stream still to come if x were taken; once something was drawn, nothing is
abbrev pub still_to_come : Shake256 → Digest
still_to_come s x i = cond (s.drawn == 0) (by_absorbing s x i) (by_squeezing s i)

abbrev pub meaning : Shake256 → Making
meaning s = record { taken = s.taken; drawn = s.drawn; rule = still_to_come s }

-- no text is in it, and nothing was given
abbrev pub Empty : (r : ℕ) → Sponge r → Type 0
Empty r s = (s.lanes ≡ replicate 25 0) × (s.block ≡ replicate r 0) × (s.filled ≡ 0) × (s.used ≡ 0)

-- nothing of a text is in it
abbrev pub Blank : Shake256 → Type 0
Blank s = Empty 136 s.sponge × (s.taken ≡ 0) × (s.drawn ≡ 0)
