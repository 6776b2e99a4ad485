-- The sets of constants by their numbers in a header.
use Rattle.std.specs.Prelude.{◌≡◌, ℕ, ◌<◌, ◌⊎◌, Result, MatchResult}
use Rattle.protocol.specs.declared.set.Set.{Set}
use Rattle.protocol.specs.declared.set.Set.TheVariants.{One, Two, Three}
use Rattle.protocol.specs.declared.set.UnknownSet.{UnknownSet}

abbrev pub number : Set → ℕ
number One = 1
number Two = 2
number Three = 3

-- the set of this number, or that there is none
abbrev pub Named : ℕ → Result Set UnknownSet → Type 0
Named n r = MatchResult r (λ s. number s ≡ n) (λ e. (e.0 ≡ n) × ((n < 1) ⊎ (3 < n)))
