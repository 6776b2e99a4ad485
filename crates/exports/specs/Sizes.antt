-- Sizes that go together in a row of A·S + E, and are not past those of a header.
use Rattle.std.specs.Prelude.{ℕ, ◌*◌, Bool, ◌&&◌, List, length, ◌==◌, nat_le}

abbrev pub fits : List ℕ → List ℕ → List ℕ → List ℕ → Bool
fits row columns errors out =
    nat_le (length row) 1344 && (nat_le (length out) 8 && (length columns == length out * length row && length errors == length out))
