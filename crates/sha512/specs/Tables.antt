-- The two tables by their rule: the first 64 bits of the fractions of the roots of primes.
use Rattle.std.specs.Prelude.{◌≡◌, ℕ, zero, suc, ◌+◌, ◌-◌, ◌*◌, ◌%◌, ◌^◌, Bool, true, false, cond, not, ◌&&◌, List, [], ◌∷◌, take, ◌==◌, nat_le, nat_lt}

-- no number from 2 to n + 1 divides p
abbrev pub undivided : ℕ → ℕ → Bool
undivided p zero = true
undivided p (suc n) = not (p % (n + 2) == 0) && undivided p n

-- the primes among the n numbers from p on
abbrev pub primes : ℕ → ℕ → List ℕ
primes zero p = []
primes (suc n) p = cond (undivided p (p - 2)) (p ∷ primes n (p + 1)) (primes n (p + 1))

-- the first 80 primes: the 80th is 409
abbrev pub first_primes : List ℕ
first_primes = primes 408 2

-- x is the first 64 bits of the fraction of the r-th root of p, whose whole part is below n
abbrev pub fraction : ℕ → ℕ → ℕ → ℕ → Bool
fraction r p x zero = false
fraction r p x (suc n) =
    cond (nat_le ((n * 2 ^ 64 + x) ^ r) (p * 2 ^ (64 * r)) && nat_lt (p * 2 ^ (64 * r)) ((n * 2 ^ 64 + x + 1) ^ r)) true (fraction r p x n)

-- the numbers are those fractions, one for each prime
abbrev pub fractions : ℕ → List ℕ → List ℕ → Bool
fractions r [] [] = true
fractions r [] (x ∷ xs) = false
fractions r (p ∷ ps) [] = false
fractions r (p ∷ ps) (x ∷ xs) = (nat_lt x (2 ^ 64) && fraction r p x 8) && fractions r ps xs

abbrev pub CubeRoots : List ℕ → Type 0
CubeRoots table = fractions 3 first_primes table ≡ true

abbrev pub SquareRoots : List ℕ → Type 0
SquareRoots table = fractions 2 (take 8 first_primes) table ≡ true
