-- Entries that add and subtract, and the sums over the parties.
use Rattle.std.specs.Prelude.{◌≡◌, ℕ, zero, suc, cond, List, length, ◌==◌}

-- one kind of entry: `norm` is an entry's normal form, `code` its bytes in a text
pub record Entries (G : Type 0) : Type 0 where
  pub none : G
  pub norm : G → G
  pub add : G → G → G
  pub sub : G → G → G
  pub code : G → List ℕ

-- no law has a side condition: what an operation gives is in normal form, whatever it is given
pub record Lawful {G : Type 0} (g : Entries G) : Type 0 where
  pub comm : (x y : G) → g.add x y ≡ g.add y x
  pub assoc : (x y z : G) → g.add (g.add x y) z ≡ g.add x (g.add y z)
  pub start : (x : G) → g.add g.none x ≡ g.norm x
  pub least_none : g.norm g.none ≡ g.none
  pub least_add : (x y : G) → g.norm (g.add x y) ≡ g.add x y
  pub least_sub : (x y : G) → g.norm (g.sub x y) ≡ g.sub x y
  pub undo : (x y : G) → g.add (g.sub x y) y ≡ g.norm x
  pub as_long : (x y : G) → length (g.code x) ≡ length (g.code y)
  pub told : (x y : G) → g.code (g.norm x) ≡ g.code (g.norm y) → g.norm x ≡ g.norm y

-- f 0 + .. + f (n - 1)
abbrev pub total : {G : Type 0} → Entries G → ℕ → (ℕ → G) → G
total g zero f = g.none
total g (suc n) f = g.add (total g n f) (f n)

-- the same without f p
abbrev pub others : {G : Type 0} → Entries G → ℕ → ℕ → (ℕ → G) → G
others g zero p f = g.none
others g (suc n) p f = cond (n == p) (others g n p f) (g.add (others g n p f) (f n))

-- f with its place p found by subtraction from t
abbrev pub completed : {G : Type 0} → Entries G → ℕ → ℕ → G → (ℕ → G) → ℕ → G
completed g n p t f j = cond (j == p) (g.sub t (others g n p f)) (f j)
