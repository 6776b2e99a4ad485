-- Entries modulo q are lawful, and the matrix rule is linear.
use Rattle.std.proofs.Common.{◌≡◌, ℕ, zero, suc, ◌+◌, ◌-◌, ◌*◌, ◌/◌, ◌%◌, ◌<◌, ◌≤◌, List, ℤ, pos, negsuc, sym, refl, ap, ◌∙◌, add_assoc, mod-lt, mod-eq_of_lt, add_comm, zero-add, mul-add, mul_left_comm, arith}
use native.Mathlib.Nat.{mod-mod, mod-add-mod, add-mod-mod, add-mod_right, mod-add-div, add-mul-mod_self_left, zero-mod}
use Rattle.std.proofs.lemmas.Nat.{mul-add-lt}
use Rattle.protocol.specs.Group.{Lawful}
use Rattle.protocol.specs.Residues.{modular, residue, dot, product, matrix_rule}
use Rattle.protocol.specs.Rule.{LawfulRule}

module _ (q : ℕ) (some : 0 < q) (small : q ≤ 65536) where
  undone : (x y : ℕ) → ((x + (q - y % q)) % q + y) % q ≡ x % q
  undone x y =
      mod-add-mod (x + (q - y % q)) q y
      ∙ sym (add-mod-mod (x + (q - y % q)) y q)
      ∙ ap (λ z. z % q) (let h : y % q < q = mod-lt y some in let k : (x + (q - y % q)) + y % q ≡ x + q = omega arith in k)
      ∙ add-mod_right x q

  told : (x y : ℕ) → (modular q).code (x % q) ≡ (modular q).code (y % q) → x % q ≡ y % q
  told x y e =
      let a : x % q % 256 ≡ y % q % 256 = cc in
      let b : x % q / 256 % 256 ≡ y % q / 256 % 256 = cc in
      let u : x % q < q = mod-lt x some in
      let v : y % q < q = mod-lt y some in
      apart (x % q) (y % q) (omega arith) (omega arith) a b
    where
      apart : (u v : ℕ) → u < 65536 → v < 65536 → u % 256 ≡ v % 256 → u / 256 % 256 ≡ v / 256 % 256 → u ≡ v
      apart u v hu hv a b = omega arith

  pub modular_lawful : Lawful (modular q)
  modular_lawful = record {
    comm = λ x y. ap (λ z. z % q) (add_comm x y);
    assoc = λ x y z. mod-add-mod (x + y) q z ∙ ap (λ w. w % q) (add_assoc x y z) ∙ sym (add-mod-mod x (y + z) q);
    start = λ x. ap (λ z. z % q) (zero-add x);
    least_none = zero-mod q;
    least_add = λ x y. mod-mod (x + y) q;
    least_sub = λ x y. mod-mod (x + (q - y % q)) q;
    undo = undone;
    as_long = λ x y. refl;
    told = told;
  }

mul_mod_mod : (a z q : ℕ) → (a * (z % q)) % q ≡ (a * z) % q
mul_mod_mod a z q =
    sym (add-mul-mod_self_left (a * (z % q)) q (a * (z / q)))
    ∙ ap (λ w. w % q) (sym (ap (λ w. a * w) (sym (mod-add-div z q)) ∙ mul-add a (z % q) (q * (z / q)) ∙ ap (λ w. a * (z % q) + w) (mul_left_comm a q (z / q))))

same_sum : (q a b c d : ℕ) → a % q ≡ c % q → b % q ≡ d % q → (a + b) % q ≡ (c + d) % q
same_sum q a b c d e h =
    sym (mod-add-mod a q b) ∙ ap (λ z. (z + b) % q) e ∙ mod-add-mod c q b ∙ sym (add-mod-mod c b q) ∙ ap (λ z. (c + z) % q) h ∙ add-mod-mod c d q

dot_sum : (q n : ℕ) (a s u : ℕ → ℕ) → dot n a (λ t. (s t + u t) % q) % q ≡ (dot n a s + dot n a u) % q
dot_sum q zero a s u = refl
dot_sum q (suc n) a s u =
    same_sum q (dot n a (λ t. (s t + u t) % q)) (a n * ((s n + u n) % q)) (dot n a s + dot n a u) (a n * (s n + u n))
    (dot_sum q n a s u) (mul_mod_mod (a n) (s n + u n) q)
    ∙ ap (λ z. z % q) (regroup (dot n a s) (dot n a u) (a n) (s n) (u n))
  where
    regroup : (d e b x y : ℕ) → (d + e) + b * (x + y) ≡ (d + b * x) + (e + b * y)
    regroup d e b x y = omega arith

pub product_sums : (q n c : ℕ) (matrix : ℕ → ℕ → ℕ) (f h : ℕ → ℕ) (m : ℕ) →
    product q n c matrix (λ k. (f k + h k) % q) m ≡ (product q n c matrix f m + product q n c matrix h m) % q
product_sums q n c matrix f h m =
    let a = matrix (m / c) in
    let s : ℕ → ℕ = λ t. f (t * c + m % c) in
    let u : ℕ → ℕ = λ t. h (t * c + m % c) in
    let last = n * c + m in
    same_sum q (dot n a (λ t. (s t + u t) % q)) ((f last + h last) % q) (dot n a s + dot n a u) (f last + h last)
    (dot_sum q n a s u) (mod-mod (f last + h last) q)
    ∙ ap (λ z. z % q) (regroup (dot n a s) (dot n a u) (f last) (h last))
    ∙ sym (mod-add-mod (dot n a s + f last) q (dot n a u + h last))
    ∙ sym (add-mod-mod ((dot n a s + f last) % q) (dot n a u + h last) q)
  where
    regroup : (d e x y : ℕ) → (d + e) + (x + y) ≡ (d + x) + (e + y)
    regroup d e x y = omega arith

dot_same : (n : ℕ) (a s u : ℕ → ℕ) → ((t : ℕ) → t < n → s t ≡ u t) → dot n a s ≡ dot n a u
dot_same zero a s u e = refl
dot_same (suc n) a s u e = λ i. dot_same n a s u (λ t q. e t (omega arith)) i + a n * e n (omega arith) i

product_reach : (q n c : ℕ) (matrix : ℕ → ℕ → ℕ) (f h : ℕ → ℕ) (m : ℕ) → m < n * c → ((k : ℕ) → k < 2 * (n * c) → f k ≡ h k) →
    product q n c matrix f m ≡ product q n c matrix h m
product_reach q n c matrix f h m small e =
    λ i. (dot_same n (matrix (m / c)) (λ t. f (t * c + m % c)) (λ t. h (t * c + m % c)) row i + e (n * c + m) (omega arith) i) % q
  where
    wide : (k : ℕ) → m < n * k → 0 < k
    wide zero r = absurd (omega arith)
    wide (suc k) r = omega arith

    row : (t : ℕ) → t < n → f (t * c + m % c) ≡ h (t * c + m % c)
    row t r = e (t * c + m % c) (omega (arith, mul-add-lt t c (m % c) n r (mod-lt m (wide c small))))

residue_least : (q : ℕ) → 0 < q → (v : ℤ) → residue q v % q ≡ residue q v
residue_least q some (pos a) = mod-mod a q
residue_least q some (negsuc a) = mod-eq_of_lt (let h : a % q < q = mod-lt a some in omega arith)

pub matrix_lawful : (q n c : ℕ) (matrix : List ℕ → ℕ → ℕ → ℕ) → 0 < q → q ≤ 65536 → LawfulRule (matrix_rule q n c matrix)
matrix_lawful q n c matrix some small = record {
  entries = modular_lawful q some small;
  residue_least = residue_least q some;
  least = λ a f m. mod-mod (dot n (matrix a (m / c)) (λ t. f (t * c + m % c)) + f (n * c + m)) q;
  sums = λ a f h m. product_sums q n c (matrix a) f h m;
  reach = λ a f h m small e. product_reach q n c (matrix a) f h m small e;
}
