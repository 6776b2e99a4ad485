-- Inner products modulo q, and lines of A·S + E.
use Rattle.std.proofs.Common.{◌≡◌, ℕ, zero, suc, ◌+◌, ◌-◌, ◌*◌, ◌/◌, ◌%◌, ◌<◌, ◌≤◌, List, ◌++◌, length, take, drop, sym, refl, ap, ◌∙◌, subst, inl, inr, add-mul, one-mul, arith}
use borrow.Rule.Slice.PartMut.{put_mid}
use native.Mathlib.Nat.{mod-mod, mod-add-mod, add-mod-mod}
use lib.Bits.{bit_and}
use Rattle.std.proofs.lemmas.List.{length-take-le, get_or-take, get_or-drop, get_or-append-add, get_or_append_left}
use Rattle.std.proofs.lemmas.Bool.{cases_lt}
use Rattle.std.proofs.lemmas.Nat.{mul-add-lt, div-mul-add, mod-mul-add}
use Rattle.protocol.specs.Parameters.{modulus}
use Rattle.protocol.specs.Residues.{dot, product}
use Rattle.protocol.specs.declared.set.Set.{Set}
use Rattle.protocol.specs.declared.set.Set.TheVariants.{One, Two, Three}
use Rattle.lattice.specs.Lines.{at, row_entry}
use Rattle.protocol.specs.Sets.{number}
use Rattle.lattice.proofs.Sizes.{masked}

pub same_sum : (q a b c d : ℕ) → a % q ≡ c % q → b % q ≡ d % q → (a + b) % q ≡ (c + d) % q
same_sum q a b c d e h =
    sym (mod-add-mod a q b) ∙ ap (λ z. (z + b) % q) e ∙ mod-add-mod c q b ∙ sym (add-mod-mod c b q) ∙ ap (λ z. (c + z) % q) h ∙ add-mod-mod c d q

pub dot_same : (n : ℕ) (a b s u : ℕ → ℕ) → ((t : ℕ) → t < n → a t ≡ b t) → ((t : ℕ) → t < n → s t ≡ u t) → dot n a s ≡ dot n b u
dot_same zero a b s u d e = refl
dot_same (suc n) a b s u d e = λ i. dot_same n a b s u (λ t q. d t (omega arith)) (λ t q. e t (omega arith)) i + d n (omega arith) i * e n (omega arith) i

-- m terms and the n that follow
dot_split : (m n : ℕ) (a s : ℕ → ℕ) → dot (m + n) a s ≡ dot m a s + dot n (λ t. a (m + t)) (λ t. s (m + t))
dot_split m zero a s =
    ap (λ k. dot k a s) (let e : m + 0 ≡ m = omega arith in e) ∙ (let e : dot m a s ≡ dot m a s + 0 = omega arith in e)
dot_split m (suc n) a s =
    ap (λ k. dot k a s) (let e : m + suc n ≡ suc (m + n) = omega arith in e)
    ∙ ap (λ z. z + a (m + n) * s (m + n)) (dot_split m n a s)
    ∙ sym_assoc (dot m a s) (dot n (λ t. a (m + t)) (λ t. s (m + t))) (a (m + n) * s (m + n))
  where
    sym_assoc : (x y z : ℕ) → x + y + z ≡ x + (y + z)
    sym_assoc x y z = omega arith

-- the same, with both sums wrapped
pub dot_joined : (m n : ℕ) (a s b u : ℕ → ℕ) (x y : ℕ) → x ≡ dot m a s % 65536 → y ≡ dot n b u % 65536 →
    ((t : ℕ) → t < n → b t ≡ a (m + t)) → ((t : ℕ) → t < n → u t ≡ s (m + t)) → (x + y) % 65536 ≡ dot (m + n) a s % 65536
dot_joined m n a s b u x y e f d g =
    same_sum 65536 x y (dot m a s) (dot n (λ t. a (m + t)) (λ t. s (m + t)))
    (ap (λ z. z % 65536) e ∙ mod-mod (dot m a s) 65536)
    (ap (λ z. z % 65536) f ∙ mod-mod (dot n b u) 65536 ∙ ap (λ z. z % 65536) (dot_same n b (λ t. a (m + t)) u (λ t. s (m + t)) d g))
    ∙ ap (λ z. z % 65536) (sym (dot_split m n a s))

-- the mask of a set's modulus, after a sum that wrapped at 2^16
pub masked_sum : (s : Set) (x : ℕ) → bit_and (x % 65536) (modulus (number s) - 1) ≡ x % modulus (number s)
masked_sum s x = masked s (x % 65536) ∙ divides s x
  where
    divides : (s : Set) (x : ℕ) → x % 65536 % modulus (number s) ≡ x % modulus (number s)
    divides One x = omega arith
    divides Two x = mod-mod x 65536
    divides Three x = mod-mod x 65536

-- a column written behind those before it, and read
pub column_more : (n l : ℕ) (old new column : List ℕ) (f : ℕ → ℕ → ℕ) → new ≡ put_mid (l * n) (l * n + n - l * n) old column → l * n ≤ length old →
    length column ≡ n → ((t k : ℕ) → t < n → k < l → at old (k * n + t) ≡ f t k) → ((t : ℕ) → t < n → at column t ≡ f t l) →
    (t k : ℕ) → t < n → k < l + 1 → at new (k * n + t) ≡ f t k
column_more n l old new column f is room long was fresh t k h g =
    let b = l * n in
    let rest = drop (b + n - b) (drop b old) in
    let front : length (take b old) ≡ b = length-take-le b old room in
    elim (cases_lt k l) [
      | inl p ↦
          let inside : k * n + t < b = omega (arith, mul-add-lt k n t l p h) in
          ap (λ xs. at xs (k * n + t)) is ∙ get_or_append_left (take b old) (column ++ rest) 0 (k * n + t) (omega (arith, inside, front))
          ∙ get_or-take b old (k * n + t) 0 inside ∙ was t k h p
      | inr p ↦
          let e : l ≡ k = omega arith in
          subst (λ i. at new (i * n + t) ≡ f t i) e
          (ap (λ xs. at xs (b + t)) is ∙ ap (λ m. at (take b old ++ (column ++ rest)) (m + t)) (sym front)
          ∙ get_or-append-add (take b old) (column ++ rest) t 0 ∙ get_or_append_left column rest 0 t (omega (arith, long)) ∙ fresh t h)
    ]

part_at : (columns : List ℕ) (l n t : ℕ) → t < n → at (take ((l * n + n) - l * n) (drop (l * n) columns)) t ≡ at columns (l * n + t)
part_at columns l n t h = get_or-take ((l * n + n) - l * n) (drop (l * n) columns) t 0 (omega arith) ∙ get_or-drop (l * n) columns t 0

pub row_made : (s : Set) (n : ℕ) (row columns : List ℕ) (e l r : ℕ) → r ≡ dot n (at row) (at (take ((l * n + n) - l * n) (drop (l * n) columns))) % 65536 →
    bit_and ((r + e) % 65536) (modulus (number s) - 1) ≡ row_entry (modulus (number s)) n row columns e l
unfolding row_entry
row_made s n row columns e l r h =
    let q = modulus (number s) in
    let d = dot n (at row) (at (take ((l * n + n) - l * n) (drop (l * n) columns))) in
    ap (λ z. bit_and z (q - 1)) (ap (λ z. (z + e) % 65536) h ∙ mod-add-mod d 65536 e)
    ∙ masked_sum s (d + e)
    ∙ ap (λ z. (z + e) % q) (dot_same n (at row) (at row) (at (take ((l * n + n) - l * n) (drop (l * n) columns))) (λ t. at columns (l * n + t)) (λ t k. refl) (λ t k. part_at columns l n t k))

-- a row made of its row of A is the product's
pub row_is : (q n c : ℕ) (matrix : ℕ → ℕ → ℕ) (v : ℕ → ℕ) (row columns : List ℕ) (i l e : ℕ) → l < c →
    ((t : ℕ) → t < n → at row t ≡ matrix i t) → ((t : ℕ) → t < n → at columns (l * n + t) ≡ v (t * c + l)) → e ≡ v (n * c + (i * c + l)) →
    row_entry q n row columns e l ≡ product q n c matrix v (i * c + l)
unfolding row_entry
row_is q n c matrix v row columns i l e h a s r =
    λ z. (dot_same n (at row) (matrix ((i * c + l) / c)) (λ t. at columns (l * n + t)) (λ t. v (t * c + (i * c + l) % c))
    (λ t k. a t k ∙ ap (λ x. matrix x t) (sym (div-mul-add i c l h)))
    (λ t k. s t k ∙ ap (λ x. v (t * c + x)) (sym (mod-mul-add i c l h))) z + r z) % q

-- a line of c more
pub lines_more : (f : ℕ → ℕ) (xs ys : List ℕ) (i c : ℕ) → ((k : ℕ) → k < i * c → at ys k ≡ at xs k) →
    ((m : ℕ) → m < i * c → at xs m ≡ f m) → ((l : ℕ) → l < c → at ys (i * c + l) ≡ f (i * c + l)) → (m : ℕ) → m < (i + 1) * c → at ys m ≡ f m
lines_more f xs ys i c before was fresh m h =
    elim (cases_lt m (i * c)) [
      | inl p ↦ before m p ∙ was m p
      | inr p ↦
          let e : i * c + (m - i * c) ≡ m = omega arith in
          subst (λ k. at ys k ≡ f k) e (fresh (m - i * c) (omega (arith, add-mul i 1 c, one-mul c)))
    ]
