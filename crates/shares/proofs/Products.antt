-- Product shares, and what text 7 has of a party.
use Rattle.std.proofs.Common.{◌≡◌, ℕ, ◌+◌, ◌*◌, ◌<◌, ◌≤◌, cond, eqb, List, [], ◌++◌, map, length, get_or, ap, ◌∙◌, subst, arith}
use Rattle.std.specs.List.{range_with_len, flat_map}
use Rattle.std.proofs.lemmas.List.FromFn.{fill_by_all, get_or-map-range_with_len, length-map-range_with_len}
use Rattle.std.proofs.lemmas.List.{length-append}
use Rattle.protocol.specs.Bytes.{le16}
use Rattle.protocol.specs.Flags.{ones, kept_index}
use Rattle.protocol.specs.Parameters.{Parameters, sigma, modulus}
use Rattle.protocol.specs.Residues.{modular, matrix}
use Rattle.protocol.specs.Sharing.{parts}
use Rattle.keccak.specs.Sponge.{shake128}
use Rattle.digest.specs.Feeding.{Ready}
use Rattle.digest.specs.Making.{Making, Took}
use Rattle.digest.proofs.Taking.{took_both, ready_after, length-parts_most}
use Rattle.soundness.proofs.Indices.{lists_ones}
use Rattle.soundness.proofs.Parts.{parts_same}
use Rattle.soundness.proofs.Residues.{matrix_lawful}
use Rattle.soundness.proofs.Scheme.{modulus_some, modulus_small}
use Rattle.lattice.specs.Lines.{at}
use Rattle.shares.specs.Shown.{key_rule, product_of, audited_share, shown, found, most_shown}
use Rattle.shares.proofs.Rows.{audited_short, coded_parts}

pub same_row : (f h : ℕ → ℕ) (n : ℕ) → ((k : ℕ) → k < n → f k ≡ h k) → map f (range_with_len 0 n) ≡ map h (range_with_len 0 n)
same_row f h n e = fill_by_all h (map f (range_with_len 0 n)) n 0 (length-map-range_with_len f 0 n) (λ k q. get_or-map-range_with_len f 0 n k k 0 q (omega arith) ∙ e k q)

pub row_at : (f : ℕ → ℕ) (n k : ℕ) (xs : List ℕ) → xs ≡ map f (range_with_len 0 n) → k < n → at xs k ≡ f k
row_at f n k xs e q = ap (λ z. at z k) e ∙ get_or-map-range_with_len f 0 n k k 0 q (omega arith)

-- a row f taken from a whole, in place
pub subtracted_row : (set set' n : ℕ) (whole part left : List ℕ) (f : ℕ → ℕ) → set ≡ set' → part ≡ map f (range_with_len 0 n) →
    left ≡ map (λ k. (modular (modulus set)).sub (at whole k) (at part k)) (range_with_len 0 (length part)) →
    left ≡ map (λ k. (modular (modulus set')).sub (at whole k) (f k)) (range_with_len 0 n)
subtracted_row set set' n whole part left f is e sub =
    sub
    ∙ (λ i. map (λ k. (modular (modulus (is i))).sub (at whole k) (at part k)) (range_with_len 0 (long i)))
    ∙ same_row (λ k. (modular (modulus set')).sub (at whole k) (at part k)) (λ k. (modular (modulus set')).sub (at whole k) (f k)) n
    (λ k q. ap ((modular (modulus set')).sub (at whole k)) (row_at f n k part e q))
  where
    long : length part ≡ n
    long = ap length e ∙ length-map-range_with_len f 0 n

-- the key rule reads the kept ones alone
pub product_kept : (p : Parameters) (seed_a flags kept : List ℕ) (v : ℕ → ℕ) → kept ≡ map (λ m. v (kept_index flags m)) (range_with_len 0 (sigma p)) →
    map ((key_rule p).image seed_a (at kept)) (range_with_len 0 (p.n * p.c)) ≡ map (product_of p seed_a flags v) (range_with_len 0 (p.n * p.c))
product_kept p seed_a flags kept v e =
    same_row ((key_rule p).image seed_a (at kept)) (product_of p seed_a flags v) (p.n * p.c)
    (λ i q.
    (matrix_lawful (modulus p.set) p.n p.c (matrix shake128 (modulus p.set)) (modulus_some p.set) (modulus_small p.set)).reach
    seed_a (at kept) (λ m. v (kept_index flags m)) i q (λ m r. row_at (λ m. v (kept_index flags m)) (sigma p) m kept e r))

pub product_same : (p : Parameters) (seed_a flags : List ℕ) (u v : ℕ → ℕ) → length flags ≡ p.m → ones flags ≡ sigma p → ((k : ℕ) → k < p.m → u k ≡ v k) →
    (i : ℕ) → i < p.n * p.c → product_of p seed_a flags u i ≡ product_of p seed_a flags v i
product_same p seed_a flags u v long chosen same i q =
    (matrix_lawful (modulus p.set) p.n p.c (matrix shake128 (modulus p.set)) (modulus_some p.set) (modulus_small p.set)).reach
    seed_a (λ m. u (kept_index flags m)) (λ m. v (kept_index flags m)) i q
    (λ m r. same (kept_index flags m) (let b : kept_index flags m < length flags = (lists_ones flags).within m (omega arith) in omega arith))

-- the audited ones of a row leave room for a product
pub ready_product : (m m' : Making) (values entries : ℕ) (flags : List ℕ) (v : ℕ → ℕ) → 2 * entries + 1 ≤ values → values ≤ 32768 → Ready most_shown m →
    Took (parts values (audited_share flags v)) m m' → Ready (2 * entries) m'
ready_product m m' values entries flags v few most ready took =
    ready_after m m' (parts values (audited_share flags v)) most_shown (2 * entries) ready
    (omega (arith, length-parts_most values 2 (audited_share flags v) (audited_short flags v))) took

-- audited shares, then a product
pub took_row : (m m' m'' : Making) (values long entries : ℕ) (flags : List ℕ) (u v f : ℕ → ℕ) (product : List ℕ) → long ≡ values → ((k : ℕ) → k < values → u k ≡ v k) →
    Took (parts long (audited_share flags u)) m m' → product ≡ map f (range_with_len 0 entries) → Took (flat_map le16 product) m' m'' →
    Took (parts values (audited_share flags v) ++ parts entries (λ i. le16 (f i))) m m''
took_row m m' m'' values long entries flags u v f product is same a e b =
    took_both
    (subst (λ t. Took t m m') (ap (λ n. parts n (audited_share flags u)) is ∙ parts_same values (audited_share flags u) (audited_share flags v) (λ k q. ap (λ x. cond (eqb (get_or flags k 0) 1) [] (le16 x)) (same k q))) a)
    (subst (λ t. Took t m' m'') (ap (flat_map le16) e ∙ coded_parts entries f) b)

-- what is shown of a party hangs on its row below M alone
pub shown_same : (p : Parameters) (seed_a flags : List ℕ) (u v : ℕ → ℕ) → length flags ≡ p.m → ones flags ≡ sigma p → ((k : ℕ) → k < p.m → u k ≡ v k) →
    shown p seed_a flags u ≡ shown p seed_a flags v
unfolding shown
shown_same p seed_a flags u v long chosen same = λ i.
    parts_same p.m (audited_share flags u) (audited_share flags v) (λ k q. ap (λ x. cond (eqb (get_or flags k 0) 1) [] (le16 x)) (same k q)) i
    ++ parts_same (p.n * p.c) (λ j. le16 (product_of p seed_a flags u j)) (λ j. le16 (product_of p seed_a flags v j)) (λ j q. ap le16 (product_same p seed_a flags u v long chosen same j q)) i

-- as is what is shown of the party that is found, on the audited values and on the others' sums
pub found_same : (p : Parameters) (seed_a flags : List ℕ) (values values' key key' sums sums' : ℕ → ℕ) → length flags ≡ p.m → ones flags ≡ sigma p →
    ((k : ℕ) → k < p.m → values k ≡ values' k) → ((i : ℕ) → i < p.n * p.c → key i ≡ key' i) → ((k : ℕ) → k < p.m → sums k ≡ sums' k) →
    found p seed_a flags values key sums ≡ found p seed_a flags values' key' sums'
unfolding found
found_same p seed_a flags values values' key key' sums sums' long chosen sv sk ss = λ i.
    parts_same p.m (audited_share flags (λ k. sub (values k) (sums k))) (audited_share flags (λ k. sub (values' k) (sums' k)))
    (λ k q. ap (λ x. cond (eqb (get_or flags k 0) 1) [] (le16 x)) (λ d. sub (sv k q d) (ss k q d))) i
    ++ parts_same (p.n * p.c) (λ j. le16 (sub (key j) (product_of p seed_a flags sums j))) (λ j. le16 (sub (key' j) (product_of p seed_a flags sums' j)))
    (λ j q. ap le16 (λ d. sub (sk j q d) (product_same p seed_a flags sums sums' long chosen ss j q d))) i
  where
    sub : ℕ → ℕ → ℕ
    sub = (modular (modulus p.set)).sub

pub shown_most : (p : Parameters) (seed_a flags : List ℕ) (v : ℕ → ℕ) → 2 * (p.n * p.c) + 1 ≤ p.m → p.m ≤ 32768 → length (shown p seed_a flags v) ≤ most_shown
unfolding shown
shown_most p seed_a flags v few most =
    let a : List ℕ = parts p.m (audited_share flags v) in
    let b : List ℕ = parts (p.n * p.c) (λ i. le16 (product_of p seed_a flags v i)) in
    omega (
      arith,
      length-append a b,
      length-parts_most p.m 2 (audited_share flags v) (audited_short flags v),
      length-parts_most (p.n * p.c) 2 (λ i. le16 (product_of p seed_a flags v i)) (λ j. let two : 2 ≤ 2 = omega arith in two),
    )

pub found_most : (p : Parameters) (seed_a flags : List ℕ) (values key sums : ℕ → ℕ) → 2 * (p.n * p.c) + 1 ≤ p.m → p.m ≤ 32768 → length (found p seed_a flags values key sums) ≤ most_shown
unfolding found
found_most p seed_a flags values key sums few most =
    let v : ℕ → ℕ = λ k. (modular (modulus p.set)).sub (values k) (sums k) in
    let f : ℕ → List ℕ = λ i. le16 ((modular (modulus p.set)).sub (key i) (product_of p seed_a flags sums i)) in
    let a : List ℕ = parts p.m (audited_share flags v) in
    let b : List ℕ = parts (p.n * p.c) f in
    omega (arith, length-append a b, length-parts_most p.m 2 (audited_share flags v) (audited_short flags v), length-parts_most (p.n * p.c) 2 f (λ j. let two : 2 ≤ 2 = omega arith in two))
