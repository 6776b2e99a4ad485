-- What an accepted chain of tests tells, and how one is accepted.
use Rattle.std.proofs.Common.{◌≡◌, ℕ, zero, suc, ◌+◌, ◌<◌, Bool, true, false, cond, List, [], ◌∷◌, ◌++◌, map, Ok, Err, Result, sym, refl, ap, ◌∙◌, subst, inl, inr, arith}
use Rattle.std.specs.List.{range_with_len, flat_map, AllByRecursion}
use Rattle.std.proofs.ByRecursion.{All-get_or, All-from_get_or, All-append}
use Rattle.std.proofs.lemmas.List.FromFn.{get_or-map-range_with_len, length-map-range_with_len, length-range_with_len, get_or-range_with_len}
use Rattle.std.proofs.lemmas.Bool.{cases_Bool, cond-true, cond-false}
use Rattle.protocol.specs.declared.fault.Fault.{Fault}
use Rattle.protocol.specs.Tests.{Test, first_failing, after}

-- no test of a list fails
abbrev pub Passes : List Test → Type 0
Passes ts = AllByRecursion (λ t. t.fails ≡ false) ts

step : {X : Type 0} (b : Bool) (e : Fault) (r : Result X Fault) (y : X) → cond b (Err e) r ≡ Ok y → (b ≡ false) × (r ≡ Ok y)
step true e r y p = let z : ◌≡◌ {A = ℕ} 0 1 = cc in (absurd (omega arith), absurd (omega arith))
step false e r y p = (refl, p)

pub accepted : {X : Type 0} (ts : List Test) (x y : X) → first_failing ts x ≡ Ok y → Passes ts × (x ≡ y)
accepted [] x y p = (tt, cc)
accepted (t ∷ ts) x y p =
    let s = step t.fails t.fault (first_failing ts x) y p in
    let r = accepted ts x y s.1 in ((s.0, r.0), r.1)

pub passed : {X : Type 0} (ts : List Test) (x : X) → Passes ts → first_failing ts x ≡ Ok x
passed [] x p = refl
passed (t ∷ ts) x (p, ps) = ap (λ b. cond b (Err t.fault) (first_failing ts x)) p ∙ passed ts x ps

pub after_ok : {X Y : Type 0} (r : Result X Fault) (next : X → Result Y Fault) (y : Y) → after r next ≡ Ok y → (x : X) × (r ≡ Ok x) × (next x ≡ Ok y)
after_ok (Ok x) next y p = (x, refl, p)
after_ok {X} {Y} (Err e) next y p = let z : ◌≡◌ {A = ℕ} 0 1 = cc in absurd (omega arith)

pub front : (P : Test → Type 0) (xs ys : List Test) → AllByRecursion P (xs ++ ys) → AllByRecursion P xs × AllByRecursion P ys
front P [] ys h = (tt, h)
front P (x ∷ xs) ys (h, hs) = let r = front P xs ys hs in ((h, r.0), r.1)

pub each_test : (f : ℕ → Test) (n : ℕ) → Passes (map f (range_with_len 0 n)) → (k : ℕ) → k < n → (f k).fails ≡ false
each_test f n h k q =
    subst (λ t. t.fails ≡ false) (get_or-map-range_with_len f 0 n k k (f 0) q (omega arith))
    (All-get_or (λ t. t.fails ≡ false) (map f (range_with_len 0 n)) k (f 0) (let m = length-map-range_with_len f 0 n in omega arith) h)

pub all_tests : (f : ℕ → Test) (n : ℕ) → ((k : ℕ) → k < n → (f k).fails ≡ false) → Passes (map f (range_with_len 0 n))
all_tests f n h =
    All-from_get_or (λ t. t.fails ≡ false) (map f (range_with_len 0 n)) (f 0)
    (λ k q. let k<n : k < n = let m = length-map-range_with_len f 0 n in omega arith in
    subst (λ t. t.fails ≡ false) (sym (get_or-map-range_with_len f 0 n k k (f 0) k<n (omega arith))) (h k k<n))

each_joined : (f : ℕ → List Test) (xs : List ℕ) → Passes (flat_map f xs) → AllByRecursion (λ e. Passes (f e)) xs
each_joined f [] h = tt
each_joined f (x ∷ xs) h = let r = front (λ t. t.fails ≡ false) (f x) (flat_map f xs) h in (r.0, each_joined f xs r.1)

all_joined : (f : ℕ → List Test) (xs : List ℕ) → AllByRecursion (λ e. Passes (f e)) xs → Passes (flat_map f xs)
all_joined f [] h = tt
all_joined f (x ∷ xs) (h, hs) = All-append (λ t. t.fails ≡ false) (f x) (flat_map f xs) h (all_joined f xs hs)

pub each_of : (f : ℕ → List Test) (n : ℕ) → Passes (flat_map f (range_with_len 0 n)) → (e : ℕ) → e < n → Passes (f e)
each_of f n h e q =
    subst (λ d. Passes (f d)) (get_or-range_with_len 0 n e 0 q ∙ (let z : 0 + e ≡ e = omega arith in z))
    (All-get_or (λ d. Passes (f d)) (range_with_len 0 n) e 0 (let m = length-range_with_len 0 n in omega arith) (each_joined f (range_with_len 0 n) h))

pub all_of : (f : ℕ → List Test) (n : ℕ) → ((e : ℕ) → e < n → Passes (f e)) → Passes (flat_map f (range_with_len 0 n))
all_of f n h =
    all_joined f (range_with_len 0 n) (All-from_get_or (λ d. Passes (f d)) (range_with_len 0 n) 0
    (λ e q. let e<n : e < n = let m = length-range_with_len 0 n in omega arith in
    subst (λ d. Passes (f d)) (sym (get_or-range_with_len 0 n e 0 e<n ∙ (let z : 0 + e ≡ e = omega arith in z))) (h e e<n)))

pub append_passes : (xs ys : List Test) → Passes xs → Passes ys → Passes (xs ++ ys)
append_passes xs ys p q = All-append (λ t. t.fails ≡ false) xs ys p q

-- for code that makes one test after another

pub first_past : {X : Type 0} (xs ys : List Test) (v : X) → Passes xs → first_failing (xs ++ ys) v ≡ first_failing ys v
first_past [] ys v p = refl
first_past (t ∷ xs) ys v (p, ps) = ap (λ b. cond b (Err t.fault) (first_failing (xs ++ ys) v)) p ∙ first_past xs ys v ps

pub first_stops : {X Y : Type 0} (xs ys : List Test) (u : X) (v : Y) (e : Fault) → first_failing xs u ≡ Err e → first_failing (xs ++ ys) v ≡ Err e
first_stops [] ys u v e p = let z : ◌≡◌ {A = ℕ} 0 1 = cc in absurd (omega arith)
first_stops (t ∷ xs) ys u v e p =
    elim (cases_Bool t.fails) [
      | inl y ↦ cond-true _ _ _ y ∙ (let same : t.fault ≡ e = told (sym (cond-true _ _ _ y) ∙ p) in ap Err same)
      | inr n ↦ cond-false _ _ _ n ∙ first_stops xs ys u v e (sym (cond-false _ _ _ n) ∙ p)
    ]
  where
    told : {X : Type 0} {a b : Fault} → ◌≡◌ {A = Result X Fault} (Err a) (Err b) → a ≡ b
    told q = cc

-- test i is the first that fails
pub first_fails : {X : Type 0} (f : ℕ → Test) (n i : ℕ) (v : X) → i < n → ((k : ℕ) → k < i → (f k).fails ≡ false) → (f i).fails ≡ true →
    first_failing (map f (range_with_len 0 n)) v ≡ Err (f i).fault
first_fails f n i v h before here = go n i 0 h (λ k l q. subst (λ z. (f z).fails ≡ false) (let z : k ≡ 0 + k = omega arith in z) (before k q)) (subst (λ z. (f z).fails ≡ true) (let z : i ≡ 0 + i = omega arith in z) here) ∙ ap (λ z. Err (f z).fault) (let z : 0 + i ≡ i = omega arith in z)
  where
    go : (n i at : ℕ) → i < n → ((k l : ℕ) → k < i → (f (at + k)).fails ≡ false) → (f (at + i)).fails ≡ true → first_failing (map f (range_with_len at n)) v ≡ Err (f (at + i)).fault
    go zero i at h b q = absurd (omega arith)
    go (suc n) zero at h b q = cond-true _ _ _ (subst (λ z. (f z).fails ≡ true) (let z : at + 0 ≡ at = omega arith in z) q) ∙ ap (λ z. Err (f z).fault) (let z : at ≡ at + 0 = omega arith in z)
    go (suc n) (suc i) at h b q =
        cond-false _ _ _ (subst (λ z. (f z).fails ≡ false) (let z : at + 0 ≡ at = omega arith in z) (b 0 0 (omega arith)))
        ∙ go n i (at + 1) (omega arith) (λ k l r. subst (λ z. (f z).fails ≡ false) (let z : at + suc k ≡ at + 1 + k = omega arith in z) (b (suc k) l (omega arith)))
        (subst (λ z. (f z).fails ≡ true) (let z : at + suc i ≡ at + 1 + i = omega arith in z) q)
        ∙ ap (λ z. Err (f z).fault) (let z : at + 1 + i ≡ at + suc i = omega arith in z)

-- the tests of part d are the first with one that fails
pub first_failing_joined : {X Y : Type 0} (f : ℕ → List Test) (n d : ℕ) (u : X) (v : Y) (e : Fault) → d < n → ((k : ℕ) → k < d → Passes (f k)) → first_failing (f d) u ≡ Err e →
    first_failing (flat_map f (range_with_len 0 n)) v ≡ Err e
first_failing_joined f n d u v e h before here = go n d 0 h (λ k q. subst (λ z. Passes (f z)) (let z : k ≡ 0 + k = omega arith in z) (before k q)) (subst (λ z. first_failing (f z) u ≡ Err e) (let z : d ≡ 0 + d = omega arith in z) here)
  where
    go : (n d at : ℕ) → d < n → ((k : ℕ) → k < d → Passes (f (at + k))) → first_failing (f (at + d)) u ≡ Err e → first_failing (flat_map f (range_with_len at n)) v ≡ Err e
    go zero d at h b q = absurd (omega arith)
    go (suc n) zero at h b q = first_stops (f at) (flat_map f (range_with_len (at + 1) n)) u v e (subst (λ z. first_failing (f z) u ≡ Err e) (let z : at + 0 ≡ at = omega arith in z) q)
    go (suc n) (suc d) at h b q =
        first_past (f at) (flat_map f (range_with_len (at + 1) n)) v (subst (λ z. Passes (f z)) (let z : at + 0 ≡ at = omega arith in z) (b 0 (omega arith)))
        ∙ go n d (at + 1) (omega arith) (λ k r. subst (λ z. Passes (f z)) (let z : at + suc k ≡ at + 1 + k = omega arith in z) (b (suc k) (omega arith)))
        (subst (λ z. first_failing (f z) u ≡ Err e) (let z : at + suc d ≡ at + 1 + d = omega arith in z) q)
