-- The size of a value, and its sign.
use Rattle.std.proofs.Common.{◌≡◌, ℕ, suc, ◌+◌, ◌-◌, ◌/◌, ◌%◌, ◌≤◌, Bool, true, false, cond, eqb, ltb, List, [], ◌∷◌, length, pos, ◌-ℤ◌, neg_ℤ, count_by, sym, refl, ap, ◌∙◌, arith, w8, to_z, of_z}
use lib.Bits.{bit_and}
use Rattle.std.proofs.lemmas.Int.{ints}
use Rattle.std.proofs.lemmas.Nat.{and_mask}
use Rattle.std.proofs.lemmas.List.Sums.{count_by-le-length, sum_by-cons}
use Rattle.std.proofs.lemmas.Bool.{cond-true, cond-false, eq-eqb, ne_eqb}
use Rattle.protocol.specs.Parameters.{table, modulus}
use Rattle.protocol.specs.Sampling.{exceeded, sampled}
use Rattle.protocol.specs.declared.set.Set.{Set}
use Rattle.protocol.specs.declared.set.Set.TheVariants.{One, Two, Three}
use Rattle.protocol.specs.Sets.{number}

pub exceeded_counts : (xs : List ℕ) (t : ℕ) → exceeded xs t ≡ count_by (λ x. ltb x t) xs
exceeded_counts [] t = refl
exceeded_counts (x ∷ xs) t =
    step (ltb x t) (exceeded xs t) (count_by (λ y. ltb y t) xs) (exceeded_counts xs t) ∙ sym (sum_by-cons (λ y. cond (ltb y t) 1 0) x xs)
  where
    step : (b : Bool) (n m : ℕ) → n ≡ m → cond b (suc n) n ≡ cond b 1 0 + m
    step true n m e = let h : suc n ≡ 1 + m = omega arith in h
    step false n m e = let h : n ≡ 0 + m = omega arith in h

pub table_short : (s : Set) → length (table (number s)) ≤ 13
table_short One = omega arith
table_short Two = omega arith
table_short Three = omega arith

pub few : (s : Set) (t n : ℕ) (xs : List ℕ) → xs ≡ table (number s) → n ≡ exceeded xs t → n ≤ 13
few s t n xs e h = omega (arith, h, exceeded_counts xs t, count_by-le-length (λ x. ltb x t) xs, ap length e, table_short s)

pub negative : (s : Set) (w n : ℕ) (xs : List ℕ) → xs ≡ table (number s) → n ≡ exceeded xs (w / 2) → bit_and w 1 ≡ 1 →
    to_z w8 (of_z w8 (pos 0 -ℤ to_z w8 n)) ≡ sampled (table (number s)) w
negative s w n xs e h b =
    minus n (few s (w / 2) n xs e h) ∙ ap (λ m. neg_ℤ (pos m)) (h ∙ ap (λ ys. exceeded ys (w / 2)) e)
    ∙ sym (cond-true (eqb (w % 2) 1) _ _ (eq-eqb (w % 2) 1 (sym (and_mask w 1) ∙ b)))
  where
    minus : (n : ℕ) → n ≤ 13 → to_z w8 (of_z w8 (pos 0 -ℤ to_z w8 n)) ≡ neg_ℤ (pos n)
    minus n h = omega (arith, ints)

pub positive : (s : Set) (w n : ℕ) (xs : List ℕ) → xs ≡ table (number s) → n ≡ exceeded xs (w / 2) → (bit_and w 1 ≡ 1 → ⊥) →
    to_z w8 n ≡ sampled (table (number s)) w
positive s w n xs e h b =
    plus n (few s (w / 2) n xs e h) ∙ ap pos (h ∙ ap (λ ys. exceeded ys (w / 2)) e)
    ∙ sym (cond-false (eqb (w % 2) 1) _ _ (ne_eqb (w % 2) 1 (λ o. b (and_mask w 1 ∙ o))))
  where
    plus : (n : ℕ) → n ≤ 13 → to_z w8 n ≡ pos n
    plus n h = omega (arith, ints)

-- the mask of a set's modulus reduces by it
pub masked : (s : Set) (x : ℕ) → bit_and x (modulus (number s) - 1) ≡ x % modulus (number s)
masked One x = and_mask x 15
masked Two x = and_mask x 16
masked Three x = and_mask x 16
