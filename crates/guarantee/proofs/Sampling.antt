-- Sampled values are within the bound, and are read back from their bytes.
use Rattle.std.proofs.Common.{◌≡◌, ℕ, zero, suc, ◌+◌, ◌-◌, ◌/◌, ◌%◌, ◌<◌, ◌≤◌, false, eqb, ltb, List, [], ◌∷◌, ◌++◌, map, length, get_or, ℤ, pos, negsuc, neg_ℤ, sym, refl, ap, ◌∙◌, subst, inl, inr, arith}
use Rattle.std.specs.List.{AllByRecursion}
use Rattle.std.proofs.ByRecursion.{All-append}
use Rattle.std.proofs.lemmas.List.{length_push}
use Rattle.std.proofs.lemmas.Bool.{cond-true, cond-false, cond_both, cases_Bool, lt-ltb, le-ltb}
use Rattle.protocol.specs.Flags.{audited_of, audited_before}
use Rattle.protocol.specs.Parameters.{table, bound}
use Rattle.protocol.specs.Sampling.{exceeded, sampled, Within, beyond, byte_of, signed}

-- the last entry of a table is not exceeded
exceeded_front : (xs : List ℕ) (last t : ℕ) → t ≤ last → exceeded (xs ++ last ∷ []) t ≤ length xs
exceeded_front [] last t h = let e : exceeded (last ∷ []) t ≡ 0 = cond-false _ _ _ (le-ltb last t h) in omega arith
exceeded_front (x ∷ xs) last t h =
    let r : exceeded (xs ++ last ∷ []) t ≤ length xs = exceeded_front xs last t h in
    cond_both (ltb x t) _ _ (λ n. n ≤ suc (length xs)) (λ _. omega arith) (λ _. omega arith)

exceeded_bound : (set t : ℕ) → t ≤ 32767 → exceeded (table set) t ≤ bound set
exceeded_bound set t h =
    elim (cases_Bool (eqb set 1)) [
      | inl one ↦
          let e : exceeded (table set) t ≤ 12 = subst (λ xs. exceeded xs t ≤ 12) (sym (cond-true (eqb set 1) _ _ one))
          (exceeded_front (4643 ∷ 13363 ∷ 20579 ∷ 25843 ∷ 29227 ∷ 31145 ∷ 32103 ∷ 32525 ∷ 32689 ∷ 32745 ∷ 32762 ∷ 32766 ∷ []) 32767 t h) in
          subst (λ n. exceeded (table set) t ≤ n) (sym (cond-true (eqb set 1) _ _ one)) e
      | inr not ↦
          elim (cases_Bool (eqb set 2)) [
            | inl two ↦
                let e : exceeded (table set) t ≤ 10 = subst (λ xs. exceeded xs t ≤ 10) (sym (cond-false (eqb set 1) _ _ not ∙ cond-true (eqb set 2) _ _ two))
                (exceeded_front (5638 ∷ 15915 ∷ 23689 ∷ 28571 ∷ 31116 ∷ 32217 ∷ 32613 ∷ 32731 ∷ 32760 ∷ 32766 ∷ []) 32767 t h) in
                subst (λ n. exceeded (table set) t ≤ n) (sym (cond-false (eqb set 1) _ _ not ∙ cond-true (eqb set 2) _ _ two)) e
            | inr three ↦
                let e : exceeded (table set) t ≤ 6 = subst (λ xs. exceeded xs t ≤ 6) (sym (cond-false (eqb set 1) _ _ not ∙ cond-false (eqb set 2) _ _ three))
                (exceeded_front (9142 ∷ 23462 ∷ 30338 ∷ 32361 ∷ 32725 ∷ 32765 ∷ []) 32767 t h) in
                subst (λ n. exceeded (table set) t ≤ n) (sym (cond-false (eqb set 1) _ _ not ∙ cond-false (eqb set 2) _ _ three)) e
          ]
    ]

within_neg : (b n : ℕ) → n ≤ b → Within b (neg_ℤ (pos n))
within_neg b zero h = h
within_neg b (suc n) h = h

pub sampled_within : (set w : ℕ) → w < 65536 → Within (bound set) (sampled (table set) w)
sampled_within set w h =
    let size = exceeded (table set) (w / 2) in
    let small : size ≤ bound set = exceeded_bound set (w / 2) (omega arith) in
    cond_both (eqb (w % 2) 1) (neg_ℤ (pos size)) (pos size) (Within (bound set)) (λ _. within_neg (bound set) size small) (λ _. small)

pub bound_small : (set : ℕ) → bound set ≤ 127
bound_small set = cond_both (eqb set 1) 12 _ (λ n. n ≤ 127) (λ _. omega arith) (λ _. cond_both (eqb set 2) 10 6 (λ n. n ≤ 127) (λ _. omega arith) (λ _. omega arith))

pub signed_byte : (b : ℕ) (v : ℤ) → b ≤ 127 → Within b v → signed (byte_of v) ≡ v
signed_byte b (pos a) h w = cond-true _ _ _ (lt-ltb a 128 (omega arith))
signed_byte b (negsuc a) h w = cond-false _ _ _ (le-ltb (255 - a) 128 (omega arith)) ∙ ap negsuc (let z : 255 - (255 - a) ≡ a = omega arith in z)

pub not_beyond : (b : ℕ) (v : ℤ) → Within b v → beyond b v ≡ false
not_beyond b (pos a) w = le-ltb b a w
not_beyond b (negsuc a) w = le-ltb b (suc a) w

pub signed_bytes : (b : ℕ) (vs : List ℤ) → b ≤ 127 → AllByRecursion (Within b) vs → map signed (map byte_of vs) ≡ vs
signed_bytes b [] h w = refl
signed_bytes b (v ∷ vs) h (w, ws) = λ i. signed_byte b v h w i ∷ signed_bytes b vs h ws i

module _ {V : Type 0} (flags : List ℕ) (v : ℕ → V) where
  pub length-left_out : (n : ℕ) → length (audited_of flags v n) ≡ audited_before flags n
  length-left_out zero = refl
  length-left_out (suc n) =
      elim (cases_Bool (eqb (get_or flags n 0) 1)) [
        | inl t ↦ ap length (cond-true _ _ _ t) ∙ length-left_out n ∙ sym (cond-true _ _ _ t)
        | inr t ↦ ap length (cond-false _ _ _ t) ∙ length_push (audited_of flags v n) (v n) ∙ ap (λ z. z + 1) (length-left_out n) ∙ sym (cond-false _ _ _ t)
      ]

  pub all_left_out : (P : V → Type 0) → ((k : ℕ) → P (v k)) → (n : ℕ) → AllByRecursion P (audited_of flags v n)
  all_left_out P h zero = tt
  all_left_out P h (suc n) =
      cond_both (eqb (get_or flags n 0) 1) (audited_of flags v n) (audited_of flags v n ++ (v n ∷ [])) (AllByRecursion P)
      (λ _. all_left_out P h n) (λ _. All-append P (audited_of flags v n) (v n ∷ []) (all_left_out P h n) (h n, tt))
