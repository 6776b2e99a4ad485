-- What `array::from_fn` made, where its closure gives h of each index.
use Rattle.std.proofs.Common.{◌≡◌, ℕ, zero, suc, ◌+◌, ◌<◌, List, get_or, map, sym, refl, ap, subst, ◌∙◌, not-suc-le-zero, arith}
use denote.Param.Members.{Mut}
use Rattle.std.specs.Fn.{Called}
use Rattle.std.specs.List.{range_with_len}
use Rattle.std.specs.Array.{IsFromFnResult, IsFromFnResultFrom}
use Rattle.std.proofs.lemmas.List.FromFn.{fill_by_all}

module _ {F B : Type 0} (g : Mut F (ℕ × Unit {0}) B) (f : F) (h : ℕ → B)
    (gives : (i : ℕ) (y : B) (q : F) → Called g f (i, tt) y q → (q ≡ f) × (y ≡ h i)) where
  made_from : (ys : List B) (d : B) (n i : ℕ) (p : F) → p ≡ f → IsFromFnResultFrom g p ys i n
      → (k j : ℕ) → k < n → i + k ≡ j → get_or ys j d ≡ h j
  made_from ys d zero i p same made k j below at = absurd (not-suc-le-zero below)
  made_from ys d (suc n) i p same (q, y, is, call, more) zero j below at =
      let e : i ≡ j = omega arith in
      ap (λ m. get_or ys m d) (sym e) ∙ is.1 d ∙ (gives i y q (subst (λ s. Called g s (i, tt) y q) same call)).1 ∙ ap h e
  made_from ys d (suc n) i p same (q, y, is, call, more) (suc k) j below at =
      made_from ys d n (i + 1) q (gives i y q (subst (λ s. Called g s (i, tt) y q) same call)).0 more k j (omega arith) (omega arith)

  pub made_all : (ys : List B) (d : B) (n : ℕ) → IsFromFnResult g f ys n → ys ≡ map h (range_with_len 0 n)
  made_all ys d n made = fill_by_all h ys n d made.long (λ k below. made_from ys d n 0 f refl made.each k k below (omega arith))
