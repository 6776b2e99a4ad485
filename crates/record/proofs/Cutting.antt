-- A cut within the bytes is the part that was asked for.
use Rattle.std.proofs.Common.{◌≡◌, ℕ, ◌-◌, min, List, length, take, drop, sym, ap, ◌∙◌, ⊎_elim, arith, length-drop, take_all}
use Rattle.std.proofs.lemmas.List.{drop_all}
use Rattle.std.proofs.lemmas.Bool.Decides.{leb_tells}
use Rattle.protocol.specs.Bytes.{part}

-- more than there is, is all that there is
front : (xs : List ℕ) (n to : ℕ) → to ≡ min n (length xs) → take to xs ≡ take n xs
front xs n to t = ⊎_elim
    (λ here. ap (λ k. take k xs) (omega arith))
    (λ past. take_all to xs (omega arith) ∙ sym (take_all n xs (omega arith)))
    (leb_tells n (length xs))

pub cut : (bytes : List ℕ) (at n from to : ℕ) → from ≡ min at (length bytes) → to ≡ min n (length bytes - from) →
    take to (drop from bytes) ≡ part bytes at n
cut bytes at n from to f t = ⊎_elim
    (λ here. front (drop from bytes) n to (t ∙ ap (min n) (sym (length-drop from bytes))) ∙ ap (λ k. take n (drop k bytes)) (omega arith))
    (λ past. front (drop from bytes) n to (t ∙ ap (min n) (sym (length-drop from bytes)))
    ∙ ap (take n) (drop_all from bytes (omega arith) ∙ sym (drop_all at bytes (omega arith))))
    (leb_tells at (length bytes))
