-- Bytes at the front of more bytes.
use Rattle.std.proofs.Common.{◌≡◌, ℕ, List, ◌++◌, length, take, ap, ◌∙◌}
use Rattle.std.proofs.lemmas.List.{take_at}

pub held : (n : ℕ) (xs ys zs : List ℕ) → length xs ≡ n → ys ≡ xs → take n (ys ++ zs) ≡ xs
held n xs ys zs long e = ap (λ z. take n (z ++ zs)) e ∙ take_at xs zs n long
