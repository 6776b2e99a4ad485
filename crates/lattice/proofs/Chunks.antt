-- The pieces of equal length that a list is cut into.
use Rattle.std.proofs.Common.{◌≡◌, ℕ, ◌+◌, ◌*◌, ◌<◌, List, [], get_or, drop, ap, ◌∙◌}
use Rattle.std.specs.Simd.{first_chunks}
use Rattle.std.proofs.lemmas.List.{get_or-take, get_or-drop}
use Rattle.digest.proofs.Chunks.{chunk_at}
use Rattle.lattice.specs.Lines.{at}

-- entry j of piece t
pub chunk_entry : (n : ℕ) (xs : List ℕ) (k t j : ℕ) → t < k → j < n → at (get_or (first_chunks n k xs) t []) j ≡ at xs (t * n + j)
chunk_entry n xs k t j h b =
    ap (λ z. at z j) (chunk_at n k xs t [] h) ∙ get_or-take n (drop (t * n) xs) j 0 b ∙ get_or-drop (t * n) xs j 0
