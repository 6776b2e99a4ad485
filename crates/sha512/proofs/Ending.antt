-- The end of a text: its padding, and the hash that a hasher comes to.
use Rattle.std.specs.Prelude.{◌≡◌, ℕ, suc, ◌+◌, ◌*◌, ◌%◌, ◌^◌, ◌<◌, List, [], ◌∷◌, ◌++◌, length, take, replicate}
use Rattle.std.proofs.Common.{sym, ap, ap₂, ◌∙◌, append_assoc, add-zero, zero-add, arith, length-append}
use Rattle.std.proofs.lemmas.List.{append-nil, length-replicate, take-replicate}
use Rattle.sha512.specs.declared.hasher.Hasher.{Hasher}
use Rattle.sha512.specs.Sha512.{initial}
use Rattle.sha512.specs.Hash.{be128, zeros, padding, absorbed, hash_words}
use Rattle.sha512.specs.Hashing.{after, ended, HasTaken}
use Rattle.sha512.proofs.Absorbing.{absorbed_none}

-- the byte 0x80 and the zeros, and the length behind them
pub padding_is : (n z : ℕ) (bits : List ℕ) → z ≡ zeros n → bits ≡ be128 (n * 8)
    → take (z + 1) (0x80 ∷ replicate 127 0) ++ bits ≡ padding n
unfolding padding
padding_is n z bits is len =
    let one : z + 1 ≡ suc z = omega arith in
    ap₂ (λ k b. take k (0x80 ∷ replicate 127 0) ++ b) one len
    ∙ ap (λ x. 0x80 ∷ (x ++ be128 (n * 8))) (take-replicate z 127 0 (omega arith) ∙ ap (λ k. replicate k 0) is)

-- with no byte waiting, the words are those of the hasher
pub after_none : (s : Hasher) → s.total % 128 ≡ 0 → after s [] ≡ s.words
unfolding after
after_none s e = ap (λ n. absorbed s.words (take n s.block ++ [])) e ∙ absorbed_none s.words

-- nothing more follows
pub ended_none : (s : Hasher) → after s (padding s.total) ≡ ended s []
unfolding ended
ended_none s = ap (λ n. after s (padding n)) (sym (add-zero s.total))

length-padding : (n : ℕ) → length (padding n) ≡ suc (zeros n + 16)
unfolding padding
length-padding n = simp (length-append, length-replicate)

-- the padding ends the text
pub ended_padded : (s s' : Hasher) → HasTaken (padding s.total) s s' → s'.words ≡ ended s []
ended_padded s s' taken =
    let full : s'.total % 128 ≡ 0 = omega (arith, taken.total, length-padding s.total) in
    sym (after_none s' full) ∙ taken.words [] ∙ ap (after s) (append-nil (padding s.total)) ∙ ended_none s

-- a hasher that has taken more
pub ended_more : (s s' : Hasher) (bytes x : List ℕ) → HasTaken bytes s s' → s.total + length bytes < 2 ^ 64 → ended s' x ≡ ended s (bytes ++ x)
unfolding ended
ended_more s s' bytes x taken fits =
    let e : s'.total + length x ≡ s.total + length (bytes ++ x) = simp length-append (omega (arith, taken.total)) in
    taken.words (x ++ padding (s'.total + length x))
    ∙ ap (λ n. after s (bytes ++ (x ++ padding n))) e
    ∙ ap (after s) (sym (append_assoc bytes x (padding (s.total + length (bytes ++ x)))))

-- a hasher that has taken nothing
pub ended_new : (s : Hasher) (x : List ℕ) → s.words ≡ initial → s.total ≡ 0 → ended s x ≡ hash_words x
unfolding ended after hash_words
ended_new s x words total =
    ap (λ n. absorbed s.words (take (n % 128) s.block ++ (x ++ padding (n + length x)))) total
    ∙ ap₂ (λ h n. absorbed h (x ++ padding n)) words (zero-add (length x))
