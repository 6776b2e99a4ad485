-- Pairs of bytes from the front of a stream.
use Rattle.std.proofs.Common.{◌≡◌, ℕ, ◌+◌, ◌*◌, ◌%◌, ◌<◌, List, [], map, get_or, ap, ◌∙◌, arith}
use Rattle.std.specs.List.{range_with_len}
use Rattle.std.specs.Simd.{first_chunks}
use Rattle.std.proofs.lemmas.List.FromFn.{fill_by_all, get_or-map-range_with_len, length-map-range_with_len}
use Rattle.protocol.specs.Residues.{residue_in}
use Rattle.protocol.specs.Streams.{first_bytes, stream_word}
use Rattle.lattice.specs.Lines.{at}
use Rattle.lattice.proofs.Chunks.{chunk_entry}

-- the two bytes of pair t
pub word_of_pair : (bs : List ℕ) (pairs : List (List ℕ)) (k t : ℕ) → pairs ≡ first_chunks 2 k bs → t < k →
    at (get_or pairs t []) 0 + at (get_or pairs t []) 1 * 256 ≡ stream_word (at bs) t
word_of_pair bs pairs k t e h =
    let low : at (get_or pairs t []) 0 ≡ at bs (2 * t) =
    ap (λ ps. at (get_or ps t []) 0) e ∙ chunk_entry 2 bs k t 0 h (omega arith) ∙ ap (at bs) (omega arith) in
    let high : at (get_or pairs t []) 1 ≡ at bs (2 * t + 1) =
    ap (λ ps. at (get_or ps t []) 1) e ∙ chunk_entry 2 bs k t 1 h (omega arith) ∙ ap (at bs) (omega arith) in
    omega (arith, low, high)

front_at : (s : ℕ → ℕ) (n k : ℕ) → k < n → at (first_bytes s n) k ≡ s k
unfolding first_bytes
front_at s n k h = get_or-map-range_with_len s 0 n k k 0 h (omega arith)

-- number k of the first 2·n bytes is that of the stream
pub word_of_front : (s : ℕ → ℕ) (bytes : List ℕ) (n k : ℕ) → bytes ≡ first_bytes s (2 * n) → k < n → stream_word (at bytes) k ≡ stream_word s k
word_of_front s bytes n k e h =
    ap (λ bs. stream_word (at bs) k) e
    ∙ (λ i. front_at s (2 * n) (2 * k) (omega arith) i + 256 * front_at s (2 * n) (2 * k + 1) (omega arith) i)

-- the first n numbers of two bytes are read from the first 2·n bytes
pub pairs_of_front : (q : ℕ) (s : ℕ → ℕ) (bytes : List ℕ) (n : ℕ) → bytes ≡ first_bytes s (2 * n) →
    map (residue_in q (at bytes)) (range_with_len 0 n) ≡ map (residue_in q s) (range_with_len 0 n)
pairs_of_front q s bytes n e =
    fill_by_all (residue_in q s) (map (residue_in q (at bytes)) (range_with_len 0 n)) n 0 (length-map-range_with_len (residue_in q (at bytes)) 0 n)
    (λ k h. get_or-map-range_with_len (residue_in q (at bytes)) 0 n k k 0 h (omega arith) ∙ ap (λ w. w % q) (word_of_front s bytes n k e h))
