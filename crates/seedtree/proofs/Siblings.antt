-- Seeds out of words: those beside the path to a leaf, and how long each is.
use Rattle.std.proofs.Common.{◌≡◌, ℕ, zero, suc, ◌+◌, ◌*◌, ◌^◌, ◌<◌, ◌≤◌, List, [], ◌∷◌, ◌++◌, map, length, get_or, sym, refl, ap, ◌∙◌, add-one, arith}
use Rattle.std.specs.List.{range_with_len, flat_map}
use Rattle.std.specs.Simd.{first_chunks}
use Rattle.std.proofs.lemmas.List.FromFn.{get_or-map-range_with_len, map-range_with_len_more}
use Rattle.std.proofs.lemmas.List.{flat_map_more, length-drop, length-take}
use Rattle.protocol.specs.Bytes.{part, le16}
use Rattle.protocol.specs.Sharing.{parts}
use Rattle.protocol.specs.Streams.{Digest}
use Rattle.protocol.specs.Tree.{child, above, beside, sibling_nodes, siblings}
use Rattle.seedtree.specs.Grown.{Grown}
use Rattle.seedtree.specs.Words.{seed_in}
use Rattle.digest.proofs.Chunks.{chunk_at}
use Rattle.seedtree.proofs.Paths.{beside_small}

-- the node beside the path at depth t + 1
abbrev pub sibling_node : ℕ → ℕ → ℕ → ℕ
sibling_node h p t = 2 ^ (t + 1) + beside (above h p (t + 1))

-- one node more
pub joined_counted : (s : ℕ → List ℕ) (f : ℕ → ℕ) (n : ℕ) → flat_map s (map f (range_with_len 0 (n + 1))) ≡ flat_map s (map f (range_with_len 0 n)) ++ s (f n)
joined_counted s f n = ap (flat_map s) (map-range_with_len_more f 0 n n (omega arith)) ∙ sym (flat_map_more s [] (map f (range_with_len 0 n)) (f n))

-- seeds by place
joined_parts : (s : ℕ → List ℕ) (f : ℕ → ℕ) (g : ℕ → List ℕ) (n : ℕ) → ((t : ℕ) → t < n → s (f t) ≡ g t) → flat_map s (map f (range_with_len 0 n)) ≡ parts n g
joined_parts s f g zero same = refl
joined_parts s f g (suc n) same =
    ap (λ m. flat_map s (map f (range_with_len 0 m))) (sym (add-one n))
    ∙ joined_counted s f n
    ∙ (λ z. joined_parts s f g n (λ t q. same t (omega arith)) z ++ same n (omega arith) z)

-- in a grown tree, the seeds beside the path are the siblings
pub siblings_grown : (F : Digest) (salt : List ℕ) (e : ℕ) (root : List ℕ) (h p : ℕ) (words : List ℕ) → p < 2 ^ h → Grown F salt e root h words →
    flat_map (seed_in words) (sibling_nodes h p) ≡ parts h (λ t. get_or (siblings (child F salt e) root h p) t [])
siblings_grown F salt e root h p words small grown =
    joined_parts (seed_in words) _ (λ t. get_or (siblings (child F salt e) root h p) t []) h
    (λ t q. grown (t + 1) (beside (above h p (t + 1))) (omega arith) (beside_small h p t q small) ∙ sym (get_or-map-range_with_len _ 0 h t t [] q (omega arith)))

-- two bytes a word
length-words : (xs : List ℕ) → length (flat_map le16 xs) ≡ 2 * length xs
length-words [] = refl
length-words (x ∷ xs) = omega (arith, length-words xs)

pub length-seed : (words : List ℕ) (k : ℕ) → 16 * k + 16 ≤ length words → length (seed_in words k) ≡ 32
unfolding seed_in
length-seed words k h = length-words (part words (16 * k) 16) ∙ simp (length-take, length-drop) (omega arith)

-- a chunk of 32 bytes is the seed at its place
pub chunk_is : (k : ℕ) (bytes : List ℕ) (t : ℕ) → t < k → get_or (first_chunks 32 k bytes) t [] ≡ part bytes (32 * t) 32
chunk_is k bytes t less = chunk_at 32 k bytes t [] less ∙ ap (λ n. part bytes n 32) (let e : t * 32 ≡ 32 * t = omega arith in e)
