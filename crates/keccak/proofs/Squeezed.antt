-- How what is left of a stream is kept as a sponge gives bytes.
use Rattle.std.specs.Prelude.{◌≡◌, ℕ, zero, suc, ◌+◌, ◌-◌, ◌*◌, ◌/◌, ◌%◌, ◌^◌, ◌<◌, ◌≤◌, List, [], ◌∷◌, ◌++◌, length, take, drop, slice_index, slice_index_or, refl}
use Rattle.std.proofs.Common.{sym, ap, ap₂, subst, ◌∙◌, inl, inr, mod-eq_of_lt, arith, add-one}
use Rattle.std.proofs.Math.Nat.{add-div_left, add-mod_left, div-eq_of_lt}
use Rattle.std.specs.Int.{w64, to_le_bytes}
use Rattle.std.proofs.Math.Seq.{paste}
use Rattle.std.proofs.lemmas.List.Edits.{get_or-between, paste_all}
use Rattle.std.proofs.lemmas.List.{length-take-le, get_or-take, get_or-append-add, get_or_append_left}
use Rattle.std.proofs.lemmas.Bool.{cases_lt}
use Rattle.keccak.specs.Keccak.{keccak_f}
use Rattle.keccak.specs.Sponge.{byte_of, after, stream}

after_first : (s : List ℕ) (n : ℕ) → after (keccak_f s) n ≡ keccak_f (after s n)
unfolding after
after_first s zero = refl
after_first s (suc n) = ap keccak_f (after_first s n)

-- the bytes of the state itself come first
pub stream_here : (r : ℕ) (s : List ℕ) (k : ℕ) → k < r → byte_of s k ≡ stream r s k
unfolding stream after
stream_here r s k h = sym (ap₂ (λ a b. byte_of (after s a) b) (div-eq_of_lt h) (mod-eq_of_lt h))

-- then those of the permuted state
pub stream_next : (r : ℕ) (s : List ℕ) (i : ℕ) → 0 < r → stream r (keccak_f s) i ≡ stream r s (r + i)
unfolding stream after
stream_next r s i some =
    let q : (r + i) / r ≡ suc (i / r) = add-div_left i some ∙ add-one (i / r) in
    let m : (r + i) % r ≡ i % r = add-mod_left r i in
    ap (λ t. byte_of t (i % r)) (after_first s (i / r)) ∙ sym (ap₂ (λ a b. byte_of (after s a) b) q m)

pub renewed : (r : ℕ) (s t : List ℕ) (used i : ℕ) → 0 < r → used ≡ r → t ≡ keccak_f s → stream r t (0 + i) ≡ stream r s (used + i)
renewed r s t used i some is e =
    let z : r + (0 + i) ≡ used + i = omega arith in
    ap (λ w. stream r w (0 + i)) e ∙ stream_next r s (0 + i) some ∙ ap (stream r s) z

-- the bytes of a lane
pub lane_byte : (x k : ℕ) → k < 8
    → slice_index_or (x % 256 ∷ x / 2 ^ 8 % 256 ∷ x / 2 ^ 16 % 256 ∷ x / 2 ^ 24 % 256 ∷ x / 2 ^ 32 % 256 ∷ x / 2 ^ 40 % 256
    ∷ x / 2 ^ 48 % 256 ∷ x / 2 ^ 56 % 256 ∷ []) k 0 ≡ x / 2 ^ (8 * k) % 256
lane_byte x zero h = let e : x % 256 ≡ x / 1 % 256 = omega arith in e
lane_byte x (suc zero) h = refl
lane_byte x (suc (suc zero)) h = refl
lane_byte x (suc (suc (suc zero))) h = refl
lane_byte x (suc (suc (suc (suc zero)))) h = refl
lane_byte x (suc (suc (suc (suc (suc zero))))) h = refl
lane_byte x (suc (suc (suc (suc (suc (suc zero)))))) h = refl
lane_byte x (suc (suc (suc (suc (suc (suc (suc zero))))))) h = refl
lane_byte x (suc (suc (suc (suc (suc (suc (suc (suc k)))))))) h = absurd (omega arith)

-- byte k of lane i is byte 8 * i + k of the state
pub state_byte : (s : List ℕ) (i k : ℕ) → k < 8 → slice_index s i / 2 ^ (8 * k) % 256 ≡ byte_of s (8 * i + k)
unfolding byte_of
state_byte s i k h =
    let a : i ≡ (8 * i + k) / 8 = omega arith in
    let b : k ≡ (8 * i + k) % 8 = omega arith in
    λ z. slice_index s (a z) / 2 ^ (8 * b z) % 256

-- what a copy leaves: the bytes from `at` on, and what stood before
pasted : (d s : List ℕ) (at : ℕ) → paste d at s (length s) ≡ take at d ++ (s ++ drop (at + length s) d)
pasted d s at = paste_all d at s (length s) refl

pub pasted_in : (d s : List ℕ) (at k : ℕ) → at ≤ length d → k < length s → slice_index (paste d at s (length s)) (at + k) ≡ slice_index s k
pasted_in d s at k le h =
    ap₂ (λ t n. slice_index t (n + k)) (pasted d s at) (sym (length-take-le at d le))
    ∙ get_or-append-add (take at d) (s ++ drop (at + length s) d) k 0 ∙ get_or_append_left s (drop (at + length s) d) 0 k h

pub pasted_before : (d s : List ℕ) (at k : ℕ) → at ≤ length d → k < at → slice_index (paste d at s (length s)) k ≡ slice_index d k
pasted_before d s at k le h =
    ap (λ t. slice_index t k) (pasted d s at)
    ∙ get_or_append_left (take at d) (s ++ drop (at + length s) d) 0 k (omega (arith, length-take-le at d le)) ∙ get_or-take at d k 0 h

-- byte k of a part
pub part_byte : (b : List ℕ) (at n k : ℕ) → k < n → slice_index (take (at + n - at) (drop at b)) k ≡ slice_index b (at + k)
part_byte b at n k h = get_or-between b at (at + n) k 0 (omega arith)

-- n bytes more, given at `done`
pub more_given : (f : ℕ → ℕ) (old out : List ℕ) (done n : ℕ) → ((k : ℕ) → k < done → slice_index old k ≡ f k)
    → ((k : ℕ) → k < done → slice_index out k ≡ slice_index old k) → ((k : ℕ) → k < n → slice_index out (done + k) ≡ f (done + k))
    → (k : ℕ) → k < done + n → slice_index out k ≡ f k
more_given f old out done n was before fresh k h =
    elim (cases_lt k done) [
      | inl l ↦ before k l ∙ was k l
      | inr l ↦
          let e : done + (k - done) ≡ k = omega arith in
          subst (λ j. slice_index out j ≡ f j) e (fresh (k - done) (omega arith))
    ]

-- a part more, pasted in at `done`
pub more_pasted : (f : ℕ → ℕ) (old out part : List ℕ) (done : ℕ) → done + length part ≤ length old → out ≡ paste old done part (length part)
    → ((k : ℕ) → k < done → slice_index old k ≡ f k) → ((k : ℕ) → k < length part → slice_index part k ≡ f (done + k))
    → (k : ℕ) → k < done + length part → slice_index out k ≡ f k
more_pasted f old out part done fits is was fresh =
    more_given f old out done (length part) was
    (λ k l. ap (λ d. slice_index d k) is ∙ pasted_before old part done k (omega arith) l)
    (λ k l. ap (λ d. slice_index d (done + k)) is ∙ pasted_in old part done k (omega arith) l ∙ fresh k l)

-- lane i, unloaded behind those before it
pub unloaded : (s old new bytes : List ℕ) (i x : ℕ) → 8 * i + 8 ≤ length old → bytes ≡ to_le_bytes w64 x → x ≡ slice_index s i
    → new ≡ paste old (8 * i) bytes (length bytes) → ((k : ℕ) → k < 8 * i → slice_index old k ≡ byte_of s k)
    → (k : ℕ) → k < 8 * (i + 1) → slice_index new k ≡ byte_of s k
unloaded s old new bytes i x fits are is put was k h =
    let eight : length bytes ≡ 8 = ap length are in
    more_pasted (byte_of s) old new bytes (8 * i) (omega arith) put was
    (λ j l. ap (λ d. slice_index d j) are ∙ lane_byte x j (omega arith) ∙ ap (λ y. y / 2 ^ (8 * j) % 256) is ∙ state_byte s i j (omega arith)) k (omega arith)
