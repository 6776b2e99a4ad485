-- Where a party's commitment stands in text 6.
use Rattle.std.proofs.Common.{◌≡◌, ℕ, zero, suc, ◌+◌, ◌*◌, ◌<◌, ◌≤◌, List, [], ◌∷◌, ◌++◌, length, take, drop, sym, refl, ap, ◌∙◌, inl, inr, arith}
use Rattle.std.specs.List.{flat_map}
use Rattle.std.proofs.lemmas.List.{length-append, length-drop, drop_at, drop-drop, drop-append-le, take-append-le, take_all}
use Rattle.std.proofs.lemmas.Nat.{mul-le}
use Rattle.std.proofs.lemmas.Bool.{cases_eq}
use Rattle.soundness.proofs.Fields.{length-commitment}
use Rattle.soundness.proofs.Scheme.{setting_sound}
use Rattle.protocol.specs.Bytes.{part}
use Rattle.protocol.specs.Parameters.{Parameters, width, parties, modulus}
use Rattle.protocol.specs.Streams.{Digest}
use Rattle.protocol.specs.Guarantee.{commitment_at}
use Rattle.protocol.specs.Residues.{modular}
use Rattle.protocol.specs.Scheme.{setting}
use Rattle.protocol.specs.Sharing.{Transcript, Fits, parts, commitment, committed_part, text6}

pub length-parts_of : (n l : ℕ) (f : ℕ → List ℕ) → ((k : ℕ) → k < n → length (f k) ≡ l) → length (parts n f) ≡ n * l
length-parts_of zero l f h = omega arith
length-parts_of (suc n) l f h =
    let r : length (parts n f) ≡ n * l = length-parts_of n l f (λ k q. h k (omega arith)) in
    length-append (parts n f) (f n) ∙ (let a : length (f n) ≡ l = h n (omega arith) in omega arith)

-- piece k of pieces of one length l, from a kept_index k·l + d on
pub parts_at : (n l : ℕ) (f : ℕ → List ℕ) → ((k : ℕ) → k < n → length (f k) ≡ l) → (k d m : ℕ) → k < n → d + m ≤ l →
    take m (drop (k * l + d) (parts n f)) ≡ take m (drop d (f k))
parts_at zero l f h k d m q fits = absurd (omega arith)
parts_at (suc n) l f h k d m q fits =
    let whole : length (parts n f) ≡ n * l = length-parts_of n l f (λ i t. h i (omega arith)) in
    elim (cases_eq k n) [
      | inl is ↦
          sym (ap (take m) (drop-drop d (k * l) (parts n f ++ f n)))
          ∙ ap (λ xs. take m (drop d xs)) (drop_at (parts n f) (f n) (k * l) (whole ∙ ap (λ i. i * l) (sym is)))
          ∙ ap (λ i. take m (drop d (f i))) (sym is)
      | inr not ↦
          let k<n : k < n = omega arith in
          let room : (k + 1) * l ≤ n * l = mul-le (k + 1) l n l (omega arith) (omega arith) in
          let inside : k * l + d ≤ length (parts n f) = omega arith in
          ap (take m) (drop-append-le (k * l + d) (parts n f) (f n) inside)
          ∙ take-append-le m (drop (k * l + d) (parts n f)) (f n) (omega (arith, length-drop (k * l + d) (parts n f)))
          ∙ parts_at n l f (λ i t. h i (omega arith)) k d m k<n fits
    ]

length-coded_two : (q : ℕ) (xs : List ℕ) → length (flat_map (modular q).code xs) ≡ length xs * 2
length-coded_two q [] = refl
length-coded_two q (x ∷ xs) = let r : length (flat_map (modular q).code xs) ≡ length xs * 2 = length-coded_two q xs in omega arith

drop_past : {X : Type 0} (a b : List X) (n m : ℕ) → length a ≡ n → drop (n + m) (a ++ b) ≡ drop m b
drop_past a b n m h = sym (drop-drop m n (a ++ b)) ∙ ap (drop m) (drop_at a b n h)

pub commitments_listed : (F X : Digest) (p : Parameters) (header : List ℕ) → length header ≡ 15 → (x : Transcript ℕ) → Fits (setting F X p header) x →
    (e j : ℕ) → e < p.tau → j < parties p →
    part (text6 (setting F X p header) x) (commitment_at p e j) (width p) ≡ commitment (setting F X p header) x e j
unfolding text6
commitments_listed F X p header fifteen x fits e j q r =
    let s = setting F X p header in
    let fifteen-long = fifteen in
    let sound = setting_sound F X p header in
    let size = parties p * 32 + p.m * 2 in
    let rest = parts p.tau (committed_part s x) in
    let inner : ℕ = e * size + j * 32 in
    let split : commitment_at p e j ≡ 1 + (length header + (32 + (p.a + inner))) = omega arith in
    let each : (d : ℕ) → d < p.tau → length (parts (parties p) (commitment s x d)) ≡ parties p * 32 =
    λ d t. length-parts_of (parties p) 32 (commitment s x d) (λ i u. length-commitment sound x fits d i t) in
    let long : (d : ℕ) → d < p.tau → length (committed_part s x d) ≡ size =
    λ d t. length-append (parts (parties p) (commitment s x d)) _
    ∙ (λ i. each d t i + (length-coded_two (modulus p.set) (x.offsets d) ∙ ap (λ n. n * 2) (fits.offsets d t)) i) in
    let room : (j + 1) * 32 ≤ parties p * 32 = mul-le (j + 1) 32 (parties p) 32 (omega arith) (omega arith) in
    ap (λ n. take 32 (drop n (text6 s x))) split
    ∙ ap (take 32)
    (drop_past (6 ∷ []) (header ++ (x.salt ++ (x.attributes ++ rest))) 1 (length header + (32 + (p.a + inner))) refl
    ∙ drop_past header (x.salt ++ (x.attributes ++ rest)) (length header) (32 + (p.a + inner)) refl
    ∙ drop_past x.salt (x.attributes ++ rest) 32 (p.a + inner) fits.salt
    ∙ drop_past x.attributes rest p.a inner fits.attributes)
    ∙ parts_at p.tau size (committed_part s x) long e (j * 32) 32 q (omega arith)
    ∙ ap (take 32) (drop-append-le (j * 32) (parts (parties p) (commitment s x e)) _ (omega (arith, each e q)))
    ∙ take-append-le 32 (drop (j * 32) (parts (parties p) (commitment s x e))) _
    (omega (arith, each e q, length-drop (j * 32) (parts (parties p) (commitment s x e))))
    ∙ ap (λ n. take 32 (drop n (parts (parties p) (commitment s x e)))) (let n : j * 32 ≡ j * 32 + 0 = omega arith in n)
    ∙ parts_at (parties p) 32 (commitment s x e) (λ i u. length-commitment sound x fits e i q) j 0 32 r (omega arith)
    ∙ take_all 32 (commitment s x e j) (omega (arith, length-commitment sound x fits e j q))
