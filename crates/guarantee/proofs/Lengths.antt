-- The lengths of texts 6 and 7 follow from the header.
use Rattle.std.proofs.Common.{◌≡◌, ℕ, zero, suc, ◌+◌, ◌-◌, ◌*◌, ◌<◌, true, false, cond, eqb, List, [], ◌∷◌, ◌++◌, length, get_or, take, sym, refl, ap, ◌∙◌, inl, inr, one-add, arith, length-append}
use Rattle.std.specs.List.{flat_map, common_prefix_len}
use Rattle.std.specs.Str.{bytes_eq}
use Rattle.std.proofs.lemmas.Slice.Eq.{bytes_eq-Decides}
use Rattle.std.proofs.lemmas.Bool.{cond-true, cond-false, cases_Bool, cases_eq, eq-eqb, ne_eqb}
use Rattle.guarantee.proofs.Reading.{unset_all}
use Rattle.soundness.proofs.Fields.{length-commitment}
use Rattle.soundness.proofs.Scheme.{setting_sound}
use Rattle.soundness.proofs.Positions.{length-parts_of}
use Rattle.protocol.specs.Flags.{ones, audited_before}
use Rattle.protocol.specs.Parameters.{Parameters, parties, modulus}
use Rattle.protocol.specs.Residues.{modular}
use Rattle.protocol.specs.Streams.{Digest}
use Rattle.protocol.specs.Scheme.{setting}
use Rattle.protocol.specs.Sharing.{Setting, Transcript, Fits, parts, commitment, committed_part, audited_share, product_share, party_part, text6, text7}

pub length-coded : (q : ℕ) (xs : List ℕ) → length (flat_map (modular q).code xs) ≡ length xs * 2
length-coded q [] = refl
length-coded q (x ∷ xs) = let r : length (flat_map (modular q).code xs) ≡ length xs * 2 = length-coded q xs in omega arith

length-listed : (q : ℕ) (flags : List ℕ) (g : ℕ → ℕ) (n : ℕ) → length (parts n (λ k. cond (eqb (get_or flags k 0) 1) [] ((modular q).code (g k)))) ≡ audited_before flags n * 2
length-listed q flags g zero = refl
length-listed q flags g (suc n) =
    let f : ℕ → List ℕ = λ k. cond (eqb (get_or flags k 0) 1) [] ((modular q).code (g k)) in
    let r : length (parts n f) ≡ audited_before flags n * 2 = length-listed q flags g n in
    let a : length (parts n f ++ f n) ≡ length (parts n f) + length (f n) = length-append (parts n f) (f n) in
    elim (cases_Bool (eqb (get_or flags n 0) 1)) [
      | inl t ↦
          let u : audited_before flags (suc n) ≡ audited_before flags n = cond-true _ _ _ t in
          let v : length (f n) ≡ 0 = ap length (cond-true _ [] ((modular q).code (g n)) t) in
          a ∙ (let z : length (parts n f) + length (f n) ≡ audited_before flags (suc n) * 2 = omega arith in z)
      | inr t ↦
          let u : audited_before flags (suc n) ≡ audited_before flags n + 1 = cond-false _ _ _ t in
          let v : length (f n) ≡ 2 = ap length (cond-false _ [] ((modular q).code (g n)) t) in
          a ∙ (let z : length (parts n f) + length (f n) ≡ audited_before flags (suc n) * 2 = omega arith in z)
    ]

module _ (F X : Digest) (z : Parameters) (header : List ℕ) (x : Transcript ℕ) (f : Fits (setting F X z header) x) where
  abbrev s : Setting ℕ
  s = setting F X z header

  length-committed : (e : ℕ) → e < z.tau → length (committed_part s x e) ≡ parties z * 32 + z.m * 2
  length-committed e q =
      length-append (parts (parties z) (commitment s x e)) _
      ∙ (λ i. length-parts_of (parties z) 32 (commitment s x e) (λ j u. length-commitment (setting_sound F X z header) x f e j q) i
      + (length-coded (modulus z.set) (x.offsets e) ∙ ap (λ n. n * 2) (f.offsets e q)) i)

  pub length-six : length (text6 s x) ≡ 1 + (length header + (32 + (z.a + z.tau * (parties z * 32 + z.m * 2))))
  unfolding text6
  length-six =
      let rest = parts z.tau (committed_part s x) in
      let a = length-append header (x.salt ++ (x.attributes ++ rest)) in
      let b = length-append x.salt (x.attributes ++ rest) in
      let c = length-append x.attributes rest in
      let d = length-parts_of z.tau (parties z * 32 + z.m * 2) (committed_part s x) length-committed in
      let p = f.salt in let q = f.attributes in
      omega arith

  abbrev share_bytes : ℕ
  share_bytes = (z.m - 2 * (z.n * z.c)) * 2 + z.n * z.c * 2

  length-party : (e j : ℕ) → length (party_part s x e j) ≡ share_bytes
  length-party e j =
      let one = parts z.m (λ k. cond (eqb (get_or x.flags k 0) 1) [] ((modular (modulus z.set)).code (audited_share s x e k j))) in
      let two = parts (z.n * z.c) (λ i. (modular (modulus z.set)).code (product_share s x e i j)) in
      let a : length one ≡ audited_before x.flags z.m * 2 = length-listed (modulus z.set) x.flags (λ k. audited_share s x e k j) z.m in
      let b : length two ≡ z.n * z.c * 2 = length-parts_of (z.n * z.c) 2 _ (λ i q. refl) in
      let c : audited_before x.flags z.m + ones x.flags ≡ z.m = unset_all x.flags z.m f.flags in
      let d : ones x.flags ≡ 2 * (z.n * z.c) = f.chosen in
      length-append one two ∙ (let w : length one + length two ≡ share_bytes = omega arith in w)

  pub length-seven : length (text7 s x) ≡ 1 + (32 + (32 + (z.m + (16 + (z.n * z.c * 2 + z.tau * (parties z * share_bytes))))))
  unfolding text7
  length-seven =
      let rest = parts z.tau (λ e. parts (parties z) (party_part s x e)) in
      let keyed = flat_map (modular (modulus z.set)).code x.key in
      let a = length-append x.salt (x.d1 ++ (x.flags ++ (x.seed_a ++ (keyed ++ rest)))) in
      let b = length-append x.d1 (x.flags ++ (x.seed_a ++ (keyed ++ rest))) in
      let c = length-append x.flags (x.seed_a ++ (keyed ++ rest)) in
      let d = length-append x.seed_a (keyed ++ rest) in
      let g = length-append keyed rest in
      let k : length keyed ≡ z.n * z.c * 2 = length-coded (modulus z.set) x.key ∙ ap (λ n. n * 2) f.key in
      let l : length rest ≡ z.tau * (parties z * share_bytes) =
      length-parts_of z.tau (parties z * share_bytes) _ (λ e q. length-parts_of (parties z) share_bytes (party_part s x e) (λ j r. length-party e j)) in
      let p = f.salt in let q = f.d1 in let t = f.flags in let u = f.seed_a in
      omega arith

-- two texts of one length that are not the same
pub record Differ (a b : List ℕ) : Type 0 where
  pub before : take (common_prefix_len eqb a b) a ≡ take (common_prefix_len eqb a b) b
  pub inside : common_prefix_len eqb a b < length a
  pub here : get_or a (common_prefix_len eqb a b) 0 ≡ get_or b (common_prefix_len eqb a b) 0 → ⊥

pub differ : (a b : List ℕ) → length a ≡ length b → (a ≡ b → ⊥) → Differ a b
differ [] [] n not = absurd (not refl)
differ [] (y ∷ ys) n not = absurd (omega arith)
differ (x ∷ xs) [] n not = absurd (omega arith)
differ (x ∷ xs) (y ∷ ys) n not =
    elim (cases_eq x y) [
      | inl is ↦
          (let at : common_prefix_len eqb (x ∷ xs) (y ∷ ys) ≡ suc (common_prefix_len eqb xs ys) = cond-true _ _ _ (eq-eqb x y is) ∙ one-add (common_prefix_len eqb xs ys) in
          let d = differ xs ys (omega arith) (λ same. not (λ i. is i ∷ same i)) in
          let inside = d.inside in
          record {
            before = ap (λ n. take n (x ∷ xs)) at ∙ (λ i. is i ∷ d.before i) ∙ sym (ap (λ n. take n (y ∷ ys)) at);
            inside = omega arith;
            here = λ e. d.here (sym (ap (λ n. get_or (x ∷ xs) n 0) at) ∙ e ∙ ap (λ n. get_or (y ∷ ys) n 0) at);
          })
      | inr other ↦
          (let at : common_prefix_len eqb (x ∷ xs) (y ∷ ys) ≡ 0 = cond-false _ _ _ (ne_eqb x y other) in
          record {
            before = ap (λ n. take n (x ∷ xs)) at ∙ sym (ap (λ n. take n (y ∷ ys)) at);
            inside = omega arith;
            here = λ e. other (sym (ap (λ n. get_or (x ∷ xs) n 0) at) ∙ e ∙ ap (λ n. get_or (y ∷ ys) n 0) at);
          })
    ]

pub not_same : (a b : List ℕ) → bytes_eq a b ≡ false → a ≡ b → ⊥
not_same a b e is = let t : bytes_eq a b ≡ true = (bytes_eq-Decides a b).1 is in let z : ◌≡◌ {A = ℕ} 0 1 = cc in omega arith
