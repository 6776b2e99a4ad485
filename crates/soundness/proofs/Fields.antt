-- Entries with equal texts 6 and 7 agree in each field of the texts.
use Rattle.std.proofs.Common.{◌≡◌, ℕ, ◌+◌, ◌<◌, Bool, true, false, cond, eqb, List, [], ◌++◌, length, get_or, sym, refl, ap, ◌∙◌, arith}
use Rattle.std.specs.List.{flat_map}
use Rattle.std.proofs.lemmas.List.{length-append}
use Rattle.std.proofs.lemmas.Bool.{ne_eqb, cond-false, cond_both}
use Rattle.soundness.proofs.Parts.{same_append, same_cons, same_parts, length-parts, same_coded, length-coded}
use Rattle.protocol.specs.Extractor.{Sound}
use Rattle.protocol.specs.Group.{completed}
use Rattle.protocol.specs.Sharing.{Setting, Transcript, Fits, parts, corrected, product_of, commitment, audited_share, product_share, committed_part, party_part, text6, text7}

-- what equal texts say of repetition e
pub record Agree {G : Type 0} (s : Setting G) (x y : Transcript G) (e : ℕ) : Type 0 where
  pub salt : x.salt ≡ y.salt
  pub flags : x.flags ≡ y.flags
  pub seed_a : x.seed_a ≡ y.seed_a
  pub key : x.key ≡ y.key
  pub offsets : x.offsets e ≡ y.offsets e
  pub commitments : (j : ℕ) → j < s.parties → commitment s x e j ≡ commitment s y e j
  pub audited : (k j : ℕ) → k < s.values → j < s.parties → get_or x.flags k 0 ≡ 0 → audited_share s x e k j ≡ audited_share s y e k j
  pub products : (i j : ℕ) → i < s.rule.size → j < s.parties → product_share s x e i j ≡ product_share s y e i j

module _ {G : Type 0} {s : Setting G} (sound : Sound s) where
  tell : (u v : G) → s.rule.entries.norm u ≡ u → s.rule.entries.norm v ≡ v → s.rule.entries.code u ≡ s.rule.entries.code v → u ≡ v
  tell u v p q h = sym p ∙ sound.rule.entries.told u v (ap s.rule.entries.code p ∙ h ∙ sym (ap s.rule.entries.code q)) ∙ q

  pub corrected_least : (salt : List ℕ) (offsets : List G) (e j : ℕ) (seed : List ℕ) (k : ℕ) →
      s.rule.entries.norm (corrected s salt offsets e j seed k) ≡ corrected s salt offsets e j seed k
  corrected_least salt offsets e j seed k =
      cond_both (eqb j 0) _ _ (λ z. s.rule.entries.norm z ≡ z)
      (λ _. sound.rule.entries.least_add _ _) (λ _. sound.drawn.share_least salt e j seed k)

  completed_least : (n p : ℕ) (t : G) (f : ℕ → G) (j : ℕ) → s.rule.entries.norm (f j) ≡ f j →
      s.rule.entries.norm (completed s.rule.entries n p t f j) ≡ completed s.rule.entries n p t f j
  completed_least n p t f j h =
      cond_both (eqb j p) _ _ (λ z. s.rule.entries.norm z ≡ z) (λ _. sound.rule.entries.least_sub _ _) (λ _. h)

  audited_least : (x : Transcript G) (e k j : ℕ) → s.rule.entries.norm (audited_share s x e k j) ≡ audited_share s x e k j
  audited_least x e k j =
      completed_least s.parties (x.hidden e) _ (λ i. corrected s x.salt (x.offsets e) e i (x.seed e i) k) j
      (corrected_least x.salt (x.offsets e) e j (x.seed e j) k)

  product_least : (x : Transcript G) (e i j : ℕ) → s.rule.entries.norm (product_share s x e i j) ≡ product_share s x e i j
  product_least x e i j =
      completed_least s.parties (x.hidden e) _ (λ p. product_of s x.seed_a x.flags x.salt (x.offsets e) e p (x.seed e p) i) j
      (sound.rule.least _ _ i)

  pub length-commitment : (x : Transcript G) → Fits s x → (e j : ℕ) → e < s.repetitions → length (commitment s x e j) ≡ s.width
  length-commitment x f e j q =
      cond_both (eqb j (x.hidden e)) _ _ (λ z. length z ≡ s.width) (λ _. f.hidden_commitment e q) (λ _. sound.drawn.commit_length x.salt e j (x.seed e j))

  length_at : (t : Bool) (u v : G) → length (cond t [] (s.rule.entries.code u)) ≡ length (cond t [] (s.rule.entries.code v))
  length_at true u v = refl
  length_at false u v = sound.rule.entries.as_long u v

  module _ (x y : Transcript G) (fx : Fits s x) (fy : Fits s y) (six : text6 s x ≡ text6 s y) (seven : text7 s x ≡ text7 s y) where
    six_1 : (x.salt ≡ y.salt) × (x.attributes ++ parts s.repetitions (committed_part s x) ≡ y.attributes ++ parts s.repetitions (committed_part s y))
    unfolding text6
    six_1 =
        let a = (same_cons _ _ _ _ six).1 in
        let b = (same_append s.header _ s.header _ refl a).1 in
        same_append x.salt _ y.salt _ (fx.salt ∙ sym fy.salt) b

    six_2 : parts s.repetitions (committed_part s x) ≡ parts s.repetitions (committed_part s y)
    six_2 = (same_append x.attributes _ y.attributes _ (fx.attributes ∙ sym fy.attributes) six_1.1).1

    length-commitments : (e : ℕ) → e < s.repetitions → length (parts s.parties (commitment s x e)) ≡ length (parts s.parties (commitment s y e))
    length-commitments e q =
        length-parts s.parties (commitment s x e) (commitment s y e)
        (λ j r. length-commitment x fx e j q ∙ sym (length-commitment y fy e j q))

    length-committed : (e : ℕ) → e < s.repetitions → length (committed_part s x e) ≡ length (committed_part s y e)
    length-committed e q =
        length-append (parts s.parties (commitment s x e)) _
        ∙ (λ i. length-commitments e q i + length-coded sound.rule.entries (x.offsets e) (y.offsets e) (fx.offsets e q ∙ sym (fy.offsets e q)) i)
        ∙ sym (length-append (parts s.parties (commitment s y e)) _)

    six_3 : (e : ℕ) → e < s.repetitions →
        (parts s.parties (commitment s x e) ≡ parts s.parties (commitment s y e)) × (flat_map s.rule.entries.code (x.offsets e) ≡ flat_map s.rule.entries.code (y.offsets e))
    six_3 e q =
        same_append (parts s.parties (commitment s x e)) _ (parts s.parties (commitment s y e)) _ (length-commitments e q)
        (same_parts s.repetitions (committed_part s x) (committed_part s y) length-committed six_2 e q)

    abbrev Rest : Transcript G → List ℕ
    Rest z = parts s.repetitions (λ e. parts s.parties (party_part s z e))

    seven_1 : (x.flags ≡ y.flags) × (x.seed_a ≡ y.seed_a) × (flat_map s.rule.entries.code x.key ≡ flat_map s.rule.entries.code y.key) × (Rest x ≡ Rest y)
    unfolding text7
    seven_1 =
        let a = (same_cons _ _ _ _ seven).1 in
        let b = (same_append x.salt _ y.salt _ (fx.salt ∙ sym fy.salt) a).1 in
        let c = (same_append x.d1 _ y.d1 _ (fx.d1 ∙ sym fy.d1) b).1 in
        let d = same_append x.flags _ y.flags _ (fx.flags ∙ sym fy.flags) c in
        let f = same_append x.seed_a _ y.seed_a _ (fx.seed_a ∙ sym fy.seed_a) d.1 in
        let k = same_append (flat_map s.rule.entries.code x.key) (Rest x) (flat_map s.rule.entries.code y.key) (Rest y)
        (length-coded sound.rule.entries x.key y.key (fx.key ∙ sym fy.key)) f.1 in
        (d.0, f.0, k.0, k.1)

    abbrev listed : Transcript G → ℕ → ℕ → ℕ → List ℕ
    listed z e j k = cond (eqb (get_or z.flags k 0) 1) [] (s.rule.entries.code (audited_share s z e k j))

    length-listed : (e j k : ℕ) → length (listed x e j k) ≡ length (listed y e j k)
    length-listed e j k =
        ap (λ fs. length (cond (eqb (get_or fs k 0) 1) [] (s.rule.entries.code (audited_share s x e k j)))) seven_1.0
        ∙ length_at (eqb (get_or y.flags k 0) 1) (audited_share s x e k j) (audited_share s y e k j)

    length-audited : (e j : ℕ) → length (parts s.values (listed x e j)) ≡ length (parts s.values (listed y e j))
    length-audited e j = length-parts s.values (listed x e j) (listed y e j) (λ k r. length-listed e j k)

    length-party : (e j : ℕ) → length (party_part s x e j) ≡ length (party_part s y e j)
    length-party e j =
        length-append (parts s.values (listed x e j)) _
        ∙ (λ i. length-audited e j i + length-parts s.rule.size (λ m. s.rule.entries.code (product_share s x e m j)) (λ m. s.rule.entries.code (product_share s y e m j)) (λ m r. sound.rule.entries.as_long _ _) i)
        ∙ sym (length-append (parts s.values (listed y e j)) _)

    seven_2 : (e j : ℕ) → e < s.repetitions → j < s.parties → party_part s x e j ≡ party_part s y e j
    seven_2 e j q r =
        same_parts s.parties (party_part s x e) (party_part s y e) (λ i t. length-party e i)
        (same_parts s.repetitions (λ d. parts s.parties (party_part s x d)) (λ d. parts s.parties (party_part s y d))
        (λ d t. length-parts s.parties (party_part s x d) (party_part s y d) (λ i u. length-party d i)) seven_1.3 e q) j r

    seven_3 : (e j : ℕ) → e < s.repetitions → j < s.parties →
        (parts s.values (listed x e j) ≡ parts s.values (listed y e j))
        × (parts s.rule.size (λ m. s.rule.entries.code (product_share s x e m j)) ≡ parts s.rule.size (λ m. s.rule.entries.code (product_share s y e m j)))
    seven_3 e j q r = same_append (parts s.values (listed x e j)) _ (parts s.values (listed y e j)) _ (length-audited e j) (seven_2 e j q r)

    listed_at : (z : Transcript G) (e j k : ℕ) → get_or z.flags k 0 ≡ 0 → listed z e j k ≡ s.rule.entries.code (audited_share s z e k j)
    listed_at z e j k h = cond-false _ _ _ (ne_eqb (get_or z.flags k 0) 1 (λ o. omega arith))

    pub agree : (e : ℕ) → e < s.repetitions → Agree s x y e
    agree e q = record {
      salt = six_1.0;
      flags = seven_1.0;
      seed_a = seven_1.1;
      key = same_coded sound.rule.entries x.key y.key (fx.key ∙ sym fy.key) fx.key_least fy.key_least seven_1.2;
      offsets = same_coded sound.rule.entries (x.offsets e) (y.offsets e) (fx.offsets e q ∙ sym (fy.offsets e q)) (fx.offsets_least e q) (fy.offsets_least e q) (six_3 e q).1;
      commitments = λ j r. same_parts s.parties (commitment s x e) (commitment s y e)
          (λ i t. length-commitment x fx e i q ∙ sym (length-commitment y fy e i q)) (six_3 e q).0 j r;
      audited = λ k j t r h.
          tell (audited_share s x e k j) (audited_share s y e k j) (audited_least x e k j) (audited_least y e k j)
          (sym (listed_at x e j k h)
          ∙ same_parts s.values (listed x e j) (listed y e j) (λ i u. length-listed e j i) (seven_3 e j q r).0 k t
          ∙ listed_at y e j k (ap (λ fs. get_or fs k 0) (sym seven_1.0) ∙ h));
      products = λ i j t r.
          tell (product_share s x e i j) (product_share s y e i j) (product_least x e i j) (product_least y e i j)
          (same_parts s.rule.size (λ m. s.rule.entries.code (product_share s x e m j)) (λ m. s.rule.entries.code (product_share s y e m j))
          (λ m u. sound.rule.entries.as_long _ _) (seven_3 e j q r).1 i t);
    }
