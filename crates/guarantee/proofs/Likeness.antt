-- Entries that are alike wherever a text looks have the same texts.
use Rattle.std.proofs.Common.{◌≡◌, ℕ, ◌<◌, cond, eqb, [], ◌∷◌, ◌++◌, get_or, pos, sym, ap, ◌∙◌, inl, inr}
use Rattle.std.specs.List.{flat_map}
use Rattle.std.proofs.lemmas.Bool.{cond-true, cond-false, cases_eq, eq-eqb, ne_eqb}
use Rattle.soundness.proofs.Sums.{others_same}
use Rattle.soundness.proofs.Parts.{parts_same}
use Rattle.protocol.specs.Extractor.{Sound}
use Rattle.protocol.specs.Flags.{audited_before}
use Rattle.protocol.specs.Group.{Entries, Lawful, completed}
use Rattle.protocol.specs.Sharing.{Setting, Transcript, parts, corrected, product_of, value_at, commitment, audited_share, product_share, committed_part, party_part, text6, text7}

pub record Alike {G : Type 0} (s : Setting G) (x y : Transcript G) : Type 0 where
  pub salt : x.salt ≡ y.salt
  pub d1 : x.d1 ≡ y.d1
  pub attributes : x.attributes ≡ y.attributes
  pub seed_a : x.seed_a ≡ y.seed_a
  pub flags : x.flags ≡ y.flags
  pub key : x.key ≡ y.key
  pub audited : x.audited ≡ y.audited
  pub hidden : (e : ℕ) → e < s.repetitions → x.hidden e ≡ y.hidden e
  pub hidden_commitment : (e : ℕ) → e < s.repetitions → x.hidden_commitment e ≡ y.hidden_commitment e
  pub offsets : (e : ℕ) → e < s.repetitions → x.offsets e ≡ y.offsets e
  pub seed : (e j : ℕ) → e < s.repetitions → j < s.parties → (j ≡ x.hidden e → ⊥) → x.seed e j ≡ y.seed e j

completed_like : {G : Type 0} {g : Entries G} (l : Lawful g) (n p : ℕ) (t : G) (f h : ℕ → G) → ((j : ℕ) → j < n → (j ≡ p → ⊥) → f j ≡ h j) →
    (j : ℕ) → j < n → completed g n p t f j ≡ completed g n p t h j
completed_like {G} {g} l n p t f h e j q =
    elim (cases_eq j p) [
      | inl is ↦ cond-true _ _ _ (eq-eqb j p is) ∙ ap (g.sub t) (others_same l n p f h e) ∙ sym (cond-true _ _ _ (eq-eqb j p is))
      | inr not ↦ cond-false _ _ _ (ne_eqb j p not) ∙ e j q not ∙ sym (cond-false _ _ _ (ne_eqb j p not))
    ]

module _ {G : Type 0} {s : Setting G} (sound : Sound s) (x y : Transcript G) (a : Alike s x y) where
  same_commitment : (e j : ℕ) → e < s.repetitions → j < s.parties → commitment s x e j ≡ commitment s y e j
  same_commitment e j q r =
      elim (cases_eq j (x.hidden e)) [
        | inl is ↦ cond-true _ _ _ (eq-eqb j (x.hidden e) is) ∙ a.hidden_commitment e q ∙ sym (cond-true _ _ _ (eq-eqb j (y.hidden e) (is ∙ a.hidden e q)))
        | inr not ↦
            cond-false _ _ _ (ne_eqb j (x.hidden e) not)
            ∙ (λ i. s.commit (a.salt i) e j (a.seed e j q r not i))
            ∙ sym (cond-false _ _ _ (ne_eqb j (y.hidden e) (λ o. not (o ∙ sym (a.hidden e q)))))
      ]

  pub same_six : text6 s x ≡ text6 s y
  unfolding text6
  same_six = λ i. 6 ∷ (s.header ++ (a.salt i ++ (a.attributes i ++
      parts_same s.repetitions (committed_part s x) (committed_part s y)
      (λ e q. λ d. parts_same s.parties (commitment s x e) (commitment s y e) (λ j r. same_commitment e j q r) d ++ flat_map s.rule.entries.code (a.offsets e q d)) i)))

  same_audited : (e k j : ℕ) → e < s.repetitions → j < s.parties → audited_share s x e k j ≡ audited_share s y e k j
  same_audited e k j q r =
      completed_like sound.rule.entries s.parties (x.hidden e) (s.rule.residue (value_at s x k))
      (λ p. corrected s x.salt (x.offsets e) e p (x.seed e p) k) (λ p. corrected s x.salt (x.offsets e) e p (y.seed e p) k)
      (λ p t not. ap (λ z. corrected s x.salt (x.offsets e) e p z k) (a.seed e p q t not)) j r
      ∙ (λ i. completed s.rule.entries s.parties (a.hidden e q i) (s.rule.residue (get_or (a.audited i) (audited_before (a.flags i) k) (pos 0)))
      (λ p. corrected s (a.salt i) (a.offsets e q i) e p (y.seed e p) k) j)

  same_product : (e m j : ℕ) → e < s.repetitions → j < s.parties → product_share s x e m j ≡ product_share s y e m j
  same_product e m j q r =
      completed_like sound.rule.entries s.parties (x.hidden e) (get_or x.key m s.rule.entries.none)
      (λ p. product_of s x.seed_a x.flags x.salt (x.offsets e) e p (x.seed e p) m) (λ p. product_of s x.seed_a x.flags x.salt (x.offsets e) e p (y.seed e p) m)
      (λ p t not. ap (λ z. product_of s x.seed_a x.flags x.salt (x.offsets e) e p z m) (a.seed e p q t not)) j r
      ∙ (λ i. completed s.rule.entries s.parties (a.hidden e q i) (get_or (a.key i) m s.rule.entries.none)
      (λ p. product_of s (a.seed_a i) (a.flags i) (a.salt i) (a.offsets e q i) e p (y.seed e p) m) j)

  same_party : (e j : ℕ) → e < s.repetitions → j < s.parties → party_part s x e j ≡ party_part s y e j
  same_party e j q r = λ d.
      parts_same s.values (λ k. cond (eqb (get_or x.flags k 0) 1) [] (s.rule.entries.code (audited_share s x e k j))) (λ k. cond (eqb (get_or y.flags k 0) 1) [] (s.rule.entries.code (audited_share s y e k j)))
      (λ k t. λ i. cond (eqb (get_or (a.flags i) k 0) 1) [] (s.rule.entries.code (same_audited e k j q r i))) d
      ++ parts_same s.rule.size (λ m. s.rule.entries.code (product_share s x e m j)) (λ m. s.rule.entries.code (product_share s y e m j))
      (λ m t. ap s.rule.entries.code (same_product e m j q r)) d

  pub same_seven : text7 s x ≡ text7 s y
  unfolding text7
  same_seven = λ i. 7 ∷ (a.salt i ++ (a.d1 i ++ (a.flags i ++ (a.seed_a i ++ (flat_map s.rule.entries.code (a.key i) ++
      parts_same s.repetitions (λ e. parts s.parties (party_part s x e)) (λ e. parts s.parties (party_part s y e))
      (λ e q. parts_same s.parties (party_part s x e) (party_part s y e) (λ j r. same_party e j q r)) i)))))
