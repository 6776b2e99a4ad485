-- Entries that agree, with different hidden parties, give the values.
use Rattle.std.proofs.Common.{◌≡◌, ℕ, ◌<◌, Bool, true, false, cond, eqb, List, length, get_or, sym, refl, ap, ◌∙◌, subst, inl, inr, arith}
use mathlib.Core.Path.{fun_ext}
use Rattle.std.proofs.ByRecursion.{All-get_or}
use Rattle.std.proofs.lemmas.Bool.{eq-eqb, ne_eqb, cond-true, cond-false, cases_eq}
use Rattle.soundness.proofs.Sums.{total_same, total_others, others_same, total_completed, joined_row}
use Rattle.soundness.proofs.Linearity.{image_total}
use Rattle.soundness.proofs.Fields.{Agree, agree}
use Rattle.protocol.specs.Extractor.{Shows, Sound, joint_seeds, value_of, SpecialSoundness}
use Rattle.protocol.specs.Flags.{kept_index}
use Rattle.protocol.specs.Group.{Entries, Lawful, total, others, completed}
use Rattle.protocol.specs.Rule.{Rule, LawfulRule}
use Rattle.protocol.specs.Sharing.{Setting, Transcript, Fits, corrected, product_of, value_at, audited_share, product_share}

into_cond : {A B : Type 0} (f : A → B) (b : Bool) (u v : A) → f (cond b u v) ≡ cond b (f u) (f v)
into_cond f true u v = refl
into_cond f false u v = refl

module _ {G : Type 0} {g : Entries G} (l : Lawful g) where
  -- what is added to party 0 is added to all
  pub total_corrected : (n : ℕ) (o : G) (f : ℕ → G) → 0 < n → total g n (λ j. cond (eqb j 0) (g.add (f j) o) (f j)) ≡ g.add o (total g n f)
  total_corrected n o f some =
      let h : ℕ → G = λ j. cond (eqb j 0) (g.add (f j) o) (f j) in
      total_others l n 0 h some
      ∙ ap (g.add (g.add (f 0) o)) (others_same l n 0 h f (λ j q not. cond-false _ _ _ (ne_eqb j 0 not)))
      ∙ ap (λ z. g.add z (others g n 0 f)) (l.comm (f 0) o)
      ∙ l.assoc o (f 0) (others g n 0 f)
      ∙ ap (g.add o) (sym (total_others l n 0 f some))

module _ {G : Type 0} {s : Setting G} (sound : Sound s) where
  -- the value is the sum of the corrected shares
  pub value_total : (x : Transcript G) (seeds : ℕ → List ℕ) (e : ℕ) → 0 < s.parties → (k : ℕ) →
      value_of s x seeds e k ≡ total s.rule.entries s.parties (λ j. corrected s x.salt (x.offsets e) e j (seeds j) k)
  unfolding value_of
  value_total x seeds e some k =
      sym (total_corrected sound.rule.entries s.parties (get_or (x.offsets e) k s.rule.entries.none) (λ j. s.share x.salt e j (seeds j) k) some)

  module _ (x y : Transcript G) (fx : Fits s x) (fy : Fits s y) (e : ℕ) (q : e < s.repetitions) (a : Agree s x y e)
      (apart : x.hidden e ≡ y.hidden e → ⊥) where
    abbrev seeds : ℕ → List ℕ
    seeds = joint_seeds x y e

    abbrev row : ℕ → ℕ → G
    row k j = corrected s x.salt (x.offsets e) e j (seeds j) k

    abbrev image_row : ℕ → ℕ → G
    image_row i j = product_of s x.seed_a x.flags x.salt (x.offsets e) e j (seeds j) i

    row_audited : (k j : ℕ) → k < s.values → j < s.parties → get_or x.flags k 0 ≡ 0 → row k j ≡ audited_share s x e k j
    unfolding joint_seeds
    row_audited k j t r h =
        into_cond (λ z. corrected s x.salt (x.offsets e) e j z k) (eqb j (x.hidden e)) (y.seed e j) (x.seed e j)
        ∙ joined_row sound.rule.entries s.parties (x.hidden e) (y.hidden e) (s.rule.residue (value_at s x k)) (s.rule.residue (value_at s y k))
        (λ i. corrected s x.salt (x.offsets e) e i (x.seed e i) k)
        (λ i. corrected s x.salt (x.offsets e) e i (y.seed e i) k)
        apart
        (λ i u. a.audited k i t u h
        ∙ (λ d. completed s.rule.entries s.parties (y.hidden e) (s.rule.residue (value_at s y k))
        (λ p. corrected s (sym a.salt d) (sym a.offsets d) e p (y.seed e p) k) i))
        j r

    row_product : (i j : ℕ) → i < s.rule.size → j < s.parties → image_row i j ≡ product_share s x e i j
    unfolding joint_seeds
    row_product i j t r =
        into_cond (λ z. product_of s x.seed_a x.flags x.salt (x.offsets e) e j z i) (eqb j (x.hidden e)) (y.seed e j) (x.seed e j)
        ∙ joined_row sound.rule.entries s.parties (x.hidden e) (y.hidden e) (get_or x.key i s.rule.entries.none) (get_or y.key i s.rule.entries.none)
        (λ m. product_of s x.seed_a x.flags x.salt (x.offsets e) e m (x.seed e m) i)
        (λ m. product_of s x.seed_a x.flags x.salt (x.offsets e) e m (y.seed e m) i)
        apart
        (λ m u. a.products i m t u
        ∙ (λ d. completed s.rule.entries s.parties (y.hidden e) (get_or y.key i s.rule.entries.none)
        (λ p. product_of s (sym a.seed_a d) (sym a.flags d) (sym a.salt d) (sym a.offsets d) e p (y.seed e p) i) m))
        j r

    some : 0 < s.parties
    some = let h : x.hidden e < s.parties = fx.hidden e q in omega arith

    abbrev values : ℕ → G
    values = value_of s x seeds e

    values_first : (k : ℕ) → k < s.values → get_or x.flags k 0 ≡ 0 → values k ≡ total s.rule.entries s.parties (audited_share s x e k)
    values_first k t h =
        value_total x seeds e some k
        ∙ total_same sound.rule.entries s.parties (row k) (audited_share s x e k) (λ j r. row_audited k j t r h)

    opens_first : Shows s x seeds values e
    unfolding joint_seeds
    opens_first = record {
      commitments = λ j r.
          elim (cases_eq j (x.hidden e)) [
            | inl is ↦
                ap (s.commit x.salt e j) (cond-true _ _ _ (eq-eqb j (x.hidden e) is))
                ∙ ap (λ z. s.commit z e j (y.seed e j)) a.salt
                ∙ sym (cond-false _ _ _ (ne_eqb j (y.hidden e) (λ o. apart (sym is ∙ o))))
                ∙ sym (a.commitments j r)
            | inr not ↦
                ap (s.commit x.salt e j) (cond-false _ _ _ (ne_eqb j (x.hidden e) not))
                ∙ sym (cond-false _ _ _ (ne_eqb j (x.hidden e) not))
          ];
      audited = λ k t h.
          values_first k t h
          ∙ total_completed sound.rule.entries s.parties (x.hidden e) (s.rule.residue (value_at s x k)) _ (fx.hidden e q)
          ∙ sound.rule.residue_least (value_at s x k);
      key = λ i t.
          ap (λ v. s.rule.image x.seed_a (λ m. v (kept_index x.flags m)) i) (fun_ext (value_total x seeds e some))
          ∙ image_total sound.rule x.seed_a s.parties (λ j m. row (kept_index x.flags m) j) i
          ∙ total_same sound.rule.entries s.parties (image_row i) (product_share s x e i) (λ j r. row_product i j t r)
          ∙ total_completed sound.rule.entries s.parties (x.hidden e) (get_or x.key i s.rule.entries.none) _ (fx.hidden e q)
          ∙ All-get_or (λ b. s.rule.entries.norm b ≡ b) x.key i s.rule.entries.none (let n : length x.key ≡ s.rule.size = fx.key in omega arith) fx.key_least;
    }

    opens_second : Shows s y seeds values e
    opens_second = record {
      commitments = λ j r. ap (λ z. s.commit z e j (seeds j)) (sym a.salt) ∙ opens_first.commitments j r ∙ a.commitments j r;
      audited = λ k t h.
          let h' : get_or x.flags k 0 ≡ 0 = ap (λ fs. get_or fs k 0) a.flags ∙ h in
          values_first k t h'
          ∙ total_same sound.rule.entries s.parties (audited_share s x e k) (audited_share s y e k) (λ j r. a.audited k j t r h')
          ∙ total_completed sound.rule.entries s.parties (y.hidden e) (s.rule.residue (value_at s y k)) _ (fy.hidden e q)
          ∙ sound.rule.residue_least (value_at s y k);
      key = λ i t.
          (λ d. s.rule.image (sym a.seed_a d) (λ m. values (kept_index (sym a.flags d) m)) i)
          ∙ opens_first.key i t
          ∙ ap (λ b. get_or b i s.rule.entries.none) a.key;
    }

pub special_soundness : {G : Type 0} (k : Rule G) → LawfulRule k → SpecialSoundness k
special_soundness {G} k lawful s is drawn x y fx fy six seven e q apart =
    let sound : Sound s = record { rule = subst (λ r. LawfulRule r) (sym is) lawful; drawn = drawn } in
    let a = agree sound x y fx fy six seven e q in
    (opens_first sound x y fx fy e q a apart, opens_second sound x y fx fy e q a apart)
