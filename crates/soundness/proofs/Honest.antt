-- An honest opening gives back its maker's texts.
use Rattle.std.proofs.Common.{◌≡◌, ℕ, zero, suc, ◌+◌, ◌<◌, false, cond, eqb, List, [], ◌∷◌, ◌++◌, map, length, get_or, pos, sym, refl, ap, ◌∙◌, subst, inl, inr, arith}
use Rattle.std.specs.List.{range_with_len, flat_map, AllByRecursion}
use Rattle.std.proofs.ByRecursion.{All-from_get_or}
use Rattle.std.proofs.lemmas.List.{length_push, get_or_push, get_or_append_left}
use Rattle.std.proofs.lemmas.List.FromFn.{get_or-map-range_with_len, length-map-range_with_len}
use Rattle.std.proofs.lemmas.Bool.{eq-eqb, ne_eqb, cond-true, cond-false, cases_eq, cases_Bool}
use Rattle.soundness.proofs.Sums.{others_same, completed_whole}
use Rattle.soundness.proofs.Parts.{parts_same}
use Rattle.soundness.proofs.Linearity.{image_total}
use Rattle.soundness.proofs.Recovery.{total_corrected}
use Rattle.soundness.proofs.Fields.{corrected_least}
use Rattle.soundness.proofs.Indices.{lists_ones}
use Rattle.protocol.specs.Extractor.{Sound}
use Rattle.protocol.specs.Flags.{kept_index, ones, audited_before, audited_of}
use Rattle.protocol.specs.Group.{total, completed}
use Rattle.protocol.specs.Prover.{HonestTexts, Secret, offsets, key, honest6, honest7, honest_part, opened, Shaped}
use Rattle.protocol.specs.Rule.{Rule, LawfulRule}
use Rattle.protocol.specs.Sharing.{Setting, Transcript, Fits, corrected, product_of, commitment, audited_share, product_share, committed_part, party_part, text6, text7}

unset_less : (flags : List ℕ) (n k : ℕ) → k < n → eqb (get_or flags k 0) 1 ≡ false → audited_before flags k < audited_before flags n
unset_less flags zero k h e = absurd (omega arith)
unset_less flags (suc n) k h e =
    elim (cases_eq k n) [
      | inl is ↦
          let here : audited_before flags (suc n) ≡ audited_before flags n + 1 = cond-false _ _ _ (ap (λ z. eqb (get_or flags z 0) 1) (sym is) ∙ e) in
          let same : audited_before flags k ≡ audited_before flags n = ap (audited_before flags) is in
          omega arith
      | inr not ↦
          let before : audited_before flags k < audited_before flags n = unset_less flags n k (omega arith) e in
          elim (cases_Bool (eqb (get_or flags n 0) 1)) [
            | inl t ↦ let here : audited_before flags (suc n) ≡ audited_before flags n = cond-true _ _ _ t in omega arith
            | inr t ↦ let here : audited_before flags (suc n) ≡ audited_before flags n + 1 = cond-false _ _ _ t in omega arith
          ]
    ]

module _ {V : Type 0} (flags : List ℕ) (v : ℕ → V) where
  length-left_out : (n : ℕ) → length (audited_of flags v n) ≡ audited_before flags n
  length-left_out zero = refl
  length-left_out (suc n) =
      elim (cases_Bool (eqb (get_or flags n 0) 1)) [
        | inl t ↦ ap length (cond-true _ _ _ t) ∙ length-left_out n ∙ sym (cond-true _ _ _ t)
        | inr t ↦ ap length (cond-false _ _ _ t) ∙ length_push (audited_of flags v n) (v n) ∙ ap (λ z. z + 1) (length-left_out n) ∙ sym (cond-false _ _ _ t)
      ]

  -- an audited value is read back at its index
  pub get_or-left_out : (n k : ℕ) (d : V) → k < n → eqb (get_or flags k 0) 1 ≡ false → get_or (audited_of flags v n) (audited_before flags k) d ≡ v k
  get_or-left_out zero k d h e = absurd (omega arith)
  get_or-left_out (suc n) k d h e =
      elim (cases_eq k n) [
        | inl is ↦
            ap (λ z. get_or z (audited_before flags k) d) (cond-false _ _ _ (ap (λ z. eqb (get_or flags z 0) 1) (sym is) ∙ e))
            ∙ get_or_push (audited_of flags v n) (v n) d (audited_before flags k) (length-left_out n ∙ ap (audited_before flags) (sym is))
            ∙ ap v (sym is)
        | inr not ↦
            let k<n : k < n = omega arith in
            elim (cases_Bool (eqb (get_or flags n 0) 1)) [
              | inl t ↦ ap (λ z. get_or z (audited_before flags k) d) (cond-true _ _ _ t) ∙ get_or-left_out n k d k<n e
              | inr t ↦
                  ap (λ z. get_or z (audited_before flags k) d) (cond-false _ _ _ t)
                  ∙ get_or_append_left (audited_of flags v n) (v n ∷ []) d (audited_before flags k) (omega (arith, length-left_out n, unset_less flags n k k<n e))
                  ∙ get_or-left_out n k d k<n e
            ]
      ]

module _ {G : Type 0} {s : Setting G} (sound : Sound s) (p : Secret) (chosen : ones p.flags ≡ s.rule.kept) (long : length p.flags ≡ s.values)
    (hidden : ℕ → ℕ) (within : (e : ℕ) → e < s.repetitions → hidden e < s.parties) (unknown : ℕ → ℕ → List ℕ) where
  abbrev x : Transcript G
  x = opened s p hidden unknown

  abbrev true_row : ℕ → ℕ → ℕ → G
  true_row e k j = corrected s p.salt (offsets s p e) e j (p.seed e j) k

  abbrev true_product : ℕ → ℕ → ℕ → G
  true_product e i j = product_of s p.seed_a p.flags p.salt (offsets s p e) e j (p.seed e j) i

  -- the shares come to the value
  total_row : (e k : ℕ) → e < s.repetitions → k < s.values → total s.rule.entries s.parties (true_row e k) ≡ s.rule.residue (p.values k)
  total_row e k q r =
      let t = total s.rule.entries s.parties (λ j. s.share p.salt e j (p.seed e j) k) in
      let h : hidden e < s.parties = within e q in
      total_corrected sound.rule.entries s.parties (get_or (offsets s p e) k s.rule.entries.none) (λ j. s.share p.salt e j (p.seed e j) k) (omega arith)
      ∙ ap (λ z. s.rule.entries.add z t) (get_or-map-range_with_len _ 0 s.values k k s.rule.entries.none r (omega arith))
      ∙ sound.rule.entries.undo (s.rule.residue (p.values k)) t
      ∙ sound.rule.residue_least (p.values k)

  total_product : (e i : ℕ) → e < s.repetitions → i < s.rule.size → total s.rule.entries s.parties (true_product e i) ≡ get_or (key s p) i s.rule.entries.none
  total_product e i q r =
      sym (image_total sound.rule p.seed_a s.parties (λ j m. true_row e (kept_index p.flags m) j) i)
      ∙ sound.rule.reach p.seed_a _ _ i r
      (λ m t. total_row e (kept_index p.flags m) q (let b : kept_index p.flags m < length p.flags = (lists_ones p.flags).within m (omega arith) in omega arith))
      ∙ sym (get_or-map-range_with_len _ 0 s.rule.size i i s.rule.entries.none r (omega arith))

  -- the unknown seed of the hidden party is not looked at
  seed_off : (e j : ℕ) → (j ≡ hidden e → ⊥) → x.seed e j ≡ p.seed e j
  unfolding opened
  seed_off e j not = cond-false _ _ _ (ne_eqb j (hidden e) not)

  completed_same : (n r : ℕ) (t : G) (f h : ℕ → G) → ((j : ℕ) → (j ≡ r → ⊥) → f j ≡ h j) → (j : ℕ) → completed s.rule.entries n r t f j ≡ completed s.rule.entries n r t h j
  completed_same n r t f h e j =
      elim (cases_eq j r) [
        | inl is ↦ cond-true _ _ _ (eq-eqb j r is) ∙ ap (s.rule.entries.sub t) (others_same sound.rule.entries n r f h (λ i q not. e i not)) ∙ sym (cond-true _ _ _ (eq-eqb j r is))
        | inr not ↦ cond-false _ _ _ (ne_eqb j r not) ∙ e j not ∙ sym (cond-false _ _ _ (ne_eqb j r not))
      ]

  pub audited_true : (e k j : ℕ) → e < s.repetitions → k < s.values → eqb (get_or p.flags k 0) 1 ≡ false → audited_share s x e k j ≡ true_row e k j
  unfolding opened
  audited_true e k j q r t =
      completed_same s.parties (hidden e) _ _ (true_row e k) (λ i not. ap (λ z. corrected s p.salt (offsets s p e) e i z k) (seed_off e i not)) j
      ∙ ap (λ z. completed s.rule.entries s.parties (hidden e) z (true_row e k) j)
      (ap s.rule.residue (get_or-left_out p.flags p.values s.values k (pos 0) r t) ∙ sym (total_row e k q r))
      ∙ completed_whole sound.rule.entries s.parties (hidden e) (true_row e k) (within e q) (corrected_least sound p.salt (offsets s p e) e (hidden e) (p.seed e (hidden e)) k) j

  pub product_true : (e i j : ℕ) → e < s.repetitions → i < s.rule.size → product_share s x e i j ≡ true_product e i j
  unfolding opened
  product_true e i j q r =
      completed_same s.parties (hidden e) _ _ (true_product e i)
      (λ m not. ap (λ z. product_of s p.seed_a p.flags p.salt (offsets s p e) e m z i) (seed_off e m not)) j
      ∙ ap (λ z. completed s.rule.entries s.parties (hidden e) z (true_product e i) j) (sym (total_product e i q r))
      ∙ completed_whole sound.rule.entries s.parties (hidden e) (true_product e i) (within e q) (sound.rule.least p.seed_a _ i) j

  commitment_true : (e j : ℕ) → commitment s x e j ≡ s.commit p.salt e j (p.seed e j)
  unfolding opened
  commitment_true e j =
      elim (cases_eq j (hidden e)) [
        | inl is ↦ cond-true _ _ _ (eq-eqb j (hidden e) is) ∙ ap (λ z. s.commit p.salt e z (p.seed e z)) (sym is)
        | inr not ↦ cond-false _ _ _ (ne_eqb j (hidden e) not) ∙ ap (s.commit p.salt e j) (seed_off e j not)
      ]

  listed_true : (e j k : ℕ) → e < s.repetitions → k < s.values →
      cond (eqb (get_or p.flags k 0) 1) [] (s.rule.entries.code (audited_share s x e k j)) ≡ cond (eqb (get_or p.flags k 0) 1) [] (s.rule.entries.code (true_row e k j))
  listed_true e j k q r =
      elim (cases_Bool (eqb (get_or p.flags k 0) 1)) [
        | inl t ↦ cond-true _ _ _ t ∙ sym (cond-true _ _ _ t)
        | inr t ↦ ap (λ z. cond (eqb (get_or p.flags k 0) 1) [] (s.rule.entries.code z)) (audited_true e k j q r t)
      ]

  party_true : (e j : ℕ) → e < s.repetitions → party_part s x e j ≡ honest_part s p e j
  unfolding opened
  party_true e j q =
      λ d. parts_same s.values _ _ (λ k r. listed_true e j k q r) d
      ++ parts_same s.rule.size _ _ (λ i r. ap s.rule.entries.code (product_true e i j q r)) d

  pub six_true : text6 s x ≡ honest6 s p
  unfolding text6 honest6 opened
  six_true =
      ap (λ z. 6 ∷ (s.header ++ (p.salt ++ (p.attributes ++ z))))
      (parts_same s.repetitions (committed_part s x) _
      (λ e q. ap (λ z. z ++ flat_map s.rule.entries.code (offsets s p e)) (parts_same s.parties (commitment s x e) _ (λ j r. commitment_true e j))))

  pub seven_true : text7 s x ≡ honest7 s p
  unfolding text7 honest7 opened
  seven_true =
      ap (λ z. 7 ∷ (p.salt ++ (p.d1 ++ (p.flags ++ (p.seed_a ++ (flat_map s.rule.entries.code (key s p) ++ z))))))
      (parts_same s.repetitions _ _ (λ e q. parts_same s.parties (party_part s x e) (honest_part s p e) (λ j r. party_true e j q)))

-- every entry of a row made from a function is in least form, if the function's values are
all_counted : {G : Type 0} (P : G → Type 0) (f : ℕ → G) (d : G) (n : ℕ) → ((k : ℕ) → P (f k)) → AllByRecursion P (map f (range_with_len 0 n))
all_counted P f d n h =
    All-from_get_or P (map f (range_with_len 0 n)) d
    (λ i q. subst P (sym (get_or-map-range_with_len f 0 n i i d (let m = length-map-range_with_len f 0 n in omega arith) (omega arith))) (h i))

pub opened_fits : {G : Type 0} {s : Setting G} → Sound s → (p : Secret) → Shaped s p → (hidden : ℕ → ℕ) →
    ((e : ℕ) → e < s.repetitions → hidden e < s.parties) → (unknown : ℕ → ℕ → List ℕ) → Fits s (opened s p hidden unknown)
unfolding opened
opened_fits {G} {s} sound p sh hidden within unknown = record {
  salt = sh.salt;
  d1 = sh.d1;
  attributes = sh.attributes;
  seed_a = sh.seed_a;
  flags = sh.flags;
  chosen = sh.chosen;
  key = length-map-range_with_len _ 0 s.rule.size;
  key_least = all_counted (λ b. s.rule.entries.norm b ≡ b) _ s.rule.entries.none s.rule.size (λ i. sound.rule.least p.seed_a _ i);
  hidden = within;
  hidden_commitment = λ e q. sound.drawn.commit_length p.salt e (hidden e) (p.seed e (hidden e));
  offsets = λ e q. length-map-range_with_len _ 0 s.values;
  offsets_least = λ e q. all_counted (λ b. s.rule.entries.norm b ≡ b) _ s.rule.entries.none s.values (λ k. sound.rule.entries.least_sub _ _);
}

pub honest_texts : {G : Type 0} (k : Rule G) → LawfulRule k → HonestTexts k
honest_texts {G} k lawful s is drawn p sh hidden within unknown =
    let sound : Sound s = record { rule = subst (λ r. LawfulRule r) (sym is) lawful; drawn = drawn } in (
      six_true sound p sh.chosen sh.flags hidden within unknown,
      seven_true sound p sh.chosen sh.flags hidden within unknown,
      opened_fits sound p sh hidden within unknown,
    )
