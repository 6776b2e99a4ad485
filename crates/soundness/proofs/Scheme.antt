-- The setting of FrodoKEM keys is sound, whatever F and X are.
use Rattle.std.proofs.Common.{◌≡◌, ℕ, ◌+◌, ◌*◌, ◌%◌, ◌<◌, ◌≤◌, eqb, List, get_or, sym, refl, ◌∙◌, arith}
use native.Mathlib.Nat.{mod-mod}
use Rattle.std.proofs.lemmas.List.FromFn.{length-map-range_with_len}
use Rattle.std.proofs.lemmas.Nat.{mul-add-lt, div-mul-add, mod-mul-add}
use Rattle.std.proofs.lemmas.Bool.{cond_both}
use Rattle.soundness.proofs.Honest.{honest_texts}
use Rattle.soundness.proofs.Residues.{matrix_lawful}
use Rattle.soundness.proofs.Recovery.{special_soundness}
use Rattle.protocol.specs.Extractor.{Drawn, Sound, joint_seeds, value_of, Shows}
use Rattle.protocol.specs.Flags.{kept_index}
use Rattle.protocol.specs.Parameters.{Parameters, modulus, width, parties}
use Rattle.protocol.specs.Prover.{Secret, Shaped, honest6, honest7, opened}
use Rattle.protocol.specs.Residues.{residue, dot, matrix}
use Rattle.protocol.specs.Rule.{LawfulRule}
use Rattle.protocol.specs.Scheme.{setting}
use Rattle.protocol.specs.Sharing.{Setting, Transcript, Fits, value_at, commitment, text6, text7}
use Rattle.protocol.specs.Streams.{Digest, first_bytes, drawn}
use Rattle.protocol.specs.Texts.{leaf_text}

pub modulus_some : (set : ℕ) → 0 < modulus set
modulus_some set = cond_both (eqb set 1) 32768 65536 (λ q. 0 < q) (λ _. omega arith) (λ _. omega arith)

pub modulus_small : (set : ℕ) → modulus set ≤ 65536
modulus_small set = cond_both (eqb set 1) 32768 65536 (λ q. q ≤ 65536) (λ _. omega arith) (λ _. omega arith)

-- what the seeds of all parties of repetition e show of a transcript, with the product written out
pub record Reveals (F X : Digest) (p : Parameters) (header : List ℕ) (x : Transcript ℕ) (seeds : ℕ → List ℕ) (values : ℕ → ℕ) (e : ℕ) : Type 0 where
  pub commitments : (j : ℕ) → j < parties p → drawn F (leaf_text 4 x.salt e j (seeds j)) (width p) ≡ commitment (setting F X p header) x e j
  pub audited : (k : ℕ) → k < p.m → get_or x.flags k 0 ≡ 0 → values k ≡ residue (modulus p.set) (value_at (setting F X p header) x k)
  pub key : (i l : ℕ) → i < p.n → l < p.c →
      get_or x.key (i * p.c + l) 0 ≡
      (dot p.n (matrix X (modulus p.set) x.seed_a i) (λ t. values (kept_index x.flags (t * p.c + l)))
      + values (kept_index x.flags (p.n * p.c + (i * p.c + l)))) % modulus p.set

module _ (F X : Digest) (p : Parameters) (header : List ℕ) where
  abbrev s : Setting ℕ
  s = setting F X p header

  pub setting_drawn : Drawn s
  unfolding first_bytes
  setting_drawn = record {
    commit_length = λ salt e j seed. length-map-range_with_len (F (leaf_text 4 salt e j seed)) 0 (width p);
    share_least = λ salt e j seed k. mod-mod _ (modulus p.set);
  }

  lawful : LawfulRule s.rule
  lawful = matrix_lawful (modulus p.set) p.n p.c (matrix X (modulus p.set)) (modulus_some p.set) (modulus_small p.set)

  pub setting_sound : Sound s
  setting_sound = record { rule = lawful; drawn = setting_drawn }

  reveals : (x : Transcript ℕ) (seeds : ℕ → List ℕ) (values : ℕ → ℕ) (e : ℕ) → Shows s x seeds values e → Reveals F X p header x seeds values e
  reveals x seeds values e o = record {
    commitments = o.commitments;
    audited = λ k t h. o.audited k t h;
    key = λ i l r c.
        let m = i * p.c + l in
        sym (o.key m (omega (arith, mul-add-lt i p.c l p.n r c)))
        ∙ (λ d. (dot p.n (matrix X (modulus p.set) x.seed_a (div-mul-add i p.c l c d)) (λ t. values (kept_index x.flags (t * p.c + mod-mul-add i p.c l c d)))
        + values (kept_index x.flags (p.n * p.c + m))) % modulus p.set);
  }

  pub recovers : (x y : Transcript ℕ) → Fits s x → Fits s y → text6 s x ≡ text6 s y → text7 s x ≡ text7 s y →
      (e : ℕ) → e < p.tau → (x.hidden e ≡ y.hidden e → ⊥) →
      let seeds = joint_seeds x y e in let values = value_of s x seeds e in
      Reveals F X p header x seeds values e × Reveals F X p header y seeds values e
  recovers x y fx fy six seven e q apart =
      let seeds = joint_seeds x y e in
      let values = value_of s x seeds e in
      let r = special_soundness s.rule lawful s refl setting_drawn x y fx fy six seven e q apart in
      (reveals x seeds values e r.0, reveals y seeds values e r.1)

  pub completes : (k : Secret) → Shaped s k → (hidden : ℕ → ℕ) → ((e : ℕ) → e < p.tau → hidden e < parties p) → (unknown : ℕ → ℕ → List ℕ) →
      let x = opened s k hidden unknown in
      (text6 s x ≡ honest6 s k) × (text7 s x ≡ honest7 s k) × Fits s x
  completes = honest_texts s.rule lawful s refl setting_drawn
