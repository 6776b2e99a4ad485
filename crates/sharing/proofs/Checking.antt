-- What a checker computes from a record is the record's part of the texts.
use Rattle.std.proofs.Common.{◌≡◌, ℕ, ◌*◌, ◌<◌, cond, eqb, List, [], ◌++◌, map, length, get_or, pos, sym, ap, ◌∙◌, inl, inr}
use Rattle.std.specs.List.{range_with_len, flat_map}
use Rattle.std.proofs.lemmas.Bool.{cases_eq, cond-true, cond-false, eq-eqb, ne_eqb}
use Rattle.protocol.specs.declared.field.Field.TheVariants.{SeedA, Salt, Key, Audited, Commitment, Seeds, Offsets}
use Rattle.protocol.specs.Bytes.{le16}
use Rattle.protocol.specs.Flags.{ones, kept_index, audited_before}
use Rattle.protocol.specs.Group.{Entries, others}
use Rattle.protocol.specs.Layout.{field_part}
use Rattle.protocol.specs.Parameters.{Parameters, width, modulus, parties, sigma}
use Rattle.protocol.specs.Residues.{modular, residue, matrix}
use Rattle.protocol.specs.Sampling.{signed}
use Rattle.protocol.specs.Scheme.{words, transcript_of}
use Rattle.protocol.specs.Sharing.{Transcript, parts, corrected, commitment, audited_share, product_share, product_of, party_part}
use Rattle.protocol.specs.Streams.{Digest, drawn}
use Rattle.protocol.specs.Texts.{leaf_text}
use Rattle.protocol.specs.Tree.{child, regrown}
use Rattle.protocol.specs.Scheme.{seeds_of}
use Rattle.keccak.specs.Sponge.{shake128}
use Rattle.soundness.proofs.Linearity.{image_others}
use Rattle.soundness.proofs.Parts.{parts_same}
use Rattle.soundness.proofs.Residues.{matrix_lawful}
use Rattle.soundness.proofs.Scheme.{modulus_some, modulus_small}
use Rattle.soundness.proofs.Sums.{others_same, completed_at, completed_off}
use Rattle.lattice.specs.Lines.{at}
use Rattle.seedtree.specs.Grown.{Regrown}
use Rattle.shares.specs.Shown.{shown, found, spread}
use Rattle.shares.proofs.Products.{row_at, found_same}
use Rattle.sharing.specs.Parts.{scheme, record_commitments}
use Rattle.sharing.specs.Rows.{leaf_in, held, others_held, commitment_in}
use Rattle.sharing.proofs.Holding.{residues_lawful}

module _ (F : Digest) (p : Parameters) (r hidden : List ℕ) (salt : List ℕ) (salt_is : salt ≡ field_part p r Salt) (e : ℕ) (party : ℕ) (party-is : party ≡ get_or hidden e 0)
    (nodes : List ℕ) (regrew : Regrown F salt e p.h party (field_part p r (Seeds e)) nodes) where
  -- party j's leaf seed, as the siblings give it
  abbrev seed : ℕ → List ℕ
  seed j = regrown (child F (field_part p r Salt) e) p.h (get_or hidden e 0) (seeds_of (field_part p r (Seeds e)) p.h) p.h j

  leaf_is : (j : ℕ) → j < parties p → (j ≡ party → ⊥) → leaf_in p nodes j ≡ seed j
  leaf_is j q not = regrew j q not ∙ (λ i. regrown (child F (salt_is i) e) p.h (party-is i) (seeds_of (field_part p r (Seeds e)) p.h) p.h j)

  -- the hidden party's commitment is the record's, and all others are drawn
  pub commitments_are : (given : List ℕ) (offsets : List ℕ) → given ≡ field_part p r (Commitment e) → offsets ≡ field_part p r (Offsets e) →
      parts (parties p) (commitment_in F p salt e nodes party given) ++ flat_map le16 (words offsets p.m) ≡ record_commitments F p r hidden e
  unfolding record_commitments transcript_of
  commitments_are given offsets given_is offsets_are =
      λ i.
      parts_same (parties p) (commitment_in F p salt e nodes party given) (commitment (scheme F p) (transcript_of F p r hidden []) e) each i
      ++ flat_map le16 (words (offsets_are i) p.m)
    where
      each : (j : ℕ) → j < parties p → commitment_in F p salt e nodes party given j ≡ commitment (scheme F p) (transcript_of F p r hidden []) e j
      each j q =
          elim (cases_eq j party) [
            | inl is ↦
                cond-true (eqb j party) given _ (eq-eqb j party is)
                ∙ given_is
                ∙ sym (cond-true (eqb j (get_or hidden e 0)) (field_part p r (Commitment e)) _ (eq-eqb j (get_or hidden e 0) (is ∙ party-is)))
            | inr not ↦
                cond-false (eqb j party) given _ (ne_eqb j party not)
                ∙ (λ i. drawn F (leaf_text 4 (salt_is i) e j (leaf_is j q not i)) (width p))
                ∙ sym (cond-false (eqb j (get_or hidden e 0)) (field_part p r (Commitment e)) _ (ne_eqb j (get_or hidden e 0) (λ z. not (z ∙ sym party-is))))
          ]

  module _ (flags seed_a offsets : List ℕ) (flags_long : length flags ≡ p.m) (chosen : ones flags ≡ sigma p) (seedA-is : seed_a ≡ field_part p r SeedA)
      (offsets_are : offsets ≡ words (field_part p r (Offsets e)) p.m) where
    abbrev x : Transcript ℕ
    x = transcript_of F p r hidden flags

    abbrev g : Entries ℕ
    g = modular (modulus p.set)

    -- what party j holds of value k
    abbrev row : ℕ → ℕ → ℕ
    row k j = corrected (scheme F p) (field_part p r Salt) (words (field_part p r (Offsets e)) p.m) e j (seed j) k

    row_is : (j : ℕ) → j < parties p → (j ≡ party → ⊥) → held F p salt e nodes offsets j ≡ (λ k. row k j)
    row_is j q not = λ i k. corrected (scheme F p) (salt_is i) (offsets_are i) e j (leaf_is j q not i) k

    -- a party that is not hidden
    pub shown_is : (j : ℕ) → j < parties p → (j ≡ party → ⊥) → shown p seed_a flags (held F p salt e nodes offsets j) ≡ party_part (scheme F p) x e j
    unfolding shown transcript_of
    shown_is j q not =
        (λ i. shown p (seedA-is i) flags (row_is j q not i))
        ∙ (λ i.
        parts_same p.m (λ k. cond (eqb (get_or flags k 0) 1) [] (le16 (row k j))) (λ k. cond (eqb (get_or flags k 0) 1) [] (le16 (audited_share (scheme F p) x e k j)))
        (λ k t. ap (λ z. cond (eqb (get_or flags k 0) 1) [] (le16 z)) (sym (completed_off (residues_lawful p.set) (parties p) (get_or hidden e 0) _ (row k) j off))) i
        ++ parts_same (p.n * p.c) (λ d. le16 (made d j)) (λ d. le16 (product_share (scheme F p) x e d j))
        (λ d t. ap le16 (sym (completed_off (residues_lawful p.set) (parties p) (get_or hidden e 0) _ (made d) j off))) i)
      where
        off : j ≡ get_or hidden e 0 → ⊥
        off z = not (z ∙ sym party-is)

        made : ℕ → ℕ → ℕ
        made d j = product_of (scheme F p) (field_part p r SeedA) flags (field_part p r Salt) (words (field_part p r (Offsets e)) p.m) e j (seed j) d

    -- the hidden party, found by subtraction
    pub found_is : (values key sums : List ℕ) (j : ℕ) → j ≡ party → values ≡ spread p flags (field_part p r Audited) → key ≡ words (field_part p r Key) (p.n * p.c) →
        sums ≡ map (others_held F p salt e nodes offsets party) (range_with_len 0 p.m) →
        found p seed_a flags (at values) (at key) (at sums) ≡ party_part (scheme F p) x e j
    unfolding found spread transcript_of
    found_is values key sums j is values-are key_is sums-are =
        found_same p seed_a flags (at values) value (at key) (at (words (field_part p r Key) (p.n * p.c))) (at sums) summed_row flags_long chosen
        (λ k q. row_at value p.m k values values-are q) (λ d q. ap (λ z. at z d) key_is)
        (λ k q. row_at (others_held F p salt e nodes offsets party) p.m k sums sums-are q ∙ summed_is k)
        ∙ (λ i. found p (seedA-is i) flags value (at (words (field_part p r Key) (p.n * p.c))) summed_row)
        ∙ (λ i.
        parts_same p.m (λ k. cond (eqb (get_or flags k 0) 1) [] (le16 (g.sub (value k) (summed_row k)))) (λ k. cond (eqb (get_or flags k 0) 1) [] (le16 (audited_share (scheme F p) x e k (get_or hidden e 0))))
        (λ k t. ap (λ z. cond (eqb (get_or flags k 0) 1) [] (le16 z)) (sym (completed_at (residues_lawful p.set) (parties p) (get_or hidden e 0) (value k) (row k)))) i
        ++ parts_same (p.n * p.c) (λ d. le16 (g.sub (at (words (field_part p r Key) (p.n * p.c)) d) (image d))) (λ d. le16 (product_share (scheme F p) x e d (get_or hidden e 0)))
        (λ d t. ap le16 (ap (g.sub (at (words (field_part p r Key) (p.n * p.c)) d)) (linear d) ∙ sym (completed_at (residues_lawful p.set) (parties p) (get_or hidden e 0) _ (made d)))) i)
        ∙ ap (party_part (scheme F p) x e) (sym (is ∙ party-is))
      where
        value : ℕ → ℕ
        value k = residue (modulus p.set) (get_or (map signed (field_part p r Audited)) (audited_before flags k) (pos 0))

        summed_row : ℕ → ℕ
        summed_row k = others g (parties p) (get_or hidden e 0) (row k)

        summed_is : (k : ℕ) → others_held F p salt e nodes offsets party k ≡ summed_row k
        summed_is k =
            others_same (residues_lawful p.set) (parties p) party (λ j. held F p salt e nodes offsets j k) (row k) (λ j q not. ap (λ f. f k) (row_is j q not))
            ∙ ap (λ h. others g (parties p) h (row k)) party-is

        made : ℕ → ℕ → ℕ
        made d j = product_of (scheme F p) (field_part p r SeedA) flags (field_part p r Salt) (words (field_part p r (Offsets e)) p.m) e j (seed j) d

        image : ℕ → ℕ
        image d = (scheme F p).rule.image (field_part p r SeedA) (λ m. summed_row (kept_index flags m)) d

        linear : (d : ℕ) → image d ≡ others g (parties p) (get_or hidden e 0) (made d)
        linear d =
            image_others (matrix_lawful (modulus p.set) p.n p.c (matrix shake128 (modulus p.set)) (modulus_some p.set) (modulus_small p.set))
            (field_part p r SeedA) (parties p) (get_or hidden e 0) (λ j m. row (kept_index flags m) j) d
