-- What a holder computes from its tree is its part of the texts.
use Rattle.std.proofs.Common.{◌≡◌, ℕ, ◌<◌, List, ◌++◌, map, length, ap, ◌∙◌, arith}
use Rattle.std.specs.List.{range_with_len, flat_map}
use Rattle.std.proofs.lemmas.List.FromFn.{length-map-range_with_len}
use Rattle.protocol.specs.Bytes.{le16}
use Rattle.protocol.specs.Ceremony.{root, value_word}
use Rattle.protocol.specs.Group.{Entries, Lawful, total}
use Rattle.protocol.specs.Parameters.{Parameters, width, modulus, table, parties}
use Rattle.protocol.specs.Prover.{honest_part}
use Rattle.protocol.specs.Residues.{modular, residue}
use Rattle.protocol.specs.Sampling.{sampled}
use Rattle.protocol.specs.Sharing.{parts, corrected}
use Rattle.protocol.specs.Streams.{Digest, drawn}
use Rattle.protocol.specs.Texts.{leaf_text}
use Rattle.protocol.specs.Tree.{child, seed_at}
use Rattle.soundness.proofs.Parts.{parts_same}
use Rattle.soundness.proofs.Residues.{modular_lawful}
use Rattle.soundness.proofs.Scheme.{modulus_some, modulus_small}
use Rattle.soundness.proofs.Sums.{total_same}
use Rattle.lattice.specs.Lines.{at}
use Rattle.lattice.proofs.Entrywise.{others_all}
use Rattle.seedtree.specs.Grown.{Grown}
use Rattle.shares.specs.Drawing.{value_residues, share}
use Rattle.shares.specs.Shown.{shown}
use Rattle.shares.proofs.Products.{same_row, row_at, subtracted_row}
use Rattle.sharing.specs.Parts.{scheme, holder, holder_offsets, holder_commitments}
use Rattle.sharing.specs.Rows.{leaf_in, summed, held}

-- residues of a set add and subtract as a group
pub residues_lawful : (set : ℕ) → Lawful (modular (modulus set))
residues_lawful set = modular_lawful (modulus set) (modulus_some set) (modulus_small set)

pub length-values : (F : Digest) (p : Parameters) (salt master : List ℕ) → length (value_residues F p salt master) ≡ p.m
unfolding value_residues
length-values F p salt master = length-map-range_with_len (λ k. residue (modulus p.set) (sampled (table p.set) (value_word F salt master k))) 0 p.m

module _ (F : Digest) (p : Parameters) (salt master : List ℕ) (e : ℕ) (nodes : List ℕ) (grown : Grown F salt e (root F salt master e) p.h nodes) where
  -- party j's leaf seed
  abbrev seed : ℕ → List ℕ
  seed j = seed_at (child F salt e) (root F salt master e) p.h j

  leaf_is : (j : ℕ) → j < parties p → leaf_in p nodes j ≡ seed j
  leaf_is j q = grown p.h j (omega arith) q

  -- each value less all its shares
  pub offsets_are : (set : ℕ) (values sums out : List ℕ) → set ≡ p.set → values ≡ value_residues F p salt master →
      sums ≡ map (summed F p salt e nodes (parties p)) (range_with_len 0 p.m) →
      out ≡ map (λ k. (modular (modulus set)).sub (at values k) (at sums k)) (range_with_len 0 (length sums)) → out ≡ holder_offsets F p salt master e
  unfolding holder_offsets value_residues
  offsets_are set values sums out is are summing left =
      subtracted_row set p.set p.m values sums out (summed F p salt e nodes (parties p)) is summing left
      ∙ same_row (λ k. g.sub (at values k) (summed F p salt e nodes (parties p) k)) (λ k. g.sub (value k) (total g (parties p) (λ j. share F p salt e j (seed j) k))) p.m
      (λ k q i. g.sub (row_at value p.m k values are q i) (summed_all k i))
    where
      g : Entries ℕ
      g = modular (modulus p.set)

      value : ℕ → ℕ
      value k = residue (modulus p.set) (sampled (table p.set) (value_word F salt master k))

      summed_all : (k : ℕ) → summed F p salt e nodes (parties p) k ≡ total g (parties p) (λ j. share F p salt e j (seed j) k)
      summed_all k =
          others_all g (parties p) (parties p) (λ j. share F p salt e j (leaf_in p nodes j) k) (omega arith)
          ∙ total_same (residues_lawful p.set) (parties p) (λ j. share F p salt e j (leaf_in p nodes j) k) (λ j. share F p salt e j (seed j) k) (λ j q. ap (λ z. share F p salt e j z k) (leaf_is j q))

  -- all commitments are drawn
  pub commitments_are : (offsets : List ℕ) → offsets ≡ holder_offsets F p salt master e →
      parts (parties p) (λ j. drawn F (leaf_text 4 salt e j (leaf_in p nodes j)) (width p)) ++ flat_map le16 offsets ≡ holder_commitments F p salt master e
  unfolding holder_commitments holder_offsets
  commitments_are offsets are =
      λ i.
      parts_same (parties p) (λ j. drawn F (leaf_text 4 salt e j (leaf_in p nodes j)) (width p)) (λ j. drawn F (leaf_text 4 salt e j (seed j)) (width p))
      (λ j q. ap (λ z. drawn F (leaf_text 4 salt e j z) (width p)) (leaf_is j q)) i
      ++ flat_map le16 (are i)

  pub shown_is : (seed_a flags offsets : List ℕ) (j : ℕ) → j < parties p → offsets ≡ holder_offsets F p salt master e →
      shown p seed_a flags (held F p salt e nodes offsets j) ≡ honest_part (scheme F p) (holder F p salt master seed_a flags) e j
  unfolding shown holder_offsets
  shown_is seed_a flags offsets j q are = λ i. shown p seed_a flags (λ k. corrected (scheme F p) salt (are i) e j (leaf_is j q i) k)
