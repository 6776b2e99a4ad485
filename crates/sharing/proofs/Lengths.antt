-- How long a party's part of a text is at most.
use Rattle.std.proofs.Common.{ℕ, ◌+◌, ◌*◌, ◌^◌, ◌≤◌, eqb, List, Option, Some, None, length, arith, pow_mono}
use Rattle.std.proofs.lemmas.List.FromFn.{length-map-range_with_len}
use Rattle.std.proofs.lemmas.List.{length-take}
use Rattle.std.proofs.lemmas.Bool.{cond_both}
use Rattle.protocol.specs.Of.{parameters}
use Rattle.protocol.specs.Parameters.{Parameters, width, parties}
use Rattle.protocol.specs.Sharing.{parts}
use Rattle.protocol.specs.Streams.{Digest, first_bytes, drawn}
use Rattle.protocol.specs.Texts.{leaf_text}
use Rattle.digest.specs.declared.short.ShortBytes.{ShortBytes}
use Rattle.digest.specs.Short.{short_bytes}
use Rattle.digest.specs.Feeding.{Ready}
use Rattle.digest.specs.Making.{Making, Took}
use Rattle.digest.proofs.Taking.{ready_after, length-parts_most}
use Rattle.lattice.specs.Lines.{at}
use Rattle.seedtree.specs.declared.leaves.Leaves.{Leaves}
use Rattle.shares.specs.declared.party.Missing.{Missing}
use Rattle.shares.specs.Shown.{most_shown}
use Rattle.shares.proofs.Products.{shown_most, found_most}
use Rattle.sharing.specs.declared.hidden.Hidden.{Hidden}
use Rattle.sharing.specs.declared.known.Known.{Known}
use Rattle.sharing.specs.Known.{commitment_of, found_or, party_text}
use Rattle.sharing.specs.Parts.{most_committed}
use Rattle.sharing.specs.Rows.{leaf_in, held, commitment_in}

pub length-short : (s : ShortBytes) → length (short_bytes s) ≤ 64
length-short s = omega (arith, length-take s.width s.bytes, s.fits)

length-drawn : (s : ℕ → ℕ) → length (first_bytes s 32) ≤ 64
unfolding first_bytes
length-drawn s = omega (arith, length-map-range_with_len s 0 32)

pub few_parties : (p : Parameters) → p.h ≤ 8 → parties p ≤ 256
few_parties p h = pow_mono {i = p.h} {j = 8} h

module _ (F : Digest) (p : Parameters) (salt : List ℕ) (e : ℕ) (nodes : List ℕ) where
  pub drawn_most : (n : ℕ) → length (parts n (λ j. drawn F (leaf_text 4 salt e j (leaf_in p nodes j)) (width p))) ≤ 64 * n
  drawn_most n = length-parts_most n 64 _ (λ j. length-drawn (F (leaf_text 4 salt e j (leaf_in p nodes j))))

  pub given_most : (hidden : ℕ) (given : List ℕ) → length given ≤ 64 → (n : ℕ) → length (parts n (commitment_in F p salt e nodes hidden given)) ≤ 64 * n
  given_most hidden given short n =
      length-parts_most n 64 (commitment_in F p salt e nodes hidden given)
      (λ j. cond_both (eqb j hidden) given (drawn F (leaf_text 4 salt e j (leaf_in p nodes j)) (width p)) (λ x. length x ≤ 64) (λ _. short)
      (λ _. length-drawn (F (leaf_text 4 salt e j (leaf_in p nodes j)))))

pub commitments_most : (F : Digest) (t : Leaves) (hidden : Option (Hidden ShortBytes)) (n : ℕ) → length (parts n (commitment_of F t hidden)) ≤ 64 * n
commitments_most F t None n = drawn_most F (parameters t.of.header) (short_bytes t.of.salt.now) t.of.number t.nodes.now n
commitments_most F t (Some h) n =
    given_most F (parameters t.of.header) (short_bytes t.of.salt.now) t.of.number t.nodes.now h.party (short_bytes h.has) (length-short h.has) n

-- all commitments leave room for the offsets
pub ready_offsets : (h n : ℕ) (m m' : Making) (text : List ℕ) → h ≤ 8 → n ≤ 65536 → length text ≤ 64 * 2 ^ h → Ready most_committed m → Took text m m' → Ready n m'
ready_offsets h n m m' text deep small most ready took =
    let few : 2 ^ h ≤ 2 ^ 8 = pow_mono {i = h} {j = 8} deep in
    ready_after m m' text most_committed n ready (omega (arith, few, most)) took

module _ (F : Digest) (k : Known) where
  few_shown : (j : ℕ) → length (party_text F k j) ≤ most_shown
  unfolding party_text
  few_shown j =
      let t = k.leaves in
      let p = parameters t.of.header in
      let some : 2 * (p.n * p.c) + 1 ≤ p.m = t.of.header.m_limits.0 in
      let most : p.m ≤ 32768 = t.of.header.m_limits.1 in
      few_or k.hidden _ _ (λ m. found_most p k.seed_a.now k.flags.now (at m.values.now) (at m.key.now) (at m.sums.now) some most)
      (shown_most p k.seed_a.now k.flags.now (held F p (short_bytes t.of.salt.now) t.of.number t.nodes.now k.offsets.now j) some most)
    where
      few_or : (o : Option (Hidden Missing)) (finds : Missing → List ℕ) (shows : List ℕ) → ((m : Missing) → length (finds m) ≤ most_shown) → length shows ≤ most_shown →
          length (found_or o j finds shows) ≤ most_shown
      few_or None finds shows f s = s
      few_or (Some h) finds shows f s = cond_both (eqb j h.party) (finds h.has) shows (λ x. length x ≤ most_shown) (λ _. f h.has) (λ _. s)

  pub shares_most : (n : ℕ) → length (parts n (party_text F k)) ≤ most_shown * n
  shares_most n = length-parts_most n most_shown (party_text F k) few_shown
