-- A party's turn, if it is the hidden one and if it is not.
use Rattle.std.proofs.Common.{◌≡◌, ℕ, ◌<◌, true, false, not, eqb, Option, Some, None, List, unwrap_or, is_some, sym, refl, ap, ◌∙◌, subst, arith}
use Rattle.std.specs.Option.{option_eq}
use Rattle.std.proofs.lemmas.Bool.{true≢false, not-true, not-false, cond-true, cond-false, eq-eqb, ne_eqb, eqb-true, eqb-false}
use Rattle.protocol.specs.Of.{parameters}
use Rattle.protocol.specs.Streams.{Digest}
use Rattle.digest.specs.Short.{short_bytes}
use Rattle.lattice.specs.Lines.{at}
use Rattle.shares.specs.declared.party.Missing.{Missing}
use Rattle.shares.specs.Shown.{shown, found}
use Rattle.sharing.specs.declared.hidden.Hidden.{Hidden}
use Rattle.sharing.specs.declared.known.Known.{Known}
use Rattle.sharing.specs.Known.{found_or, party_text}
use Rattle.sharing.specs.Rows.{held}

-- party j is left out, of n parties, or is not
pub left_is : (o : Option ℕ) (j n : ℕ) → not (option_eq eqb o (Some j)) ≡ false → j ≡ unwrap_or o n
left_is None j n e = absurd (true≢false e)
left_is (Some x) j n e = sym (eqb-true x j (not-false (eqb x j) e))

pub left_not : (o : Option ℕ) (j n : ℕ) → j < n → not (option_eq eqb o (Some j)) ≡ true → j ≡ unwrap_or o n → ⊥
left_not None j n less e is = absurd (omega arith)
left_not (Some x) j n less e is = eqb-false x j (not-true (eqb x j) e) (sym is)

abbrev party_or : Option (Hidden Missing) → ℕ → ℕ
party_or None n = n
party_or (Some h) n = h.party

abbrev has_or : Option (Hidden Missing) → Missing → Missing
has_or None m = m
has_or (Some h) m = h.has

-- what is known of the one hidden party is known of whichever is hidden
pub has_it : {x h : Hidden Missing} (P : Missing → Type 0) → Some x ≡ Some h → P x.has → P h.has
has_it {x} {h} P same fact = subst P (ap (λ o. has_or o x.has) same) fact

-- another party than the hidden one, or none is hidden
pub another : (o : Option (Hidden Missing)) (x : Hidden Missing) (j : ℕ) → o ≡ Some x → (x.party ≡ j → ⊥) → (h : Hidden Missing) → o ≡ Some h → h.party ≡ j → ⊥
another o x j is off h same e = off (ap (λ z. party_or z j) (sym is ∙ same) ∙ e)

pub nobody : (o : Option (Hidden Missing)) (j : ℕ) → o ≡ None → (h : Hidden Missing) → o ≡ Some h → h.party ≡ j → ⊥
nobody o j is h same e = true≢false (ap is_some (sym same ∙ is))

module _ (F : Digest) (k : Known) (j : ℕ) where
  found_at : (o : Option (Hidden Missing)) (h : Hidden Missing) (finds : Missing → List ℕ) (shows : List ℕ) → o ≡ Some h → h.party ≡ j → found_or o j finds shows ≡ finds h.has
  found_at o h finds shows is e = ap (λ z. found_or z j finds shows) is ∙ cond-true _ _ _ (eq-eqb j h.party (sym e))

  pub at_hidden : (h : Hidden Missing) → k.hidden ≡ Some h → h.party ≡ j →
      party_text F k j ≡ found (parameters k.leaves.of.header) k.seed_a.now k.flags.now (at h.has.values.now) (at h.has.key.now) (at h.has.sums.now)
  unfolding party_text
  at_hidden h is e =
      found_at k.hidden h (λ m. found (parameters k.leaves.of.header) k.seed_a.now k.flags.now (at m.values.now) (at m.key.now) (at m.sums.now)) _ is e

  found_off : (o : Option (Hidden Missing)) (finds : Missing → List ℕ) (shows : List ℕ) → ((h : Hidden Missing) → o ≡ Some h → h.party ≡ j → ⊥) → found_or o j finds shows ≡ shows
  found_off None finds shows off = refl
  found_off (Some h) finds shows off = cond-false _ _ _ (ne_eqb j h.party (λ e. off h refl (sym e)))

  pub off_hidden : ((h : Hidden Missing) → k.hidden ≡ Some h → h.party ≡ j → ⊥) → let t = k.leaves in let p = parameters t.of.header in
      party_text F k j ≡ shown p k.seed_a.now k.flags.now (held F p (short_bytes t.of.salt.now) t.of.number t.nodes.now k.offsets.now j)
  unfolding party_text
  off_hidden off = found_off k.hidden _ _ off
