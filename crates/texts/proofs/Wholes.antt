-- A maker that took the front of a text has room for the rest, and then gives the stream of the whole.
use Rattle.std.proofs.Common.{◌≡◌, ℕ, ◌+◌, ◌*◌, ◌≤◌, List, [], ◌∷◌, ◌++◌, length, ap, ◌∙◌, arith}
use Rattle.std.proofs.lemmas.List.{append_assoc, length-append, length-take}
use Rattle.protocol.specs.Streams.{Digest}
use Rattle.digest.specs.declared.short.ShortBytes.{ShortBytes}
use Rattle.digest.specs.Feeding.{Ready}
use Rattle.digest.specs.Making.{Making, Took, Holding}
use Rattle.digest.specs.Short.{short_bytes}
use Rattle.digest.proofs.Runs.{holding_more, holding_stream}
use Rattle.digest.proofs.Taking.{took_both}
use Rattle.shares.specs.Shown.{most_shown}
use Rattle.sharing.specs.Parts.{most_committed}

few_bytes : (s : ShortBytes) → length (short_bytes s) ≤ 64
few_bytes s = simp length-take (omega (arith, s.fits))

module _ {F : Digest} {m : Making} (header : List ℕ) (salt : ShortBytes) (attributes : List ℕ) (held : Holding F (6 ∷ (header ++ (short_bytes salt ++ attributes))) m) where
  pub ready6 : length header ≤ 15 → length attributes ≤ 1024 → Ready (64 * most_committed) m
  ready6 h a = (
    held.drawn,
    omega (arith, held.taken, length-append header (short_bytes salt ++ attributes), length-append (short_bytes salt) attributes, few_bytes salt),
  )

  pub whole6 : (m' : Making) (rest : List ℕ) → Took rest m m' → m'.rule [] ≡ F (6 ∷ (header ++ (short_bytes salt ++ (attributes ++ rest))))
  whole6 m' rest took = holding_stream (holding_more held took) ∙ ap (λ t. F (6 ∷ t)) (simp append_assoc)

module _ {F : Digest} {m : Making} (salt d1 : ShortBytes) (flags seed_a : List ℕ) (held : Holding F (7 ∷ (short_bytes salt ++ (short_bytes d1 ++ (flags ++ seed_a)))) m) where
  -- for B, and for all shares
  pub ready7 : length flags ≤ 32768 → length seed_a ≡ 16 → Ready (32768 + 64 * (256 * most_shown)) m
  ready7 f s = (
    held.drawn,
    omega (arith, held.taken, length-append (short_bytes salt) (short_bytes d1 ++ (flags ++ seed_a)), length-append (short_bytes d1) (flags ++ seed_a), length-append flags seed_a, few_bytes salt, few_bytes d1),
  )

  pub whole7 : (m' m'' : Making) (b rest : List ℕ) → Took b m m' → Took rest m' m'' →
      m''.rule [] ≡ F (7 ∷ (short_bytes salt ++ (short_bytes d1 ++ (flags ++ (seed_a ++ (b ++ rest))))))
  whole7 m' m'' b rest key took = holding_stream (holding_more held (took_both key took)) ∙ ap (λ t. F (7 ∷ t)) (simp append_assoc)
