-- What a party of a repetition gives to the texts 6 and 7, if one party is hidden and if none is.
use Rattle.std.specs.Prelude.{ℕ, cond, None, Option, Some, List, ◌==◌}
use Rattle.protocol.specs.Of.{parameters}
use Rattle.protocol.specs.Parameters.{width}
use Rattle.protocol.specs.Streams.{Digest, drawn}
use Rattle.protocol.specs.Texts.{leaf_text}
use Rattle.digest.specs.declared.short.ShortBytes.{ShortBytes}
use Rattle.digest.specs.Short.{short_bytes}
use Rattle.lattice.specs.Lines.{at}
use Rattle.seedtree.specs.declared.leaves.Leaves.{Leaves}
use Rattle.shares.specs.declared.party.Missing.{Missing}
use Rattle.shares.specs.Shown.{shown, found}
use Rattle.sharing.specs.declared.hidden.Hidden.{Hidden}
use Rattle.sharing.specs.declared.known.Known.{Known}
use Rattle.sharing.specs.Rows.{leaf_in, held, commitment_in}

-- party j's commitment: the hidden one's as it is given, and drawn where none is hidden
abbrev pub commitment_of : Digest → Leaves → Option (Hidden ShortBytes) → ℕ → List ℕ
commitment_of F t None j = let p = parameters t.of.header in drawn F (leaf_text 4 (short_bytes t.of.salt.now) t.of.number j (leaf_in p t.nodes.now j)) (width p)
commitment_of F t (Some h) j = commitment_in F (parameters t.of.header) (short_bytes t.of.salt.now) t.of.number t.nodes.now h.party (short_bytes h.has) j

-- of two texts of party j, the one that is found if it is the hidden party
abbrev pub found_or : Option (Hidden Missing) → ℕ → (Missing → List ℕ) → List ℕ → List ℕ
found_or None j finds shows = shows
found_or (Some h) j finds shows = cond (j == h.party) (finds h.has) shows

-- party j's audited shares, then its product share; of the hidden one by subtraction
unfoldable pub party_text : Digest → Known → ℕ → List ℕ
party_text F r j =
    let t = r.leaves in
    let p = parameters t.of.header in
    found_or r.hidden j
    (λ m. found p r.seed_a.now r.flags.now (at m.values.now) (at m.key.now) (at m.sums.now))
    (shown p r.seed_a.now r.flags.now (held F p (short_bytes t.of.salt.now) t.of.number t.nodes.now r.offsets.now j))
