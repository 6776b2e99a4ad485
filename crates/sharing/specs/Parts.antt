-- A repetition's part of the texts 6 and 7: of a holder of salt and master, and of a checker of a record.
use Rattle.std.specs.Prelude.{ℕ, List, []}
use Rattle.protocol.specs.Ceremony.{secret_of}
use Rattle.protocol.specs.Header.{header_bytes}
use Rattle.protocol.specs.Parameters.{Parameters, parties}
use Rattle.protocol.specs.Prover.{Secret, offsets, honest_commitments, honest_part}
use Rattle.protocol.specs.Scheme.{setting, transcript_of}
use Rattle.protocol.specs.Sharing.{Setting, parts, committed_part, party_part}
use Rattle.protocol.specs.Streams.{Digest}
use Rattle.keccak.specs.Sponge.{shake128}

-- the setting of a header's numbers
abbrev pub scheme : Digest → Parameters → Setting ℕ
scheme F p = setting F shake128 p (header_bytes p)

-- a holder of salt and master, with seed_a and the flags once they are known
abbrev pub holder : Digest → Parameters → List ℕ → List ℕ → List ℕ → List ℕ → Secret
holder F p salt master seed_a flags = secret_of F p salt master [] [] seed_a flags

-- the offsets of repetition e
unfoldable pub holder_offsets : Digest → Parameters → List ℕ → List ℕ → ℕ → List ℕ
holder_offsets F p salt master e = offsets (scheme F p) (holder F p salt master [] []) e

-- repetition e in text 6: N commitments, M offsets
unfoldable pub holder_commitments : Digest → Parameters → List ℕ → List ℕ → ℕ → List ℕ
holder_commitments F p salt master e = honest_commitments (scheme F p) (holder F p salt master [] []) e

-- repetition e in text 7: of each party its audited shares, then its product share
unfoldable pub holder_shares : Digest → Parameters → List ℕ → List ℕ → List ℕ → List ℕ → ℕ → List ℕ
holder_shares F p salt master seed_a flags e = parts (parties p) (honest_part (scheme F p) (holder F p salt master seed_a flags) e)

-- the same of a record with its hidden parties, and the flags for text 7
unfoldable pub record_commitments : Digest → Parameters → List ℕ → List ℕ → ℕ → List ℕ
record_commitments F p r hidden e = committed_part (scheme F p) (transcript_of F p r hidden []) e

unfoldable pub record_shares : Digest → Parameters → List ℕ → List ℕ → List ℕ → ℕ → List ℕ
record_shares F p r hidden flags e = parts (parties p) (party_part (scheme F p) (transcript_of F p r hidden flags) e)

-- no repetition has more in text 6: 256 commitments of 64 bytes, 32768 offsets
abbrev pub most_committed : ℕ
most_committed = 81920
