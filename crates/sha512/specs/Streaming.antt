-- The stretched stream is one of bytes: the law of the maker cites it, and a law cites no lemma of proofs/.
use Rattle.std.specs.Prelude.{ℕ, ◌*◌, ◌-◌, ◌/◌, ◌%◌, ◌^◌, ◌<◌, List, ◌++◌, slice_index}
use Rattle.std.proofs.Common.{sym, subst, zero-add}
use Rattle.std.proofs.Math.Nat.{mod-lt, zero-lt-suc}
use Rattle.std.proofs.lemmas.List.FromFn.{get_or-map-range_with_len}
use Rattle.protocol.specs.Streams.{GivesBytes, first_bytes}
use Rattle.sha512.specs.Hash.{byte_of, hash_words}
use Rattle.sha512.specs.Stretched.{be32, stretched}

byte_below : (words : List ℕ) (k : ℕ) → byte_of words k < 256
unfolding byte_of
byte_below words k = mod-lt (slice_index words (k / 8) / 2 ^ (8 * (7 - k % 8))) (zero-lt-suc 255)

pub stretched_bytes : GivesBytes stretched
unfolding stretched first_bytes
stretched_bytes text i =
    let words : List ℕ = hash_words (text ++ be32 (i / 64)) in
    let e = get_or-map-range_with_len (byte_of words) 0 64 (i % 64) (i % 64) 0 (mod-lt i (zero-lt-suc 63)) (zero-add (i % 64)) in
    subst (λ b. b < 256) (sym e) (byte_below words (i % 64))
