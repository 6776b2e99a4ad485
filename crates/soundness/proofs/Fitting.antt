-- A transcript that was read from a record's bytes fits.
use Rattle.std.proofs.Common.{◌≡◌, ℕ, ◌+◌, ◌*◌, ◌%◌, ◌<◌, ◌≤◌, List, length, get_or, drop, mod-eq_of_lt, arith, length-drop}
use Rattle.std.specs.List.{AllByRecursion}
use Rattle.std.proofs.lemmas.List.{length-take-le}
use Rattle.std.proofs.ByRecursion.{All-weaker}
use Rattle.std.proofs.lemmas.Nat.{mul-le}
use Rattle.std.proofs.lemmas.List.FromFn.{length-map-range_with_len}
use Rattle.protocol.specs.declared.field.Field.TheVariants.{Salt, FirstDigest, Attributes, Commitment}
use Rattle.protocol.specs.Bytes.{part}
use Rattle.protocol.specs.Flags.{ones}
use Rattle.protocol.specs.Layout.{offset, block_length, record_length}
use Rattle.protocol.specs.Parameters.{Parameters, width, modulus, parties, sigma}
use Rattle.protocol.specs.Scheme.{setting, transcript_of}
use Rattle.protocol.specs.Sharing.{Fits}
use Rattle.protocol.specs.Streams.{Digest}

pub length_part : (r : List ℕ) (at n : ℕ) → at + n ≤ length r → length (part r at n) ≡ n
length_part r at n h = length-take-le n (drop at r) (omega (arith, length-drop at r))

-- what the tests before the digests give
pub record Read (F : Digest) (p : Parameters) (r hidden flags : List ℕ) : Type 0 where
  pub bytes : length r ≡ record_length p
  pub enough : sigma p ≤ p.m
  pub flag_count : length flags ≡ p.m
  pub chosen : ones flags ≡ sigma p
  pub hidden_small : (e : ℕ) → e < p.tau → get_or hidden e 0 < parties p
  pub key_small : AllByRecursion (λ b. b < modulus p.set) (transcript_of F p r hidden flags).key
  pub offsets_small : (e : ℕ) → e < p.tau → AllByRecursion (λ b. b < modulus p.set) ((transcript_of F p r hidden flags).offsets e)

pub read_fits : (F X : Digest) (p : Parameters) (header r hidden flags : List ℕ) → Read F p r hidden flags →
    Fits (setting F X p header) (transcript_of F p r hidden flags)
unfolding transcript_of
read_fits F X p header r hidden flags d =
    let q = modulus p.set in
    let n = d.bytes in
    record {
      salt = length_part r (offset p Salt) (width p) (omega arith);
      d1 = length_part r (offset p FirstDigest) (width p) (omega arith);
      attributes = length_part r (offset p Attributes) p.a (omega arith);
      seed_a = length_part r 15 16 (omega arith);
      flags = d.flag_count;
      chosen = d.chosen;
      key = length-map-range_with_len _ 0 (p.n * p.c);
      key_least = All-weaker (λ b. b < q) (λ b. b % q ≡ b) (λ b t. mod-eq_of_lt t) _ d.key_small;
      hidden = d.hidden_small;
      hidden_commitment = λ e t. length_part r (offset p (Commitment e)) (width p) (omega (arith, mul-le (e + 1) (block_length p) p.tau (block_length p) (omega arith) (omega arith)));
      offsets = λ e t. length-map-range_with_len _ 0 p.m;
      offsets_least = λ e t. All-weaker (λ b. b < q) (λ b. b % q ≡ b) (λ b u. mod-eq_of_lt u) _ (d.offsets_small e t);
    }
