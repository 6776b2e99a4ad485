-- What an accepted record is known to be.
use Rattle.std.proofs.Common.{◌≡◌, ℕ, ◌+◌, ◌*◌, ◌<◌, ◌≤◌, List, length, arith}
use Rattle.std.proofs.lemmas.Bool.Decides.{nat_tests}
use Rattle.std.proofs.lemmas.Nat.{mul-le}
use Rattle.std.proofs.lemmas.Bool.{le-ltb}
use Rattle.guarantee.proofs.Passing.{Passes}
use Rattle.protocol.specs.Header.{parameters_of, header_tests, bare_tests}
use Rattle.protocol.specs.Layout.{record_length, block_length}
use Rattle.protocol.specs.Parameters.{sigma}

-- what is known of a header that passes its tests
pub record Facts (bytes : List ℕ) : Type 0 where
  pub long : 15 ≤ length bytes
  pub set_low : 1 ≤ (parameters_of bytes).set
  pub set_high : (parameters_of bytes).set ≤ 3
  pub n_high : (parameters_of bytes).n ≤ 1344
  pub c_high : (parameters_of bytes).c ≤ 8
  pub m_low : sigma (parameters_of bytes) + 1 ≤ (parameters_of bytes).m
  pub m_high : (parameters_of bytes).m ≤ 32768
  pub h_low : 1 ≤ (parameters_of bytes).h
  pub h_high : (parameters_of bytes).h ≤ 8
  pub tau_high : (parameters_of bytes).tau ≤ 64
  pub a_high : (parameters_of bytes).a ≤ 1024

pub facts : (bytes : List ℕ) → Passes (header_tests bytes) → Facts bytes
facts bytes (short, (mark, (version, (set, (rows, (columns, (values, (height, (turns, (attributes, end)))))))))) = record {
  long = grind (arith, nat_tests);
  set_low = grind (arith, nat_tests);
  set_high = grind (arith, nat_tests);
  n_high = grind (arith, nat_tests);
  c_high = grind (arith, nat_tests);
  m_low = grind (arith, nat_tests);
  m_high = grind (arith, nat_tests);
  h_low = grind (arith, nat_tests);
  h_high = grind (arith, nat_tests);
  tau_high = grind (arith, nat_tests);
  a_high = grind (arith, nat_tests);
}

pub due_fits : (bytes : List ℕ) → Facts bytes → record_length (parameters_of bytes) < 4294967296
due_fits bytes f =
    let x = parameters_of bytes in
    let b : x.tau * block_length x ≤ 64 * 65824 = mul-le x.tau (block_length x) 64 65824 f.tau_high (let p = f.h_high in let q = f.m_high in omega arith) in
    let p = f.m_low in let q = f.m_high in let r = f.a_high in
    omega arith

-- a bare header has fifteen bytes, so it is not too short
pub bare_passes : (bytes : List ℕ) → length bytes ≡ 15 → Passes (bare_tests bytes) → Passes (header_tests bytes)
bare_passes bytes fifteen passes = (le-ltb (length bytes) 15 (omega arith), passes)
