-- Commit's answer, stage by stage.
use Rattle.std.proofs.Common.{◌≡◌, ℕ, List, [], ◌∷◌, length, take, Ok, Err, sym, ap, ◌∙◌, arith}
use Rattle.std.proofs.lemmas.List.{take_all}
use Rattle.protocol.specs.declared.fault.Fault.{Fault}
use Rattle.protocol.specs.Ceremony.{Committed, commits, secret_of, text_six, memory_test}
use Rattle.protocol.specs.Header.{parameters_of, header_bytes, bare_tests, checks_header, length_test}
use Rattle.protocol.specs.Parameters.{Parameters, width, work_words}
use Rattle.protocol.specs.Prover.{honest6}
use Rattle.protocol.specs.Scheme.{setting}
use Rattle.protocol.specs.Streams.{Digest, drawn}
use Rattle.protocol.specs.Tests.{Test, first_failing, after}
use Rattle.keccak.specs.Sponge.{shake128}
use Rattle.guarantee.proofs.Passing.{accepted, passed, first_stops}
use Rattle.sharing.specs.Parts.{scheme}

-- the tests of what is lent, after those of the header
abbrev lent_tests : Parameters → List ℕ → ℕ → List Test
lent_tests p attributes work = length_test (length attributes) p.a ∷ memory_test work (work_words p) ∷ []

module _ (F : Digest) (header salt master attributes : List ℕ) (work : ℕ) where
  abbrev made : Parameters → Committed
  made p = record { header = header; salt = salt; master = master; d1 = drawn F (text_six F shake128 header salt master attributes) (width p) }

  pub header_stops : (f : Fault) → checks_header header ≡ Err f → commits F shake128 header salt master attributes work ≡ Err f
  header_stops f e = ap (λ r. after r (λ p. first_failing (lent_tests p attributes work) (made p))) e

  pub lent_stops : (p : Parameters) (f : Fault) → checks_header header ≡ Ok p → first_failing (lent_tests p attributes work) (tt {0}) ≡ Err f →
      commits F shake128 header salt master attributes work ≡ Err f
  lent_stops p f e stop =
      ap (λ r. after r (λ p. first_failing (lent_tests p attributes work) (made p))) e
      ∙ first_stops (lent_tests p attributes work) [] (tt {0}) (made p) f stop

  pub commits_ok : (p : Parameters) (salt' d1 : List ℕ) → length header ≡ 15 → checks_header header ≡ Ok p → header_bytes p ≡ take 15 header →
      Ok (tt {0}) ≡ first_failing (lent_tests p attributes work) (tt {0}) → salt' ≡ salt →
      d1 ≡ drawn F (honest6 (scheme F p) (secret_of F p salt' master attributes [] [] [])) (width p) →
      Ok (record { header = header_bytes p; salt = salt'; master = master; d1 = d1 }) ≡ commits F shake128 header salt master attributes work
  commits_ok p salt' d1 long read back fits same digest =
      let is : p ≡ parameters_of header = sym (accepted (bare_tests header) (parameters_of header) p read).1 in
      let whole : header_bytes p ≡ header = back ∙ take_all 15 header (omega arith) in
      let drawing : d1 ≡ drawn F (text_six F shake128 header salt master attributes) (width p) =
      digest ∙ (λ i. drawn F (honest6 (setting F shake128 (is i) (back i)) (secret_of F (is i) (same i) master attributes [] [] [])) (width p)) in
      (λ i. Ok (record { header = whole i; salt = same i; master = master; d1 = drawing i }))
      ∙ sym (passed (lent_tests p attributes work) (made p) (accepted (lent_tests p attributes work) (tt {0}) (tt {0}) (sym fits)).0)
      ∙ sym (ap (λ r. after r (λ p. first_failing (lent_tests p attributes work) (made p))) read)
