-- A call that stops at one of its first tests has not used its makers.
use Rattle.std.proofs.Common.{◌≡◌, ℕ, Bool, true, false, cond, List, [], ◌∷◌, Err, refl, subst, arith}
use Rattle.std.specs.List.{AllByRecursion}
use Rattle.protocol.specs.declared.fault.Fault.{Fault}
use Rattle.protocol.specs.Ceremony.{memory_test}
use Rattle.protocol.specs.Header.{bare_tests, checks_header, length_test, parameters_of}
use Rattle.protocol.specs.Tests.{Test, first_failing}
use Rattle.digest.specs.Handing.{after_digests, HandedBack}
use Rattle.digest.specs.Making.{Making}
use Rattle.protocol.specs.Streams.{Digest}

-- the refusal is that of one of the tests
first_fault : {X : Type 0} (P : Fault → Type 0) (ts : List Test) (x : X) (f : Fault) → AllByRecursion (λ t. P t.fault) ts → first_failing ts x ≡ Err f → P f
first_fault P [] x f h e = let z : ◌≡◌ {A = ℕ} 0 1 = cc in absurd (omega arith)
first_fault P (t ∷ ts) x f (h, hs) e = step t.fails (λ d. first_fault P ts x f hs d) e
  where
    step : (b : Bool) → (first_failing ts x ≡ Err f → P f) → cond b (Err t.fault) (first_failing ts x) ≡ Err f → P f
    step true later d = let same : t.fault ≡ f = cc in subst P same h
    step false later d = later d

pub header_early : (header : List ℕ) (f : Fault) → checks_header header ≡ Err f → after_digests f ≡ false
header_early header f e =
    first_fault (λ f. after_digests f ≡ false) (bare_tests header) (parameters_of header) f (refl, (refl, (refl, (refl, (refl, (refl, (refl, (refl, (refl, tt))))))))) e

pub lent_early : (long due work words : ℕ) (f : Fault) → first_failing (length_test long due ∷ memory_test work words ∷ []) (tt {0}) ≡ Err f → after_digests f ≡ false
lent_early long due work words f e = first_fault (λ f. after_digests f ≡ false) (length_test long due ∷ memory_test work words ∷ []) (tt {0}) f (refl, (refl, tt)) e

-- a maker that was not used
pub untouched : (F : Digest) (X : Type 0) (f : Fault) (m : Making) → after_digests f ≡ false → HandedBack {X = X} F (Err f) m m
untouched F X f m early = (λ t. let z : true ≡ false = cc in let w : ◌≡◌ {A = ℕ} 0 1 = cc in absurd (omega arith), λ _. refl)
