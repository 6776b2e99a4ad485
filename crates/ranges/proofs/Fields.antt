-- The tests of a field's part are those of the record.
use Rattle.std.proofs.Common.{◌≡◌, ℕ, ◌+◌, ◌*◌, ◌/◌, ◌<◌, ◌≤◌, take, drop, Bool, true, false, not, leb, List, [], map, length, get_or, ℤ, Ok, Result, sym, ap, ◌∙◌, arith, w8, SFits, to_z, of_z}
use Rattle.std.specs.List.{range_with_len}
use Rattle.std.proofs.lemmas.List.FromFn.{fill_by_all, get_or-map-range_with_len, length-map-range_with_len}
use Rattle.std.proofs.lemmas.Int.{to_z-of_z}
use Rattle.std.specs.Simd.{first_chunks}
use Rattle.std.specs.Int.{w16, from_le_bytes}
use Rattle.protocol.specs.declared.fault.Fault.{Fault}
use Rattle.protocol.specs.declared.fault.Fault.TheVariants.{Residue, Audited}
use Rattle.protocol.specs.Book as book
use Rattle.protocol.specs.Bytes.{part, word}
use Rattle.protocol.specs.Parameters.{modulus}
use Rattle.protocol.specs.Sampling.{signed, beyond}
use Rattle.protocol.specs.Tests.{Test, first_failing}
use Rattle.digest.proofs.Chunks.{chunk_at}
use Rattle.record.specs.declared.view.Part.{Part}
use Rattle.record.specs.Parts.{Lies}
use Rattle.guarantee.proofs.Passing.{passed, all_tests}
use Rattle.guarantee.proofs.Reading.{get_d_part}
use Rattle.soundness.proofs.Fitting.{length_part}
use Rattle.ranges.specs.Parts.{residue_test, residue_tests, audited_test, audited_tests}

-- tests that agree one by one
same_tests : (f g : ℕ → Test) (n : ℕ) → ((k : ℕ) → k < n → f k ≡ g k) → map f (range_with_len 0 n) ≡ map g (range_with_len 0 n)
same_tests f g n h = fill_by_all g (map f (range_with_len 0 n)) n (f 0) (length-map-range_with_len f 0 n) (λ k q. get_or-map-range_with_len f 0 n k k (f 0) q (omega arith) ∙ h k q)

word_part : (r : List ℕ) (at s k : ℕ) → 2 * k + 1 < s → word (part r at s) (2 * k) ≡ word r (at + 2 * k)
word_part r at s k h = λ i.
    get_d_part r at s (2 * k) (omega arith) i
    + 256 * (get_d_part r at s (2 * k + 1) (omega arith) ∙ ap (λ z. get_or r z 0) (let z : at + (2 * k + 1) ≡ at + 2 * k + 1 = omega arith in z)) i

residues_of : (r : List ℕ) (at s q : ℕ) → at + s ≤ length r →
    residue_tests (part r at s) at q ≡ map (λ i. book.residue_test r q (at + 2 * i)) (range_with_len 0 (s / 2))
residues_of r at s q h =
    ap (λ m. map (residue_test (part r at s) at q) (range_with_len 0 (m / 2))) (length_part r at s h)
    ∙ same_tests _ _ (s / 2) (λ k l. ap (λ w. record { fails = leb q w; fault = Residue (at + 2 * k) }) (word_part r at s k (omega arith)))

audited_of : (r : List ℕ) (at n b : ℕ) → at + n ≤ length r →
    audited_tests (part r at n) at b ≡ map (λ i. book.audited_test r b (at + i)) (range_with_len 0 n)
audited_of r at n b h =
    ap (λ m. map (audited_test (part r at n) at b) (range_with_len 0 m)) (length_part r at n h)
    ∙ same_tests _ _ n (λ k l. ap (λ v. record { fails = beyond b (signed v); fault = Audited (at + k) }) (get_d_part r at n k l))

-- a loop over tests that ended
pub none_fails : (f : ℕ → Test) (n i : ℕ) → n ≤ i → ((k : ℕ) → k < i → (f k).fails ≡ false) → first_failing (map f (range_with_len 0 n)) (tt {0}) ≡ Ok (tt {0})
none_fails f n i h before = passed _ (tt {0}) (all_tests f n (λ k q. before k (omega arith)))

-- what `in_range` says of a byte
pub in_range_tells : (b byte : ℕ) (z : ℤ) (answer told : Bool) → SFits w8 z → z ≡ signed byte → answer ≡ not (beyond b (to_z w8 (of_z w8 z))) → answer ≡ told →
    beyond b (signed byte) ≡ not told
in_range_tells b byte z answer told fits is says told_is =
    back (beyond b (signed byte)) told (sym told_is ∙ says ∙ ap (λ y. not (beyond b y)) (to_z-of_z w8 z fits ∙ is))
  where
    back : (x t : Bool) → t ≡ not x → x ≡ not t
    back true t h = ap not (sym h)
    back false t h = ap not (sym h)

-- the answer to the tests of a part that lies in the record
module _ (answer : Result (Unit {0}) Fault) (p : Part) (bytes : List ℕ) (at n : ℕ) (l : Lies p bytes at n) (within : at + n ≤ length bytes) where
  pub residues_say : (q s : ℕ) → q ≡ modulus s →
      answer ≡ first_failing (residue_tests p.bytes.now p.offset q) (tt {0}) →
      answer ≡ first_failing (map (λ i. book.residue_test bytes (modulus s) (at + 2 * i)) (range_with_len 0 (n / 2))) (tt {0})
  residues_say q s is says =
      says ∙ (λ i. first_failing (residue_tests (l.holds i) (l.begins i) (is i)) (tt {0})) ∙ ap (λ ts. first_failing ts (tt {0})) (residues_of bytes at n (modulus s) within)

  pub audited_say : (b : ℕ) → answer ≡ first_failing (audited_tests p.bytes.now p.offset b) (tt {0}) →
      answer ≡ first_failing (map (λ i. book.audited_test bytes b (at + i)) (range_with_len 0 n)) (tt {0})
  audited_say b says =
      says ∙ (λ i. first_failing (audited_tests (l.holds i) (l.begins i) b) (tt {0})) ∙ ap (λ ts. first_failing ts (tt {0})) (audited_of bytes at n b within)

-- the tests of n entries, where a field has two bytes for each
pub halved : (f : ℕ → Test) (n : ℕ) → first_failing (map f (range_with_len 0 n)) (tt {0}) ≡ first_failing (map f (range_with_len 0 (2 * n / 2))) (tt {0})
halved f n = ap (λ m. first_failing (map f (range_with_len 0 m)) (tt {0})) (let e : n ≡ 2 * n / 2 = omega arith in e)

-- two bytes as a number are the word at their place
word_is : (bytes pair : List ℕ) (i : ℕ) → pair ≡ take 2 (drop (i * 2) bytes) → 2 * i + 1 < length bytes → get_or pair 0 0 + 256 * get_or pair 1 0 ≡ word bytes (2 * i)
word_is bytes pair i e h =
    let low : get_or pair 0 0 ≡ get_or bytes (2 * i) 0 =
    ap (λ z. get_or z 0 0) e ∙ get_d_part bytes (i * 2) 2 0 (omega arith) ∙ ap (λ k. get_or bytes k 0) (let q : i * 2 + 0 ≡ 2 * i = omega arith in q) in
    let high : get_or pair 1 0 ≡ get_or bytes (2 * i + 1) 0 =
    ap (λ z. get_or z 1 0) e ∙ get_d_part bytes (i * 2) 2 1 (omega arith) ∙ ap (λ k. get_or bytes k 0) (let q : i * 2 + 1 ≡ 2 * i + 1 = omega arith in q) in
    λ j. low j + 256 * high j

-- entry i of the bytes, read as pairs
pub entry_is : (bytes : List ℕ) (pairs : List (List ℕ)) (i x : ℕ) → pairs ≡ first_chunks 2 (length bytes / 2) bytes → i < length bytes / 2 →
    x ≡ from_le_bytes w16 (get_or pairs i []) → x ≡ word bytes (2 * i)
entry_is bytes pairs i x e h r =
    r ∙ (let two : from_le_bytes w16 (get_or pairs i []) ≡ get_or (get_or pairs i []) 0 0 + 256 * get_or (get_or pairs i []) 1 0 = omega arith in two)
    ∙ word_is bytes (get_or pairs i []) i (ap (λ z. get_or z i []) e ∙ chunk_at 2 (length bytes / 2) bytes i [] h) (omega arith)
