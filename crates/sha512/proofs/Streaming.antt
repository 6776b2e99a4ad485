-- The stream of a hasher, as bytes come in and are drawn.
use Rattle.std.specs.Prelude.{slice_range}
use Rattle.std.proofs.Common.{◌≡◌, ℕ, ◌+◌, ◌-◌, ◌/◌, ◌%◌, ◌^◌, ◌<◌, ◌≤◌, List, [], ◌++◌, length, drop, slice_index, inl, inr, sym, refl, ap, ap₂, ◌∙◌, append_assoc, arith}
use Rattle.std.proofs.lemmas.List.{get_or-take, get_or-drop}
use Rattle.std.proofs.lemmas.Bool.{cases_lt}
use Rattle.protocol.specs.Streams.{first_bytes}
use Rattle.digest.specs.Making.{Making, Holding, Took, Drew}
use Rattle.sha512.specs.declared.hasher.Hasher.{Hasher}
use Rattle.sha512.specs.Sha512.{initial}
use Rattle.sha512.specs.Hash.{word_bytes}
use Rattle.sha512.specs.Hashing.{ended, HasTaken}
use Rattle.sha512.specs.Stretched.{be32, stretched}
use Rattle.sha512.specs.Stretching.{stream_block, stream_from}
use Rattle.sha512.proofs.Ending.{ended_more, ended_new}

-- the state of a maker whose hasher is s and that gave d bytes
abbrev pub state : Hasher → ℕ → Making
state s d = record { taken = s.total; drawn = d; rule = stream_from s d }

-- a hasher that has taken nothing
stream_new : (s : Hasher) (d : ℕ) → s.words ≡ initial → s.total ≡ 0 → d ≡ 0 → (x : List ℕ) (i : ℕ) → stream_from s d x i ≡ stretched x i
unfolding stream_from stretched
stream_new s d words total drawn x i =
    let e : d + i ≡ i = omega arith in
    ap (λ n. slice_index (stream_block s x (n / 64)) (n % 64)) e
    ∙ ap (λ w. slice_index (word_bytes w) (i % 64)) (ended_new s (x ++ be32 (i / 64)) words total)

pub state_new : (s : Hasher) (d : ℕ) → s.words ≡ initial → s.total ≡ 0 → d ≡ 0 → Holding stretched [] (state s d)
state_new s d words total drawn = record {
  taken = total;
  drawn = drawn;
  rule_is = stream_new s d words total drawn;
}

-- a hasher that has taken more
stream_more : (s s' : Hasher) (d : ℕ) (bytes : List ℕ) → HasTaken bytes s s' → s.total + length bytes < 2 ^ 64
    → (x : List ℕ) (i : ℕ) → stream_from s' d x i ≡ stream_from s d (bytes ++ x) i
unfolding stream_from
stream_more s s' d bytes taken fits x i =
    let c : List ℕ = be32 ((d + i) / 64) in
    ap (λ w. slice_index (word_bytes w) ((d + i) % 64)) (ended_more s s' bytes (x ++ c) taken fits ∙ ap (ended s) (sym (append_assoc bytes x c)))

pub state_more : (s s' : Hasher) (d : ℕ) (bytes : List ℕ) → HasTaken bytes s s' → s.total + length bytes < 2 ^ 64 → Took bytes (state s d) (state s' d)
state_more s s' d bytes taken fits = record {
  taken = omega (arith, taken.total);
  drawn = refl;
  rule_is = stream_more s s' d bytes taken fits;
}

-- further on in the stream
stream_rest : (s : Hasher) (d n : ℕ) (x : List ℕ) (i : ℕ) → stream_from s (d + n) x i ≡ stream_from s d x (n + i)
unfolding stream_from
stream_rest s d n x i =
    let e : (d + n) + i ≡ d + (n + i) = omega arith in
    ap (λ m. slice_index (stream_block s x (m / 64)) (m % 64)) e

pub state_drew : (s s' : Hasher) (d d' : ℕ) (out : List ℕ) → s' ≡ s → d' ≡ d + length out → out ≡ first_bytes (stream_from s d []) (length out)
    → Drew out (state s d) (state s' d')
state_drew s s' d d' out same count bytes = record {
  bytes = bytes;
  taken = ap (λ (h : Hasher). h.total) same;
  drawn = count;
  rest = λ i. ap₂ (λ h n. stream_from h n [] i) same count ∙ stream_rest s d (length out) [] i;
  undrawn = λ none x i. let e : d' ≡ d = omega arith in ap₂ (λ h n. stream_from h n x i) same e;
}

-- a byte of the block that holds position d of the stream
pub byte_drawn : (s : Hasher) (block : List ℕ) (d i n : ℕ) → block ≡ stream_block s [] (n / 64) → n ≡ d + i → slice_index block (n % 64) ≡ stream_from s d [] i
unfolding stream_from
byte_drawn s block d i n is at = ap₂ (λ b m. slice_index b m) (is ∙ ap (λ (m : ℕ). stream_block s [] (m / 64)) at) (ap (λ (m : ℕ). m % 64) at)

-- a part of the current block, from u on, is the next n bytes of the stream
pub part_fresh : (s : Hasher) (block : List ℕ) (d u n k : ℕ) → block ≡ stream_block s [] (d / 64) → u ≡ d % 64 → u + n ≤ 64 → k < n
    → slice_index (slice_range block u (u + n)) k ≡ stream_from s d [] k
unfolding stream_from
part_fresh s block d u n k is at fits below =
    let q : d / 64 ≡ (d + k) / 64 = omega arith in
    let r : u + k ≡ (d + k) % 64 = omega arith in
    get_or-take ((u + n) - u) (drop u block) k 0 (omega arith) ∙ get_or-drop u block k 0
    ∙ ap₂ (λ b m. slice_index b m) (is ∙ ap (stream_block s []) q) r

-- a buffer that holds the stream up to `at`, after a draw that came to r
pub filled_more : (s : Hasher) (d at r : ℕ) (old new : List ℕ) → at ≤ r
    → ((k : ℕ) → k < at → slice_index old k ≡ stream_from s d [] k)
    → ((k : ℕ) → k < at → slice_index new k ≡ slice_index old k)
    → ((k : ℕ) → k < r - at → slice_index new (at + k) ≡ stream_from s (d + at) [] k)
    → (k : ℕ) → k < r → slice_index new k ≡ stream_from s d [] k
filled_more s d at r old new le held before fresh k below =
    elim (cases_lt k at) [
      | inl lt ↦ before k lt ∙ held k lt
      | inr ge ↦
          let e : at + (k - at) ≡ k = omega arith in
          ap (λ n. slice_index new n) (sym e) ∙ fresh (k - at) (omega arith) ∙ stream_rest s d at [] (k - at) ∙ ap (stream_from s d []) e
    ]
