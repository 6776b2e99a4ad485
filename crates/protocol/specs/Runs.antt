-- What calls can make of a book and of a ceremony. F is the function of the digest makers, one kind for all calls, and X is SHAKE128;
-- each call may have a challenger of its own.
use Rattle.std.specs.Prelude.{◌≡◌, ℕ, List, [], ◌∷◌, ◌++◌, length, Ok, Err, Result}
use Rattle.protocol.specs.declared.fault.Fault.{Fault}
use Rattle.protocol.specs.Streams.{Digest, First, Second}
use Rattle.protocol.specs.Header.{parameters_of}
use Rattle.protocol.specs.Parameters.{width}
use Rattle.protocol.specs.Entry.{Entry, chosen}
use Rattle.protocol.specs.Ceremony.{Committed, Keyed, commits, keys, opens, record_bytes}
use Rattle.protocol.specs.Book.{State, empty, appended, lodges, reads, Recovered, recovers}

-- a book in this state has accepted these records with these answers, in this order, since it was empty
pub data Run (F X : Digest) : List Entry → State → Type 0 where
  began : (memory : List ℕ) → Run F X [] (empty memory)
  lodged : {hs : List Entry} {s : State} → Run F X hs s → (G1 : First) (G2 : Second) (r : List ℕ) (work k : ℕ) →
      lodges F X G1 G2 s r work ≡ Ok k → Run F X (hs ++ chosen G1 G2 r ∷ []) (appended s (chosen G1 G2 r))
  refused : {hs : List Entry} {s : State} → Run F X hs s → (G1 : First) (G2 : Second) (r : List ℕ) (work : ℕ) (f : Fault) →
      lodges F X G1 G2 s r work ≡ Err f → Run F X hs s
  read : {hs : List Entry} {s : State} → Run F X hs s → (k room : ℕ) (answer : Result ℕ Fault) → reads s k room ≡ answer → Run F X hs s
  recovered : {hs : List Entry} {s : State} → Run F X hs s → (i j e work room : ℕ) (answer : Result Recovered Fault) →
      recovers F X s i j e work room ≡ answer → Run F X hs s

-- a ceremony that was committed, and keys that were refused
pub data Commits (F X : Digest) : Committed → Type 0 where
  committed : {c : Committed} (header salt master attributes : List ℕ) (work : ℕ) →
      length header ≡ 15 → length salt ≡ width (parameters_of header) → length master ≡ 32 →
      commits F X header salt master attributes work ≡ Ok c → Commits F X c
  key_refused : {c : Committed} → Commits F X c → (G1 : First) (attributes seed_a : List ℕ) (work room : ℕ) (f : Fault) →
      keys F X G1 c attributes seed_a work room ≡ Err f → Commits F X c

-- one that was given a key, and openings that were refused
pub data Keys (F X : Digest) : Keyed → Type 0 where
  keyed : {c : Committed} {k : Keyed} → Commits F X c → (G1 : First) (attributes seed_a : List ℕ) (work room : ℕ) → length seed_a ≡ 16 →
      keys F X G1 c attributes seed_a work room ≡ Ok k → Keys F X k
  open_refused : {k : Keyed} → Keys F X k → (G1 : First) (G2 : Second) (attributes : List ℕ) (work room : ℕ) (f : Fault) →
      opens F X G1 G2 k attributes work room ≡ Err f → Keys F X k

-- one that was opened with these answers, and gave this record
pub data History (F X : Digest) : Keyed → First → Second → List ℕ → Type 0 where
  opened : {k : Keyed} → Keys F X k → (G1 : First) (G2 : Second) (attributes : List ℕ) (work room n : ℕ) →
      opens F X G1 G2 k attributes work room ≡ Ok n → History F X k G1 G2 (record_bytes F X G1 G2 k attributes)
