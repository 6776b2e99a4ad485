-- An entry, as a book hands it out.
use Rattle.std.specs.Prelude.{◌≡◌, ℕ, ◌<◌, true, List, ◌++◌, drop, slice_index_or}
use Rattle.protocol.specs.Book.{State, entries_of, entry_from, entry_at, size_at, entry_bytes, no_entry, well_formed}
use Rattle.protocol.specs.Entry.{Entry}
use Rattle.protocol.specs.Flags.{packed}
use Rattle.protocol.specs.Header.{parameters_of}
use Rattle.protocol.specs.Parameters.{flag_length}
use Rattle.book.specs.declared.stored.Stored.{Stored}

-- its parts are those of this entry, which they tell
pub record Shows (a : Entry) (r : Stored) : Type 0 where
  pub record_is : r.«record».now ≡ a.bytes
  pub hidden_is : r.hidden.now ≡ a.hidden
  pub flags_is : r.flags.now ≡ packed a.flags (flag_length (parameters_of a.bytes))
  pub tells : entry_from r.«record».now r.hidden.now r.flags.now ≡ a

-- it is entry k of the book
pub record Found (s : State) (k : ℕ) (r : Stored) : Type 0 where
  pub there : k < s.count
  pub shows : Shows (slice_index_or (entries_of s) k no_entry) r
  pub well : well_formed (slice_index_or (entries_of s) k no_entry) ≡ true

-- a well-formed entry stands at the front of some bytes
pub record Begins (bytes : List ℕ) : Type 0 where
  pub well : well_formed (entry_at bytes) ≡ true
  pub whole : bytes ≡ entry_bytes (entry_at bytes) ++ drop (size_at bytes) bytes
