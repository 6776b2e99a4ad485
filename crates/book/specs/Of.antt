-- A book of the code as a state, and an entry as it is handed to one.
use Rattle.std.specs.Prelude.{◌≡◌}
use Rattle.protocol.specs.Book.{State}
use Rattle.protocol.specs.Entry.{Entry}
use Rattle.book.specs.declared.book.Book.{Book}
use Rattle.book.specs.declared.entry.NewEntry.{NewEntry}

abbrev pub state_of : Book → State
state_of b = record { memory = b.memory.now; used = b.used; count = b.count }

-- the two are over one memory
abbrev pub SameMemory : Book → Book → Type 0
SameMemory b c = c.memory.ghost_name ≡ b.memory.ghost_name

abbrev pub entry_of : NewEntry → Entry
entry_of a = record { bytes = a.«record».now; hidden = a.hidden.now; flags = a.flags.now }
