-- What calls leave in the book, the outputs and the working memory.
use Rattle.std.specs.Prelude.{ℕ, List, ◌++◌, length, drop, replicate, Ok, Err, Result}
use Rattle.protocol.specs.declared.fault.Fault.{Fault}
use Rattle.protocol.specs.Entry.{Entry}
use Rattle.protocol.specs.Book.{State, appended, Recovered}

-- a book after lodge
abbrev pub lodge_leaves : Result ℕ Fault → State → Entry → State
lodge_leaves (Ok k) s a = appended s a
lodge_leaves (Err f) s a = s

-- an output after a call: fresh bytes before those that it keeps, or as it was
abbrev pub written : {X : Type 0} → Result X Fault → List ℕ → List ℕ → List ℕ
written (Ok x) fresh old = fresh ++ drop (length fresh) old
written (Err f) fresh old = old

-- an output after recover
abbrev pub recover_leaves : Result Recovered Fault → List ℕ → List ℕ
recover_leaves (Ok r) old = r.bytes ++ drop (length r.bytes) old
recover_leaves (Err f) old = old

-- working memory after a call, refused or not
abbrev pub wiped : List ℕ → List ℕ
wiped words = replicate (length words) 0
