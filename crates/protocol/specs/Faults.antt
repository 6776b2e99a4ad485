-- What each refusal says: its number, its place and its layer, and the line that is printed of it.
use Rattle.std.specs.Prelude.{ℕ, List, ◌++◌, codes, decimal}
use Rattle.protocol.specs.declared.fault.Fault.{Fault}
use Rattle.protocol.specs.declared.fault.Fault.TheVariants.{Short, Mark, Version, Limit, Length, Residue, Audited, FirstDigest, SecondDigest, Memory, Rebuilt, Output, Full, Missing, Turn, PastLimit, Unequal, Repetition}
use Rattle.protocol.specs.declared.fault.Layer.{Layer}
use Rattle.protocol.specs.declared.fault.Layer.TheVariants as layers

abbrev pub number : Fault → ℕ
number Short = 1
number Mark = 2
number Version = 3
number (Limit offset) = 4
number (Length due) = 5
number (Residue offset) = 6
number (Audited offset) = 7
number FirstDigest = 8
number SecondDigest = 9
number (Memory due) = 10
number Rebuilt = 11
number (Output due) = 12
number (Full bytes) = 13
number (Missing entry) = 14
number Turn = 15
number PastLimit = 16
number Unequal = 17
number (Repetition e) = 18

abbrev pub place : Fault → ℕ
place Short = 0
place Mark = 0
place Version = 3
place (Limit offset) = offset
place (Length due) = due
place (Residue offset) = offset
place (Audited offset) = offset
place FirstDigest = 0
place SecondDigest = 0
place (Memory due) = due
place Rebuilt = 0
place (Output due) = due
place (Full bytes) = bytes
place (Missing entry) = entry
place Turn = 0
place PastLimit = 0
place Unequal = 0
place (Repetition e) = e

abbrev pub layer : Fault → Layer
layer Short = layers.Header
layer Mark = layers.Header
layer Version = layers.Header
layer (Limit offset) = layers.Header
layer (Length due) = layers.Header
layer (Residue offset) = layers.Body
layer (Audited offset) = layers.Body
layer FirstDigest = layers.Digest
layer SecondDigest = layers.Digest
layer (Memory due) = layers.Memory
layer Rebuilt = layers.Ceremony
layer (Output due) = layers.Memory
layer (Full bytes) = layers.Book
layer (Missing entry) = layers.Book
layer Turn = layers.Maker
layer PastLimit = layers.Maker
layer Unequal = layers.Book
layer (Repetition e) = layers.Book

abbrev pub layer_name : Layer → List ℕ
layer_name layers.Header = codes "header"
layer_name layers.Memory = codes "memory"
layer_name layers.Book = codes "book"
layer_name layers.Body = codes "body"
layer_name layers.Digest = codes "digest"
layer_name layers.Ceremony = codes "ceremony"
layer_name layers.Maker = codes "maker"

-- refused NUMBER PLACE LAYER
abbrev pub refusal_line : Fault → List ℕ
refusal_line f = codes "refused " ++ (decimal (number f) ++ (codes " " ++ (decimal (place f) ++ (codes " " ++ layer_name (layer f)))))
