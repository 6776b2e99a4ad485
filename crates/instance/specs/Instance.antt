-- A ceremony that is opened twice, lodged and recovered under the toy function: the definitions come to the bytes that an independent
-- program gives, and every hypothesis of the guarantee is met by something.
use Rattle.std.specs.Prelude.{◌≡◌, ℕ, ◌*◌, List, [], ◌∷◌, ◌++◌, get_or, take, replicate, Ok, Err, Result, slice_index, slice_index_or, slice_set}
use Rattle.std.specs.List.{AllByRecursion}
use Rattle.protocol.specs.declared.fault.Fault.{Fault}
use Rattle.protocol.specs.declared.fault.Fault.TheVariants as fault
use Rattle.protocol.specs.declared.fault.Layer.{Layer}
use Rattle.protocol.specs.Faults.{number, place, layer}
use Rattle.protocol.specs.Bytes.{part}
use Rattle.protocol.specs.Streams.{GivesBytes}
use Rattle.protocol.specs.Entry.{chosen}
use Rattle.protocol.specs.Ceremony.{Committed, Keyed, commits, keys, key_bytes, opens, record_bytes}
use Rattle.protocol.specs.Book.{State, empty, appended, entries_of, no_entry, read_bytes, lodges, reads, recovers, common_part}
use Rattle.protocol.specs.Runs.{Run, History}
use Rattle.instance.specs.Toy.{mix, first, second}
use Rattle.instance.specs.Values.{Spoiled, spoiled, twice, the_header, the_salt, the_master, the_attributes, the_seed_a, the_d1, the_d2, the_key, first_record, second_record, the_memory, the_recovered, other_text6_record, text6_differs_at, other_text7_record, text7_differs_at, both_differ_record, other_d2_record, spoiled_records, twice_spoiled}

-- W of the header, the bytes of an entry, and more output than any call needs
abbrev pub work : ℕ
work = 338

abbrev pub entry_size : ℕ
entry_size = 385

abbrev pub room : ℕ
room = 400

abbrev pub committed : Committed
committed = record { header = the_header; salt = the_salt; master = the_master; d1 = the_d1 }

abbrev pub keyed : Keyed
keyed = record { header = the_header; salt = the_salt; master = the_master; d1 = the_d1; seed_a = the_seed_a; d2 = the_d2 }

-- a book with room for two entries and ten bytes; after the first record, and after the second
abbrev pub start : State
start = empty (replicate 780 0)

abbrev pub middle : State
middle = appended start (chosen first (second 0) first_record)

abbrev pub end : State
end = appended middle (chosen first (second 1) second_record)

-- every call, accepted, with what it writes
pub record Calls : Type 0 where
  pub commit : commits mix mix the_header the_salt the_master the_attributes work ≡ Ok committed
  pub key : keys mix mix first committed the_attributes the_seed_a work 16 ≡ Ok keyed
  pub key_written : key_bytes mix mix first committed the_attributes the_seed_a ≡ the_key
  pub open_first : opens mix mix first (second 0) keyed the_attributes work 377 ≡ Ok 377
  pub first_written : record_bytes mix mix first (second 0) keyed the_attributes ≡ first_record
  pub open_second : opens mix mix first (second 1) keyed the_attributes work 377 ≡ Ok 377
  pub second_written : record_bytes mix mix first (second 1) keyed the_attributes ≡ second_record
  pub lodge_first : lodges mix mix first (second 0) start first_record work ≡ Ok 0
  pub lodge_second : lodges mix mix first (second 1) middle second_record work ≡ Ok 1
  pub memory : end.memory ≡ the_memory ++ replicate 10 0
  pub read : reads end 1 381 ≡ Ok 381
  pub read_written : read_bytes (slice_index_or (entries_of end) 1 no_entry) ≡ part the_memory 389 381
  pub recover : recovers mix mix end 0 1 0 (2 * work) room ≡ Ok (record { label = 0; position = 0; bytes = the_recovered })

-- the two collisions: other attributes under one d1, another seed_a under one d2
abbrev pub with_other6 : State
with_other6 = appended middle (chosen first (second 1) other_text6_record)

abbrev pub with_other7 : State
with_other7 = appended middle (chosen first (second 1) other_text7_record)

abbrev pub with_both : State
with_both = appended middle (chosen first (second 1) both_differ_record)

pub record Collisions : Type 0 where
  pub lodge6 : lodges mix mix first (second 1) middle other_text6_record work ≡ Ok 1
  pub recover6 : recovers mix mix with_other6 0 1 0 (2 * work) room ≡ Ok (record { label = 6; position = text6_differs_at; bytes = [] })
  pub lodge7 : lodges mix mix first (second 1) middle other_text7_record work ≡ Ok 1
  pub recover7 : recovers mix mix with_other7 0 1 0 (2 * work) room ≡ Ok (record { label = 7; position = text7_differs_at; bytes = [] })
  -- where both texts differ, text 6 is the one that is told
  pub lodge_both : lodges mix mix first (second 1) middle both_differ_record work ≡ Ok 1
  pub recover_both : recovers mix mix with_both 0 1 0 (2 * work) room ≡ Ok (record { label = 6; position = text6_differs_at; bytes = [] })

-- what the guarantee speaks of exists: a run with two entries of one commitment that hide different parties, and a ceremony's history
pub record Witness : Type 0 where
  pub bytes : GivesBytes mix
  pub run : Run mix mix (chosen first (second 0) first_record ∷ chosen first (second 1) second_record ∷ []) end
  pub history : History mix mix keyed first (second 0) first_record
  pub same : common_part (slice_index_or (entries_of end) 0 no_entry) ≡ common_part (slice_index_or (entries_of end) 1 no_entry)
  pub apart : get_or (get_or (entries_of end) 0 no_entry).hidden 0 0 ≡ slice_index (get_or (entries_of end) 1 no_entry).hidden 0 → ⊥

-- a refusal by its number, place and layer
pub data Answer : Type 0 where
  accepted : Answer
  refused : ℕ → ℕ → Layer → Answer

abbrev pub told : {X : Type 0} → Result X Fault → Answer
told (Ok x) = accepted
told (Err f) = refused (number f) (place f) (layer f)

-- what lodge says of a record
abbrev pub judged : List ℕ → Answer
judged r = told (lodges mix mix first (second 0) (empty (replicate entry_size 0)) r work)

-- the first record with one byte changed, or two
abbrev pub Refuses : Spoiled → Type 0
Refuses (spoiled at value n p l) = judged (slice_set first_record at value) ≡ refused n p l
Refuses (twice at value at' value' n p l) = judged (slice_set (slice_set first_record at value) at' value') ≡ refused n p l

abbrev pub SpoiledRefused : Type 0
SpoiledRefused = AllByRecursion Refuses spoiled_records × AllByRecursion Refuses twice_spoiled

-- the other refusals of every call, in their order
pub record Refusals : Type 0 where
  pub lodge_short : lodges mix mix first (second 0) start (take 14 first_record) 0 ≡ Err fault.Short
  pub lodge_length : lodges mix mix first (second 0) start (take 15 first_record) 0 ≡ Err (fault.Length 377)
  pub lodge_work : lodges mix mix first (second 0) (empty []) first_record 337 ≡ Err (fault.Memory 338)
  pub lodge_full : lodges mix mix first (second 0) (empty (replicate 384 0)) first_record work ≡ Err (fault.Full 385)
  -- a challenger that was not the opening's
  pub lodge_other : lodges mix mix first (second 1) start first_record work ≡ Err fault.FirstDigest
  pub commit_mark : commits mix mix (slice_set the_header 0 0) the_salt the_master [] 0 ≡ Err fault.Mark
  pub commit_version : commits mix mix (slice_set the_header 3 2) the_salt the_master [] 0 ≡ Err fault.Version
  pub commit_limit : commits mix mix (slice_set the_header 5 4) the_salt the_master [] 0 ≡ Err (fault.Limit 5)
  pub commit_attributes : commits mix mix the_header the_salt the_master [] 0 ≡ Err (fault.Length 3)
  pub commit_work : commits mix mix the_header the_salt the_master the_attributes 337 ≡ Err (fault.Memory 338)
  pub key_attributes : keys mix mix first committed [] the_seed_a 0 0 ≡ Err (fault.Length 3)
  pub key_work : keys mix mix first committed the_attributes the_seed_a 337 0 ≡ Err (fault.Memory 338)
  pub key_room : keys mix mix first committed the_attributes the_seed_a work 15 ≡ Err (fault.Output 16)
  pub key_rebuilt : keys mix mix first committed (0 ∷ 0 ∷ 0 ∷ []) the_seed_a work 16 ≡ Err fault.Rebuilt
  pub open_attributes : opens mix mix first (second 0) keyed [] 0 0 ≡ Err (fault.Length 3)
  pub open_work : opens mix mix first (second 0) keyed the_attributes 337 0 ≡ Err (fault.Memory 338)
  pub open_room : opens mix mix first (second 0) keyed the_attributes work 376 ≡ Err (fault.Output 377)
  pub open_rebuilt : opens mix mix (λ salt d1 i. i) (second 0) keyed the_attributes work 377 ≡ Err fault.Rebuilt
  pub read_missing : reads end 2 0 ≡ Err (fault.Missing 2)
  pub read_room : reads end 1 380 ≡ Err (fault.Output 381)
  pub recover_missing : recovers mix mix end 2 5 0 0 0 ≡ Err (fault.Missing 2)
  pub recover_second_missing : recovers mix mix end 0 5 0 0 0 ≡ Err (fault.Missing 5)
  -- one commitment with two keys: d2 is not the same
  pub lodge_other_d2 : lodges mix mix first (second 1) middle other_d2_record work ≡ Ok 1
  pub recover_unequal : recovers mix mix (appended middle (chosen first (second 1) other_d2_record)) 0 1 0 0 0 ≡ Err fault.Unequal
  pub recover_itself : recovers mix mix end 0 0 0 0 0 ≡ Err (fault.Repetition 0)
  pub recover_repetition : recovers mix mix end 0 1 2 0 0 ≡ Err (fault.Repetition 2)
  pub recover_work : recovers mix mix end 0 1 0 675 0 ≡ Err (fault.Memory 676)
  pub recover_room : recovers mix mix end 0 1 0 676 149 ≡ Err (fault.Output 150)
