-- The instance, by computation.
use Rattle.std.proofs.Common.{◌+◌, ◌*◌, ◌/◌, refl, subst, arith}
use Rattle.std.proofs.lemmas.Nat.{mod_below}
use Rattle.protocol.specs.Streams.{GivesBytes, first_bytes}
use Rattle.protocol.specs.Flags.{packed, unpacked}
use Rattle.protocol.specs.Selection.{selected, hidden_parties}
use Rattle.protocol.specs.Sharing.{text6, text7}
use Rattle.protocol.specs.Prover.{honest6, honest7}
use Rattle.protocol.specs.Extractor.{joint_seeds, value_of}
use Rattle.protocol.specs.Scheme.{transcript_of}
use Rattle.protocol.specs.Ceremony.{key_bytes, record_bytes}
use Rattle.protocol.specs.Book.{body_tests, recovered_bytes}
use Rattle.protocol.specs.Runs.{History}
use Rattle.protocol.specs.Runs as runs
use Rattle.instance.specs.Toy.{mix, poly, first, second}
use Rattle.instance.specs.Values.{the_header, the_salt, the_master, the_attributes, the_seed_a, first_record, second_record}
use Rattle.instance.specs.Instance.{Calls, Collisions, Witness, SpoiledRefused, Refusals, work, keyed, start}

pub calls : Calls
unfolding mix first_bytes honest6 honest7 text6 text7 joint_seeds value_of transcript_of selected hidden_parties packed unpacked key_bytes record_bytes body_tests recovered_bytes
calls = record {
  commit = refl;
  key = refl;
  key_written = refl;
  open_first = refl;
  first_written = refl;
  open_second = refl;
  second_written = refl;
  lodge_first = refl;
  lodge_second = refl;
  memory = refl;
  read = refl;
  read_written = refl;
  recover = refl;
}

pub collisions : Collisions
unfolding mix first_bytes honest6 honest7 text6 text7 joint_seeds value_of transcript_of selected hidden_parties packed unpacked key_bytes record_bytes body_tests recovered_bytes
collisions = record {
  lodge6 = refl;
  recover6 = refl;
  lodge7 = refl;
  recover7 = refl;
  lodge_both = refl;
  recover_both = refl;
}

pub refusals : Refusals
unfolding mix first_bytes honest6 honest7 text6 text7 joint_seeds value_of transcript_of selected hidden_parties packed unpacked key_bytes record_bytes body_tests recovered_bytes
refusals = record {
  lodge_short = refl;
  lodge_length = refl;
  lodge_work = refl;
  lodge_full = refl;
  lodge_other = refl;
  commit_mark = refl;
  commit_version = refl;
  commit_limit = refl;
  commit_attributes = refl;
  commit_work = refl;
  key_attributes = refl;
  key_work = refl;
  key_room = refl;
  key_rebuilt = refl;
  open_attributes = refl;
  open_work = refl;
  open_room = refl;
  open_rebuilt = refl;
  read_missing = refl;
  read_room = refl;
  recover_missing = refl;
  recover_second_missing = refl;
  lodge_other_d2 = refl;
  recover_unequal = refl;
  recover_itself = refl;
  recover_repetition = refl;
  recover_work = refl;
  recover_room = refl;
}

pub spoiled_refused : SpoiledRefused
unfolding mix first_bytes honest6 honest7 text6 text7 joint_seeds value_of transcript_of selected hidden_parties packed unpacked key_bytes record_bytes body_tests recovered_bytes
spoiled_refused = ((refl, (refl, (refl, (refl, (refl, (refl, (refl, (refl, (refl, (refl, (refl, (refl, (refl, (refl, (refl, (refl, (refl, (refl, (refl, (refl, (refl, (refl, (refl, (refl, (refl, (refl, (refl, (refl, (refl, (refl, (refl, (refl, (refl, (refl, (refl, (refl, (refl, (refl, (refl, tt))))))))))))))))))))))))))))))))))))))), (refl, (refl, (refl, (refl, (refl, (refl, (refl, (refl, (refl, (refl, (refl, (refl, (refl, (refl, tt)))))))))))))))

mix_bytes : GivesBytes mix
unfolding mix
mix_bytes text i = mod_below ((poly text * (2 * i + 3) + i) / 8) 256 (omega arith)

pub witness : Witness
unfolding mix selected hidden_parties packed unpacked
witness = record {
  bytes = mix_bytes;
  run = runs.lodged (runs.lodged (runs.began start.memory) first (second 0) first_record work 0 calls.lodge_first) first (second 1) second_record work 1 calls.lodge_second;
  history = subst (λ r. History mix mix keyed first (second 0) r) calls.first_written
      (runs.opened (runs.keyed (runs.committed the_header the_salt the_master the_attributes work refl refl refl calls.commit) first the_attributes the_seed_a work 16 refl calls.key) first (second 0) the_attributes work 377 377 calls.open_first);
  same = refl;
  apart = λ e. omega arith;
}
