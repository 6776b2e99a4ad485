use Rattle.std.proofs.Common.{take}
use Rattle.std.specs.List.{flat_map}
use Rattle.protocol.specs.Bytes.{le16}
use Rattle.digest.specs.Making.{Took}
use Rattle.shares.proofs.taking.take_words.Given as goal

abbrev pub invariant-loop-word : goal.invariant-loop-word
invariant-loop-word g l = Took (flat_map le16 (take l.word-index l.words)) (g.D.DigestMaker.means l.initial.maker) (g.D.DigestMaker.means l.maker)
