use Rattle.std.proofs.Common.{◌≡◌, ◌*◌, ◌≤◌, [], map, length, take}
use Rattle.std.specs.List.{range_with_len}
use Rattle.protocol.specs.Streams.{stream_word}
use Rattle.shares.specs.Drawing.{Advanced}
use Rattle.shares.proofs.drawing.draw_words.Given as goal

abbrev pub invariant-loop-from : goal.invariant-loop-from
invariant-loop-from g l =
    (l.from ≤ length l.words)
    × (take l.from l.words ≡ map (stream_word ((g.D.DigestMaker.means l.initial.maker).rule [])) (range_with_len 0 l.from))
    × Advanced (2 * l.from) (g.D.DigestMaker.means l.initial.maker) (g.D.DigestMaker.means l.maker)
