use Rattle.std.proofs.Common.{◌%◌, map, length, ap, ◌∙◌}
use Rattle.std.specs.List.{range_with_len}
use Rattle.std.proofs.lemmas.Simd.{map-map}
use Rattle.protocol.specs.Parameters.{modulus}
use Rattle.protocol.specs.Streams.{stream_word}
use Rattle.lattice.specs.Lines.{at}
use Rattle.protocol.specs.Sets.{number}
use Rattle.lattice.proofs.values.read_residues.Goals as goal

pub returns : goal.returns
returns c =
    c.reduce_all.ensures
    ∙ ap (map (λ w. w % modulus (number c.args.set))) c.read_words.ensures
    ∙ map-map (λ w. w % modulus (number c.args.set)) (stream_word (at c.args.bytes.now)) (range_with_len 0 (length c.args.out.now))
