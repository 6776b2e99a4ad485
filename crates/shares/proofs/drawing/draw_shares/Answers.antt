use Rattle.std.proofs.Common.{ℕ, ◌%◌, [], ◌∷◌, ◌++◌, map, length, ap, ◌∙◌}
use Rattle.std.specs.List.{range_with_len}
use Rattle.std.proofs.lemmas.Simd.{map-map}
use Rattle.protocol.specs.Parameters.{modulus}
use Rattle.protocol.specs.Residues.{residue_in}
use Rattle.protocol.specs.Sets.{number}
use Rattle.protocol.specs.Streams.{stream_word}
use Rattle.digest.proofs.Runs.{holding_stream}
use Rattle.shares.proofs.drawing.draw_shares.Goals as goal

pub returns : goal.returns
returns g c =
    let F = g.D.DigestMaker.function in
    let q = modulus (number c.args.repetition.header.set) in
    let s : ℕ → ℕ = (g.D.DigestMaker.means c.take_text.new.maker).rule [] in
    let n = length c.args.shares.now in
    c.reduce_all.ensures
    ∙ (λ i. map (λ w. w % q) (c.draw_words.ensures i))
    ∙ map-map (λ w. w % q) (stream_word s) (range_with_len 0 n)
    ∙ ap (λ z. map (residue_in q z) (range_with_len 0 n))
    (holding_stream c.take_text.ensures ∙ ap (λ a. F (5 ∷ (a ++ (c.args.repetition.number ∷ c.args.party ∷ c.args.seed.now)))) c.as_slice.ensures.bytes)
