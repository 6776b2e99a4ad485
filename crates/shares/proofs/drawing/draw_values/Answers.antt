use Rattle.std.proofs.Common.{◌≡◌, ℕ, [], ◌∷◌, ◌++◌, map, length, ◌∙◌}
use Rattle.std.specs.List.{range_with_len}
use Rattle.std.proofs.lemmas.Simd.{map-map}
use Rattle.std.proofs.lemmas.List.{append-nil}
use Rattle.protocol.specs.Parameters.{modulus, table}
use Rattle.protocol.specs.Residues.{residue}
use Rattle.protocol.specs.Sets.{number}
use Rattle.protocol.specs.Sampling.{sampled}
use Rattle.protocol.specs.Streams.{stream_word}
use Rattle.digest.specs.Short.{short_bytes}
use Rattle.digest.proofs.Runs.{holding_stream}
use Rattle.shares.specs.Drawing.{value_residues}
use Rattle.shares.proofs.drawing.draw_values.Goals as goal

-- the value that a word of a set stands for, modulo q
value : ℕ → ℕ → ℕ
value set w = residue (modulus set) (sampled (table set) w)

pub returns : goal.returns
unfolding value_residues value
returns g c =
    let F = g.D.DigestMaker.function in
    let set = number c.args.header.set in
    let s : ℕ → ℕ = (g.D.DigestMaker.means c.take_text.new.maker).rule [] in
    let master = c.args.master.now in
    let stream : s ≡ F (1 ∷ (short_bytes c.args.salt.now ++ master)) =
    holding_stream c.take_text.ensures ∙ (λ i. F (1 ∷ (c.as_slice.ensures.bytes i ++ append-nil master i))) in
    c.sample_all.ensures
    ∙ (λ i. map (value set) (c.draw_words.ensures i))
    ∙ map-map (value set) (stream_word s) (range_with_len 0 (length c.args.values.now))
    ∙ (λ i. map (λ k. value set (stream_word (stream i) k)) (range_with_len 0 (c.requires i)))
