use Rattle.std.proofs.Common.{ℕ, List, ◌∷◌, ◌++◌, ap, ◌∙◌, arith}
use Rattle.protocol.specs.Of.{parameters}
use Rattle.protocol.specs.Prover.{honest6}
use Rattle.protocol.specs.Sharing.{parts}
use Rattle.protocol.specs.Streams.{first_bytes}
use Rattle.digest.specs.Short.{short_bytes}
use Rattle.sharing.specs.Parts.{holder_commitments}
use Rattle.texts.proofs.Wholes.{ready6, whole6}
use Rattle.texts.proofs.holder.digest_text6.Goals as goal

pub feed_all6-requires : goal.feed_all6-requires
feed_all6-requires g c = record {
  scratch = c.requires.scratch;
  ready = ready6 c.encode_header.result c.args.holder.salt.now c.args.attributes.now c.begin_text6.ensures (omega arith) (omega arith);
}

pub returns : goal.returns
unfolding honest6 holder_commitments
returns g c =
    let F = g.D.DigestMaker.function in
    let p = parameters c.args.holder.header in
    let header = c.encode_header.result in
    let salt = c.args.holder.salt.now in
    let attributes = c.args.attributes.now in
    let rest : List ℕ = parts p.tau (holder_commitments F p (short_bytes salt) c.args.holder.master.now) in
    c.draw_short.ensures
    ∙ (λ i. first_bytes (whole6 header salt attributes c.begin_text6.ensures _ rest c.feed_all6.ensures i) (c.width.ensures i))
    ∙ ap (λ h. first_bytes (F (6 ∷ (h ++ (short_bytes salt ++ (attributes ++ rest))))) 32) c.encode_header.ensures.bytes
