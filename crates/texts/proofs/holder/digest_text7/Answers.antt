use Rattle.std.proofs.Common.{ℕ, ◌+◌, ◌*◌, List, [], ◌∷◌, ◌++◌, map, ap, ◌∙◌, arith, rules}
use Rattle.std.specs.List.{range_with_len, flat_map}
use Rattle.std.proofs.lemmas.List.FromFn.{length-map-range_with_len}
use Rattle.protocol.specs.Bytes.{le16}
use Rattle.protocol.specs.Of.{parameters}
use Rattle.protocol.specs.Prover.{honest7}
use Rattle.protocol.specs.Sharing.{parts}
use Rattle.protocol.specs.Streams.{first_bytes}
use Rattle.digest.specs.Short.{short_bytes}
use Rattle.digest.proofs.Taking.{ready_after}
use Rattle.lattice.specs.Lines.{at}
use Rattle.shares.specs.Shown.{most_shown, product_of}
use Rattle.shares.proofs.Rows.{length-coded}
use Rattle.sharing.specs.Parts.{holder_shares}
use Rattle.texts.proofs.Keys.{key_is}
use Rattle.texts.proofs.Wholes.{ready7, whole7}
use Rattle.texts.proofs.holder.digest_text7.Goals as goal

pub take_key-requires : goal.take_key-requires
take_key-requires g c =
    let p = parameters c.args.asked.holder.header in
    let ready = ready7 c.args.asked.holder.salt.now c.args.d1.now c.args.asked.flags.now c.args.asked.seed_a.now c.begin_text7.ensures.holds (omega arith) c.begin_text7.ensures.seed in
    record {
      scratch = c.requires.scratch;
      ready = (ready.0, omega (arith, ready.1));
    }

pub feed_all7-requires : goal.feed_all7-requires
feed_all7-requires g c =
    let p = parameters c.args.asked.holder.header in
    let f : ℕ → ℕ = product_of p c.args.asked.seed_a.now c.args.asked.flags.now (at c.args.asked.holder.values.now) in
    let b : List ℕ = map f (range_with_len 0 (p.n * p.c)) in
    record {
      scratch = search rules;
      ready = ready_after _ _ (flat_map le16 b) (32768 + 64 * (256 * most_shown)) (64 * (256 * most_shown))
          (ready7 c.args.asked.holder.salt.now c.args.d1.now c.args.asked.flags.now c.args.asked.seed_a.now c.begin_text7.ensures.holds (omega arith) c.begin_text7.ensures.seed)
          (omega (arith, length-coded b, length-map-range_with_len f 0 (p.n * p.c))) c.take_key.ensures;
    }

pub returns : goal.returns
unfolding honest7 holder_shares
returns g c =
    let F = g.D.DigestMaker.function in
    let p = parameters c.args.asked.holder.header in
    let salt = c.args.asked.holder.salt.now in
    let d1 = c.args.d1.now in
    let flags = c.args.asked.flags.now in
    let seed_a = c.args.asked.seed_a.now in
    let master = c.args.asked.holder.master.now in
    let values = c.args.asked.holder.values.now in
    let b : List ℕ = map (product_of p seed_a flags (at values)) (range_with_len 0 (p.n * p.c)) in
    let rest : List ℕ = parts p.tau (holder_shares F p (short_bytes salt) master seed_a flags) in
    c.draw_short.ensures
    ∙ (λ i. first_bytes (whole7 salt d1 flags seed_a c.begin_text7.ensures.holds _ _ (flat_map le16 b) rest c.take_key.ensures c.feed_all7.ensures i) (c.width.ensures i))
    ∙ ap (λ k. first_bytes (F (7 ∷ (short_bytes salt ++ (short_bytes d1 ++ (flags ++ (seed_a ++ (flat_map le16 k ++ rest))))))) 32)
    (key_is F p (short_bytes salt) master [] (short_bytes d1) seed_a flags values c.args.asked.holder.drawn c.args.asked.long c.args.asked.chosen)
