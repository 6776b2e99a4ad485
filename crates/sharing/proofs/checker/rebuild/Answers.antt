use Rattle.std.proofs.Common.{◌≡◌, ℕ, ◌<◌, List, map, sym, refl, ◌∙◌, subst, arith}
use Rattle.std.specs.List.{range_with_len}
use Rattle.protocol.specs.Of.{parameters}
use Rattle.protocol.specs.Parameters.{parties}
use Rattle.protocol.specs.Streams.{Digest, stream_word}
use Rattle.digest.specs.Short.{short_bytes}
use Rattle.lattice.specs.Lines.{at}
use Rattle.seedtree.specs.Grown.{Regrown}
use Rattle.shares.specs.Drawing.{share}
use Rattle.shares.proofs.Products.{same_row}
use Rattle.sharing.specs.Rows.{leaf_in, summed, others_held}
use Rattle.sharing.proofs.Adding.{added_row}
use Rattle.sharing.proofs.Holding.{residues_lawful}
use Rattle.sharing.proofs.Offsetting.{others_with, others_without}
use Rattle.sharing.proofs.checker.rebuild.Goals as goal

regrown_from : (F : Digest) (salt : List ℕ) (e h : ℕ) (nodes seeds seeds' : List ℕ) (party party' : ℕ) → seeds ≡ seeds' → party ≡ party' →
    Regrown F salt e h party seeds nodes → Regrown F salt e h party' seeds' nodes
regrown_from F salt e h nodes seeds seeds' party party' s is grown =
    subst (λ n. Regrown F salt e h n seeds' nodes) is (subst (λ z. Regrown F salt e h party z nodes) s grown)

pub returns-then-party-ne0 : goal.returns-then-party-ne0
returns-then-party-ne0 g c =
    let F = g.D.DigestMaker.function in
    let x = c.args.checked in
    let p = parameters x.whole.view.header in
    let salt = short_bytes x.salt.now in
    let e = x.number in
    let party = c.party-party.result in
    let nodes = c.regrow.new.nodes in
    let offsets = c.read_words.new.out in
    let some : 0 < parties p = omega arith in
    record {
      tree = regrown_from F salt e p.h nodes _ _ party _ c.block-block.ensures.seeds c.party-party.ensures c.regrow.ensures;
      offsets = c.read_words.ensures ∙ (λ i. map (stream_word (at (c.block-block.ensures.offsets i))) (range_with_len 0 (c.requires.offsets i)));
      key = c.read_words-2.ensures ∙ (λ i. map (stream_word (at (c.part.ensures.holds i))) (range_with_len 0 (c.requires.key i)));
      sums =
          added_row _ p.set p.m c.sum_shares.new.sum offsets _ (summed F p salt e nodes party) (at offsets) (others_held F p salt e nodes offsets party)
          refl c.sum_shares.ensures c.add_row.ensures (λ k q. refl)
          (λ k q. sym (others_with (residues_lawful p.set) (λ j. share F p salt e j (leaf_in p nodes j) k) (at offsets k) (parties p) party some c.if-party-ne0.true))
          ∙ (λ i. map (others_held F p salt e nodes offsets (c.party-party.ensures i)) (range_with_len 0 p.m));
    }

pub returns-else-party-ne0 : goal.returns-else-party-ne0
returns-else-party-ne0 g c =
    let F = g.D.DigestMaker.function in
    let x = c.args.checked in
    let p = parameters x.whole.view.header in
    let salt = short_bytes x.salt.now in
    let e = x.number in
    let party = c.party-party.result in
    let nodes = c.regrow.new.nodes in
    let offsets = c.read_words.new.out in
    record {
      tree = regrown_from F salt e p.h nodes _ _ party _ c.block-block.ensures.seeds c.party-party.ensures c.regrow.ensures;
      offsets = c.read_words.ensures ∙ (λ i. map (stream_word (at (c.block-block.ensures.offsets i))) (range_with_len 0 (c.requires.offsets i)));
      key = c.read_words-2.ensures ∙ (λ i. map (stream_word (at (c.part.ensures.holds i))) (range_with_len 0 (c.requires.key i)));
      sums =
          c.sum_shares.ensures
          ∙ same_row (summed F p salt e nodes party) (others_held F p salt e nodes offsets party) p.m
          (λ k q. sym (others_without (residues_lawful p.set) (λ j. share F p salt e j (leaf_in p nodes j) k) (at offsets k) (parties p) party c.if-party-ne0.false))
          ∙ (λ i. map (others_held F p salt e nodes offsets (c.party-party.ensures i)) (range_with_len 0 p.m));
    }
