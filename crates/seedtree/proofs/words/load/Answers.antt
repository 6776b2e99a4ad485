use Rattle.std.proofs.Common.{◌≡◌, ◌+◌, ◌-◌, ◌*◌, sym, ap, ◌∙◌, arith}
use Rattle.std.specs.List.{flat_map}
use Rattle.std.proofs.lemmas.List.{length-set, take_all}
use Rattle.protocol.specs.Bytes.{part, le16}
use Rattle.seedtree.specs.Words.{seed_in}
use Rattle.seedtree.proofs.Seeds.{loaded_more}
use Rattle.seedtree.proofs.words.load.Goals as goal

pub returns : goal.returns
unfolding seed_in
returns c =
    sym (take_all (2 * c.loop-i.i) c.loop-i.seed (omega arith))
    ∙ c.loop-i.invariant.1
    ∙ ap (flat_map le16) (take_all c.loop-i.i _ c.loop-i-test.false)
    ∙ ap (λ n. flat_map le16 (part c.args.words.now (16 * c.args.k) n)) (let n : 16 * c.args.k + 16 - 16 * c.args.k ≡ 16 = omega arith in n)
