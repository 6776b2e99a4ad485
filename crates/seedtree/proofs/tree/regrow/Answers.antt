use Rattle.std.proofs.Common.{◌≡◌, ℕ, ◌/◌, ◌<◌, List, [], length, get_or, sym, ap, ◌∙◌, subst, arith}
use Rattle.std.specs.Simd.{first_chunks}
use Rattle.std.proofs.lemmas.List.FromFn.{get_or-map-range_with_len}
use Rattle.protocol.specs.Scheme.{seeds_of}
use Rattle.digest.specs.Short.{short_bytes}
use Rattle.seedtree.proofs.Growing.{Regrowing, regrowing_start, regrowing_more}
use Rattle.seedtree.proofs.Paths.{above_leaf, level_fits, beside_fits, level_wide}
use Rattle.seedtree.proofs.Siblings.{chunk_is}
use Rattle.seedtree.proofs.tree.regrow.Goals as goal

pub loop-t-init : goal.loop-t-init
loop-t-init g c =
    let r = c.args.repetition in
    regrowing_start g.D.DigestMaker.function (short_bytes r.salt.now) r.number r.header.h c.args.hidden (seeds_of c.args.siblings.now r.header.h) c.args.nodes.now c.requires.hidden

pub split_level-requires-clause-room : goal.split_level-requires-clause-room
split_level-requires-clause-room g c =
    let less : c.loop-t.t < c.args.repetition.header.h = omega arith in
    let f = level_fits less (omega arith) c.requires.hidden (level_wide c.loop-t.t less (omega arith)) in
    omega arith

pub store-requires-clause-room : goal.store-requires-clause-room
store-requires-clause-room g c =
    let less : c.loop-t.t < c.args.repetition.header.h = omega arith in
    let wide = level_wide c.loop-t.t less (omega arith) in
    let f = level_fits less (omega arith) c.requires.hidden wide in
    let b = beside_fits less c.requires.hidden wide c.other-beside.ensures in
    omega arith

-- the seed of this level
seed_at : (bytes : List ℕ) (t h : ℕ) → t < h → length bytes / 32 ≡ h → (seeds : List (List ℕ)) → seeds ≡ first_chunks 32 (length bytes / 32) bytes →
    get_or seeds t [] ≡ get_or (seeds_of bytes h) t []
seed_at bytes t h less count seeds are =
    ap (λ z. get_or z t []) are ∙ chunk_is (length bytes / 32) bytes t (omega arith) ∙ sym (get_or-map-range_with_len _ 0 h t t [] less (omega arith))

pub loop-t-preserved : goal.loop-t-preserved
loop-t-preserved g c =
    let r = c.args.repetition in
    let h = r.header.h in
    let t = c.loop-t.t in
    let less : t < h = omega arith in
    let seeds = seeds_of c.args.siblings.now h in
    regrowing_more g.D.DigestMaker.function (short_bytes r.salt.now) r.number h c.args.hidden seeds t _ c.other-beside.result
    _ c.loop-t.nodes c.split_level.new.nodes c.store.new.words less (level_wide t less (omega arith)) c.other-beside.ensures
    (seed_at c.args.siblings.now t h less (omega arith) _ c.as_chunks.ensures.front) c.loop-t.invariant c.split_level.ensures c.store.ensures

pub returns : goal.returns
returns g c j q not =
    let r = c.args.repetition in
    let h = r.header.h in
    let end : c.loop-t.t ≡ h = omega arith in
    subst (λ n. Regrowing g.D.DigestMaker.function (short_bytes r.salt.now) r.number h c.args.hidden (seeds_of c.args.siblings.now h) n c.loop-t.nodes) end c.loop-t.invariant
    j q (λ is. not (is ∙ above_leaf h c.args.hidden))
