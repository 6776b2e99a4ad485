use Rattle.std.proofs.Common.{◌≡◌, ◌+◌, ◌*◌, cond, eqb, [], ◌∷◌, ◌++◌, length, sym, subst, arith, rules}
use Rattle.std.proofs.lemmas.List.{length-append}
use Rattle.std.proofs.lemmas.Slice.Zip.{zip_turn}
use Rattle.protocol.specs.Bytes.{le16}
use Rattle.protocol.specs.Sharing.{parts}
use Rattle.digest.specs.Making.{Took}
use Rattle.digest.proofs.Taking.{took_next, ready_after, length-parts_most}
use Rattle.lattice.specs.Lines.{at}
use Rattle.shares.specs.Shown.{audited_share}
use Rattle.shares.proofs.Rows.{audited_short}
use Rattle.shares.proofs.taking.take_audited.Goals as goal

pub take_unless_kept-requires : goal.take_unless_kept-requires
take_unless_kept-requires g c =
    let flags = c.args.flags.now in
    let shares = c.args.shares.now in
    let n = length c.loop-flag.yielded in
    let turn =
    zip_turn flags shares c.loop-flag.yielded c.into_iter-flag-iterator.result c.loop-flag.flag-iterator c.next.new.self c.next.result (search rules) (search rules)
    c.loop-flag.yielded_by (c.in-Some.flag, c.in-Some.share) c.in-Some.is c.next.ensures.steps in
    let short = length-parts_most n 2 (audited_share flags (at shares)) (audited_short flags (at shares)) in
    ready_after _ _ _ (2 * length shares) 2 c.requires.ready (omega (arith, turn.1, short)) c.loop-flag.invariant

pub loop-flag-preserved : goal.loop-flag-preserved
loop-flag-preserved g c =
    let flags = c.args.flags.now in
    let shares = c.args.shares.now in
    let m = g.D.DigestMaker.means c.args.maker.now in
    let m' = g.D.DigestMaker.means c.take_unless_kept.new.maker in
    let xs = c.loop-flag.yielded in
    let turn =
    zip_turn flags shares xs c.into_iter-flag-iterator.result c.loop-flag.flag-iterator c.next.new.self c.next.result (search rules) (search rules)
    c.loop-flag.yielded_by (c.in-Some.flag, c.in-Some.share) c.in-Some.is c.next.ensures.steps in
    let n = length xs in
    let longer : length (xs ++ (c.in-Some.flag, c.in-Some.share) ∷ []) ≡ n + 1 = length-append xs ((c.in-Some.flag, c.in-Some.share) ∷ []) in
    let same : cond (eqb c.in-Some.flag.now 1) [] (le16 c.in-Some.share.now) ≡ audited_share flags (at shares) n =
    λ i. cond (eqb (turn.2 0 i) 1) [] (le16 (turn.3 0 i)) in
    subst (λ k. Took (parts k (audited_share flags (at shares))) m m') (sym longer)
    (took_next n (audited_share flags (at shares)) c.loop-flag.invariant (subst (λ t. Took t (g.D.DigestMaker.means c.loop-flag.maker) m') same c.take_unless_kept.ensures))
