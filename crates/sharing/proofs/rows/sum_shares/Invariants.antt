use Rattle.std.proofs.Common.{◌≡◌, map, unwrap_or}
use Rattle.std.specs.List.{range_with_len}
use Rattle.protocol.specs.Group.{others}
use Rattle.protocol.specs.Of.{parameters}
use Rattle.protocol.specs.Parameters.{modulus, parties}
use Rattle.protocol.specs.Residues.{modular}
use Rattle.digest.specs.Short.{short_bytes}
use Rattle.shares.specs.Drawing.{share}
use Rattle.sharing.specs.Rows.{leaf_in}
use Rattle.sharing.proofs.rows.sum_shares.Given as goal

abbrev pub invariant-loop-j : goal.invariant-loop-j
invariant-loop-j g l =
    let r = l.leaves.of in
    let p = parameters r.header in
    l.sum ≡ map (λ k. others (modular (modulus p.set)) l.j (unwrap_or l.left_out (parties p)) (λ j. share g.D.DigestMaker.function p (short_bytes r.salt.now) r.number j (leaf_in p l.leaves.nodes.now j) k)) (range_with_len 0 p.m)
