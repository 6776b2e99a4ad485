use Rattle.std.proofs.Common.{◌≡◌, ℕ, ◌+◌, ◌-◌, ◌<◌, length, get_or, take, drop, ap, ◌∙◌, ap₂, arith}
use Rattle.std.proofs.lemmas.List.{length-take, length-drop}
use Rattle.keccak.specs.Sponge.{stream}
use Rattle.keccak.specs.Meaning.{giving}
use Rattle.keccak.proofs.Squeezed.{stream_here, more_pasted, part_byte}
use Rattle.keccak.proofs.state.Sponge.squeeze.Goals as goal

pub loop-done-preserved : goal.loop-done-preserved
loop-done-preserved g c =
    let r = g.row.RATE in
    let s = c.args.self.now in
    let t = c.renew.new.self in
    let u = c.unload.new.self in
    let done = c.loop-done.done in
    let n = c.min-n.result in
    let part = take (u.used + n - u.used) (drop u.used u.block) in
    let long : length part ≡ n = simp (length-take, length-drop) (omega arith) in
    let used = c.unload.ensures.used in
    let ahead : (i : ℕ) → giving r t i ≡ giving r s (done + i) = λ i. c.renew.ensures.same i ∙ c.loop-done.invariant.2 i in
    let byte : (k : ℕ) → k < length part → get_or part k 0 ≡ giving r s (done + k) = λ k h.
    part_byte u.block u.used n k (omega arith) ∙ c.unload.ensures.bytes (u.used + k) (omega arith) ∙ stream_here r t.lanes (u.used + k) (omega arith)
    ∙ ap (λ m. stream r t.lanes (m + k)) used ∙ ahead k in (
      omega arith,
      (λ k h. more_pasted (giving r s) c.loop-done.out c.put.new.out part done (omega arith) c.put.ensures c.loop-done.invariant.1 byte k (omega arith)),
      (λ i.
          let a : u.used + n + i ≡ t.used + (n + i) = omega arith in
          let b : done + (n + i) ≡ done + n + i = omega arith in
          ap₂ (stream r) c.unload.ensures.lanes a ∙ ahead (n + i) ∙ ap (giving r s) b),
    )
