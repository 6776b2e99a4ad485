use Rattle.std.proofs.Common.{◌≡◌, ℕ, ◌+◌, ◌-◌, ◌%◌, List, ◌∷◌, take, replicate, subst, arith}
use Rattle.sha512.specs.Hash.{zeros}
use Rattle.sha512.specs.Hashing.{HasTaken}
use Rattle.sha512.proofs.Absorbing.{taken_more}
use Rattle.sha512.proofs.Ending.{padding_is, ended_padded}
use Rattle.sha512.proofs.hasher.Hasher.finish.Goals as goal

pub returns : goal.returns
returns c =
    let z : ℕ = (239 - c.filled.result) % 128 in
    let front : List ℕ = take (z + 1) (0x80 ∷ replicate 127 0) in
    let is : z ≡ zeros c.args.self.total = omega arith in
    ended_padded c.args.self c.take-2.new.self
    (subst (λ b. HasTaken b c.args.self c.take-2.new.self)
    (padding_is c.args.self.total z c.to_be_bytes-bits.result is c.to_be_bytes-bits.ensures)
    (taken_more front c.to_be_bytes-bits.result c.args.self c.take.new.self c.take-2.new.self c.take.ensures c.take-2.ensures))
