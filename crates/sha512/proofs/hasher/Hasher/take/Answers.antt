use Rattle.std.proofs.Common.{List, ℕ, ◌-◌, [], ◌++◌, take, sym, refl, subst, ap, ◌∙◌, append_assoc}
use Rattle.std.proofs.lemmas.List.{take_all}
use Rattle.std.specs.List.{concat}
use Rattle.sha512.specs.Hashing.{HasTaken}
use Rattle.sha512.proofs.Absorbing.{taken_more, concat_more}
use Rattle.sha512.proofs.Blocks.{in_blocks}
use Rattle.sha512.proofs.hasher.Hasher.take.Goals as goal

pub loop-block-preserved : goal.loop-block-preserved
loop-block-preserved c =
    let front : List ℕ = take (128 - c.filled-room.result) c.args.bytes.now in
    let blocks : List (List ℕ) = c.as_chunks.result.0.now in
    let more = taken_more (front ++ concat (take c.loop-block.block-index blocks)) _ c.args.self.now c.loop-block.self c.take_block.new.self
    c.loop-block.invariant.1 c.take_block.ensures.taken in (
      c.take_block.ensures.none,
      subst (λ x. HasTaken x c.args.self.now c.take_block.new.self)
          (append_assoc front (concat (take c.loop-block.block-index blocks)) _
          ∙ ap (λ x. front ++ x) (sym (concat_more blocks c.loop-block.block-index [] c.loop-block-test.true))) more,
    )

pub returns : goal.returns
returns c =
    let front : List ℕ = take (128 - c.filled-room.result) c.args.bytes.now in
    let blocks : List (List ℕ) = c.as_chunks.result.0.now in
    let all = taken_more (front ++ concat (take c.loop-block.block-index blocks)) c.as_chunks.result.1.now c.args.self.now c.loop-block.self
    c.take_few-3.new.self c.loop-block.invariant.1 c.take_few-3.ensures in
    subst (λ x. HasTaken x c.args.self.now c.take_few-3.new.self)
    (ap (λ bs. (front ++ concat bs) ++ c.as_chunks.result.1.now) (take_all c.loop-block.block-index blocks c.loop-block-test.false)
    ∙ append_assoc front (concat blocks) c.as_chunks.result.1.now
    ∙ in_blocks c.args.bytes.now front c.split_at.result.1.now c.as_chunks.result.1.now (128 - c.filled-room.result) 128 blocks
    refl c.split_at.ensures.back c.as_chunks.ensures.front c.as_chunks.ensures.back) all
