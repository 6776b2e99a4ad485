use Rattle.std.proofs.Common.{◌≡◌, ◌+◌, [], length, ap, ◌∙◌, arith, rules}
use Rattle.keccak.specs.Meaning.{still_to_come}
use Rattle.keccak.proofs.Makers.{once_drawn, drew_none, drew_some}
use Rattle.keccak.proofs.shake256.Shake256DigestMaker.draw.Goals as goal

pub returns-then-more-eq0 : goal.returns-then-more-eq0
returns-then-more-eq0 c = record {
  answer = search rules;
  effect = drew_none _ _ (omega arith);
}

pub returns : goal.returns
returns c =
    let out = c.squeeze.new.out in
    let s = c.end_text.new.self in
    let long : length c.args.out.now ≡ length out = omega arith in
    record {
      answer = search rules;
      effect =
          drew_some out _ _ (omega arith) (λ k h. c.squeeze.ensures.bytes k (omega arith) ∙ c.end_text.ensures.rest k) c.end_text.ensures.taken (omega arith)
          (λ i. once_drawn (s.drawn + length c.args.out.now) _ _ (omega arith) ∙ c.squeeze.ensures.rest i ∙ c.end_text.ensures.rest (length c.args.out.now + i)
          ∙ ap (λ n. still_to_come c.args.self.now [] (n + i)) long);
    }
