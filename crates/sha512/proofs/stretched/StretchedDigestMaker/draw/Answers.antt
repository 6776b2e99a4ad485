use Rattle.std.proofs.Common.{◌≡◌, ℕ, ◌+◌, [], length, sym, ap, ◌∙◌, rules}
use Rattle.protocol.specs.Streams.{first_bytes}
use Rattle.sha512.specs.Stretching.{stream_from}
use Rattle.sha512.proofs.Streaming.{state_drew}
use Rattle.sha512.proofs.stretched.StretchedDigestMaker.draw.Goals as goal

pub returns-clause-effect : goal.returns-clause-effect
returns-clause-effect c =
    let long : length c.fill.new.out ≡ length c.args.out.now = search rules in
    state_drew c.args.self.now.hasher c.fill.new.self.hasher c.args.self.now.drawn c.fill.new.self.drawn c.fill.new.out
    c.fill.ensures.hasher (c.fill.ensures.drawn ∙ ap (λ (n : ℕ). c.args.self.now.drawn + n) (sym long))
    (c.fill.ensures.bytes ∙ ap (first_bytes (stream_from c.args.self.now.hasher c.args.self.now.drawn [])) (sym long))
