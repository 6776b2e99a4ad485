use Rattle.std.proofs.Common.{◌≡◌, ℕ, ◌+◌, ◌/◌, [], length, get_or, set, sym, ap, ap₂, ◌∙◌, arith}
use Rattle.std.proofs.lemmas.List.FromFn.{fill_by_all}
use Rattle.std.proofs.lemmas.List.Edits.{fill_by_more}
use Rattle.protocol.specs.Streams.{first_bytes}
use Rattle.sha512.specs.Stretching.{stream_block, stream_from}
use Rattle.sha512.proofs.Streaming.{byte_drawn}
use Rattle.sha512.proofs.stretched.Stretched.fill.Goals as goal

pub loop-byte-preserved : goal.loop-byte-preserved
loop-byte-preserved c =
    let at : c.refresh.new.self.drawn ≡ c.args.self.now.drawn + c.loop-byte.byte-index =
    c.refresh.ensures.drawn ∙ c.loop-byte.invariant.1 in
    let block : c.refresh.new.self.block ≡ stream_block c.args.self.now.hasher [] (c.refresh.new.self.drawn / 64) =
    c.refresh.ensures.block ∙ ap₂ (λ s (n : ℕ). stream_block s [] (n / 64)) c.loop-byte.invariant.0 (sym c.refresh.ensures.drawn) in
    let byte = byte_drawn c.args.self.now.hasher _ c.args.self.now.drawn c.loop-byte.byte-index c.refresh.new.self.drawn block at in
    let f : ℕ → ℕ = stream_from c.args.self.now.hasher c.args.self.now.drawn [] in (
      c.refresh.ensures.hasher ∙ c.loop-byte.invariant.0,
      omega (arith, at),
      (λ k h. ap (λ b. get_or (set c.loop-byte.out c.loop-byte.byte-index b) k 0) byte
          ∙ fill_by_more f c.loop-byte.out c.loop-byte.byte-index 0 (omega arith) c.loop-byte.invariant.2 k h),
    )

pub returns : goal.returns
unfolding first_bytes
returns c =
    let end : c.loop-byte.byte-index ≡ length c.args.out.now = omega arith in
    let long : length c.loop-byte.out ≡ length c.args.out.now = omega arith in
    record {
      hasher = c.loop-byte.invariant.0;
      drawn = omega (arith, c.loop-byte.invariant.1);
      bytes = fill_by_all (stream_from c.args.self.now.hasher c.args.self.now.drawn []) c.loop-byte.out (length c.args.out.now) 0 long
          (λ k h. c.loop-byte.invariant.2 k (omega arith));
    }
