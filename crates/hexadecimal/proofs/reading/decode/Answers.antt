use Rattle.std.proofs.Common.{◌≡◌, ◌+◌, ◌-◌, ◌*◌, true, [], ◌∷◌, ◌++◌, length, is_ok, vec_items, sym, ap, ◌∙◌, subst, inr, arith, rules}
use Rattle.std.proofs.lemmas.Result.{err_from_is_err_and}
use Rattle.std.proofs.lemmas.Bool.{cond-true}
use Rattle.hexadecimal.specs.Hex.{value}
use Rattle.hexadecimal.proofs.Decoding.{Read, read_none, read_more, stopped, stopped_next, odd_end}
use Rattle.hexadecimal.proofs.Pairs.{at_pair, at_rest}
use Rattle.hexadecimal.proofs.reading.decode.Goals as goal

pub loop-k-init : goal.loop-k-init
loop-k-init c = rw c.new-bytes.ensures.items (read_none c.args.text.now)

pub returns-in_err-high : goal.returns-in_err-high
returns-in_err-high c =
    let text = c.args.text.now in
    let k = c.loop-k.k in
    let at = at_pair text _ _ k c.as_chunks.ensures.front c.as_bytes.ensures.value (omega arith) in
    let p = err_from_is_err_and c.from_residual.result c.from_residual.ensures.1 in
    let h = c.in_err-high.ensures in
    rw (p.1, p.2, h.1) (inr (stopped text (vec_items c.loop-k.bytes) (2 * k) (omega arith) (ap value (sym at.0) ∙ h.0) c.loop-k.invariant))

pub returns-in_err-low : goal.returns-in_err-low
returns-in_err-low c =
    let text = c.args.text.now in
    let k = c.loop-k.k in
    let at = at_pair text _ _ k c.as_chunks.ensures.front c.as_bytes.ensures.value (omega arith) in
    let p = err_from_is_err_and c.from_residual-in_err-low.result c.from_residual-in_err-low.ensures.1 in
    let h = c.in_err-low.ensures in
    rw (p.1, p.2, h.1)
    (inr (stopped_next text (vec_items c.loop-k.bytes) (2 * k) c.in_ok-high.high (omega arith) (ap value (sym at.0) ∙ c.in_ok-high.ensures.0)
    (ap value (sym at.1) ∙ h.0) c.loop-k.invariant))

pub loop-k-preserved : goal.loop-k-preserved
loop-k-preserved c =
    let text = c.args.text.now in
    let bs = vec_items c.loop-k.bytes in
    let k = c.loop-k.k in
    let h = c.in_ok-high.high in
    let l = c.in_ok-low.low in
    let at = at_pair text _ _ k c.as_chunks.ensures.front c.as_bytes.ensures.value (omega arith) in
    let ok : is_ok c.push.result ≡ true = search rules in
    let pushed : vec_items c.push.new.self ≡ bs ++ (16 * h + l) ∷ [] =
    c.push.ensures.items ∙ cond-true (is_ok c.push.result) (bs ++ (16 * h + l) ∷ []) bs ok in
    let on : 2 * k + 1 + 1 ≡ 2 * (k + 1) = omega arith in
    subst (λ xs. Read text xs (2 * (k + 1))) (sym pushed)
    (subst (Read text (bs ++ (16 * h + l) ∷ [])) on
    (read_more text bs (2 * k) h l (omega arith) (ap value (sym at.0) ∙ c.in_ok-high.ensures.0) (ap value (sym at.1) ∙ c.in_ok-low.ensures.0)
    c.loop-k.invariant))

pub returns-in_err-value_at-in-len1-up : goal.returns-in_err-value_at-in-len1-up
returns-in_err-value_at-in-len1-up c =
    let text = c.args.text.now in
    let bs = vec_items c.loop-k.bytes in
    let last : 2 * c.loop-k.k ≡ length text - 1 = omega arith in
    let at = at_rest text _ _ c.as_chunks.ensures.back c.as_bytes.ensures.value (omega arith) in
    let p = err_from_is_err_and c.from_residual-in_err-value_at-in-len1-up.result c.from_residual-in_err-value_at-in-len1-up.ensures.1 in
    let h = c.in_err-value_at-in-len1-up.ensures in
    rw (p.1, p.2, h.1) (inr (stopped text bs (length text - 1) (omega arith) (ap value (sym at) ∙ h.0)
    (subst (Read text bs) last c.loop-k.invariant)))

pub returns-in_ok-value_at-in-len1-up : goal.returns-in_ok-value_at-in-len1-up
returns-in_ok-value_at-in-len1-up c =
    let text = c.args.text.now in
    let bs = vec_items c.loop-k.bytes in
    let last : 2 * c.loop-k.k ≡ length text - 1 = omega arith in
    let at = at_rest text _ _ c.as_chunks.ensures.back c.as_bytes.ensures.value (omega arith) in
    let h = c.in_ok-value_at-in-len1-up.ensures in
    let digit = c.in_ok-value_at-in-len1-up.field-0 in
    inr (odd_end text bs (length text - 1) digit (omega arith) (ap value (sym at) ∙ h.0) (subst (Read text bs) last c.loop-k.invariant))
