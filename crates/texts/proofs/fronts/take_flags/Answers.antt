use Rattle.std.proofs.Common.{◌≡◌, ℕ, ◌+◌, ◌<◌, true, List, [], ◌∷◌, ◌++◌, length, get_or, take, is_ok, Result, sym, ap, ◌∙◌, subst, arith, MatchResult}
use Rattle.std.proofs.lemmas.List.{take_more, take_all, length-take-le}
use Rattle.protocol.specs.declared.fault.Fault.{Fault}
use Rattle.digest.specs.Feeding.{Ready}
use Rattle.digest.specs.Making.{Making, takes, Took}
use Rattle.digest.proofs.Taking.{took_none, took_ok, took_both, ready_after}
use Rattle.texts.proofs.fronts.take_flags.Goals as goal

-- the take of the next flag is not refused
flag_taken : (r : Result (Unit {0}) Fault) (m m' m'' : Making) (flags : List ℕ) (i b : ℕ) → i < length flags → b ≡ get_or flags i 0 → Ready (length flags) m →
    Took (take i flags) m m' → r ≡ takes m' 1 → MatchResult r (λ _. Took (b ∷ []) m' m'') (λ _. m'' ≡ m') →
    (is_ok r ≡ true) × Took (take (i + 1) flags) m m''
flag_taken r m m' m'' flags i b h is ready was a k =
    let room : Ready 1 m' = ready_after m m' (take i flags) (length flags) 1 ready (omega (arith, length-take-le i flags (omega arith))) was in
    let ok = took_ok r m' m'' (b ∷ []) room a k in
    (ok.0, subst (λ t. Took t m m'') (ap (λ z. take i flags ++ (z ∷ [])) is ∙ sym (take_more flags i 0 h)) (took_both was ok.1))

pub loop-flag-init : goal.loop-flag-init
loop-flag-init g c = took_none _

pub unwrap-requires : goal.unwrap-requires
unwrap-requires g c =
    (flag_taken c.take.result (g.D.DigestMaker.means c.args.maker.now) (g.D.DigestMaker.means c.loop-flag.maker) (g.D.DigestMaker.means c.take.new.self)
    c.args.flags.now c.loop-flag.flag-index _ c.loop-flag-test.true (omega (arith, c.requires.plain c.loop-flag.flag-index)) c.requires.ready c.loop-flag.invariant
    c.take.ensures.answer c.take.ensures.effect).0

pub loop-flag-preserved : goal.loop-flag-preserved
loop-flag-preserved g c =
    (flag_taken c.take.result (g.D.DigestMaker.means c.args.maker.now) (g.D.DigestMaker.means c.loop-flag.maker) (g.D.DigestMaker.means c.take.new.self)
    c.args.flags.now c.loop-flag.flag-index _ c.loop-flag-test.true (omega (arith, c.requires.plain c.loop-flag.flag-index)) c.requires.ready c.loop-flag.invariant
    c.take.ensures.answer c.take.ensures.effect).1

pub returns : goal.returns
returns g c =
    subst (λ t. Took t (g.D.DigestMaker.means c.args.maker.now) (g.D.DigestMaker.means c.loop-flag.maker))
    (take_all c.loop-flag.flag-index c.args.flags.now c.loop-flag-test.false) c.loop-flag.invariant
