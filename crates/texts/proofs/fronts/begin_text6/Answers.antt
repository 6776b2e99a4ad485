use Rattle.std.proofs.Common.{◌≡◌, ℕ, ◌≤◌, true, List, [], ◌∷◌, ◌++◌, length, is_ok, Result, ap, ◌∙◌, subst, arith, MatchResult}
use Rattle.std.proofs.lemmas.List.{append_assoc, append-nil, length-append}
use Rattle.protocol.specs.declared.fault.Fault.{Fault}
use Rattle.protocol.specs.Streams.{Digest}
use Rattle.digest.specs.Making.{Making, takes, Took, Holding}
use Rattle.digest.specs.Short.{short_bytes}
use Rattle.digest.proofs.Runs.{taken_ok}
use Rattle.texts.proofs.fronts.begin_text6.Goals as goal

-- the take of the attributes is not refused
attributes_taken : (r : Result (Unit {0}) Fault) {F : Digest} {m : Making} (m' : Making) (header salt slice attributes : List ℕ) →
    length header ≤ 15 → length slice ≤ 64 → length attributes ≤ 1024 → slice ≡ salt → Holding F (6 ∷ (header ++ (slice ++ []))) m →
    r ≡ takes m (length attributes) → MatchResult r (λ _. Took attributes m m') (λ _. m' ≡ m) →
    (is_ok r ≡ true) × Holding F (6 ∷ (header ++ (salt ++ attributes))) m'
attributes_taken r {F} m' header salt slice attributes h s b is held a k =
    let ok = taken_ok r m' attributes held (simp (length-append, append-nil) (omega arith)) a k in (
      ok.0,
      subst (λ t. Holding F (6 ∷ t) m')
          (ap (λ z. (header ++ z) ++ attributes) (append-nil slice ∙ is) ∙ append_assoc header salt attributes) ok.1,
    )

pub unwrap-requires : goal.unwrap-requires
unwrap-requires g c =
    (attributes_taken c.take.result (g.D.DigestMaker.means c.take.new.self) c.args.header.now (short_bytes c.args.salt.now) c.as_slice.result.now c.args.attributes.now
    c.requires.header c.as_slice.ensures.few c.requires.attributes c.as_slice.ensures.bytes c.take_text.ensures c.take.ensures.answer c.take.ensures.effect).0

pub returns : goal.returns
returns g c =
    (attributes_taken c.take.result (g.D.DigestMaker.means c.take.new.self) c.args.header.now (short_bytes c.args.salt.now) c.as_slice.result.now c.args.attributes.now
    c.requires.header c.as_slice.ensures.few c.requires.attributes c.as_slice.ensures.bytes c.take_text.ensures c.take.ensures.answer c.take.ensures.effect).1
