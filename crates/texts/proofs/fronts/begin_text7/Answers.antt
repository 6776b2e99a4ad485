use Rattle.std.proofs.Common.{◌≡◌, ℕ, ◌≤◌, true, List, [], ◌∷◌, ◌++◌, length, is_ok, Result, ◌∙◌, subst, arith, MatchResult}
use Rattle.std.proofs.lemmas.List.{append_assoc, append-nil, length-append}
use Rattle.protocol.specs.declared.fault.Fault.{Fault}
use Rattle.protocol.specs.Streams.{Digest}
use Rattle.digest.specs.Feeding.{Ready}
use Rattle.digest.specs.Making.{Making, takes, Took, Holding}
use Rattle.digest.specs.Short.{short_bytes}
use Rattle.digest.proofs.Runs.{holding_more, taken_ok}
use Rattle.texts.proofs.fronts.begin_text7.Goals as goal

-- salt and d1 leave room for the flags
room : {F : Digest} {m : Making} (salt d1 flags : List ℕ) → length salt ≤ 64 → length d1 ≤ 64 → length flags ≤ 32768 → Holding F (7 ∷ (salt ++ (d1 ++ []))) m → Ready (length flags) m
room salt d1 flags s d f held = (held.drawn, omega (arith, held.taken, length-append salt (d1 ++ []), length-append d1 []))

-- the take of seed_a is not refused
seed_taken : (r : Result (Unit {0}) Fault) {F : Digest} {m : Making} (m' m'' : Making) (salt slice d1 slice1 flags seed_a : List ℕ) →
    length slice ≤ 64 → length slice1 ≤ 64 → length flags ≤ 32768 → length seed_a ≡ 16 → slice ≡ salt → slice1 ≡ d1 → Holding F (7 ∷ (slice ++ (slice1 ++ []))) m → Took flags m m' →
    r ≡ takes m' (length seed_a) → MatchResult r (λ _. Took seed_a m' m'') (λ _. m'' ≡ m') →
    (is_ok r ≡ true) × Holding F (7 ∷ (salt ++ (d1 ++ (flags ++ seed_a)))) m''
seed_taken r {F} m' m'' salt slice d1 slice1 flags seed_a s d f n is is1 held took a k =
    let ok = taken_ok r m'' seed_a (holding_more held took) (omega (arith, length-append (slice ++ (slice1 ++ [])) flags, length-append slice (slice1 ++ []), length-append slice1 [])) a k in (
      ok.0,
      subst (λ t. Holding F (7 ∷ t) m'')
          ((λ i. ((is i ++ (append-nil slice1 ∙ is1) i) ++ flags) ++ seed_a)
          ∙ append_assoc (salt ++ d1) flags seed_a ∙ append_assoc salt d1 (flags ++ seed_a)) ok.1,
    )

pub take_flags-requires : goal.take_flags-requires
take_flags-requires g c = record {
  plain = c.requires.plain;
  ready = room c.as_slice.result.now c.as_slice-2.result.now c.args.flags.now c.as_slice.ensures.few c.as_slice-2.ensures.few c.requires.few c.take_text.ensures;
}

pub unwrap-requires : goal.unwrap-requires
unwrap-requires g c =
    (seed_taken c.take.result (g.D.DigestMaker.means c.take_flags.new.maker) (g.D.DigestMaker.means c.take.new.self)
    (short_bytes c.args.salt.now) c.as_slice.result.now (short_bytes c.args.d1.now) c.as_slice-2.result.now c.args.flags.now c.args.seed_a.now
    c.as_slice.ensures.few c.as_slice-2.ensures.few c.requires.few (omega arith) c.as_slice.ensures.bytes c.as_slice-2.ensures.bytes c.take_text.ensures c.take_flags.ensures
    c.take.ensures.answer c.take.ensures.effect).0

pub returns-clause-holds : goal.returns-clause-holds
returns-clause-holds g c =
    (seed_taken c.take.result (g.D.DigestMaker.means c.take_flags.new.maker) (g.D.DigestMaker.means c.take.new.self)
    (short_bytes c.args.salt.now) c.as_slice.result.now (short_bytes c.args.d1.now) c.as_slice-2.result.now c.args.flags.now c.args.seed_a.now
    c.as_slice.ensures.few c.as_slice-2.ensures.few c.requires.few (omega arith) c.as_slice.ensures.bytes c.as_slice-2.ensures.bytes c.take_text.ensures c.take_flags.ensures
    c.take.ensures.answer c.take.ensures.effect).1
