use Rattle.std.proofs.Common.{◌≡◌, length, set, ap, ◌∙◌, arith, rules, tests, below_more}
use Rattle.std.proofs.lemmas.List.{length_push, get_or-set_same, get_or-set_other}
use Rattle.std.proofs.lemmas.List.FromFn.{fill_by_all, length-enumerate_from}
use Rattle.std.proofs.lemmas.Iterator.Consumers.{YieldsList-turn, YieldsList-end}
use Rattle.protocol.specs.Flags.{kept_index}
use Rattle.lattice.specs.Lines.{at}
use Rattle.lattice.proofs.Gathered.{gathered, gathered_long, gathered_road, gathered_turn}
use Rattle.lattice.proofs.kept.gather_kept.Goals as goal

pub bounds-out-m : goal.bounds-out-m
bounds-out-m c =
    let t = gathered_turn c.args.values.now c.args.flags.now _ (c.in-Some.m, (c.in-Some.value.now, c.in-Some.field-0-1-1.now)) c.requires.flags
    (YieldsList-turn (gathered_road {s = c.into_iter-m-iterator.result} _ c.args.values.now c.args.flags.now (cc) (cc) (cc) (cc) (λ x b q k. search (rules, tests)))
    c.loop-m.yielded c.loop-m.m-iterator c.loop-m.yielded_by _ c.next.new.self _ c.in-Some.is c.next.ensures.steps) in
    omega (arith, t.0, c.requires.room)

pub loop-m-preserved : goal.loop-m-preserved
loop-m-preserved c =
    let t = gathered_turn c.args.values.now c.args.flags.now _ (c.in-Some.m, (c.in-Some.value.now, c.in-Some.field-0-1-1.now)) c.requires.flags
    (YieldsList-turn (gathered_road {s = c.into_iter-m-iterator.result} _ c.args.values.now c.args.flags.now (cc) (cc) (cc) (cc) (λ x b q k. search (rules, tests)))
    c.loop-m.yielded c.loop-m.m-iterator c.loop-m.yielded_by _ c.next.new.self _ c.in-Some.is c.next.ensures.steps) in
    let n = length c.loop-m.yielded in
    λ k h.
    ap (λ m. at (set c.loop-m.out m c.in-Some.value.now) k) t.1
    ∙ below_more (λ j. at (set c.loop-m.out n c.in-Some.value.now) j ≡ at c.args.values.now (kept_index c.args.flags.now j)) n
    (λ j q. get_or-set_other c.loop-m.out n j _ 0 (λ o. omega arith) ∙ c.loop-m.invariant j q)
    (get_or-set_same c.loop-m.out n _ 0 (omega (arith, t.0, c.requires.room)) ∙ t.2)
    k (omega (arith, length_push c.loop-m.yielded (c.in-Some.m, (c.in-Some.value, c.in-Some.field-0-1-1))))

pub returns : goal.returns
returns c =
    let flags = c.args.flags.now in
    let values = c.args.values.now in
    let t = YieldsList-end (gathered_road {s = c.into_iter-m-iterator.result} _ values flags (cc) (cc) (cc) (cc) (λ x b q k. search (rules, tests)))
    c.loop-m.yielded c.loop-m.m-iterator c.loop-m.yielded_by _ c.next.new.self c.in-None.is c.next.ensures.steps in
    fill_by_all (λ m. at values (kept_index flags m)) c.loop-m.out (length c.args.out.now) 0 (omega arith)
    (λ m h. c.loop-m.invariant m (omega (arith, c.requires.room, t.1, length-enumerate_from 0 (gathered values flags), gathered_long values flags c.requires.flags)))
