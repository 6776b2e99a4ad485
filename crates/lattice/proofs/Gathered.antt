-- The values whose flag is 1, listed by their flags and by `kept_index`.
use Rattle.std.proofs.Common.{Iter, ◌≡◌, ℕ, zero, suc, ◌+◌, ◌<◌, Bool, true, false, cond, eqb, List, [], ◌∷◌, length, get_or, filter, refl, ap, ◌∙◌, arith}
use Rattle.std.specs.List.{zip, enumerate_from}
use Rattle.std.proofs.lemmas.List.FromFn.{length-enumerate_from, get_or-enumerate_from}
use denote.Param.Members.{Mut}
use denote.Ref.{Bor}
use Rattle.std.specs.Fn.{CalledAt}
use Rattle.std.specs.Iterator.Adapters.{zip_first, zip_second, filter_source, filter_callee, filter_steps, enumerate_source, enumerate_count, enumerate_steps}
use Rattle.std.specs.Slice.Iter.{iter_rest}
use Rattle.std.specs.declared.iter.Zip.{Zip}
use Rattle.std.specs.declared.iter.Filter.{Filter}
use Rattle.std.specs.declared.iter.Enumerate.{Enumerate}
use Rattle.std.proofs.iter.Yields.{fronts}
use Rattle.std.proofs.lemmas.Iterator.{YieldsList, YieldsList-from_slice, YieldsList-from_zip, zips}
use Rattle.std.proofs.lemmas.Iterator.Consumers.{YieldsList-from_filter, YieldsList-from_enumerate}
use Rattle.protocol.specs.Flags.{ones, kept_index}
use Rattle.lattice.specs.Lines.{at}

-- the values with their flags, where the flag is 1
abbrev pub gathered : List ℕ → List ℕ → List (ℕ × ℕ)
gathered values flags = filter (λ p. eqb p.1 1) (zip values flags)

pub gathered_long : (values flags : List ℕ) → length flags ≡ length values → length (gathered values flags) ≡ ones flags
gathered_long [] [] e = refl
gathered_long [] (f ∷ fs) e = absurd (omega arith)
gathered_long (v ∷ vs) [] e = absurd (omega arith)
gathered_long (v ∷ vs) (f ∷ fs) e = more (eqb f 1) _ _ (gathered_long vs fs (omega arith))
  where
    more : (b : Bool) (n : ℕ) (ps : List (ℕ × ℕ)) → length ps ≡ n → length (cond b ((v, f) ∷ ps) ps) ≡ cond b (suc n) n
    more true n ps h = ap suc h
    more false n ps h = h

gathered_at : (values flags : List ℕ) (m : ℕ) (d : ℕ × ℕ) → length flags ≡ length values → m < ones flags → (get_or (gathered values flags) m d).0 ≡ at values (kept_index flags m)
gathered_at [] [] m d e h = absurd (omega arith)
gathered_at [] (f ∷ fs) m d e h = absurd (omega arith)
gathered_at (v ∷ vs) [] m d e h = absurd (omega arith)
gathered_at (v ∷ vs) (f ∷ fs) m d e h = here (eqb f 1) m h (λ k. gathered_at vs fs k d (omega arith))
  where
    index : Bool → ℕ → ℕ
    index b zero = cond b 0 (suc (kept_index fs zero))
    index b (suc i) = cond b (suc (kept_index fs i)) (suc (kept_index fs (suc i)))

    here : (b : Bool) (m : ℕ) → m < cond b (suc (ones fs)) (ones fs) → ((k : ℕ) → k < ones fs → (get_or (gathered vs fs) k d).0 ≡ at vs (kept_index fs k)) →
        (get_or (cond b ((v, f) ∷ gathered vs fs) (gathered vs fs)) m d).0 ≡ at (v ∷ vs) (index b m)
    here true zero h rest = refl
    here true (suc i) h rest = rest i (omega arith)
    here false zero h rest = rest zero h
    here false (suc i) h rest = rest (suc i) h

-- one turn of a loop over them by their places
pub gathered_turn : (values flags : List ℕ) (n : ℕ) (x : ℕ × (ℕ × ℕ)) → length flags ≡ length values →
    (n < length (enumerate_from 0 (gathered values flags))) × (x ≡ get_or (enumerate_from 0 (gathered values flags)) n x) →
    (n < ones flags) × (x.0 ≡ n) × (x.1.0 ≡ at values (kept_index flags n))
gathered_turn values flags n x e (h, is) =
    let long : length (enumerate_from 0 (gathered values flags)) ≡ ones flags = length-enumerate_from 0 (gathered values flags) ∙ gathered_long values flags e in
    let below : n < ones flags = omega arith in
    let same = is ∙ get_or-enumerate_from 0 (gathered values flags) n x (omega (arith, gathered_long values flags e)) in
    (below, ap (λ p. p.0) same ∙ (let z : 0 + n ≡ n = omega arith in z), ap (λ p. p.1.0) same ∙ gathered_at values flags n x.1 e below)

-- a chain that goes over them by their places, where f tests the flag
pub gathered_road : {F : Type 0} {s : Enumerate (Filter (Zip (Iter ℕ) (Iter ℕ)) F)} (g : Mut F (Bor (Bor ℕ × Bor ℕ) × Unit {0}) Bool) {f : F} (values flags : List ℕ) →
    iter_rest (zip_first (filter_source (enumerate_source s))) ≡ values → iter_rest (zip_second (filter_source (enumerate_source s))) ≡ flags → enumerate_count s ≡ 0 →
    filter_callee (enumerate_source s) ≡ f → ((x : Bor ℕ × Bor ℕ) (b : Bool) (q : F) → CalledAt g f x b q → (q ≡ f) × (b ≡ eqb x.1.now 1)) →
    YieldsList (enumerate_steps (filter_steps (zips fronts fronts) g)) (λ p. (p.0, (p.1.0.now, p.1.1.now))) s (enumerate_from 0 (gathered values flags))
gathered_road g values flags first second start callee tests =
    YieldsList-from_enumerate (YieldsList-from_filter g (λ p. eqb p.1 1) (YieldsList-from_zip (YieldsList-from_slice values first) (YieldsList-from_slice flags second)) callee tests) start
