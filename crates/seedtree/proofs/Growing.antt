-- Trees grown node by node, and level by level.
use Rattle.std.proofs.Common.{◌≡◌, ℕ, zero, suc, ◌+◌, ◌*◌, ◌/◌, ◌%◌, ◌^◌, ◌<◌, ◌≤◌, List, [], get_or, sym, ap, ◌∙◌, subst, inl, inr, add-one, arith}
use Rattle.std.proofs.lemmas.Nat.{pow_pos}
use Rattle.std.proofs.lemmas.Bool.{eq-eqb, ne_eqb, cond-true, cond-false, cases_eq}
use Rattle.protocol.specs.Streams.{Digest}
use Rattle.protocol.specs.Tree.{child, seed_at, above, beside, regrown}
use Rattle.soundness.proofs.Trees.{above_half}
use Rattle.seedtree.specs.Words.{seed_in, Stored}
use Rattle.seedtree.specs.Grown.{Split, Leveled}
use Rattle.seedtree.proofs.Paths.{above_small, other_half, beside_above}

module _ (F : Digest) (salt : List ℕ) (e : ℕ) where
  -- either child
  split_side : {node : ℕ} {old new : List ℕ} → Split F salt e node old new → (side : ℕ) → side < 2 →
      seed_in new (2 * node + side) ≡ child F salt e node side (seed_in old node)
  split_side {node} {old} {new} s side q =
      elim (cases_eq side 0) [
        | inl z ↦ ap (seed_in new) (let k : 2 * node + side ≡ 2 * node = omega arith in k) ∙ s.left ∙ ap (λ n. child F salt e node n (seed_in old node)) (sym z)
        | inr o ↦ let one : side ≡ 1 = omega arith in ap (λ n. seed_in new (2 * node + n)) one ∙ s.right ∙ ap (λ n. child F salt e node n (seed_in old node)) (sym one)
      ]

  -- the nodes below n are those of the tree over the root
  abbrev pub TreeTo : List ℕ → ℕ → List ℕ → Type 0
  TreeTo root n words = (t i : ℕ) → i < 2 ^ t → 2 ^ t + i < n → seed_in words (2 ^ t + i) ≡ seed_at (child F salt e) root t i

  pub tree_start : {root seed old new : List ℕ} → seed ≡ root → Stored 1 seed old new → TreeTo root (2 * 1) new
  tree_start {root} {seed} {old} {new} is s zero i q r = ap (seed_in new) (let k : 2 ^ 0 + i ≡ 1 = omega arith in k) ∙ s.here ∙ is
  tree_start is s (suc t) i q r = absurd (omega (arith, pow_pos t))

  pub tree_more : {root old new : List ℕ} (node : ℕ) → 0 < node → TreeTo root (2 * node) old → Split F salt e node old new → TreeTo root (2 * (node + 1)) new
  tree_more {root} {old} {new} node some was s t i q r =
      elim (cases_eq ((2 ^ t + i) / 2) node) [
        | inl is ↦ at t q r is
        | inr off ↦ s.elsewhere (2 ^ t + i) (λ z. off (omega arith)) (λ z. off (omega arith)) ∙ was t i q (omega arith)
      ]
    where
      at : (t : ℕ) → i < 2 ^ t → 2 ^ t + i < 2 * (node + 1) → (2 ^ t + i) / 2 ≡ node → seed_in new (2 ^ t + i) ≡ seed_at (child F salt e) root t i
      at zero q r is = absurd (omega arith)
      at (suc u) q r is =
          let over : 2 ^ u + i / 2 ≡ node = omega arith in
          let here : 2 ^ suc u + i ≡ 2 * node + i % 2 = omega arith in
          ap (seed_in new) here
          ∙ split_side s (i % 2) (omega arith)
          ∙ ap (λ n. child F salt e n (i % 2) (seed_in old n)) (sym over)
          ∙ ap (child F salt e (2 ^ u + i / 2) (i % 2)) (was u (i / 2) (omega arith) (omega arith))

  -- the nodes of a level below `node` are split, but for `path`
  abbrev pub Leveling : ℕ → ℕ → ℕ → List ℕ → List ℕ → Type 0
  Leveling width path node old new =
      ((k side : ℕ) → width ≤ k → k < node → (k ≡ path → ⊥) → side < 2 → seed_in new (2 * k + side) ≡ child F salt e k side (seed_in old k))
      × ((k : ℕ) → k < 2 * width → seed_in new k ≡ seed_in old k)

  pub leveling_more : (width path node : ℕ) (old mid new : List ℕ) → width ≤ node → node < 2 * width →
      Leveling width path node old mid → Split F salt e node mid new → Leveling width path (node + 1) old new
  leveling_more width path node old mid new le lt (below, above) s = (
    λ k side q r not small.
        elim (cases_eq k node) [
          | inl is ↦
              ap (λ n. seed_in new (2 * n + side)) is ∙ split_side s side small
              ∙ ap (child F salt e node side) (above node lt)
              ∙ ap (λ n. child F salt e n side (seed_in old n)) (sym is)
          | inr off ↦ s.elsewhere (2 * k + side) (λ z. off (omega arith)) (λ z. off (omega arith)) ∙ below k side q (omega arith) not small
        ],
    λ k q. s.elsewhere k (λ z. omega arith) (λ z. omega arith) ∙ above k q,
  )

  pub leveling_past : (width path node : ℕ) (old new : List ℕ) → node ≡ path → Leveling width path node old new → Leveling width path (node + 1) old new
  leveling_past width path node old new is (below, above) = (λ k side q r not small. below k side q (less k not r) not small, above)
    where
      less : (k : ℕ) → (k ≡ path → ⊥) → k < node + 1 → k < node
      less k not r = elim (cases_eq k node) [ inl z ↦ absurd (not (z ∙ is)) | inr z ↦ omega arith ]

  -- the places of depth t off the path are what the siblings give
  abbrev pub Regrowing : ℕ → ℕ → List (List ℕ) → ℕ → List ℕ → Type 0
  Regrowing h hidden given t words = (i : ℕ) → i < 2 ^ t → (i ≡ above h hidden t → ⊥) → seed_in words (2 ^ t + i) ≡ regrown (child F salt e) h hidden given t i

  pub regrowing_start : (h hidden : ℕ) (given : List (List ℕ)) (words : List ℕ) → hidden < 2 ^ h → Regrowing h hidden given 0 words
  regrowing_start h hidden given words small i q not = let top = above_small h hidden 0 (omega arith) small in absurd (not (omega arith))

  -- by a level more
  deeper : (h hidden : ℕ) (given : List (List ℕ)) (t : ℕ) (old mid new : List ℕ) → t < h →
      Regrowing h hidden given t old →
      Leveled F salt e (2 ^ t) (2 ^ t + above h hidden t) old mid →
      Stored (2 ^ suc t + beside (above h hidden (suc t))) (get_or given t []) mid new →
      Regrowing h hidden given (suc t) new
  deeper h hidden given t old mid new lt was g s i q not =
      elim (cases_eq (i / 2) (above h hidden t)) [
        | inl is ↦
            let at : beside (above h hidden (suc t)) ≡ i = other_half (above h hidden (suc t)) i (is ∙ sym (above_half h hidden t lt)) not in
            ap (λ n. seed_in new (2 ^ suc t + n)) (sym at)
            ∙ s.here
            ∙ sym (cond-true _ _ _ (eq-eqb (i / 2) (above h hidden t) is))
        | inr off ↦
            let half = beside_above h hidden t lt in
            s.elsewhere (2 ^ suc t + i) (λ z. off (omega arith))
            ∙ ap (seed_in mid) (let k : 2 ^ suc t + i ≡ 2 * (2 ^ t + i / 2) + i % 2 = omega arith in k)
            ∙ g.grown (2 ^ t + i / 2) (i % 2) (omega arith) (omega arith) (λ z. off (omega arith)) (omega arith)
            ∙ ap (child F salt e (2 ^ t + i / 2) (i % 2)) (was (i / 2) (omega arith) off)
            ∙ sym (cond-false _ _ _ (ne_eqb (i / 2) (above h hidden t) off))
      ]

  -- the same, as the loop counts: the nodes of a level off the path are split, and a seed goes beside the path
  pub regrowing_more : (h hidden : ℕ) (given : List (List ℕ)) (t width place : ℕ) (seed old mid new : List ℕ) → t < h →
      width ≡ 2 ^ t → place ≡ beside (above h hidden (t + 1)) → seed ≡ get_or given t [] →
      Regrowing h hidden given t old →
      Leveled F salt e width (width + above h hidden t) old mid →
      Stored (2 * width + place) seed mid new →
      Regrowing h hidden given (t + 1) new
  regrowing_more h hidden given t width place seed old mid new lt wide at is was g s =
      let next : 2 * width ≡ 2 ^ suc t = omega arith in
      let there : place ≡ beside (above h hidden (suc t)) = at ∙ ap (λ n. beside (above h hidden n)) (add-one t) in
      subst (λ n. Regrowing h hidden given n new) (sym (add-one t))
      (deeper h hidden given t old mid new lt was
      (subst (λ w. Leveled F salt e w (w + above h hidden t) old mid) wide g)
      (subst (λ k. Stored k (get_or given t []) mid new) (λ z. next z + there z) (subst (λ x. Stored (2 * width + place) x mid new) is s)))
