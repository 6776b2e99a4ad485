-- The tree of seeds in words: node m of the tree is seed m of the words.
use Rattle.std.specs.Prelude.{◌≡◌, ℕ, ◌+◌, ◌*◌, ◌^◌, ◌<◌, ◌≤◌, List, ◌≢◌}
use Rattle.protocol.specs.Scheme.{seeds_of}
use Rattle.protocol.specs.Streams.{Digest}
use Rattle.protocol.specs.Tree.{child, seed_at, regrown}
use Rattle.seedtree.specs.Words.{seed_in}

-- the two children of a node are written, and no other node is
pub record Split (F : Digest) (salt : List ℕ) (e node : ℕ) (old new : List ℕ) : Type 0 where
  pub left : seed_in new (2 * node) ≡ child F salt e node 0 (seed_in old node)
  pub right : seed_in new (2 * node + 1) ≡ child F salt e node 1 (seed_in old node)
  pub elsewhere : (k : ℕ) → (k ≢ 2 * node) → (k ≢ 2 * node + 1) → seed_in new k ≡ seed_in old k

-- of the level of `width` nodes, all but one are split, and the nodes down to that level are as they were
pub record Leveled (F : Digest) (salt : List ℕ) (e width path : ℕ) (old new : List ℕ) : Type 0 where
  pub grown : (k side : ℕ) → width ≤ k → k < 2 * width → (k ≢ path) → side < 2 → seed_in new (2 * k + side) ≡ child F salt e k side (seed_in old k)
  pub above : (k : ℕ) → k < 2 * width → seed_in new k ≡ seed_in old k

-- every node of the tree of depth h over a root
abbrev pub Grown : Digest → List ℕ → ℕ → List ℕ → ℕ → List ℕ → Type 0
Grown F salt e root h words = (t i : ℕ) → t ≤ h → i < 2 ^ t → seed_in words (2 ^ t + i) ≡ seed_at (child F salt e) root t i

-- every leaf but the hidden one, as the siblings' seeds give it
abbrev pub Regrown : Digest → List ℕ → ℕ → ℕ → ℕ → List ℕ → List ℕ → Type 0
Regrown F salt e h hidden given words =
    (j : ℕ) → j < 2 ^ h → (j ≢ hidden) → seed_in words (2 ^ h + j) ≡ regrown (child F salt e) h hidden (seeds_of given h) h j
