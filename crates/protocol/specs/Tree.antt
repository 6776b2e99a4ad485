-- The tree of seeds. The root is node 1, the children of node p are 2·p and 2·p + 1, and leaf j of depth h is node 2^h + j.
use Rattle.std.specs.Prelude.{◌≡◌, ℕ, zero, suc, ◌+◌, ◌-◌, ◌*◌, ◌/◌, ◌%◌, ◌^◌, ◌<◌, cond, List, [], map, ◌==◌, ◌≢◌, slice_index_or}
use Rattle.std.specs.List.{range_with_len}
use Rattle.protocol.specs.Bytes.{part}
use Rattle.protocol.specs.Streams.{Digest, drawn}
use Rattle.protocol.specs.Texts.{text3}

-- of a node, a side and the node's seed, the seed of its child on that side
abbrev pub Children : Type 0
Children = ℕ → ℕ → List ℕ → List ℕ

-- halves of what is drawn on text 3: side 0 is the left child
abbrev pub child : Digest → List ℕ → ℕ → Children
child F salt e node side seed = part (drawn F (text3 salt e node seed) 64) (32 * side) 32

-- the seed at place i of depth t, which is node 2^t + i
abbrev pub seed_at : Children → List ℕ → ℕ → ℕ → List ℕ
seed_at child root zero i = root
seed_at child root (suc t) i = child (2 ^ t + i / 2) (i % 2) (seed_at child root t (i / 2))

-- the place at depth t on the path to leaf p of depth h
abbrev pub above : ℕ → ℕ → ℕ → ℕ
above h p t = p / 2 ^ (h - t)

-- the other child of the same node
abbrev pub beside : ℕ → ℕ
beside i = cond (i % 2 == 0) (i + 1) (i - 1)

-- the nodes beside the path to leaf p, from the top down
abbrev pub sibling_nodes : ℕ → ℕ → List ℕ
sibling_nodes h p = map (λ t. 2 ^ (t + 1) + beside (above h p (t + 1))) (range_with_len 0 h)

-- and their seeds
abbrev pub siblings : Children → List ℕ → ℕ → ℕ → List (List ℕ)
siblings child root h p = map (λ t. seed_at child root (t + 1) (beside (above h p (t + 1)))) (range_with_len 0 h)

-- what the siblings' seeds give at place i of depth t, off the path
abbrev pub regrown : Children → ℕ → ℕ → List (List ℕ) → ℕ → ℕ → List ℕ
regrown child h p given zero i = []
regrown child h p given (suc t) i =
    cond (i / 2 == above h p t) (slice_index_or given t []) (child (2 ^ t + i / 2) (i % 2) (regrown child h p given t (i / 2)))

-- the siblings of a path give back every leaf but its own
abbrev pub Regrows : Type 0
Regrows =
    (child : Children) (root : List ℕ) (h p : ℕ) → p < 2 ^ h → (j : ℕ) → j < 2 ^ h → (j ≢ p) →
    regrown child h p (siblings child root h p) h j ≡ seed_at child root h j
