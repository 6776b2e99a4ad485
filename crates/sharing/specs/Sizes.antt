-- The working memory: the values and the flags last from repetition to repetition; the rest serves one repetition.
use Rattle.std.specs.Prelude.{ℕ, ◌+◌, ◌*◌}
use Rattle.protocol.specs.Parameters.{Parameters, parties}
use Rattle.shares.specs.Sizes.{bench_words}

-- a party's shares, the offsets, the sum of the others' shares; B; a product share and what it is computed in; the seed tree
abbrev pub scratch_words : Parameters → ℕ
scratch_words p = 3 * p.m + (p.n * p.c + (p.n * p.c + (bench_words p + 32 * parties p)))
