-- The memory that a product share is computed in.
use Rattle.std.specs.Prelude.{ℕ, ◌+◌, ◌*◌}
use Rattle.protocol.specs.Parameters.{Parameters, sigma}

-- the kept shares, S of them by columns, one row of A
abbrev pub bench_words : Parameters → ℕ
bench_words p = sigma p + (p.n * p.c + p.n)
