-- A challenger by script: both its streams have one byte at 0, another at 8, and zeros elsewhere.
use Rattle.std.specs.Prelude.{ℕ, ◌+◌, cond, ◌==◌, option_map}
use Rattle.std.specs.Option.{option_map_or}
use Rattle.challenge.specs.Answering.{Answering}
use Rattle.challenge_tests.specs.declared.script.Scripted.{Scripted}

abbrev pub script : ℕ → ℕ → ℕ → ℕ
script one two i = cond (i == 0) one (cond (i == 8) two 0)

abbrev pub answers_of : Scripted → Answering
answers_of s = record {
  first = λ salt d1. script s.one s.two;
  second = λ salt d1 d2. script s.one s.two;
  rest = option_map (λ n i. script s.one s.two (n + i)) s.filled;
  filled = option_map_or (λ n. n) s.filled 0;
}
