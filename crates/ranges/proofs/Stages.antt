-- The tests of a record's body, stage by stage.
use Rattle.std.proofs.Common.{◌≡◌, ℕ, ◌<◌, ◌≤◌, List, Ok, Err, ◌∙◌, arith}
use Rattle.std.specs.List.{range_with_len, flat_map}
use Rattle.protocol.specs.declared.fault.Fault.{Fault}
use Rattle.protocol.specs.Book.{key_range_tests, audited_range_tests, offset_range_tests, body_tests}
use Rattle.protocol.specs.Parameters.{Parameters}
use Rattle.protocol.specs.Tests.{Test, first_failing}
use Rattle.guarantee.proofs.Passing.{Passes, accepted, passed, all_of, first_past, first_stops, first_failing_joined}

passes_of : (ts : List Test) → first_failing ts (tt {0}) ≡ Ok (tt {0}) → Passes ts
passes_of ts p = (accepted ts (tt {0}) (tt {0}) p).0

-- a loop over groups of tests that stopped in group d, or ended
pub group_fails : (f : ℕ → List Test) (n d : ℕ) (e : Fault) → d < n → ((k : ℕ) → k < d → first_failing (f k) (tt {0}) ≡ Ok (tt {0})) → first_failing (f d) (tt {0}) ≡ Err e →
    first_failing (flat_map f (range_with_len 0 n)) (tt {0}) ≡ Err e
group_fails f n d e h before here = first_failing_joined f n d (tt {0}) (tt {0}) e h (λ k q. passes_of (f k) (before k q)) here

pub no_group_fails : (f : ℕ → List Test) (n d : ℕ) → n ≤ d → ((k : ℕ) → k < d → first_failing (f k) (tt {0}) ≡ Ok (tt {0})) → first_failing (flat_map f (range_with_len 0 n)) (tt {0}) ≡ Ok (tt {0})
no_group_fails f n d h before = passed _ (tt {0}) (all_of f n (λ k q. passes_of (f k) (before k (omega arith))))

module _ (r : List ℕ) (p : Parameters) where
  pub key_fails : (e : Fault) → first_failing (key_range_tests r p) (tt {0}) ≡ Err e → first_failing (body_tests r p) (tt {0}) ≡ Err e
  unfolding body_tests
  key_fails e k = first_stops (key_range_tests r p) _ (tt {0}) (tt {0}) e k

  pub values_fail : (e : Fault) → first_failing (key_range_tests r p) (tt {0}) ≡ Ok (tt {0}) → first_failing (audited_range_tests r p) (tt {0}) ≡ Err e → first_failing (body_tests r p) (tt {0}) ≡ Err e
  unfolding body_tests
  values_fail e k v = first_past (key_range_tests r p) _ (tt {0}) (passes_of _ k) ∙ first_stops (audited_range_tests r p) _ (tt {0}) (tt {0}) e v

  pub offsets_decide : first_failing (key_range_tests r p) (tt {0}) ≡ Ok (tt {0}) → first_failing (audited_range_tests r p) (tt {0}) ≡ Ok (tt {0}) →
      first_failing (body_tests r p) (tt {0}) ≡ first_failing (flat_map (offset_range_tests r p) (range_with_len 0 p.tau)) (tt {0})
  unfolding body_tests
  offsets_decide k v = first_past (key_range_tests r p) _ (tt {0}) (passes_of _ k) ∙ first_past (audited_range_tests r p) _ (tt {0}) (passes_of _ v)
