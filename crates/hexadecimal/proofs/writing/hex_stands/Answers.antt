use Rattle.std.proofs.Common.{◌≡◌, ℕ, ◌+◌, ◌*◌, ◌/◌, ◌%◌, ◌<◌, [], ◌∷◌, Some, refl, ap, ◌∙◌, arith}
use Rattle.std.proofs.lemmas.Bool.Decides.{nat_tests}
use Rattle.hexadecimal.specs.Hex.{digit, value, byte_before, ReadsBack}
use Rattle.hexadecimal.proofs.writing.hex_stands.Goals as goal

value_digit : (v : ℕ) → v < 16 → value (digit v) ≡ Some v
value_digit v lt = grind (arith, nat_tests)

reads_back : ReadsBack
reads_back [] small = refl
reads_back (b ∷ bs) small =
    (λ i. byte_before (value_digit (b / 16) (omega (arith, small.0)) i) (value_digit (b % 16) (omega arith) i) (reads_back bs small.1 i))
    ∙ ap (λ n. Some (n ∷ bs)) (let e : 16 * (b / 16) + b % 16 ≡ b = omega arith in e)

pub returns : goal.returns
returns c = reads_back
