use Rattle.std.proofs.Common.{◌≡◌, ℕ, zero, suc, ◌+◌, ◌-◌, ◌*◌, ◌%◌, ◌/◌, ◌^◌, ◌<◌, List, ◌++◌, length, get_or, take, drop, refl, ap, ap₂, ◌∙◌, inl, inr, arith, length-append, length-take, length-drop}
use borrow.Rule.Slice.PartMut.{put_mid}
use Rattle.std.proofs.lemmas.Bool.{cases_lt}
use Rattle.std.proofs.lemmas.List.{length-take-le, get_or-take, get_or_append_left, get_or-append_right}
use Rattle.std.specs.Int.{to_be_bytes, w64}
use Rattle.protocol.specs.Streams.{first_bytes}
use Rattle.sha512.specs.Hash.{byte_of}
use Rattle.std.proofs.lemmas.List.FromFn.{fill_by_all}
use Rattle.sha512.proofs.hashing.word_bytes.Goals as goal

byte_of_word : (x j : ℕ) → j < 8 → get_or (to_be_bytes w64 x) j 0 ≡ x / 2 ^ (8 * (7 - j)) % 256
byte_of_word x zero below = refl
byte_of_word x (suc zero) below = refl
byte_of_word x (suc (suc zero)) below = refl
byte_of_word x (suc (suc (suc zero))) below = refl
byte_of_word x (suc (suc (suc (suc zero)))) below = refl
byte_of_word x (suc (suc (suc (suc (suc zero))))) below = refl
byte_of_word x (suc (suc (suc (suc (suc (suc zero)))))) below = refl
byte_of_word x (suc (suc (suc (suc (suc (suc (suc zero))))))) below = omega arith
byte_of_word x (suc (suc (suc (suc (suc (suc (suc (suc j)))))))) below = absurd (omega arith)

word_long : (bytes ys : List ℕ) (k m : ℕ) → length bytes ≡ 64 → k < 8 → m ≡ 8 → length ys ≡ 8 → length (put_mid (8 * k) m bytes ys) ≡ 64
word_long bytes ys k m long below eight eight' = simp (length-append, length-take, length-drop) (omega arith)

-- a word's bytes written behind those of the words before it
word_more : (words bytes ys : List ℕ) (k m : ℕ) → length bytes ≡ 64 → k < 8 → m ≡ 8
    → ys ≡ to_be_bytes w64 (get_or words k 0)
    → ((j : ℕ) → j < 8 * k → get_or bytes j 0 ≡ byte_of words j)
    → (j : ℕ) → j < 8 * (k + 1) → get_or (put_mid (8 * k) m bytes ys) j 0 ≡ byte_of words j
unfolding byte_of
word_more words bytes ys k m long below eight is old j h =
    let rest : List ℕ = drop m (drop (8 * k) bytes) in
    let eight' : length ys ≡ 8 = ap length is in
    let front : length (take (8 * k) bytes) ≡ 8 * k = length-take-le (8 * k) bytes (omega arith) in
    elim (cases_lt j (8 * k)) [
      | inl lt ↦ get_or_append_left (take (8 * k) bytes) (ys ++ rest) 0 j (omega arith) ∙ get_or-take (8 * k) bytes j 0 lt ∙ old j lt
      | inr ge ↦
          let word : k ≡ j / 8 = omega arith in
          let place : j - 8 * k ≡ j % 8 = omega arith in
          get_or-append_right (take (8 * k) bytes) (ys ++ rest) (8 * k) j 0 front ge
          ∙ get_or_append_left ys rest 0 (j - 8 * k) (omega arith)
          ∙ ap₂ (λ x i. get_or x i 0) is place ∙ ap (λ n. get_or (to_be_bytes w64 (get_or words n 0)) (j % 8) 0) word
          ∙ byte_of_word (get_or words (j / 8) 0) (j % 8) (omega arith)
    ]

pub loop-k-preserved : goal.loop-k-preserved
loop-k-preserved c = (
  word_long c.loop-k.bytes c.copy_from_slice.new.self c.loop-k.k _ c.loop-k.invariant.0 c.loop-k-test.true (omega arith)
      (ap length (c.copy_from_slice.ensures.after ∙ c.to_be_bytes.ensures)),
  word_more c.args.words.now c.loop-k.bytes c.copy_from_slice.new.self c.loop-k.k _ c.loop-k.invariant.0 c.loop-k-test.true (omega arith)
      (c.copy_from_slice.ensures.after ∙ c.to_be_bytes.ensures) c.loop-k.invariant.1,
)

pub returns : goal.returns
unfolding first_bytes
returns c = fill_by_all (byte_of c.args.words.now) c.loop-k.bytes 64 0 c.loop-k.invariant.0 (λ j h. c.loop-k.invariant.1 j (omega arith))
