-- Digits, read two at a time from the front.
use Rattle.std.proofs.Common.{◌≡◌, ℕ, ◌+◌, ◌*◌, ◌<◌, ◌≤◌, List, [], ◌∷◌, ◌++◌, length, get_or, drop, is_some, Some, None, Option, sym, refl, ap, ◌∙◌, arith}
use Rattle.std.specs.Option.{option_map}
use Rattle.std.specs.List.{prefix_len}
use Rattle.std.proofs.lemmas.List.{append_assoc, drop_more, drop_all}
use Rattle.std.proofs.lemmas.List.Sums.{prefix_len-drop_yes, prefix_len-drop_no}
use Rattle.std.proofs.lemmas.Bool.{lt-ltb, le-ltb, cond-true, cond-false}
use Rattle.hexadecimal.specs.declared.reading.DecodeError.TheVariants.{OddLength, NotADigit}
use Rattle.hexadecimal.specs.Hex.{value, is_digit, byte_before, bytes_of, error_of, Refused}

-- of a text that begins with i digits, bs are the bytes of these
pub record Read (text bs : List ℕ) (i : ℕ) : Type 0 where
  pub bytes : bytes_of text ≡ option_map (λ rest. bs ++ rest) (bytes_of (drop i text))
  pub front : prefix_len is_digit text ≡ i + prefix_len is_digit (drop i text)

mapped_nothing : (o : Option (List ℕ)) → option_map (λ rest. [] ++ rest) o ≡ o
mapped_nothing None = refl
mapped_nothing (Some bs) = refl

pub read_none : (text : List ℕ) → Read text [] 0
read_none text = record { bytes = sym (mapped_nothing (bytes_of text)); front = omega arith }

before_more : (bs : List ℕ) (b : ℕ) (o : Option (List ℕ)) → option_map (λ rest. bs ++ rest) (option_map (λ rest. b ∷ rest) o) ≡ option_map (λ rest. (bs ++ b ∷ []) ++ rest) o
before_more bs b None = refl
before_more bs b (Some rest) = ap (λ (l : List ℕ). Some l) (sym (append_assoc bs (b ∷ []) rest))

byte_known : (h l : ℕ) (o : Option (List ℕ)) → byte_before (Some h) (Some l) o ≡ option_map (λ rest. (16 * h + l) ∷ rest) o
byte_known h l None = refl
byte_known h l (Some rest) = refl

no_byte : (h : Option ℕ) (o : Option (List ℕ)) → byte_before h None o ≡ None
no_byte None o = refl
no_byte (Some h) o = refl

two_ahead : (text : List ℕ) (i : ℕ) → i + 1 < length text → drop i text ≡ get_or text i 0 ∷ get_or text (i + 1) 0 ∷ drop (i + 1 + 1) text
two_ahead text i lt = drop_more text i 0 (omega arith) ∙ ap (λ (l : List ℕ). get_or text i 0 ∷ l) (drop_more text (i + 1) 0 lt)

pub read_more : (text bs : List ℕ) (i h l : ℕ) → i + 1 < length text → value (get_or text i 0) ≡ Some h → value (get_or text (i + 1) 0) ≡ Some l → Read text bs i → Read text (bs ++ (16 * h + l) ∷ []) (i + 1 + 1)
read_more text bs i h l lt high low r = record {
  bytes =
      r.bytes
      ∙ ap (option_map (λ rest. bs ++ rest)) (ap bytes_of (two_ahead text i lt) ∙ (λ k. byte_before (high k) (low k) (bytes_of (drop (i + 1 + 1) text))) ∙ byte_known h l (bytes_of (drop (i + 1 + 1) text)))
      ∙ before_more bs (16 * h + l) (bytes_of (drop (i + 1 + 1) text));
  front = omega (arith, prefix_len-drop_yes is_digit text i 0 (omega arith) (ap is_some high), prefix_len-drop_yes is_digit text (i + 1) 0 lt (ap is_some low));
}

none_at : (c : ℕ) (cs : List ℕ) → value c ≡ None → bytes_of (c ∷ cs) ≡ None
none_at c [] e = refl
none_at c (d ∷ cs) e = ap (λ o. byte_before o (value d) (bytes_of cs)) e

none_ahead : (text bs : List ℕ) (i : ℕ) → bytes_of (drop i text) ≡ None → Read text bs i → bytes_of text ≡ None
none_ahead text bs i e r = r.bytes ∙ ap (option_map (λ rest. bs ++ rest)) e

place_of : (text : List ℕ) (i : ℕ) → i < length text → prefix_len is_digit text ≡ i → NotADigit i ≡ error_of text
place_of text i lt e = ap NotADigit (sym e) ∙ sym (cond-true _ _ _ (lt-ltb (prefix_len is_digit text) (length text) (omega arith)))

-- the next character is no digit
pub stopped : (text bs : List ℕ) (i : ℕ) → i < length text → value (get_or text i 0) ≡ None → Read text bs i → Refused text (NotADigit i)
stopped text bs i lt no_digit r = (
  none_ahead text bs i (ap bytes_of (drop_more text i 0 lt) ∙ none_at (get_or text i 0) (drop (i + 1) text) no_digit) r,
  place_of text i lt (omega (arith, prefix_len-drop_no is_digit text i 0 lt (ap is_some no_digit))),
)

-- the next is a digit, and the one after it is none
pub stopped_next : (text bs : List ℕ) (i h : ℕ) → i + 1 < length text → value (get_or text i 0) ≡ Some h → value (get_or text (i + 1) 0) ≡ None → Read text bs i → Refused text (NotADigit (i + 1))
stopped_next text bs i h lt high no_digit r = (
  none_ahead text bs i
      (ap bytes_of (two_ahead text i lt) ∙ ap (λ o. byte_before (value (get_or text i 0)) o (bytes_of (drop (i + 1 + 1) text))) no_digit ∙ no_byte (value (get_or text i 0)) (bytes_of (drop (i + 1 + 1) text))) r,
  place_of text (i + 1) lt
      (omega (arith, prefix_len-drop_yes is_digit text i 0 (omega arith) (ap is_some high), prefix_len-drop_no is_digit text (i + 1) 0 lt (ap is_some no_digit))),
)

-- one digit is left
pub odd_end : (text bs : List ℕ) (i v : ℕ) → i + 1 ≡ length text → value (get_or text i 0) ≡ Some v → Read text bs i → Refused text OddLength
odd_end text bs i v e last r = (
  none_ahead text bs i (ap bytes_of (drop_more text i 0 (omega arith) ∙ ap (λ (l : List ℕ). get_or text i 0 ∷ l) (drop_all (i + 1) text (omega arith)))) r,
  let all : length text ≤ prefix_len is_digit text = omega (arith, prefix_len-drop_yes is_digit text i 0 (omega arith) (ap is_some last)) in
      sym (cond-false _ _ _ (le-ltb _ _ all)),
)
