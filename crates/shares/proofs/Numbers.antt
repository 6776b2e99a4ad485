-- Numbers drawn from a maker, in one go or several.
use Rattle.std.proofs.Common.{◌≡◌, ℕ, ◌+◌, ◌-◌, ◌*◌, ◌<◌, ◌≤◌, List, [], ◌++◌, map, length, take, drop, ap, ◌∙◌, inl, inr, arith}
use borrow.Rule.Slice.PartMut.{put_mid}
use Rattle.std.specs.List.{range_with_len}
use Rattle.std.proofs.lemmas.List.FromFn.{fill_by_all, get_or-map-range_with_len, length-map-range_with_len}
use Rattle.std.proofs.lemmas.List.{get_or_append_left, get_or-append_right, length-append, length-take, length-drop}
use Rattle.std.proofs.lemmas.Slice.{take-put_mid}
use Rattle.std.proofs.lemmas.Bool.{cases_lt}
use Rattle.protocol.specs.Streams.{stream_word}
use Rattle.digest.specs.Making.{Making, Drew}
use Rattle.shares.specs.Drawing.{Advanced}

pub drew_advanced : (m m' : Making) (out : List ℕ) (n : ℕ) → length out ≡ n → Drew out m m' → Advanced n m m'
drew_advanced m m' out n long d = record {
  drawn = d.drawn ∙ ap (λ l. m.drawn + l) long;
  rest = λ i. d.rest i ∙ ap (λ l. m.rule [] (l + i)) long;
}

pub advanced_none : (m : Making) → Advanced 0 m m
advanced_none m = record { drawn = omega arith; rest = λ i. ap (m.rule []) (omega arith) }

pub advanced_both : (a b n : ℕ) (m m' m'' : Making) → a + b ≡ n → Advanced a m m' → Advanced b m' m'' → Advanced n m m''
advanced_both a b n m m' m'' e x y = record {
  drawn = omega (arith, x.drawn, y.drawn);
  rest = λ i. y.rest i ∙ x.rest (b + i) ∙ ap (m.rule []) (let k : a + (b + i) ≡ n + i = omega arith in k);
}

-- number k of the stream from 2·a bytes on is number a + k
pub word_further : (m m' : Making) (a k : ℕ) → Advanced (2 * a) m m' → stream_word (m'.rule []) k ≡ stream_word (m.rule []) (a + k)
word_further m m' a k adv =
    let low : m'.rule [] (2 * k) ≡ m.rule [] (2 * (a + k)) = adv.rest (2 * k) ∙ ap (m.rule []) (let d : 2 * a + 2 * k ≡ 2 * (a + k) = omega arith in d) in
    let high : m'.rule [] (2 * k + 1) ≡ m.rule [] (2 * (a + k) + 1) = adv.rest (2 * k + 1) ∙ ap (m.rule []) (let d : 2 * a + (2 * k + 1) ≡ 2 * (a + k) + 1 = omega arith in d) in
    λ i. low i + 256 * high i

-- the first a numbers of a row and the next n
pub counted_both : (f h : ℕ → ℕ) (a n : ℕ) → ((k : ℕ) → k < n → h k ≡ f (a + k)) → map f (range_with_len 0 a) ++ map h (range_with_len 0 n) ≡ map f (range_with_len 0 (a + n))
counted_both f h a n same =
    let xs : List ℕ = map f (range_with_len 0 a) in
    let ys : List ℕ = map h (range_with_len 0 n) in
    let lx : length xs ≡ a = length-map-range_with_len f 0 a in
    let ly : length ys ≡ n = length-map-range_with_len h 0 n in
    fill_by_all f (xs ++ ys) (a + n) 0 (omega (arith, length-append xs ys))
    (λ k q. elim (cases_lt k a) [
      | inl low ↦ get_or_append_left xs ys 0 k (omega arith) ∙ get_or-map-range_with_len f 0 a k k 0 low (omega arith)
      | inr high ↦
          get_or-append_right xs ys a k 0 lx high
          ∙ get_or-map-range_with_len h 0 n (k - a) (k - a) 0 (omega arith) (omega arith)
          ∙ same (k - a) (omega arith)
          ∙ ap f (let e : a + (k - a) ≡ k = omega arith in e)
    ])

pub part_long : (xs : List ℕ) (a n : ℕ) → a + n ≤ length xs → length (take (a + n - a) (drop a xs)) ≡ n
part_long xs a n le = simp (length-take, length-drop) (omega arith)

-- a row of which n numbers more are written
pub filled_more : (f h : ℕ → ℕ) (a n e : ℕ) (xs ys : List ℕ) → e ≡ a + n → e ≤ length xs → take a xs ≡ map f (range_with_len 0 a) → ys ≡ map h (range_with_len 0 n) →
    ((k : ℕ) → k < n → h k ≡ f (a + k)) → take e (put_mid a (e - a) xs ys) ≡ map f (range_with_len 0 e)
filled_more f h a n e xs ys is le front more same =
    take-put_mid a (e - a) xs ys e (omega (arith, ap length more, length-map-range_with_len h 0 n)) (omega arith)
    ∙ (λ i. front i ++ more i)
    ∙ counted_both f h a n same
    ∙ ap (λ m. map f (range_with_len 0 m)) (let z : a + n ≡ e = omega arith in z)
