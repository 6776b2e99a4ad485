-- Bytes written over an output, one part behind the other.
use Rattle.std.proofs.Common.{◌≡◌, ℕ, ◌+◌, ◌*◌, ◌<◌, ◌≤◌, List, [], ◌++◌, length, get_or, take, drop, sym, ap, ◌∙◌, zero-add, arith}
use borrow.Rule.Slice.PartMut.{put_mid}
use Rattle.std.specs.List.{flat_map}
use Rattle.std.proofs.lemmas.List.{append_assoc, flat_map_more, take_more, take-append-drop, drop-drop, take_at, drop_at, length-take, length-take-le, length-drop, length-append}
use Rattle.protocol.specs.Book.{wrote}
use Rattle.protocol.specs.Bytes.{le16}
use Rattle.shares.proofs.Rows.{length-coded}

-- what a write to a part of the output leaves
pub put_wrote : (at n : ℕ) (old part bytes : List ℕ) → part ≡ bytes → n ≡ length bytes → put_mid at n old part ≡ wrote at bytes old
put_wrote at n old part bytes is long = λ i. take at old ++ (is i ++ (drop-drop n at old ∙ ap (λ k. drop (at + k) old) long) i)

pub length-wrote : (at : ℕ) (bytes old : List ℕ) → at + length bytes ≤ length old → length (wrote at bytes old) ≡ length old
length-wrote at bytes old room =
    simp (length-append, length-drop, length-take) (omega arith)

-- two writes in a row are one
pub wrote_both : (at next : ℕ) (xs ys old : List ℕ) → next ≡ at + length xs → at ≤ length old → wrote next ys (wrote at xs old) ≡ wrote at (xs ++ ys) old
wrote_both at next xs ys old is room =
    let rest = drop (at + length xs) old in
    let front : length (take at old ++ xs) ≡ next = simp (length-append, length-take) (omega arith) in
    let apart : wrote at xs old ≡ (take at old ++ xs) ++ rest = sym (append_assoc (take at old) xs rest) in
    let before : take next (wrote at xs old) ≡ take at old ++ xs = ap (take next) apart ∙ take_at (take at old ++ xs) rest next front in
    let far : at + length xs + length ys ≡ at + length (xs ++ ys) = simp length-append (omega arith) in
    let behind : drop (next + length ys) (wrote at xs old) ≡ drop (at + length (xs ++ ys)) old =
    sym (drop-drop (length ys) next (wrote at xs old)) ∙ ap (λ z. drop (length ys) (drop next z)) apart ∙ ap (drop (length ys)) (drop_at (take at old ++ xs) rest next front)
    ∙ drop-drop (length ys) (at + length xs) old ∙ ap (λ k. drop k old) far in
    (λ i. before i ++ (ys ++ behind i)) ∙ append_assoc (take at old) xs _ ∙ ap (λ z. take at old ++ z) (sym (append_assoc xs ys _))

pub wrote_none : (at : ℕ) (old : List ℕ) → wrote at [] old ≡ old
wrote_none at old = ap (λ k. take at old ++ drop k old) (let z : at + 0 ≡ at = omega arith in z) ∙ take-append-drop at old

-- a write to the front
pub wrote_front : (n : ℕ) (bytes old : List ℕ) → length bytes ≡ n → wrote 0 bytes old ≡ bytes ++ drop n old
wrote_front n bytes old long = ap (λ k. bytes ++ drop k old) (zero-add (length bytes) ∙ long)

-- one number more of a row
pub wrote_word : (at i : ℕ) (ws z old was : List ℕ) → i < length ws → z ≡ le16 (get_or ws i 0) → at ≤ length old → was ≡ wrote at (flat_map le16 (take i ws)) old →
    wrote (at + 2 * i) z was ≡ wrote at (flat_map le16 (take (i + 1) ws)) old
wrote_word at i ws z old was less is room w =
    let front = flat_map le16 (take i ws) in
    ap (wrote (at + 2 * i) z) w
    ∙ wrote_both at (at + 2 * i) front z old (let l = length-coded (take i ws) in let t = length-take-le i ws (omega arith) in omega arith) room
    ∙ ap (λ b. wrote at b old) (ap (λ b. front ++ b) is ∙ flat_map_more le16 [] (take i ws) (get_or ws i 0) ∙ ap (flat_map le16) (sym (take_more ws i 0 less)))
