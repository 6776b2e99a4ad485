-- The bytes of an entry, part by part.
use Rattle.std.proofs.Common.{◌≡◌, ℕ, ◌+◌, ◌-◌, ◌≤◌, List, ◌++◌, length, take, drop, sym, ap, ◌∙◌, append_assoc, append-nil, arith, length-append, length-drop}
use Rattle.std.proofs.lemmas.List.{drop-drop, take_all, drop_all}
use borrow.Rule.Slice.PartMut.{put_mid}
use Rattle.protocol.specs.Book.{entry_bytes, wrote}
use Rattle.protocol.specs.Bytes.{le32, part}
use Rattle.protocol.specs.Entry.{Entry}
use Rattle.protocol.specs.Flags.{packed}
use Rattle.protocol.specs.Header.{parameters_of}
use Rattle.protocol.specs.Parameters.{flag_length}
use Rattle.guarantee.proofs.Books.{length-packed}

-- the record's length, the record, the hidden parties, the flags, and what was behind so many bytes
pub joined : (a : Entry) (old one two three four rest : List ℕ) (n : ℕ) → n ≡ flag_length (parameters_of a.bytes) →
    one ≡ le32 (length a.bytes) → two ≡ a.bytes → three ≡ a.hidden →
    four ≡ packed a.flags n → rest ≡ drop n (drop (length a.hidden) (drop (length a.bytes) (drop 4 old))) →
    one ++ (two ++ (three ++ (four ++ rest))) ≡ entry_bytes a ++ drop (length (entry_bytes a)) old
joined a old one two three four rest n size is_one is_two is_three is_four left =
    let flagged = packed a.flags (flag_length (parameters_of a.bytes)) in
    let x = length-append a.bytes (a.hidden ++ flagged) in
    let y = length-append a.hidden flagged in
    let z = length-packed a.flags (flag_length (parameters_of a.bytes)) in
    let tail = drop (length (entry_bytes a)) old in
    let behind : rest ≡ tail =
    left ∙ ap (λ l. drop n (drop (length a.hidden) l)) (drop-drop (length a.bytes) 4 old)
    ∙ ap (drop n) (drop-drop (length a.hidden) (4 + length a.bytes) old)
    ∙ drop-drop n (4 + length a.bytes + length a.hidden) old
    ∙ ap (λ k. drop k old) (let e : 4 + length a.bytes + length a.hidden + n ≡ length (entry_bytes a) = omega arith in e) in
    (λ i. is_one i ++ (is_two i ++ (is_three i ++ ((is_four ∙ ap (packed a.flags) size) i ++ behind i))))
    ∙ ap (λ l. le32 (length a.bytes) ++ l) (sym (append_assoc a.bytes (a.hidden ++ flagged) tail ∙
    ap (λ l. a.bytes ++ l) (append_assoc a.hidden flagged tail)))

-- what a write over the front of all that follows a place leaves
pub over : (at : ℕ) (bytes old new : List ℕ) → at ≤ length old → new ≡ bytes ++ drop (length bytes) (part old at (length old - at)) →
    put_mid at (length old - at) old new ≡ wrote at bytes old
over at bytes old new h is =
    let long : length (drop at old) ≤ length old - at = let l = length-drop at old in omega arith in
    let behind : drop (length bytes) (part old at (length old - at)) ≡ drop (at + length bytes) old =
    ap (drop (length bytes)) (take_all (length old - at) (drop at old) long) ∙ drop-drop (length bytes) at old in
    (λ i. take at old ++ ((is ∙ ap (λ l. bytes ++ l) behind) i ++ drop_all (length old - at) (drop at old) long i))
    ∙ ap (λ l. take at old ++ l) (append-nil (bytes ++ drop (at + length bytes) old))
