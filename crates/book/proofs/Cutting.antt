-- The parts of the entry at the front of some bytes.
use Rattle.std.proofs.Common.{◌≡◌, ℕ, ◌+◌, ◌*◌, ◌/◌, ◌<◌, ◌^◌, List, [], ◌∷◌, ◌≤◌, ◌++◌, length, get_or, take, drop, Some, Option, MatchOption, Bor, lit<, sym, ap, ◌∙◌, append_assoc, length-append, arith}
use Rattle.std.specs.Int.{from_le_bytes, w32}
use Rattle.std.proofs.lemmas.List.{take_at, drop_at, drop-drop, get_or_append_left}
use Rattle.std.proofs.lemmas.Option.{MatchOption-at_some}
use Rattle.std.proofs.lemmas.Nat.{from_le_bytes-to_le_bytes_4}
use Rattle.protocol.specs.Book.{entry_at, entry_bytes, entry_from, read_bytes, size_at}
use Rattle.protocol.specs.Bytes.{le32}
use Rattle.protocol.specs.Entry.{Entry}
use Rattle.protocol.specs.Flags.{packed}
use Rattle.protocol.specs.Header.{parameters_of}
use Rattle.protocol.specs.Parameters.{Parameters, flag_length}
use Rattle.guarantee.proofs.Books.{held_of_packed, length-packed}
use Rattle.guarantee.proofs.Keeping.{WellFormed}
use Rattle.book.specs.declared.stored.Stored.{Stored}
use Rattle.book.specs.Entries.{Shows, Begins}
use Rattle.book.proofs.Forms.{formed, told}

-- two lists end to end, cut between them
parted : (whole xs ys front back : List ℕ) (n : ℕ) → whole ≡ xs ++ ys → n ≡ length xs → front ≡ take n whole → back ≡ drop n whole →
    (front ≡ xs) × (back ≡ ys)
parted whole xs ys front back n both long f b = (
  f ∙ ap (take n) both ∙ take_at xs ys n (sym long),
  b ∙ ap (drop n) both ∙ drop_at xs ys n (sym long),
)

within : (whole xs ys : List ℕ) (n : ℕ) → whole ≡ xs ++ ys → n ≡ length xs → n ≤ length whole
within whole xs ys n both long = let e = ap length both in let l = length-append xs ys in omega arith

module _ (bytes : List ℕ) (b : Begins bytes) where
  abbrev a : Entry
  a = entry_at bytes

  abbrev p : Parameters
  p = parameters_of a.bytes

  abbrev flagged : List ℕ
  flagged = packed a.flags (flag_length p)

  abbrev more : List ℕ
  more = drop (size_at bytes) bytes

  form : WellFormed a
  form = formed a b.well

  -- behind the length field
  body : drop 4 bytes ≡ a.bytes ++ (a.hidden ++ (flagged ++ more))
  body = ap (drop 4) b.whole ∙ append_assoc a.bytes (a.hidden ++ flagged) more ∙ ap (λ z. a.bytes ++ z) (append_assoc a.hidden flagged more)

  -- the length field and what is behind it, cut off, and then so many bytes
  pub record_read : (cut : Option (Bor (List ℕ) × Bor (List ℕ))) (head : Bor (List ℕ) × Bor (List ℕ)) (front back : List ℕ) (n : ℕ) →
      MatchOption cut (length bytes < 4) (λ h. (h.0.now ≡ take 4 bytes) × (h.1.now ≡ drop 4 bytes) × (length h.1.now + 4 ≡ length bytes)) →
      cut ≡ Some head → n ≡ from_le_bytes w32 head.0.now → front ≡ take n head.1.now → back ≡ drop n head.1.now →
      (front ≡ a.bytes) × (back ≡ a.hidden ++ (flagged ++ more))
  record_read cut head front back n cases is number =
      let h = MatchOption-at_some _ _ head is cases in
      let long : n ≡ length a.bytes =
      number ∙ ap (from_le_bytes w32) (h.0 ∙ ap (take 4) b.whole) ∙ from_le_bytes-to_le_bytes_4 (length a.bytes) (told a b.well).brief in
      parted head.1.now a.bytes (a.hidden ++ (flagged ++ more)) front back n (h.1 ∙ body) long

  -- byte i of the record, which is long enough for a header
  header_byte : (i : ℕ) → i < 15 → get_or (drop 4 bytes) i 0 ≡ get_or a.bytes i 0
  header_byte i h =
      let long = form.facts.long in
      ap (λ z. get_or z i 0) body ∙ get_or_append_left a.bytes (a.hidden ++ (flagged ++ more)) 0 i (omega arith)

  behind_length : bytes ≡ le32 (length a.bytes) ++ (read_bytes a ++ more)
  behind_length = b.whole ∙ append_assoc (le32 (length a.bytes)) (read_bytes a) more

  pub room : 19 ≤ length bytes
  room =
      let long = form.facts.long in
      let e = ap length b.whole in
      let one = length-append (entry_bytes a) more in
      let two = length-append a.bytes (a.hidden ++ flagged) in
      omega arith

  pub body_room : (k : ℕ) → k ≡ length (read_bytes a) → 4 + k ≤ length bytes
  body_room k is =
      let e = ap length b.whole in
      let one = length-append (entry_bytes a) more in
      omega arith

  pub body_is : (k : ℕ) → k ≡ length (read_bytes a) → take k (drop 4 bytes) ≡ read_bytes a
  body_is k is = ap (λ z. take k (drop 4 z)) behind_length ∙ take_at (read_bytes a) more k (sym is)

  pub behind : (k : ℕ) → k ≡ length (read_bytes a) → drop (4 + k) bytes ≡ more
  behind k is = sym (drop-drop k 4 bytes) ∙ ap (λ z. drop k (drop 4 z)) behind_length ∙ drop_at (read_bytes a) more k (sym is)

  pub body_size : (n t f : ℕ) → n ≡ from_le_bytes w32 (get_or bytes 0 0 ∷ get_or bytes 1 0 ∷ get_or bytes 2 0 ∷ get_or bytes 3 0 ∷ []) →
      t ≡ (parameters_of (drop 4 bytes)).tau → f ≡ flag_length (parameters_of (drop 4 bytes)) → n + (t + f) ≡ length (read_bytes a)
  body_size n t f first repetitions flags =
      let byte : (i : ℕ) → get_or bytes i 0 ≡ get_or (le32 (length a.bytes) ++ (read_bytes a ++ more)) i 0 = λ i. ap (λ z. get_or z i 0) behind_length in
      let long : n ≡ length a.bytes =
      first ∙ (λ i. from_le_bytes w32 (byte 0 i ∷ byte 1 i ∷ byte 2 i ∷ byte 3 i ∷ []))
      ∙ from_le_bytes-to_le_bytes_4 (length a.bytes) (told a b.well).brief in
      let parties : t ≡ length a.hidden = repetitions ∙ header_byte 12 (lit< tt) ∙ sym form.hidden_long in
      let low = header_byte 9 (lit< tt) in
      let high = header_byte 10 (lit< tt) in
      let many : f ≡ flag_length p = flags ∙ (λ i. (low i + 256 * high i + 7) / 8) in
      let two = length-append a.bytes (a.hidden ++ flagged) in
      let three = length-append a.hidden flagged in
      let four = length-packed a.flags (flag_length p) in
      omega arith

  pub body_small : length (read_bytes a) < 2 ^ 33
  body_small =
      let brief = (told a b.well).brief in
      let hidden = form.hidden_long in
      let few = form.facts.tau_high in
      let values = form.facts.m_high in
      let two = length-append a.bytes (a.hidden ++ flagged) in
      let three = length-append a.hidden flagged in
      let four = length-packed a.flags (flag_length p) in
      omega arith

  pub header_there : (r : List ℕ) → r ≡ a.bytes → 15 ≤ length r
  header_there r is = let long = form.facts.long in omega (arith, ap length is)

  pub hidden_there : (rest : List ℕ) (n : ℕ) → rest ≡ a.hidden ++ (flagged ++ more) → n ≡ p.tau → n ≤ length rest
  hidden_there rest n is tau = within rest a.hidden (flagged ++ more) n is (tau ∙ sym form.hidden_long)

  pub hidden_read : (rest front back : List ℕ) (n : ℕ) → rest ≡ a.hidden ++ (flagged ++ more) → n ≡ p.tau →
      front ≡ take n rest → back ≡ drop n rest → (front ≡ a.hidden) × (back ≡ flagged ++ more)
  hidden_read rest front back n is tau = parted rest a.hidden (flagged ++ more) front back n is (tau ∙ sym form.hidden_long)

  pub flags_there : (rest : List ℕ) (n : ℕ) → rest ≡ flagged ++ more → n ≡ flag_length p → n ≤ length rest
  flags_there rest n is size = within rest flagged more n is (size ∙ sym (length-packed a.flags (flag_length p)))

  pub flags_read : (rest front back : List ℕ) (n : ℕ) → rest ≡ flagged ++ more → n ≡ flag_length p →
      front ≡ take n rest → back ≡ drop n rest → (front ≡ flagged) × (back ≡ more)
  flags_read rest front back n is size = parted rest flagged more front back n is (size ∙ sym (length-packed a.flags (flag_length p)))

  pub shown : (r : Stored) → r.«record».now ≡ a.bytes → r.hidden.now ≡ a.hidden → r.flags.now ≡ flagged → Shows a r
  shown r record_is hidden_is flags_is = record {
    record_is = record_is;
    hidden_is = hidden_is;
    flags_is = flags_is;
    tells = (λ i. entry_from (record_is i) (hidden_is i) (flags_is i)) ∙ held_of_packed a (told a b.well);
  }
