-- Entries laid end to end are read off again.
use Rattle.std.proofs.Common.{◌≡◌, ℕ, zero, suc, ◌+◌, ◌*◌, ◌/◌, ◌%◌, ◌<◌, ◌≤◌, List, [], ◌∷◌, ◌++◌, length, get_or, take, drop, sym, refl, ap, ◌∙◌, append_assoc, append-nil, arith, length-append, length-drop, take-append-drop}
use Rattle.std.specs.List.{AllByRecursion}
use Rattle.std.proofs.lemmas.List.{drop-drop, drop_more, take_at, drop_at, length-take-le, length_push}
use Rattle.std.proofs.ByRecursion.{All-push, All-get_or}
use Rattle.std.proofs.lemmas.Nat.{shr-shr}
use Rattle.std.proofs.lemmas.List.FromFn.{length-map-range_with_len}
use Rattle.protocol.specs.Parameters.{Parameters}
use Rattle.guarantee.proofs.Choosing.{unpacked_packed}
use Rattle.protocol.specs.Book.{entries_at, entry_from, no_entry, State, read_bytes, entry_bytes, entry_at, size_at, entries_of, appended, laid}
use Rattle.protocol.specs.Bytes.{le32, value32, part}
use Rattle.protocol.specs.Entry.{Entry}
use Rattle.protocol.specs.Flags.{packed, unpacked, bits}
use Rattle.protocol.specs.Header.{parameters_of}
use Rattle.protocol.specs.Parameters.{flag_length}

-- an entry that its bytes tell
pub record Told (a : Entry) : Type 0 where
  pub brief : length a.bytes < 4294967296
  pub hidden : length a.hidden ≡ (parameters_of a.bytes).tau
  pub flags : length a.flags ≡ (parameters_of a.bytes).m
  pub flag : (k : ℕ) → get_or a.flags k 0 < 2

pub length-packed : (f : List ℕ) (n : ℕ) → length (packed f n) ≡ n
unfolding packed
length-packed f n = length-map-range_with_len (λ b. bits f (8 * b) 8) 0 n

pub length-entry : (a : Entry) → Told a → length (entry_bytes a) ≡ 4 + (length a.bytes + ((parameters_of a.bytes).tau + flag_length (parameters_of a.bytes)))
length-entry a t =
    let p = packed a.flags (flag_length (parameters_of a.bytes)) in
    let l : length p ≡ flag_length (parameters_of a.bytes) = length-packed a.flags (flag_length (parameters_of a.bytes)) in
    let u = length-append a.bytes (a.hidden ++ p) in
    let v = length-append a.hidden p in
    let w = t.hidden in
    omega arith

value_back : (n : ℕ) (tail : List ℕ) → n < 4294967296 → value32 (le32 n ++ tail) ≡ n
value_back n tail h =
    let a : n / 256 / 256 ≡ n / 65536 = shr-shr n 8 8 in
    let b : n / 65536 / 256 ≡ n / 16777216 = shr-shr n 16 8 in
    let c : n / 16777216 < 256 = omega arith in
    four n (n / 256) (n / 65536) (n / 16777216) (omega arith) (omega arith) (omega arith) c
  where
    four : (n a b c : ℕ) → n / 256 ≡ a → a / 256 ≡ b → b / 256 ≡ c → c < 256 → n % 256 + 256 * (a % 256) + 65536 * (b % 256) + 16777216 * (c % 256) ≡ n
    four n a b c p q r h =
        let u : n ≡ 256 * a + n % 256 = omega arith in
        let v : a ≡ 256 * b + a % 256 = omega arith in
        let w : b ≡ 256 * c + b % 256 = omega arith in
        let z : c % 256 ≡ c = omega arith in
        omega arith

drop_past : {X : Type 0} (a b : List X) (n m : ℕ) → length a ≡ n → drop (n + m) (a ++ b) ≡ drop m b
drop_past a b n m h = sym (drop-drop m n (a ++ b)) ∙ ap (drop m) (drop_at a b n h)

module _ (a : Entry) (t : Told a) (tail : List ℕ) where
  abbrev x : Parameters
  x = parameters_of a.bytes

  abbrev flagged : List ℕ
  flagged = packed a.flags (flag_length x)

  abbrev whole : List ℕ
  whole = entry_bytes a ++ tail

  -- behind the length field
  body : drop 4 whole ≡ a.bytes ++ (a.hidden ++ (flagged ++ tail))
  body = append_assoc a.bytes (a.hidden ++ flagged) tail ∙ ap (λ z. a.bytes ++ z) (append_assoc a.hidden flagged tail)

  size : value32 whole ≡ length a.bytes
  size = value_back (length a.bytes) (read_bytes a ++ tail) t.brief

  bytes_back : part whole 4 (value32 whole) ≡ a.bytes
  bytes_back = ap (λ z. take (value32 whole) z) body ∙ take_at a.bytes _ (value32 whole) (sym size)

  drop-bytes : drop (4 + value32 whole) whole ≡ a.hidden ++ (flagged ++ tail)
  drop-bytes = sym (drop-drop (value32 whole) 4 whole) ∙ ap (drop (value32 whole)) body ∙ drop_at a.bytes _ (value32 whole) (sym size)

  drop-hidden : drop (4 + value32 whole + x.tau) whole ≡ flagged ++ tail
  drop-hidden = sym (drop-drop x.tau (4 + value32 whole) whole) ∙ ap (drop x.tau) drop-bytes ∙ drop_at a.hidden _ x.tau t.hidden

  drop-flags : drop (4 + value32 whole + x.tau + flag_length x) whole ≡ tail
  drop-flags = sym (drop-drop (flag_length x) (4 + value32 whole + x.tau) whole) ∙ ap (drop (flag_length x)) drop-hidden ∙ drop_at flagged tail (flag_length x) (length-packed a.flags (flag_length x))

  hidden_back : part whole (4 + value32 whole) x.tau ≡ a.hidden
  hidden_back = ap (take x.tau) drop-bytes ∙ take_at a.hidden _ x.tau t.hidden

  flags_back : unpacked (part whole (4 + value32 whole + x.tau) (flag_length x)) x.m ≡ a.flags
  flags_back =
      ap (λ z. unpacked z x.m) (ap (take (flag_length x)) drop-hidden ∙ take_at flagged tail (flag_length x) (length-packed a.flags (flag_length x)))
      ∙ unpacked_packed a.flags (flag_length x) x.m t.flag t.flags (omega arith)

  -- as a function of the record's bytes
  abbrev from : List ℕ → Entry
  from r = record {
    bytes = r;
    hidden = part whole (4 + value32 whole) (parameters_of r).tau;
    flags = unpacked (part whole (4 + value32 whole + (parameters_of r).tau) (flag_length (parameters_of r))) (parameters_of r).m;
  }

  pub held_back : entry_at whole ≡ a
  held_back = ap from bytes_back ∙ (λ i. record { bytes = a.bytes; hidden = hidden_back i; flags = flags_back i })

  pub rest_back : drop (size_at whole) whole ≡ tail
  rest_back = ap (λ r. drop (4 + value32 whole + (parameters_of r).tau + flag_length (parameters_of r)) whole) bytes_back ∙ drop-flags

pub read_back : (hs : List Entry) (tail : List ℕ) → AllByRecursion Told hs → entries_at (length hs) (laid hs ++ tail) ≡ hs
read_back [] tail t = refl
read_back (a ∷ hs) tail (t, ts) =
    ap (λ z. entries_at (suc (length hs)) z) (append_assoc (entry_bytes a) (laid hs) tail)
    ∙ ap (λ z. entry_at (entry_bytes a ++ (laid hs ++ tail)) ∷ entries_at (length hs) z) (rest_back a t (laid hs ++ tail))
    ∙ (λ i. held_back a t (laid hs ++ tail) i ∷ read_back hs tail ts i)

pub length-entries : (k : ℕ) (bytes : List ℕ) → length (entries_at k bytes) ≡ k
length-entries zero bytes = refl
length-entries (suc k) bytes = ap suc (length-entries k (drop (size_at bytes) bytes))

laid_push : (hs : List Entry) (a : Entry) → laid (hs ++ a ∷ []) ≡ laid hs ++ entry_bytes a
laid_push [] a = append-nil (entry_bytes a)
laid_push (b ∷ hs) a = ap (λ z. entry_bytes b ++ z) (laid_push hs a) ∙ sym (append_assoc (entry_bytes b) (laid hs) (entry_bytes a))

-- a book that holds these entries_at and nothing else
pub record Holds (hs : List Entry) (s : State) : Type 0 where
  pub told : AllByRecursion Told hs
  pub fits : s.used ≤ length s.memory
  pub lies : take s.used s.memory ≡ laid hs
  pub count : s.count ≡ length hs

pub holds_held : (hs : List Entry) (s : State) → Holds hs s → entries_of s ≡ hs
holds_held hs s h =
    ap (λ n. entries_at n s.memory) h.count
    ∙ ap (λ z. entries_at (length hs) z) (sym (take-append-drop s.used s.memory) ∙ ap (λ z. z ++ drop s.used s.memory) h.lies)
    ∙ read_back hs (drop s.used s.memory) h.told

pub holds_more : (hs : List Entry) (s : State) (a : Entry) → Holds hs s → Told a → s.used + length (entry_bytes a) ≤ length s.memory → Holds (hs ++ a ∷ []) (appended s a)
holds_more hs s a h t room =
    let bytes = entry_bytes a in
    let rest = drop (s.used + length bytes) s.memory in
    let front : length (take s.used s.memory) ≡ s.used = length-take-le s.used s.memory h.fits in
    record {
      told = All-push Told hs a h.told t;
      fits =
          let u = length-append (take s.used s.memory) (bytes ++ rest) in
          let v = length-append bytes rest in
          let w = length-drop (s.used + length bytes) s.memory in omega arith;
      lies =
          ap (take (s.used + length bytes)) (sym (append_assoc (take s.used s.memory) bytes rest))
          ∙ take_at (take s.used s.memory ++ bytes) rest (s.used + length bytes) (length-append (take s.used s.memory) bytes ∙ ap (λ n. n + length bytes) front)
          ∙ ap (λ z. z ++ bytes) h.lies
          ∙ sym (laid_push hs a);
      count = ap (λ n. n + 1) h.count ∙ sym (length_push hs a);
    }

-- for code that walks from entry to entry: entry k stands at a kept_index, and the next one behind it
pub record Step (hs : List Entry) (mem tail : List ℕ) (k at : ℕ) : Type 0 where
  pub here : entry_at (drop at mem) ≡ get_or hs k no_entry
  pub size : size_at (drop at mem) ≡ length (entry_bytes (get_or hs k no_entry))
  pub room : at + length (entry_bytes (get_or hs k no_entry)) ≤ length mem
  pub next : drop (at + size_at (drop at mem)) mem ≡ laid (drop (k + 1) hs) ++ tail

pub walk : (hs : List Entry) (mem tail : List ℕ) (k at : ℕ) → AllByRecursion Told hs → k < length hs → at ≤ length mem → drop at mem ≡ laid (drop k hs) ++ tail → Step hs mem tail k at
walk hs mem tail k at told h within p =
    let a = get_or hs k no_entry in
    let t : Told a = All-get_or Told hs k no_entry h told in
    let more = laid (drop (k + 1) hs) ++ tail in
    let q : drop at mem ≡ entry_bytes a ++ more =
    p ∙ ap (λ z. laid z ++ tail) (drop_more hs k no_entry h) ∙ append_assoc (entry_bytes a) (laid (drop (k + 1) hs)) tail in
    let n : size_at (entry_bytes a ++ more) ≡ length (entry_bytes a) =
    ap (λ r. 4 + value32 (entry_bytes a ++ more) + (parameters_of r).tau + flag_length (parameters_of r)) (bytes_back a t more)
    ∙ (let v = size a t more in let l = length-entry a t in
    let z : 4 + value32 (entry_bytes a ++ more) + (parameters_of a.bytes).tau + flag_length (parameters_of a.bytes) ≡ length (entry_bytes a) = omega arith in z) in
    let c = length-drop at mem in
    let d = ap length q in
    let e = length-append (entry_bytes a) more in
    record {
      here = ap entry_at q ∙ held_back a t more;
      size = ap size_at q ∙ n;
      room = omega arith;
      next = sym (drop-drop (size_at (drop at mem)) at mem) ∙ ap (λ z. drop (size_at z) z) q ∙ rest_back a t more;
    }

-- flag bytes that were packed from an entry's flags give the entry back
pub held_of_packed : (a : Entry) → Told a → entry_from a.bytes a.hidden (packed a.flags (flag_length (parameters_of a.bytes))) ≡ a
held_of_packed a t = λ i. record {
  bytes = a.bytes;
  hidden = a.hidden;
  flags = unpacked_packed a.flags (flag_length (parameters_of a.bytes)) (parameters_of a.bytes).m t.flag t.flags (omega arith) i;
}
