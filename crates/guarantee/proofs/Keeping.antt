-- Every entry of a book that calls made passes its tests with the answers that it stores.
use Rattle.std.proofs.Common.{◌≡◌, ℕ, ◌+◌, ◌<◌, ◌≤◌, true, false, not, eqb, List, [], ◌∷◌, length, get_or, Ok, sym, refl, ◌∙◌, subst, arith}
use Rattle.std.specs.List.{AllByRecursion}
use Rattle.std.specs.Str.{bytes_eq}
use Rattle.std.proofs.ByRecursion.{All-push, All-get_or}
use Rattle.std.proofs.lemmas.Slice.Eq.{bytes_eq-Decides}
use Rattle.std.proofs.lemmas.Bool.{not-false, ltb-false, eqb-true}
use Rattle.std.proofs.lemmas.Nat.{pow_pos}
use Rattle.protocol.specs.Parameters.{Parameters}
use Rattle.guarantee.proofs.Passing.{Passes, accepted, after_ok}
use Rattle.guarantee.proofs.Choosing.{selected_picked, length-hidden, hidden_below}
use Rattle.guarantee.proofs.Counting.{ones_packed}
use Rattle.guarantee.proofs.Heads.{Facts, facts, due_fits}
use Rattle.guarantee.proofs.Books.{Told, Holds, holds_held, holds_more, length-entry}
use Rattle.protocol.specs.Book.{no_entry, State, lodges, body_tests, digest_tests, room_tests}
use Rattle.protocol.specs.Entry.{Entry, chosen, rebuilt6, rebuilt7, salt_of, d1_of, d2_of}
use Rattle.protocol.specs.Guarantee.{Custody}
use Rattle.protocol.specs.Flags.{ones}
use Rattle.protocol.specs.Header.{parameters_of, header_tests, length_test, reads_header, reads_record}
use Rattle.protocol.specs.Layout.{record_length, entry_length}
use Rattle.protocol.specs.Parameters.{sigma, parties}
use Rattle.protocol.specs.Runs.{Run, began, lodged, refused, read, recovered}
use Rattle.protocol.specs.Streams.{Digest, First, Second, drawn}
use Rattle.protocol.specs.Tests.{first_failing, after}

-- an entry that lodge let in, but for its digests
pub record WellFormed (a : Entry) : Type 0 where
  pub facts : Facts a.bytes
  pub long : length a.bytes ≡ record_length (parameters_of a.bytes)
  pub hidden_long : length a.hidden ≡ (parameters_of a.bytes).tau
  pub hidden : (e : ℕ) → e < (parameters_of a.bytes).tau → get_or a.hidden e 0 < parties (parameters_of a.bytes)
  pub flags_long : length a.flags ≡ (parameters_of a.bytes).m
  pub flag : (k : ℕ) → get_or a.flags k 0 < 2
  pub flags_many : ones a.flags ≡ sigma (parameters_of a.bytes)
  pub body : Passes (body_tests a.bytes (parameters_of a.bytes))

-- what lodge found of an entry
pub record Checked (F X : Digest) (a : Entry) : Type 0 where
  pub well_formed : WellFormed a
  pub first : drawn F (rebuilt6 F X a) 32 ≡ d1_of a.bytes
  pub second : drawn F (rebuilt7 F X a) 32 ≡ d2_of a.bytes

pub same_when : (xs ys : List ℕ) → not (bytes_eq xs ys) ≡ false → xs ≡ ys
same_when xs ys e = (bytes_eq-Decides xs ys).0 (not-false (bytes_eq xs ys) e)

pub well_formed_told : (a : Entry) → WellFormed a → Told a
well_formed_told a c = record {
  brief = let d = due_fits a.bytes c.facts in let l = c.long in omega arith;
  hidden = c.hidden_long;
  flags = c.flags_long;
  flag = c.flag;
}

pub record Lodged (F X : Digest) (s : State) (a : Entry) : Type 0 where
  pub checked : Checked F X a
  pub room : s.used + entry_length (parameters_of a.bytes) ≤ length s.memory

-- a record that the reader accepts
read_accepted : (r : List ℕ) (p : Parameters) → reads_record r ≡ Ok p →
    Passes (header_tests r) × (eqb (length r) (record_length (parameters_of r)) ≡ true) × (parameters_of r ≡ p)
read_accepted r p e =
    let one = after_ok (reads_header r) _ p e in
    let heads = accepted (header_tests r) (parameters_of r) one.0 one.1 in
    let rest = subst (λ y. first_failing (length_test (length r) (record_length y) ∷ []) y ≡ Ok p) (sym heads.1) one.2 in
    let last = accepted (length_test (length r) (record_length (parameters_of r)) ∷ []) (parameters_of r) p rest in
    (heads.0, not-false (eqb (length r) (record_length (parameters_of r))) last.0.0, last.1)

module _ (F X : Digest) (G1 : First) (G2 : Second) (s : State) (r : List ℕ) (work k : ℕ) where
  abbrev x : Parameters
  x = parameters_of r

  abbrev a : Entry
  a = chosen G1 G2 r

  from_tests : Passes (header_tests r) → eqb (length r) (record_length x) ≡ true → Passes (room_tests s x work) → Passes (body_tests r x) → Passes (digest_tests F X a) → Lodged F X s a
  from_tests hs long (work-ok, (room-ok, end)) bs (one, (two, end')) =
      let f : Facts r = facts r hs in
      let low : sigma x ≤ x.m = let z = f.m_low in omega arith in
      let picked = selected_picked (G1 (salt_of r) (d1_of r)) x.m (sigma x) low in
      record {
        checked = record {
          well_formed = record {
            facts = f;
            long = eqb-true (length r) (record_length x) long;
            hidden_long = length-hidden (G2 (salt_of r) (d1_of r) (d2_of r)) (parties x) x.tau;
            hidden = λ e q. hidden_below (G2 (salt_of r) (d1_of r) (d2_of r)) (parties x) x.tau e (pow_pos x.h) q;
            flags_long = picked.long;
            flag = picked.flag;
            flags_many = picked.many;
            body = bs;
          };
          first = same_when _ _ one;
          second = same_when _ _ two;
        };
        room = ltb-false (length s.memory) (s.used + entry_length x) room-ok;
      }

  pub lodge_ok : lodges F X G1 G2 s r work ≡ Ok k → Lodged F X s a
  lodge_ok p =
      let one = after_ok (reads_record r) _ k p in
      let heads = read_accepted r one.0 one.1 in
      let next = subst (λ y. after (first_failing (room_tests s y work) (tt {0})) (λ _. after (first_failing (body_tests r y) (tt {0})) (λ _. first_failing (digest_tests F X a) s.count)) ≡ Ok k) (sym heads.2) one.2 in
      let two = after_ok (first_failing (room_tests s x work) (tt {0})) _ k next in
      let three = after_ok (first_failing (body_tests r x) (tt {0})) _ k two.2 in
      from_tests heads.0 heads.1
      (accepted (room_tests s x work) (tt {0}) two.0 two.1).0
      (accepted (body_tests r x) (tt {0}) three.0 three.1).0
      (accepted (digest_tests F X a) s.count k three.2).0

pub record Kept (F X : Digest) (hs : List Entry) (s : State) : Type 0 where
  pub holds : Holds hs s
  pub each : AllByRecursion (Checked F X) hs

pub kept : (F X : Digest) (hs : List Entry) (s : State) → Run F X hs s → Kept F X hs s
kept F X hs s (began memory) = record { holds = record { told = tt; fits = omega arith; lies = refl; count = refl }; each = tt }
kept F X _ _ (lodged {hs} {s} run G1 G2 r work k p) =
    let before = kept F X hs s run in
    let l = lodge_ok F X G1 G2 s r work k p in
    let t = well_formed_told (chosen G1 G2 r) l.checked.well_formed in
    let size = length-entry (chosen G1 G2 r) t in
    let long = l.checked.well_formed.long in
    let room = l.room in
    record {
      holds = holds_more hs s (chosen G1 G2 r) before.holds t (omega arith);
      each = All-push (Checked F X) hs (chosen G1 G2 r) before.each l.checked;
    }
kept F X hs s (refused run G1 G2 r work f p) = kept F X hs s run
kept F X hs s (read run k room answer p) = kept F X hs s run
kept F X hs s (recovered run i j e work room answer p) = kept F X hs s run

pub custody : (F X : Digest) → Custody F X
custody F X hs s run =
    let k = kept F X hs s run in
    record {
      entries = holds_held hs s k.holds;
      count = k.holds.count;
      bytes = k.holds.lies;
      kept = λ n q.
          let c = (All-get_or (Checked F X) hs n no_entry q k.each).well_formed in
          (c.flags_long, ones_packed (get_or hs n no_entry).flags _ c.flag (let z = c.flags_long in omega arith) ∙ c.flags_many);
      digests = λ n q. let c = All-get_or (Checked F X) hs n no_entry q k.each in (c.first, c.second);
    }
