-- One entry more, and a book is intact again.
use Rattle.std.proofs.Common.{◌≡◌, ℕ, ◌+◌, ◌≤◌, true, List, [], ◌∷◌, ◌++◌, length, sym, ap, ◌∙◌, subst, arith, length-append}
use Rattle.std.proofs.lemmas.List.{length-take-le}
use Rattle.protocol.specs.Book.{State, Intact, appended, entries_of, entry_bytes, laid, wrote, well_formed, all_well_formed}
use Rattle.protocol.specs.Entry.{Entry}
use Rattle.protocol.specs.Header.{parameters_of}
use Rattle.protocol.specs.Layout.{entry_length}
use Rattle.protocol.specs.Of.{parameters}
use Rattle.protocol.specs.Parameters.{Parameters, flag_length}
use Rattle.guarantee.proofs.Books.{Holds, holds_held, holds_more, length-entry, length-entries}
use Rattle.book.specs.declared.entry.NewEntry.{NewEntry}
use Rattle.book.specs.Of.{entry_of}
use Rattle.book.proofs.Forms.{formed, told, all_told, formed_push}

-- an entry has as many bytes as its header tells
entry_long : (a : Entry) → well_formed a ≡ true → length (entry_bytes a) ≡ entry_length (parameters_of a.bytes)
entry_long a well = let l = length-entry a (told a well) in let long = (formed a well).long in omega arith

intact_holds : (s : State) → Intact s → Holds (entries_of s) s
intact_holds s (fits, lies, well) = record {
  told = all_told (entries_of s) well;
  fits = fits;
  lies = lies;
  count = sym (length-entries s.count s.memory);
}

intact_more : (s : State) (a : Entry) → Intact s → well_formed a ≡ true → s.used + entry_length (parameters_of a.bytes) ≤ length s.memory → Intact (appended s a)
intact_more s a intact well room =
    let size = entry_long a well in
    let more = holds_more (entries_of s) s a (intact_holds s intact) (told a well) (omega arith) in
    let entries = holds_held (entries_of s ++ a ∷ []) (appended s a) more in
    (more.fits, more.lies ∙ sym (ap laid entries), ap all_well_formed entries ∙ formed_push (entries_of s) a intact.2 well)

-- every entry has bytes, so that there are no more entries than bytes
laid_long : (hs : List Entry) → length hs ≤ length (laid hs)
laid_long [] = omega arith
laid_long (a ∷ hs) = let l = length-append (entry_bytes a) (laid hs) in let more = laid_long hs in omega arith

pub few : (s : State) → Intact s → s.count ≤ s.used
few s (fits, lies, well) =
    let l = laid_long (entries_of s) in
    let n = length-entries s.count s.memory in
    let e = ap length lies in
    let f = length-take-le s.used s.memory fits in
    omega arith

-- an entry that was handed in
module _ (e : NewEntry) where
  abbrev a : Entry
  a = entry_of e

  abbrev p : Parameters
  p = parameters e.header

  -- it is as long as its parts are
  pub sized : entry_length p ≡ 4 + (length a.bytes + (length a.hidden + flag_length p))
  sized =
      let form = formed a e.well in
      let long = form.long in
      let hidden = form.hidden_long in
      let size : entry_length p ≡ entry_length (parameters_of a.bytes) = ap entry_length e.head in
      let flags : flag_length p ≡ flag_length (parameters_of a.bytes) = ap flag_length e.head in
      omega arith

  pub added : (s : State) (memory : List ℕ) (size : ℕ) → memory ≡ wrote s.used (entry_bytes a) s.memory → size ≡ entry_length p →
      record { memory = memory; used = s.used + size; count = s.count + 1 } ≡ appended s a
  added s memory size there is = λ i. record {
    memory = there i;
    used = s.used + (is ∙ ap entry_length e.head ∙ sym (entry_long a e.well)) i;
    count = s.count + 1;
  }

  pub intact_added : (s : State) → Intact s → s.used + entry_length p ≤ length s.memory → (memory : List ℕ) (size : ℕ) →
      memory ≡ wrote s.used (entry_bytes a) s.memory → size ≡ entry_length p →
      Intact (record { memory = memory; used = s.used + size; count = s.count + 1 })
  intact_added s intact room memory size there is =
      subst Intact (sym (added s memory size there is))
      (intact_more s a intact e.well (subst (λ q. s.used + entry_length q ≤ length s.memory) e.head room))
