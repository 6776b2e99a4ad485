-- From entry to entry of a book.
use Rattle.std.proofs.Common.{◌≡◌, ℕ, ◌+◌, ◌<◌, List, ◌++◌, length, get_or, drop, sym, ap, ◌∙◌, append_assoc, arith}
use Rattle.std.proofs.lemmas.List.{drop_more}
use Rattle.protocol.specs.Book.{entries_of, entry_at, entry_bytes, size_at, laid, no_entry, well_formed}
use Rattle.guarantee.proofs.Books.{held_back, rest_back, length-entries}
use Rattle.book.specs.declared.book.Book.{Book}
use Rattle.book.specs.Entries.{Begins}
use Rattle.book.specs.Of.{state_of}
use Rattle.book.proofs.Forms.{told, formed_at}

-- entry k and those behind it, and then what lies past the entries
abbrev pub Reached : Book → ℕ → List ℕ → Type 0
Reached b k bytes = bytes ≡ laid (drop k (entries_of (state_of b))) ++ drop b.used b.memory.now

pub record Here (b : Book) (k : ℕ) (bytes : List ℕ) : Type 0 where
  pub begins : Begins bytes
  pub is : entry_at bytes ≡ get_or (entries_of (state_of b)) k no_entry
  pub next : Reached b (k + 1) (drop (size_at bytes) bytes)

pub here : (b : Book) (k : ℕ) (bytes : List ℕ) → k < b.count → Reached b k bytes → Here b k bytes
here b k bytes h reached =
    let hs = entries_of (state_of b) in
    let a = get_or hs k no_entry in
    let k<n : k < length hs = let n = length-entries b.count b.memory.now in omega arith in
    let well = formed_at hs k no_entry b.intact.2 k<n in
    let tail = drop b.used b.memory.now in
    let more = laid (drop (k + 1) hs) ++ tail in
    let whole : bytes ≡ entry_bytes a ++ more =
    reached ∙ ap (λ z. laid z ++ tail) (drop_more hs k no_entry k<n) ∙ append_assoc (entry_bytes a) (laid (drop (k + 1) hs)) tail in
    let is : entry_at bytes ≡ a = ap entry_at whole ∙ held_back a (told a well) more in
    let next : drop (size_at bytes) bytes ≡ more = ap (λ z. drop (size_at z) z) whole ∙ rest_back a (told a well) more in
    record {
      begins = record { well = ap well_formed is ∙ well; whole = whole ∙ (λ i. entry_bytes (sym is i) ++ sym next i) };
      is = is;
      next = next;
    }
