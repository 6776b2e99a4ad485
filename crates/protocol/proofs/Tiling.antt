-- The fields of a record, in their order, lie end to end, and which one stands at an index.
use Rattle.std.proofs.Common.{◌≡◌, ℕ, zero, suc, ◌+◌, ◌*◌, ◌<◌, ◌≤◌, List, [], ◌∷◌, ◌++◌, length, take, drop, None, sym, refl, ap, ◌∙◌, subst, ⊎_elim, append_assoc, append-nil, suc-mul, arith, length-append, take-append-drop}
use Rattle.std.specs.List.{flat_map, slice_get}
use Rattle.std.proofs.lemmas.Option.{slice_get_past}
use Rattle.std.proofs.lemmas.Bool.{cases_eq}
use Rattle.std.proofs.lemmas.List.{drop-drop, drop_all}
use Rattle.protocol.specs.declared.field.Field.{Field}
use Rattle.protocol.specs.declared.field.Field.TheVariants.{Commitment, Seeds, Offsets}
use Rattle.protocol.specs.Parameters.{Parameters}
use Rattle.protocol.specs.Layout.{size, offset, block_length, blocks_at, record_length, block_fields, leading_fields, fields, field_part, FieldsTile}

-- the fields of a list lie end to end, from one offset to another
abbrev pub Between : Parameters → ℕ → List Field → ℕ → Type 0
Between p at [] end = at ≡ end
Between p at (f ∷ fs) end = (offset p f ≡ at) × Between p (at + size p f) fs end

pub tiled : (p : Parameters) (bytes : List ℕ) (at : ℕ) (fs : List Field) (end : ℕ) → Between p at fs end →
    flat_map (field_part p bytes) fs ++ drop end bytes ≡ drop at bytes
tiled p bytes at [] end e = ap (λ k. drop k bytes) (sym e)
tiled p bytes at (f ∷ fs) end (here, rest) =
    let more = tiled p bytes (at + size p f) fs end rest in
    append_assoc (field_part p bytes f) (flat_map (field_part p bytes) fs) (drop end bytes)
    ∙ (ap (λ t. field_part p bytes f ++ t) more
    ∙ (ap (λ k. take (size p f) (drop k bytes) ++ drop (at + size p f) bytes) here
    ∙ (ap (λ t. take (size p f) (drop at bytes) ++ t) (sym (drop-drop (size p f) at bytes))
    ∙ take-append-drop (size p f) (drop at bytes))))

pub both : (p : Parameters) (at : ℕ) (fs : List Field) (mid : ℕ) (gs : List Field) (end : ℕ) →
    Between p at fs mid → Between p mid gs end → Between p at (fs ++ gs) end
both p at [] mid gs end e after = subst (λ k. Between p k gs end) (sym e) after
both p at (f ∷ fs) mid gs end (here, rest) after = (here, both p (at + size p f) fs mid gs end rest after)

blocks : (p : Parameters) (k : ℕ) → Between p (blocks_at p) (block_fields k) (blocks_at p + k * block_length p)
blocks p zero = omega arith
blocks p (suc k) =
    both p (blocks_at p) (block_fields k) (blocks_at p + k * block_length p) _ _ (blocks p k)
    (refl, (refl, (refl, omega (arith, suc-mul k (block_length p)))))

leading : (p : Parameters) → Between p 0 leading_fields (blocks_at p)
leading p = (refl, (refl, (refl, (refl, (refl, (refl, (refl, (refl, (refl, (refl, (refl, (refl, (refl, (refl, (refl, (refl, refl))))))))))))))))

-- three fields a repetition
pub block_count : (k : ℕ) → length (block_fields k) ≡ 3 * k
block_count zero = refl
block_count (suc k) = length-append (block_fields k) _ ∙ omega (arith, block_count k)

whole_record : (p : Parameters) (bytes : List ℕ) → length bytes ≡ record_length p → flat_map (field_part p bytes) (fields p) ≡ bytes
whole_record p bytes long =
    let whole = tiled p bytes 0 (fields p) (record_length p) (both p 0 leading_fields (blocks_at p) (block_fields p.tau) (record_length p) (leading p) (blocks p p.tau)) in
    let none : drop (record_length p) bytes ≡ [] = drop_all (record_length p) bytes (omega arith) in
    sym (append-nil _) ∙ (ap (λ t. flat_map (field_part p bytes) (fields p) ++ t) (sym none) ∙ whole)

pub fields_tile : FieldsTile
fields_tile p = (omega (arith, block_count p.tau), whole_record p)

nth_left : {X : Type 0} (xs ys : List X) (i : ℕ) → i < length xs → slice_get (xs ++ ys) i ≡ slice_get xs i
nth_left [] ys i h = absurd (omega arith)
nth_left (x ∷ xs) ys zero h = refl
nth_left (x ∷ xs) ys (suc i) h = nth_left xs ys i (omega arith)

nth_right : {X : Type 0} (xs ys : List X) (i k : ℕ) → i ≡ length xs + k → slice_get (xs ++ ys) i ≡ slice_get ys k
nth_right [] ys i k e = ap (slice_get ys) (omega arith)
nth_right (x ∷ xs) ys zero k e = absurd (omega arith)
nth_right (x ∷ xs) ys (suc i) k e = nth_right xs ys i k (omega arith)

-- the field at an index behind the leading ones
pub behind : (p : Parameters) (i k : ℕ) → i ≡ 16 + k → slice_get (fields p) i ≡ slice_get (block_fields p.tau) k
behind p i k e = nth_right leading_fields (block_fields p.tau) i k e

pub before : (p : Parameters) (i : ℕ) → i < 16 → slice_get (fields p) i ≡ slice_get leading_fields i
before p i h = nth_left leading_fields (block_fields p.tau) i h

-- the field at place s of repetition e
pub block_at_index : (k e s : ℕ) (i : ℕ) → i ≡ 3 * e + s → s < 3 → e < k → slice_get (block_fields k) i ≡ slice_get (Commitment e ∷ Seeds e ∷ Offsets e ∷ []) s
block_at_index zero e s i is below less = absurd (omega arith)
block_at_index (suc k) e s i is below less = ⊎_elim
    (λ same. nth_right (block_fields k) _ i s (omega (arith, block_count k)) ∙ ap (λ t. slice_get (Commitment t ∷ Seeds t ∷ Offsets t ∷ []) s) (sym same))
    (λ other. nth_left (block_fields k) _ i (omega (arith, block_count k)) ∙ block_at_index k e s i is below (omega arith))
    (cases_eq e k)

pub past_blocks : (k i : ℕ) → 3 * k ≤ i → None ≡ slice_get (block_fields k) i
past_blocks k i h = sym (slice_get_past (block_fields k) i (omega (arith, block_count k)))
