-- The keys of a primary index, step by step.
use Rattle.std.proofs.Common.{◌≡◌, ℕ, zero, suc, ◌+◌, ◌-◌, ◌<◌, ◌≤◌, Bool, true, false, List, [], ◌∷◌, length, map, take, drop, refl, ap, sym, subst, ◌∙◌, get_or, arith}
use Rattle.std.specs.Prelude.{All, Result, Ok, ◌==◌}
use Rattle.std.specs.Borrow.{Bor}
use Rattle.std.specs.List.{flat_map}
use Rattle.std.specs.Str.{bytes_eq}
use Rattle.std.proofs.lemmas.List.Elements.{All-nil, All-cons, All-head, All-tail, All-append, All-take, All-drop}
use Rattle.mt_facts.proofs.Lists.{drop_next}
use Rattle.mt_fault.specs.declared.fault.Fault.{Fault}
use Rattle.mt_fault.specs.declared.error.FileError.{FileError}
use Rattle.mt_fault.specs.declared.fault.Why.TheVariants.{Key, Over}
use Rattle.mt_types.specs.Steps.{◌>>=◌, require}
use Rattle.mt_types.proofs.StepLemmas.{passed, failed}
use Rattle.mt_table.specs.declared.column.Column.{Column}
use Rattle.mt_defs.specs.Granules.{granule_rows}
use Rattle.mt_defs.specs.PrimaryIndex.{index_name, index_rows}
use Rattle.mt_defs.specs.Rows.{Row, RowFits}
use Rattle.mt_fault.specs.Faults.{file_fault, granule_fault}
use Rattle.mt_fault.specs.Results.{FailsAs}
use Rattle.mt_fault.specs.Results.{IsFault}
use Rattle.mt_definition.specs.RowRefs.{rows_in}
use Rattle.mt_definition.specs.RowsReading.{keys_reading}
use Rattle.mt_fault.proofs.FaultLemmas.{fault_gives}
use Rattle.mt_files.proofs.LoopLemmas.{at_end}

-- ---- the keys

abbrev keys_later : ℕ → List ℕ → List (List ℕ) → List ℕ → Result Unit Fault
keys_later granule key keys bytes = require (bytes_eq (take (length key) bytes) key) (granule_fault index_name granule Key) >>= λ _. keys_reading (granule + 1) keys (drop (length key) bytes)

keys_next : (granule : ℕ) (key : List ℕ) (keys : List (List ℕ)) (bytes : List ℕ) → keys_reading granule (key ∷ keys) bytes ≡ keys_later granule key keys bytes
unfolding keys_reading
keys_next granule key keys bytes = refl

pub keys_end : (granule : ℕ) (bytes : List ℕ) → keys_reading granule [] bytes ≡ require (length bytes == 0) (file_fault index_name Over)
unfolding keys_reading
keys_end granule bytes = refl

rows_at : (rows : List (Bor Row)) (i : ℕ) (row : Bor Row) → i < length rows → row ≡ get_or rows i row → rows_in (drop i rows) ≡ row.now ∷ rows_in (drop (i + 1) rows)
rows_at rows i row inside at = ap rows_in (drop_next rows i row inside at)

keys_at : (key_of : Row → List ℕ) (rows : List (Bor Row)) (i : ℕ) (row : Bor Row) (bytes key : List ℕ) (whole : Result Unit Fault) → keys_reading i (map key_of (rows_in (drop i rows))) bytes ≡ whole → i < length rows → row ≡ get_or rows i row → key ≡ key_of row.now
    → keys_later i key (map key_of (rows_in (drop (i + 1) rows))) bytes ≡ whole
keys_at key_of rows i row bytes key whole ahead inside at is =
    ap (λ (k : List ℕ). keys_later i k (map key_of (rows_in (drop (i + 1) rows))) bytes) is
    ∙ sym (ap (λ (rs : List Row). keys_reading i (map key_of rs) bytes) (rows_at rows i row inside at) ∙ keys_next i (key_of row.now) (map key_of (rows_in (drop (i + 1) rows))) bytes) ∙ ahead

pub keys_differ : (key_of : Row → List ℕ) (rows : List (Bor Row)) (i : ℕ) (row : Bor Row) (bytes key : List ℕ) (whole : Result Unit Fault) (e : FileError) → keys_reading i (map key_of (rows_in (drop i rows))) bytes ≡ whole → i < length rows
    → row ≡ get_or rows i row → key ≡ key_of row.now → bytes_eq (take (length key) bytes) key ≡ false → IsFault (granule_fault index_name i Key) e → FailsAs e whole
keys_differ key_of rows i row bytes key whole e ahead inside at is differ fault =
    fault_gives (granule_fault index_name i Key) e whole fault
    (sym (keys_at key_of rows i row bytes key whole ahead inside at is)
    ∙ failed (bytes_eq (take (length key) bytes) key) (granule_fault index_name i Key) (λ _. keys_reading (i + 1) (map key_of (rows_in (drop (i + 1) rows))) (drop (length key) bytes)) differ)

pub keys_same : (key_of : Row → List ℕ) (rows : List (Bor Row)) (i : ℕ) (row : Bor Row) (bytes key after : List ℕ) (whole : Result Unit Fault) → keys_reading i (map key_of (rows_in (drop i rows))) bytes ≡ whole → i < length rows → row ≡ get_or rows i row
    → key ≡ key_of row.now → bytes_eq (take (length key) bytes) key ≡ true → after ≡ drop (length key) bytes → keys_reading (i + 1) (map key_of (rows_in (drop (i + 1) rows))) after ≡ whole
keys_same key_of rows i row bytes key after whole ahead inside at is same rest =
    ap (keys_reading (i + 1) (map key_of (rows_in (drop (i + 1) rows)))) rest
    ∙ sym (passed (bytes_eq (take (length key) bytes) key) (granule_fault index_name i Key) (λ _. keys_reading (i + 1) (map key_of (rows_in (drop (i + 1) rows))) (drop (length key) bytes)) same)
    ∙ keys_at key_of rows i row bytes key whole ahead inside at is

keys_over : (key_of : Row → List ℕ) (rows : List (Bor Row)) (i : ℕ) (bytes : List ℕ) (whole : Result Unit Fault) → keys_reading i (map key_of (rows_in (drop i rows))) bytes ≡ whole → length rows ≤ i → require (length bytes == 0) (file_fault index_name Over) ≡ whole
keys_over key_of rows i bytes whole ahead over = sym (ap (λ (rs : List (Bor Row)). keys_reading i (map key_of (rows_in rs)) bytes) (at_end rows i over) ∙ keys_end i bytes) ∙ ahead

pub keys_done : (key_of : Row → List ℕ) (rows : List (Bor Row)) (i : ℕ) (bytes : List ℕ) (whole : Result Unit Fault) → keys_reading i (map key_of (rows_in (drop i rows))) bytes ≡ whole → length rows ≤ i → (length bytes == 0) ≡ true → whole ≡ Ok tt
keys_done key_of rows i bytes whole ahead over none = sym (keys_over key_of rows i bytes whole ahead over) ∙ ap (λ (b : Bool). require b (file_fault index_name Over)) none

pub keys_left : (key_of : Row → List ℕ) (rows : List (Bor Row)) (i : ℕ) (bytes : List ℕ) (whole : Result Unit Fault) (e : FileError) → keys_reading i (map key_of (rows_in (drop i rows))) bytes ≡ whole → length rows ≤ i → (length bytes == 0) ≡ false
    → IsFault (file_fault index_name Over) e → FailsAs e whole
keys_left key_of rows i bytes whole e ahead over some fault =
    fault_gives (file_fault index_name Over) e whole fault (sym (keys_over key_of rows i bytes whole ahead over) ∙ ap (λ (b : Bool). require b (file_fault index_name Over)) some)

-- ---- the rows of the index fit

All-flat_map : {X Y : Type 0} (P : Y → Type 0) (f : X → List Y) (xs : List X) → All (λ x. All P (f x)) xs → All P (flat_map f xs)
All-flat_map P f [] all = All-nil P
All-flat_map P f (x ∷ xs) all = All-append P (f x) (flat_map f xs) (All-head (λ x. All P (f x)) x xs all) (All-flat_map P f xs (All-tail (λ x. All P (f x)) x xs all))

fits_at : (columns : List Column) (rows : List (Bor Row)) (i : ℕ) (d : Bor Row) → All (RowFits columns) (rows_in rows) → i < length rows → RowFits columns (get_or rows i d).now
fits_at columns [] i d fit inside = absurd (omega (arith, inside))
fits_at columns (row ∷ rows) zero d fit inside = All-head (RowFits columns) row.now (rows_in rows) fit
fits_at columns (row ∷ rows) (suc i) d fit inside = fits_at columns rows i d (All-tail (RowFits columns) row.now (rows_in rows) fit) (omega (arith, inside))

pub row_fits : (columns : List Column) (rows : List (Bor Row)) (i : ℕ) (row : Bor Row) → All (RowFits columns) (rows_in rows) → i < length rows → row ≡ get_or rows i row → RowFits columns row.now
row_fits columns rows i row fit inside at = subst (λ (r : Bor Row). RowFits columns r.now) (sym at) (fits_at columns rows i row fit inside)

firsts_fit : (P : Row → Type 0) (granules : List ℕ) (rows : List Row) → All P rows → All (λ some. All P (take 1 some)) (granule_rows granules rows)
firsts_fit P [] rows fit = All-nil (λ some. All P (take 1 some))
firsts_fit P (count ∷ granules) rows fit =
    All-cons (λ some. All P (take 1 some)) (take count rows) (granule_rows granules (drop count rows)) (All-take P 1 (take count rows) (All-take P count rows fit)) (firsts_fit P granules (drop count rows) (All-drop P count rows fit))

-- the rows of the index are some of the rows
pub index_fits : (P : Row → Type 0) (rows : List Row) (granules : List ℕ) → All P rows → All P (index_rows rows granules)
index_fits P rows granules fit =
    All-append P (flat_map (take 1) (granule_rows granules rows)) (drop (length rows - 1) rows) (All-flat_map P (take 1) (granule_rows granules rows) (firsts_fit P granules rows fit)) (All-drop P (length rows - 1) rows fit)
