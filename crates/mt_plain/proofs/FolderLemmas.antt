-- columns.txt, count.txt and primary.idx are the definition's.
use Rattle.std.proofs.Common.{◌≡◌, ℕ, List, [], ◌∷◌, ◌++◌, length, ap, sym, ◌∙◌, append_assoc}
use Rattle.std.specs.Prelude.{decimal, codes}
use Rattle.mt_fault.specs.declared.file.FileBytes.{FileBytes}
use Rattle.mt_table.specs.declared.definition.Table.{Table}
use Rattle.mt_table.specs.Form.{IsNumbersTable, uint64_column}
use Rattle.mt_defs.specs.Rows.{Row}
use Rattle.mt_defs.specs.Metadata.{columns_text}
use Rattle.mt_defs.specs.PrimaryIndex.{index_rows}
use Rattle.mt_defs.specs.WrittenColumns.{file}
use Rattle.mt_plain.specs.NumberRows.{items_of_column, plain_text_files}
use Rattle.mt_plain.proofs.IndexLemmas.{primary_is}

-- three appends are one
three_files : (before one two : List FileBytes) (f g h : FileBytes) → one ≡ before ++ f ∷ [] → two ≡ one ++ g ∷ [] → two ++ h ∷ [] ≡ before ++ (f ∷ g ∷ h ∷ [])
three_files before one two f g h p q =
    ap (λ l. l ++ h ∷ []) (q ∙ ap (λ l. l ++ g ∷ []) p ∙ append_assoc before (f ∷ []) (g ∷ [])) ∙ append_assoc before (f ∷ g ∷ []) (h ∷ [])

-- what the program appends of them
pub texts_are : (table : Table) (rows : List Row) (first second columns count index granules : List ℕ) (key : ℕ) (before one two : List FileBytes) → IsNumbersTable table
    → table.columns ≡ uint64_column first ∷ uint64_column second ∷ [] → table.sort ≡ key ∷ []
    → columns ≡ columns_text (uint64_column first ∷ uint64_column second ∷ []) → count ≡ decimal (length rows) → index ≡ items_of_column key (index_rows rows granules)
    → one ≡ before ++ file (codes "columns.txt") columns ∷ [] → two ≡ one ++ file (codes "count.txt") count ∷ []
    → two ++ file (codes "primary.idx") index ∷ [] ≡ before ++ plain_text_files table rows granules
texts_are table rows first second columns count index granules key before one two form cols sorted columns_is count_is index_is p q =
    three_files before one two _ _ _ p q
    ∙ ap (λ b. before ++ (file (codes "columns.txt") b ∷ file (codes "count.txt") count ∷ file (codes "primary.idx") index ∷ [])) (columns_is ∙ ap columns_text (sym cols))
    ∙ ap (λ b. before ++ (file (codes "columns.txt") (columns_text table.columns) ∷ file (codes "count.txt") b ∷ file (codes "primary.idx") index ∷ [])) count_is
    ∙ ap (λ b. before ++ (file (codes "columns.txt") (columns_text table.columns) ∷ file (codes "count.txt") (decimal (length rows)) ∷ file (codes "primary.idx") b ∷ []))
    (index_is ∙ primary_is table key rows granules form sorted)
