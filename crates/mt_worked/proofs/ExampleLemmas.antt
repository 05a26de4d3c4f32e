-- The worked example's folder stands for its rows.
use Rattle.std.proofs.Common.{◌≡◌, ℕ, ◌≤◌, true, [], ◌∷◌, refl, ap, sym, ◌∙◌, subst, lit≤}
use Rattle.std.specs.Prelude.{All, IsTrue, pos}
use Rattle.std.specs.List.Sorted.{IsSorted}
use Rattle.std.proofs.lemmas.List.Elements.{All-nil, All-cons}
use Rattle.mt_types.specs.declared.ty.Ty.TheVariants.{UInt}
use Rattle.mt_types.specs.declared.ty.Width.TheVariants.{W64}
use Rattle.mt_types.specs.declared.value.Value.{Value, map-Value}
use Rattle.mt_types.specs.declared.value.Value.TheVariants.{Num, outs-Num}
use Rattle.mt_types.specs.declared.value.Value.TheFolds.{fold_out-Value}
use Rattle.mt_types.specs.Fits.{fits_of, num_at, is_unsigned}
use Rattle.mt_table.specs.declared.limits.TheConstants.{MAX_CELLS}
use Rattle.mt_table.specs.Rows.{element_count, element_count_step, cell_count}
use Rattle.mt_defs.specs.Folder.{folder_of}
use Rattle.mt_defs.specs.Rows.{Row, RowFits, key_cmp, ArePartRows}
use Rattle.mt_defs.specs.Part.{StandsFor}
use Rattle.mt_defs.specs.Projections.{inner_of}
use Rattle.mt_defs.specs.Writer.{IsWritable, projection_rows}
use Rattle.mt_defs.specs.WorkedExample.{table, settings, input, rows, row, seven_files}
use Rattle.mt_defs.specs.WrittenGranules.{written_granules}
use Rattle.mt_defs.proofs.Examples.{in_order, folder_is}
use Rattle.mt_defs.proofs.Sorted.{IsSorted-sorted_rows}
use Rattle.mt_law_written.proofs.StandLemmas.{written_stands}
use Rattle.mt_worked.proofs.ItemLemmas.{fits_UInt}

number_fits : (n : ℕ) → is_unsigned 64 (pos n) ≡ true → IsTrue (fits_of (UInt W64) (Num (pos n)))
number_fits n small = fits_UInt W64 (Num (pos n)) ∙ ap (num_at (is_unsigned 64)) (outs-Num (pos n)) ∙ small

row_fits : (k v : ℕ) → is_unsigned 64 (pos k) ≡ true → is_unsigned 64 (pos v) ≡ true → RowFits table.columns (row k v)
row_fits k v one two = (number_fits k one, (number_fits v two, tt))

fit : All (RowFits table.columns) rows
fit =
    All-cons (RowFits table.columns) (row 1 10) (row 2 20 ∷ row 3 30 ∷ []) (row_fits 1 10 refl refl)
    (All-cons (RowFits table.columns) (row 2 20) (row 3 30 ∷ []) (row_fits 2 20 refl refl) (All-cons (RowFits table.columns) (row 3 30) [] (row_fits 3 30 refl refl) (All-nil (RowFits table.columns))))

no_elements : (n : ℕ) → element_count (Num (pos n)) ≡ 0
no_elements n = fold_out-Value ℕ element_count_step (Num (pos n)) ∙ ap (λ l. element_count_step (map-Value Value ℕ element_count l)) (outs-Num (pos n))

cells : cell_count table.columns rows ≡ 6
cells = simp no_elements

writable : IsWritable table rows
writable = record {
  part_rows = record {
    not_empty = λ e. cc;
    fit = fit;
    ordered = subst (IsSorted (key_cmp (0 ∷ []))) in_order (IsSorted-sorted_rows (0 ∷ []) input);
    few_rows = lit≤ tt;
    few_cells = subst (λ n. n ≤ MAX_CELLS) (sym cells) (lit≤ tt);
  };
  one_partition = λ a b in_a in_b. refl;
  projections = All-nil (λ projection. ArePartRows (inner_of table projection) (projection_rows table projection rows));
}

pub stands : StandsFor table (folder_of seven_files) rows
stands = subst (λ files. StandsFor table (folder_of files) rows) folder_is (written_granules settings table.columns rows, written_stands table rows writable)
