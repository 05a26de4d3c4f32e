-- The writer's granules, one row at a time.
use Rattle.std.proofs.Common.{◌≡◌, ℕ, ◌+◌, ◌-◌, ◌<◌, ◌^◌, min, Bool, true, false, List, [], ◌∷◌, ◌++◌, length, take, drop, get_or, refl, ap, sym, ◌∙◌, arith, append_assoc, length-append}
use Rattle.std.specs.Prelude.{nat_le, ◌||◌, if◌then◌else◌}
use Rattle.std.proofs.lemmas.List.{drop_more, take_more}
use Rattle.mt_facts.proofs.Truth.{same_choice}
use Rattle.mt_table.specs.declared.column.Column.{Column}
use Rattle.mt_table.specs.declared.settings.Settings.{Settings}
use Rattle.mt_defs.specs.Rows.{Row}
use Rattle.mt_defs.specs.WrittenGranules.{granules_from, is_full, payload_size, written_granules}
use Rattle.mt_layout.specs.Sizes.{row_size, saturated}
use Rattle.mt_layout.proofs.PayloadLemmas.{payload_size-push, payload_size-none}

-- ---- saturated sums

-- the sum of two
pub saturated-add : (both a b x y : ℕ) → both ≡ min (a + b) (2 ^ 64 - 1) → a ≡ saturated x → b ≡ saturated y → both ≡ saturated (x + y)
saturated-add both a b x y s p q = omega arith

-- ---- the granule that is begun

-- what is known of the granules so far, and of the rows and bytes of the one that is begun
pub record IsCut (settings : Settings) (columns : List Column) (rows : List Row) (next : ℕ) (granules : List ℕ) (count bytes : ℕ) : Type 0 where
  pub begun : List Row
  pub counted : count ≡ length begun
  pub measured : bytes ≡ saturated (payload_size columns begun)
  pub ahead : granules ++ granules_from (is_full settings columns) begun (drop next rows) ≡ written_granules settings columns rows

-- under other names
pub same_cut : (settings : Settings) (columns : List Column) (rows : List Row) (next : ℕ) (granules granules' : List ℕ) (count count' bytes bytes' : ℕ)
    → granules' ≡ granules → count' ≡ count → bytes' ≡ bytes → IsCut settings columns rows next granules count bytes → IsCut settings columns rows next granules' count' bytes'
same_cut settings columns rows next granules granules' count count' bytes bytes' g n b cut = record {
  begun = cut.begun;
  counted = n ∙ cut.counted;
  measured = b ∙ cut.measured;
  ahead = ap (λ (xs : List ℕ). xs ++ granules_from (is_full settings columns) cut.begun (drop next rows)) g ∙ cut.ahead;
}

-- nothing is begun
pub nothing_begun : (settings : Settings) (columns : List Column) (rows : List Row) (next : ℕ) (granules : List ℕ)
    → granules ++ granules_from (is_full settings columns) [] (drop next rows) ≡ written_granules settings columns rows → IsCut settings columns rows next granules 0 0
nothing_begun settings columns rows next granules ahead = record {
  begun = [];
  counted = refl;
  measured = sym (ap saturated (payload_size-none columns));
  ahead = ahead;
}

-- the next row joins the granule
granules_next : (full : List Row → Bool) (begun rows : List Row) (next : ℕ) (row : Row) → next < length rows → row ≡ get_or rows next row
    → granules_from full begun (drop next rows)
    ≡ (if full (begun ++ row ∷ []) then length (begun ++ row ∷ []) ∷ granules_from full [] (drop (next + 1) rows) else granules_from full (begun ++ row ∷ []) (drop (next + 1) rows))
granules_next full begun rows next row within is =
    ap (granules_from full begun) (drop_more rows next row within ∙ ap (λ r. r ∷ drop (next + 1) rows) (sym is))

-- the row leaves the granule open
pub goes_on : (settings : Settings) (columns : List Column) (rows : List Row) (next : ℕ) (granules : List ℕ) (count bytes more size : ℕ) (row : Row)
    → IsCut settings columns rows next granules count bytes → next < length rows → row ≡ get_or rows next row
    → size ≡ saturated (row_size columns row) → more ≡ min (bytes + size) (2 ^ 64 - 1)
    → ((payload : ℕ) → more ≡ saturated payload → false ≡ (nat_le settings.granule_rows (count + 1) || nat_le settings.granule_bytes payload))
    → IsCut settings columns rows (next + 1) granules (count + 1) more
goes_on settings columns rows next granules count bytes more size row cut within is sized added off =
    let measured : more ≡ saturated (payload_size columns (cut.begun ++ row ∷ [])) =
    saturated-add more bytes size _ _ added cut.measured sized ∙ ap saturated (sym (payload_size-push columns cut.begun row)) in
    let counted : count + 1 ≡ length (cut.begun ++ row ∷ []) = ap (λ n. n + 1) cut.counted ∙ sym (length-append cut.begun (row ∷ [])) in
    let opened : is_full settings columns (cut.begun ++ row ∷ []) ≡ false =
    ap (λ n. nat_le settings.granule_rows n || nat_le settings.granule_bytes (payload_size columns (cut.begun ++ row ∷ []))) (sym counted) ∙ sym (off _ measured) in
    record {
      begun = cut.begun ++ row ∷ [];
      counted = counted;
      measured = measured;
      ahead = ap (λ rest. granules ++ rest) (sym (granules_next (is_full settings columns) cut.begun rows next row within is ∙ same_choice _ false _ _ opened)) ∙ cut.ahead;
    }

-- the row fills the granule
pub ends_here : (settings : Settings) (columns : List Column) (rows : List Row) (next : ℕ) (granules : List ℕ) (count bytes more size : ℕ) (row : Row)
    → IsCut settings columns rows next granules count bytes → next < length rows → row ≡ get_or rows next row
    → size ≡ saturated (row_size columns row) → more ≡ min (bytes + size) (2 ^ 64 - 1)
    → ((payload : ℕ) → more ≡ saturated payload → true ≡ (nat_le settings.granule_rows (count + 1) || nat_le settings.granule_bytes payload))
    → IsCut settings columns rows (next + 1) (granules ++ (count + 1) ∷ []) 0 0
ends_here settings columns rows next granules count bytes more size row cut within is sized added on =
    let measured : more ≡ saturated (payload_size columns (cut.begun ++ row ∷ [])) =
    saturated-add more bytes size _ _ added cut.measured sized ∙ ap saturated (sym (payload_size-push columns cut.begun row)) in
    let counted : count + 1 ≡ length (cut.begun ++ row ∷ []) = ap (λ n. n + 1) cut.counted ∙ sym (length-append cut.begun (row ∷ [])) in
    let full : is_full settings columns (cut.begun ++ row ∷ []) ≡ true =
    ap (λ n. nat_le settings.granule_rows n || nat_le settings.granule_bytes (payload_size columns (cut.begun ++ row ∷ []))) (sym counted) ∙ sym (on _ measured) in
    nothing_begun settings columns rows (next + 1) (granules ++ (count + 1) ∷ [])
    (append_assoc granules ((count + 1) ∷ []) (granules_from (is_full settings columns) [] (drop (next + 1) rows))
    ∙ ap (λ n. granules ++ n ∷ granules_from (is_full settings columns) [] (drop (next + 1) rows)) counted
    ∙ ap (λ rest. granules ++ rest) (sym (granules_next (is_full settings columns) cut.begun rows next row within is ∙ same_choice _ true _ _ full)) ∙ cut.ahead)

-- the bytes of all rows so far
pub all_more : (columns : List Column) (rows : List Row) (next all more size : ℕ) (row : Row) → next < length rows → row ≡ get_or rows next row
    → all ≡ saturated (payload_size columns (take next rows)) → size ≡ saturated (row_size columns row) → more ≡ min (all + size) (2 ^ 64 - 1)
    → more ≡ saturated (payload_size columns (take (next + 1) rows))
all_more columns rows next all more size row within is so_far sized added =
    saturated-add more all size _ _ added so_far sized
    ∙ ap saturated (sym (payload_size-push columns (take next rows) row))
    ∙ ap (λ xs. saturated (payload_size columns xs)) (sym (take_more rows next row within ∙ ap (λ r. take next rows ++ r ∷ []) (sym is)))
