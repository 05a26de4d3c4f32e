-- Entries that stand one after another begin where the positions say, and back.
use Rattle.std.proofs.Common.{◌≡◌, ℕ, ◌+◌, ◌-◌, ◌≤◌, List, [], ◌∷◌, ◌++◌, length, take, drop, refl, sym, ap, ◌∙◌, arith}
use Rattle.std.specs.Prelude.{All}
use Rattle.std.specs.List.{concat}
use Rattle.std.proofs.lemmas.List.{append_cancel_right, length-drop, take_all}
use Rattle.std.proofs.lemmas.List.Elements.{All-head, All-tail}
use Rattle.mt_defs.specs.Lists.{offsets_from}
use Rattle.mt_granules.specs.PayloadReading.{pieces}
use Rattle.mt_granules.proofs.CutLemmas.{RisesTo, pieces_back, pieces_joined, pieces_start, sizes_of}
use Rattle.mt_granules.proofs.RuleLemmas.{Rises}
use Rattle.mt_files.specs.SkipMarks.{pieces_at}

-- the last piece ends where the payload does
pub pieces_end : (payload positions : List ℕ) → pieces_at payload positions ≡ pieces payload (positions ++ length payload ∷ [])
pieces_end payload [] = refl
pieces_end payload (position ∷ []) =
    ap (λ (piece : List ℕ). piece ∷ []) (sym (take_all (length payload - position) (drop position payload) (omega (arith, length-drop position payload))))
pieces_end payload (position ∷ next ∷ positions) =
    ap (λ (more : List (List ℕ)). take (next - position) (drop position payload) ∷ more) (pieces_end payload (next ∷ positions))

rise_to_end : (low top total : ℕ) (positions : List ℕ) → low ≤ total → Rises low positions top → All (λ position. position ≤ total) positions → RisesTo low (positions ++ total ∷ []) total
rise_to_end low top total [] within rise all = (within, refl)
rise_to_end low top total (position ∷ positions) within rise all =
    (rise.0, rise_to_end position top total positions (All-head (λ position. position ≤ total) position positions all) rise.1 (All-tail (λ position. position ≤ total) position positions all))

module _ (payload positions : List ℕ) (top : ℕ) (rise : Rises 0 positions top) (within : All (λ position. position ≤ length payload) positions) where
  abbrev total : ℕ
  total = length payload

  up : RisesTo 0 (positions ++ total ∷ []) total
  up = rise_to_end 0 top total positions (omega arith) rise within

  pub entries_joined : concat (pieces_at payload (0 ∷ positions)) ≡ payload
  entries_joined = ap concat (pieces_end payload (0 ∷ positions)) ∙ pieces_joined 0 (positions ++ total ∷ []) total payload up (omega arith) ∙ take_all (total - 0) payload (omega arith)

  pub entries_start : offsets_from 0 (sizes_of (pieces_at payload (0 ∷ positions))) ≡ 0 ∷ positions
  entries_start =
      append_cancel_right (offsets_from 0 (sizes_of (pieces_at payload (0 ∷ positions)))) (0 ∷ positions) (total ∷ [])
      (ap (λ (entries : List (List ℕ)). offsets_from 0 (sizes_of entries) ++ total ∷ []) (pieces_end payload (0 ∷ positions)) ∙ pieces_start 0 (positions ++ total ∷ []) total payload up (omega arith))

-- entries that are joined are what stands between their offsets
pub entries_back : (payload : List ℕ) (entries : List (List ℕ)) → payload ≡ concat entries → pieces_at payload (offsets_from 0 (sizes_of entries)) ≡ entries
entries_back payload entries joined =
    pieces_end payload (offsets_from 0 (sizes_of entries))
    ∙ ap (λ (bytes : List ℕ). pieces bytes (offsets_from 0 (sizes_of entries) ++ length bytes ∷ [])) joined
    ∙ ap (λ (end : ℕ). pieces (concat entries) (offsets_from 0 (sizes_of entries) ++ end ∷ [])) (let e : length (concat entries) ≡ 0 + length (concat entries) = omega arith in e)
    ∙ pieces_back [] entries 0 refl

-- offsets never fall
pub offsets_climb : (offset : ℕ) (sizes : List ℕ) → (top : ℕ) × Rises offset (offsets_from offset sizes) top
offsets_climb offset [] = (offset, omega arith)
offsets_climb offset (size ∷ sizes) =
    let more = offsets_climb (offset + size) sizes in
    (more.0, (omega arith, lower offset (offset + size) more.0 (offsets_from (offset + size) sizes) (omega arith) more.1))
  where
    lower : (low high top : ℕ) (positions : List ℕ) → low ≤ high → Rises high positions top → Rises low positions top
    lower low high top [] le rise = omega (arith, le, rise)
    lower low high top (position ∷ positions) le rise = (omega (arith, le, rise.0), rise.1)

pub length-pieces_at : (payload positions : List ℕ) → length (pieces_at payload positions) ≡ length positions
length-pieces_at payload [] = refl
length-pieces_at payload (position ∷ []) = refl
length-pieces_at payload (position ∷ next ∷ positions) = let more = length-pieces_at payload (next ∷ positions) in omega (arith, more)
