-- The granules that a marks file tells.
use Rattle.std.proofs.Common.{◌≡◌, ℕ, ◌+◌, ◌≤◌, List, [], ◌∷◌, ◌++◌, length, map, refl, ap, sym, subst, ◌∙◌, arith, get_or}
use Rattle.std.specs.Prelude.{All, Bool, true, false, ◌&&◌, ◌==◌, nat_le, Option, Some, None, IfSome, Ok, option_map, sum}
use Rattle.std.proofs.lemmas.Bool.{eq-eqb, le-leb}
use Rattle.std.proofs.lemmas.List.Sums.{list_all-from_AllPass}
use Rattle.mt_facts.proofs.Numbers.{length_within_sum}
use Rattle.mt_table.specs.declared.definition.PartDef.{PartDef}
use Rattle.mt_defs.specs.Folder.{Folder}
use Rattle.mt_defs.specs.Part.{is_compact}
use Rattle.mt_granules.specs.FileFaults.{file_reading}
use Rattle.mt_marks.specs.Entries.{Entry}
use Rattle.mt_marks.specs.MarkReading.{entries_reading}
use Rattle.mt_types.proofs.StepLemmas.{ok_one}
use Rattle.mt_plan_files.specs.Planned.{granules_name}
use Rattle.mt_plan_known.specs.Granules.{is_marked}
use Rattle.mt_plan_known.specs.Known.{AreMarked, TellsGranules, marks_each}

pub few_granules : (count : ℕ) (rows granules : List ℕ) → AreMarked count rows granules → length granules ≤ count
few_granules count rows granules marked = let within = length_within_sum granules marked.some in let all = marked.all in omega (arith, within, all)

module _ (definition : PartDef) (folder : Folder) (order : List ℕ) (count : ℕ) (compact : Bool) (each : ℕ) (name bytes : List ℕ) (layout : compact ≡ is_compact folder) (marks : each ≡ marks_each order compact) (named : name ≡ granules_name definition.columns order compact)
    (has : file_reading folder name ≡ Ok bytes) where
  has_file : file_reading folder (granules_name definition.columns order (is_compact folder)) ≡ Ok bytes
  has_file = ap (file_reading folder) (ap (granules_name definition.columns order) (sym layout) ∙ sym named) ∙ has

  each_is : each ≡ marks_each order (is_compact folder)
  each_is = marks ∙ ap (marks_each order) layout

  -- what was read of the marks
  pub granules_told : (rows granules : List ℕ) → Some rows ≡ option_map (map (λ (entry : Entry). entry.rows)) (entries_reading each bytes) → AreMarked count rows granules → TellsGranules definition folder order count granules
  granules_told rows granules read marked = by (entries_reading each bytes) refl read
    where
      by : (entries : Option (List Entry)) → entries_reading each bytes ≡ entries → Some rows ≡ option_map (map (λ (entry : Entry). entry.rows)) entries → TellsGranules definition folder order count granules
      by None is e = cc
      by (Some entries) is e =
          let same : rows ≡ map (λ (entry : Entry). entry.rows) entries = cc in
          record {
            bytes = bytes;
            entries = entries;
            has = has_file;
            reads = ap (λ (n : ℕ). entries_reading n bytes) (sym each_is) ∙ is;
            marked = subst (λ (rs : List ℕ). AreMarked count rs granules) same marked;
          }

  -- any that are told are of these marks
  pub told_of : (granules : List ℕ) → TellsGranules definition folder order count granules
      → (entries : List Entry) × (option_map (map (λ (entry : Entry). entry.rows)) (entries_reading each bytes) ≡ Some (map (λ (entry : Entry). entry.rows) entries)) × AreMarked count (map (λ (entry : Entry). entry.rows) entries) granules
  told_of granules told =
      let same : bytes ≡ told.bytes = ok_one told.bytes bytes (sym told.has ∙ has_file) in
      let reads : entries_reading each bytes ≡ Some told.entries = ap (λ (bs : List ℕ). entries_reading each bs) same ∙ ap (λ (n : ℕ). entries_reading n told.bytes) each_is ∙ told.reads in
      (told.entries, ap (option_map (map (λ (entry : Entry). entry.rows))) reads, told.marked)

  pub none_told : None ≡ option_map (map (λ (entry : Entry). entry.rows)) (entries_reading each bytes) → (granules : List ℕ) → TellsGranules definition folder order count granules → ⊥
  none_told none granules told = let of = told_of granules told in let bad = none ∙ of.1 in cc

  pub none_marked : (rows : List ℕ) → Some rows ≡ option_map (map (λ (entry : Entry). entry.rows)) (entries_reading each bytes) → ((granules : List ℕ) → AreMarked count rows granules → None ≡ Some granules) → (granules : List ℕ)
      → TellsGranules definition folder order count granules → ⊥
  none_marked rows read none granules told =
      let of = told_of granules told in
      let both : Some rows ≡ Some (map (λ (entry : Entry). entry.rows) of.0) = read ∙ of.1 in
      let same : map (λ (entry : Entry). entry.rows) of.0 ≡ rows = cc in
      let bad = none granules (subst (λ (rs : List ℕ). AreMarked count rs granules) same of.2) in cc

is_marked_of : (count : ℕ) (granules : List ℕ) → All (λ n. 1 ≤ n) granules → sum granules ≡ count → is_marked count granules ≡ true
is_marked_of count granules some all =
    ap (λ (b : Bool). b && (sum granules == count)) (list_all-from_AllPass (nat_le 1) granules (λ k d inside. le-leb 1 (get_or granules k d) (some k d inside))) ∙ eq-eqb (sum granules) count all

ends_same : (one other : List ℕ) (a b : ℕ) → one ++ a ∷ [] ≡ other ++ b ∷ [] → one ≡ other
ends_same [] [] a b e = refl
ends_same [] (x ∷ []) a b e = cc
ends_same [] (x ∷ y ∷ other) a b e = cc
ends_same (x ∷ []) [] a b e = cc
ends_same (x ∷ y ∷ one) [] a b e = cc
ends_same (x ∷ one) (y ∷ other) a b e =
    let head : x ≡ y = cc in
    let tail : one ++ a ∷ [] ≡ other ++ b ∷ [] = cc in
    ap (λ (n : ℕ). n ∷ one) head ∙ ap (λ (ns : List ℕ). y ∷ ns) (ends_same one other a b tail)

-- numbers that aren't those of granules
pub unmarked : (count : ℕ) (rows front : List ℕ) (last : ℕ) (granules : List ℕ) → rows ≡ front ++ last ∷ [] → is_marked count front ≡ false → AreMarked count rows granules → None ≡ Some granules
unmarked count rows front last granules split not marked =
    let same : front ≡ granules = ends_same front granules last 0 (sym split ∙ marked.ended) in
    let yes : is_marked count front ≡ true = ap (is_marked count) same ∙ is_marked_of count granules marked.some marked.all in
    let bad = sym yes ∙ not in cc

-- a folder tells one list of granules
pub granules_once : (definition : PartDef) (folder : Folder) (order : List ℕ) (count : ℕ) (one other : List ℕ) → TellsGranules definition folder order count one → TellsGranules definition folder order count other → one ≡ other
granules_once definition folder order count one other a b =
    let bytes : a.bytes ≡ b.bytes = ok_one b.bytes a.bytes (sym b.has ∙ a.has) in
    let both : Some a.entries ≡ Some b.entries = sym a.reads ∙ ap (entries_reading (marks_each order (is_compact folder))) bytes ∙ b.reads in
    let entries : a.entries ≡ b.entries = cc in
    ends_same one other 0 0 (sym a.marked.ended ∙ ap (map (λ (entry : Entry). entry.rows)) entries ∙ b.marked.ended)
