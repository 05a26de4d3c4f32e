-- A substream is read exactly where its two files hold it.
use Rattle.std.proofs.Common.{◌≡◌, ℕ, suc, ◌+◌, ◌^◌, ◌<◌, ◌≤◌, List, [], ◌∷◌, ◌++◌, length, map, refl, ap, sym, ◌∙◌, subst, arith}
use Rattle.std.specs.Prelude.{All, Result, Ok, ◌==◌}
use Rattle.std.specs.List.{concat, sum}
use Rattle.std.proofs.lemmas.Bool.{eqb-true, eq-eqb}
use Rattle.std.proofs.lemmas.List.{length-map}
use Rattle.mt_types.proofs.StepLemmas.{ok_then, ok_one, passed, required, then_of}
use Rattle.mt_fault.specs.declared.fault.Why.TheVariants as why
use Rattle.mt_defs.specs.Folder.{Folder}
use Rattle.mt_defs.specs.FileNames.{data_name, marks_name}
use Rattle.mt_defs.specs.Lists.{AreBytes}
use Rattle.mt_defs.specs.Marks.{IsMarksFile}
use Rattle.mt_defs.specs.Frames.{IsFramed}
use Rattle.mt_defs.specs.Wide.{HasStream}
use Rattle.mt_fault.specs.Faults.{file_fault, granule_fault}
use Rattle.mt_granules.specs.PayloadReading.{GranulePayloads, payloads_reading}
use Rattle.mt_granules.proofs.CutLemmas.{AreRuns, concat_flat, flat, sizes_of}
use Rattle.mt_granules.proofs.PayloadsHeldLemmas.{HoldsPayloads, payloads_held}
use Rattle.mt_granules.proofs.PayloadsReadLemmas.{payloads_read}
use Rattle.mt_wide.specs.WideReading.{granules_check, same_rows, stream_reading}

-- ---- granules that are compared

rows_same : (marks_name : List ℕ) (granule : ℕ) (known rows : List ℕ) (u : Unit {0}) → length known ≡ length rows → same_rows marks_name granule known rows ≡ Ok u → rows ≡ known
rows_same name granule [] [] u long e = refl
rows_same name granule [] (r ∷ rows) u long e = absurd (omega (arith, long))
rows_same name granule (k ∷ known) [] u long e = absurd (omega (arith, long))
rows_same name granule (k ∷ known) (r ∷ rows) u long e =
    required (k == r) (granule_fault name granule why.Rows) (λ _. same_rows name (granule + 1) known rows) u e (λ same e.
    ap (λ (n : ℕ). n ∷ rows) (sym (eqb-true k r same)) ∙ ap (λ (l : List ℕ). k ∷ l) (rows_same name (granule + 1) known rows u (omega (arith, long)) e))

same_itself : (marks_name : List ℕ) (granule : ℕ) (known : List ℕ) → same_rows marks_name granule known known ≡ Ok tt
same_itself name granule [] = refl
same_itself name granule (k ∷ known) = passed (k == k) (granule_fault name granule why.Rows) (λ _. same_rows name (granule + 1) known known) (eq-eqb k k refl) ∙ same_itself name (granule + 1) known

check_same : (marks_name : List ℕ) (known rows : List ℕ) (u : Unit {0}) → granules_check marks_name known rows ≡ Ok u → rows ≡ known
check_same name known rows u e =
    required (length known == length rows) (file_fault name why.Length) (λ _. same_rows name 0 known rows) u e (λ long e. rows_same name 0 known rows u (eqb-true (length known) (length rows) long) e)

check_itself : (marks_name : List ℕ) (known : List ℕ) → granules_check marks_name known known ≡ Ok tt
check_itself name known = passed (length known == length known) (file_fault name why.Length) (λ _. same_rows name 0 known known) (eq-eqb (length known) (length known) refl) ∙ same_itself name 0 known

-- ---- a payload for each granule

abbrev singles : List (List ℕ) → List (List (List ℕ))
singles payloads = map (λ (payload : List ℕ). payload ∷ []) payloads

one_item : {X : Type 0} (xs : List X) → length xs ≡ 1 → (x : X) × (xs ≡ x ∷ [])
one_item [] e = absurd (omega arith)
one_item (x ∷ []) e = (x, refl)
one_item (x ∷ y ∷ xs) e = absurd (omega (arith, e))

singles_back : (grouped : List (List (List ℕ))) → AreRuns 1 grouped → grouped ≡ singles (flat grouped)
singles_back [] are = refl
singles_back (run ∷ more) are =
    let (x, is) = one_item run are.0 in
    ap (λ (r : List (List ℕ)). r ∷ more) is ∙ ap (λ (l : List (List (List ℕ))). (x ∷ []) ∷ l) (singles_back more are.1) ∙ ap (λ (r : List (List ℕ)). singles (r ++ flat more)) (sym is)

singles_runs : (payloads : List (List ℕ)) → AreRuns 1 (singles payloads)
singles_runs [] = tt
singles_runs (p ∷ payloads) = (refl, singles_runs payloads)

singles_flat : (payloads : List (List ℕ)) → flat (singles payloads) ≡ payloads
singles_flat [] = refl
singles_flat (p ∷ payloads) = ap (λ (l : List (List ℕ)). p ∷ l) (singles_flat payloads)

singles_sizes : (payloads : List (List ℕ)) → map sizes_of (singles payloads) ≡ map (λ (payload : List ℕ). length payload ∷ []) payloads
singles_sizes [] = refl
singles_sizes (p ∷ payloads) = ap (λ (l : List (List ℕ)). (length p ∷ []) ∷ l) (singles_sizes payloads)

singles_joined : (payloads : List (List ℕ)) → concat (map concat (singles payloads)) ≡ concat payloads
singles_joined payloads = concat_flat (singles payloads) ∙ ap concat (singles_flat payloads)

-- ---- both ways

pub record IsHeld (folder : Folder) (granules : List ℕ) (name : List ℕ) (payloads : List (List ℕ)) : Type 0 where
  pub has : HasStream name payloads granules folder
  pub many : length payloads ≡ length granules
  pub bytes : All AreBytes payloads

pub record AreHeldGranules (granules : List ℕ) : Type 0 where
  pub some : All (λ n. 1 ≤ n) granules
  pub small : sum granules < 2 ^ 64
  pub not_empty : 1 ≤ length granules

stream_of : (folder : Folder) (name : List ℕ) (grouped : List (List (List ℕ))) (payloads : List (List ℕ)) (granules : List ℕ) → AreRuns 1 grouped → payloads ≡ flat grouped → HoldsPayloads folder (data_name name) (marks_name name) 1 grouped granules → HasStream name payloads granules folder
stream_of folder name grouped payloads granules are payloads_are holds =
    let same : grouped ≡ singles payloads = singles_back grouped are ∙ ap singles (sym payloads_are) in
    record {
      data_file = holds.data_file;
      marks_file = holds.marks_file;
      has_data = holds.has_data;
      has_marks = holds.has_marks;
      framed = subst (λ (p : List ℕ). IsFramed p holds.data_file) (ap (λ (g : List (List (List ℕ))). concat (map concat g)) same ∙ singles_joined payloads) holds.framed;
      marks = subst (λ (s : List (List ℕ)). IsMarksFile 1 holds.data_file s granules holds.marks_file) (ap (map sizes_of) same ∙ singles_sizes payloads) holds.marks;
    }

pub stream_held : (folder : Folder) (granules name : List ℕ) (payloads : List (List ℕ)) → stream_reading folder granules name ≡ Ok payloads → IsHeld folder granules name payloads
stream_held folder granules name payloads e =
    ok_then (payloads_reading folder (data_name name) (marks_name name) 1) _ payloads e (λ read is e.
    ok_then (granules_check (marks_name name) granules read.granules) _ payloads e (λ u checked e.
    let held = payloads_held folder (data_name name) (marks_name name) 1 read (omega arith) is in
    let same = check_same (marks_name name) granules read.granules u checked in
    let all : payloads ≡ read.payloads = ok_one _ _ e in
    let many : length read.payloads ≡ length read.granules = ap (λ (l : List (List ℕ)). length l) (held.payloads_are ∙ ap flat (singles_back held.grouped held.are) ∙ singles_flat (flat held.grouped)) ∙ one_each held.grouped held.are ∙ held.many in
    record {
      has = subst (λ (g : List ℕ). HasStream name payloads g folder) same (stream_of folder name held.grouped payloads read.granules held.are (all ∙ held.payloads_are) held.holds);
      many = ap (λ (l : List (List ℕ)). length l) all ∙ many ∙ ap (λ (l : List ℕ). length l) same;
      bytes = subst (All AreBytes) (sym all) held.bytes;
    }))
  where
    one_each : (grouped : List (List (List ℕ))) → AreRuns 1 grouped → length (flat grouped) ≡ length grouped
    one_each [] are = refl
    one_each (run ∷ more) are = let (x, is) = one_item run are.0 in ap (λ (r : List (List ℕ)). length (r ++ flat more)) is ∙ ap suc (one_each more are.1)

holds_of : (folder : Folder) (name : List ℕ) (payloads : List (List ℕ)) (granules : List ℕ) → HasStream name payloads granules folder → HoldsPayloads folder (data_name name) (marks_name name) 1 (singles payloads) granules
holds_of folder name payloads granules has = record {
  data_file = has.data_file;
  marks_file = has.marks_file;
  has_data = has.has_data;
  has_marks = has.has_marks;
  framed = subst (λ (p : List ℕ). IsFramed p has.data_file) (sym (singles_joined payloads)) has.framed;
  marks = subst (λ (s : List (List ℕ)). IsMarksFile 1 has.data_file s granules has.marks_file) (sym (singles_sizes payloads)) has.marks;
}

pub first_read : (folder : Folder) (granules name : List ℕ) (payloads : List (List ℕ)) → AreHeldGranules granules → length payloads ≡ length granules → HasStream name payloads granules folder
    → payloads_reading folder (data_name name) (marks_name name) 1 ≡ Ok (record { payloads = payloads; granules = granules })
first_read folder granules name payloads are many has =
    payloads_read folder (data_name name) (marks_name name) 1 (singles payloads) granules (omega arith) (omega arith) (singles_runs payloads) (length-map payloads (λ (p : List ℕ). p ∷ []) ∙ many) (holds_of folder name payloads granules has)
    are.not_empty are.some are.small
    ∙ ap (λ (p : List (List ℕ)). let r : Result GranulePayloads _ = Ok (record { payloads = p; granules = granules }) in r) (singles_flat payloads)

pub stream_read : (folder : Folder) (granules name : List ℕ) (payloads : List (List ℕ)) → AreHeldGranules granules → length payloads ≡ length granules → HasStream name payloads granules folder
    → stream_reading folder granules name ≡ Ok payloads
stream_read folder granules name payloads are many has =
    then_of (payloads_reading folder (data_name name) (marks_name name) 1) (record { payloads = payloads; granules = granules }) _ (first_read folder granules name payloads are many has)
    ∙ then_of (granules_check (marks_name name) granules granules) tt _ (check_itself (marks_name name) granules)
