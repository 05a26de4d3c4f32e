-- What is there by the names of a folder.
use Rattle.std.proofs.Common.{◌≡◌, ℕ, zero, suc, Bool, true, false, ◌||◌, List, [], ◌∷◌, ◌++◌, refl, sym, ap, ◌∙◌, subst, arith, inl, inr}
use Rattle.std.specs.Prelude.{◌↔◌, ◌⊎◌, Contains, IsSome, None, Option, Some, is_some}
use Rattle.std.proofs.lemmas.Bool.{cases_Bool, or_left, or_parts, or_right}
use Rattle.mt_types.specs.NameReading.{after_prefix}
use Rattle.mt_types.proofs.TextLemmas.{after_prefix_is, after_prefix_of}
use Rattle.mt_table.specs.declared.projection.Projection.{Projection}
use Rattle.mt_table.specs.declared.skip.Skip.{Skip}
use Rattle.mt_defs.specs.Folder.{Folder}
use Rattle.mt_defs.specs.Part.{LacksProjection}
use Rattle.mt_defs.specs.Projections.{projection_prefix}
use Rattle.mt_defs.specs.SkipIndexes.{LacksSkipIndex, skip_data_name, skip_marks_name}
use Rattle.mt_files.specs.Listings.{has_below}
use Rattle.mt_files.specs.SkipMarks.{has_files}
use Rattle.mt_law_checked.specs.Listed.{HasFilesAt}

-- ---- names below a prefix

-- where one is, one is found
pub below_found : (names : List (List ℕ)) (prefix rest : List ℕ) → Contains names (prefix ++ rest) → has_below names prefix ≡ true
below_found [] prefix rest (i, inside, at) = absurd (omega (arith, inside))
below_found (name ∷ names) prefix rest (zero, inside, at) =
    or_left (is_some (after_prefix prefix name)) (has_below names prefix) (ap (λ (found : Option (List ℕ)). is_some found) (after_prefix_of prefix name rest at))
below_found (name ∷ names) prefix rest (suc i, inside, at) = or_right (is_some (after_prefix prefix name)) (has_below names prefix) (below_found names prefix rest (i, omega (arith, inside), at))

-- where one is found, one is
pub found_below : (names : List (List ℕ)) (prefix : List ℕ) → has_below names prefix ≡ true → (rest : List ℕ) × Contains names (prefix ++ rest)
found_below [] prefix e = cc
found_below (name ∷ names) prefix e =
    by (after_prefix prefix name) refl (λ none. found_below names prefix (sym (ap (λ (found : Option (List ℕ)). is_some found || has_below names prefix) none) ∙ e))
  where
    by : (found : Option (List ℕ)) → after_prefix prefix name ≡ found → (after_prefix prefix name ≡ None → (rest : List ℕ) × Contains names (prefix ++ rest)) → (rest : List ℕ) × Contains (name ∷ names) (prefix ++ rest)
    by (Some rest) is later = (rest, (0, omega arith, after_prefix_is prefix name rest is))
    by None is later =
        let more = later is in
        (more.0, (suc more.1.0, (let inside = more.1.1 in omega (arith, inside)), more.1.2))

-- ---- projections

none_or_some : (held : Option (List ℕ)) → (held ≡ None) ⊎ IsSome held
none_or_some None = inl refl
none_or_some (Some bytes) = inr refl

module _ (folder : Folder) (names : List (List ℕ)) (listed : HasFilesAt folder names) (projection : Projection) where
  abbrev prefix : List ℕ
  prefix = projection_prefix projection

  -- a folder without a name below a projection's lacks the projection
  pub projection_lacks : has_below names prefix ≡ false → LacksProjection folder projection
  projection_lacks none name =
      elim (none_or_some (folder (prefix ++ name))) [
        | inl is ↦ is
        | inr some ↦ (let bad : true ≡ false = sym (below_found names prefix name ((listed (prefix ++ name)).0 some)) ∙ none in cc)
      ]

  -- and only such a folder
  pub lacks_none_below : LacksProjection folder projection → has_below names prefix ≡ false
  lacks_none_below lacks =
      elim (cases_Bool (has_below names prefix)) [
        | inl is ↦ (
            let found = found_below names prefix is in
            let some : is_some (folder (prefix ++ found.0)) ≡ true = (listed (prefix ++ found.0)).1 found.1 in
            let bad : false ≡ true = sym (ap (λ (held : Option (List ℕ)). is_some held) (lacks found.0)) ∙ some in
            cc
            )
        | inr e ↦ e
      ]

  -- a file below it is found
  pub some_below : (name bytes : List ℕ) → folder (prefix ++ name) ≡ Some bytes → has_below names prefix ≡ true
  some_below name bytes is = below_found names prefix name ((listed (prefix ++ name)).0 (ap (λ (held : Option (List ℕ)). is_some held) is))

-- ---- skip indexes

none_is : (held : Option (List ℕ)) → is_some held ≡ false → held ≡ None
none_is None e = refl
none_is (Some bytes) e = cc

module _ (folder : Folder) (ending : List ℕ) (skip : Skip) where
  -- without its files there is no index
  pub index_lacks : has_files folder ending skip ≡ false → LacksSkipIndex skip ending folder
  index_lacks none =
      let both = or_parts (is_some (folder (skip_data_name skip))) (is_some (folder (skip_marks_name skip ending))) none in
      record { no_data = none_is (folder (skip_data_name skip)) both.0; no_marks = none_is (folder (skip_marks_name skip ending)) both.1 }

  pub lacks_files : LacksSkipIndex skip ending folder → has_files folder ending skip ≡ false
  lacks_files lacks =
      ap (λ (held : Option (List ℕ)). is_some held || is_some (folder (skip_marks_name skip ending))) lacks.no_data ∙ ap (λ (held : Option (List ℕ)). is_some held) lacks.no_marks

  -- with its data file there is one
  pub data_there : (bytes : List ℕ) → folder (skip_data_name skip) ≡ Some bytes → has_files folder ending skip ≡ true
  data_there bytes is = ap (λ (held : Option (List ℕ)). is_some held || is_some (folder (skip_marks_name skip ending))) is
