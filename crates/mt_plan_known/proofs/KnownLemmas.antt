-- Granules and keys.
use Rattle.std.proofs.Common.{◌≡◌, ℕ, ◌+◌, List, [], ◌∷◌, ◌++◌, length, refl, ap, sym, subst, ◌∙◌}
use Rattle.std.specs.Prelude.{Ok}
use Rattle.mt_types.proofs.StepLemmas.{ok_one}
use Rattle.mt_table.specs.declared.definition.PartDef.{PartDef}
use Rattle.mt_defs.specs.Folder.{Folder}
use Rattle.mt_files.specs.PartTexts.{order_reading, row_count_reading}
use Rattle.mt_plan_known.specs.declared.known.Known.{Known}
use Rattle.mt_plan_known.specs.Known.{AreMarked, IsKnown, TellsGranules, TellsKeys}
use Rattle.mt_plan_known.proofs.GranuleLemmas.{granules_once}

module _ (definition : PartDef) (folder : Folder) (order : List ℕ) (count : ℕ) (lists : order_reading definition folder ≡ Ok order) (counts : row_count_reading definition folder ≡ Ok count) where
  pub known_granules : (known : Known) → IsKnown definition folder known → TellsGranules definition folder order count known.granules
  known_granules known is =
      subst (λ (o : List ℕ). TellsGranules definition folder o count known.granules) (ok_one order is.order (sym lists ∙ is.lists))
      (subst (λ (n : ℕ). TellsGranules definition folder is.order n known.granules) (ok_one count is.count (sym counts ∙ is.counts)) is.granules)

  pub known_keys : (granules : List ℕ) → TellsGranules definition folder order count granules → (known : Known) → IsKnown definition folder known → TellsKeys definition folder (length granules + 1) known.keys
  known_keys granules told known is =
      subst (λ (gs : List ℕ). TellsKeys definition folder (length gs + 1) known.keys) (granules_once definition folder order count known.granules granules (known_granules known is) told) is.keys
