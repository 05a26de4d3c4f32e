use Rattle.std.proofs.Common.{◌≡◌, drop}
use Rattle.std.specs.List.{list_all}
use Rattle.mt_types.specs.Fits.{fits_of}
use Rattle.mt_types.proofs.fit.+fits.Given as goal

-- what is left decides
abbrev pub invariant-all_fit-loop-item : goal.invariant-all_fit-loop-item
invariant-all_fit-loop-item l = list_all (fits_of l.ty) (drop l.item-index l.items) ≡ list_all (fits_of l.ty) l.items
