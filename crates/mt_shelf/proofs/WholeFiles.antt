-- A file read in slices.
use Rattle.std.proofs.Common.{◌≡◌, ◌≤◌, ◌+◌, ℕ, List, ◌++◌, length, take, drop, Option, Some, None, ap, sym, ◌∙◌, arith, subst, length-take-le}
use Rattle.std.specs.Prelude.{IfSome}
use Rattle.std.specs.FinMap.{get}
use Rattle.std.proofs.Math.Seq.{take-add}
use Rattle.mt_shelf.specs.Causes.{grown_count}
use Rattle.mt_shelf.specs.Files.{Files, IsSliceOf}
use Rattle.mt_shelf.specs.State.{State, after_read}

-- a slice more
slice_more : (file old new : List ℕ) (at n : ℕ) → take at file ≡ take at old → take at new ≡ take at old → n ≤ length (drop at new) → IsSliceOf file at (take n (drop at new)) → take (at + n) file ≡ take (at + n) new
slice_more file old new at n before same inside slice =
    let P : ℕ → Type 0 = λ k. take k (drop at file) ≡ take n (drop at new) in
    take-add at n file ∙ ap (λ (xs : List ℕ). xs ++ take n (drop at file)) (before ∙ sym same) ∙ ap (λ (xs : List ℕ). take at new ++ xs) (subst P (length-take-le n (drop at new) inside) slice.same) ∙ sym (take-add at n new)

pub known_more : (files : Option Files) (path old new : List ℕ) (at n : ℕ) → IfSome files (λ fs. IfSome (get fs path) (λ file. take at file ≡ take at old)) → take at new ≡ take at old → n ≤ length (drop at new)
    → IfSome files (λ fs. IfSome (get fs path) (λ file. IsSliceOf file at (take n (drop at new)))) → IfSome files (λ fs. IfSome (get fs path) (λ file. take (at + n) file ≡ take (at + n) new))
known_more None path old new at n before same inside slice = tt
known_more (Some fs) path old new at n before same inside slice = of_file (get fs path) before slice
  where
    of_file : (o : Option (List ℕ)) → IfSome o (λ file. take at file ≡ take at old) → IfSome o (λ file. IsSliceOf file at (take n (drop at new))) → IfSome o (λ file. take (at + n) file ≡ take (at + n) new)
    of_file None b s = tt
    of_file (Some file) b s = slice_more file old new at n b same inside s

-- counts compose
pub grown_twice : (count a b : ℕ) → grown_count (grown_count count a) b ≡ grown_count count (a + b)
grown_twice count a b = grind arith

pub read_twice : (a b : ℕ) (s : State) → after_read b (after_read a s) ≡ after_read (a + b) s
read_twice a b s = ap (λ (n : ℕ). record s { taken = n }) (grown_twice s.taken a b)
