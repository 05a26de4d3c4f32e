-- A piece of bytes, and what follows it.
use Rattle.std.proofs.Common.{◌≡◌, ℕ, ◌+◌, List, ◌++◌, take, drop, Option, Some, None, refl, ap, sym, ◌∙◌, append_assoc}
use Rattle.std.proofs.Math.Seq.{take-add}
use Rattle.std.specs.Io.KnownBytes.{append_known, prepend_known}
use Rattle.std.proofs.lemmas.List.{take-append-drop, drop-drop}

pub cut_there : (bytes subslice : List ℕ) (at n : ℕ) → subslice ≡ take n (drop at bytes) → drop at bytes ≡ subslice ++ drop (at + n) bytes
cut_there bytes subslice at n same = sym (take-append-drop n (drop at bytes)) ∙ ap (λ (front : List ℕ). front ++ drop n (drop at bytes)) (sym same) ∙ ap (λ (back : List ℕ). subslice ++ back) (drop-drop n at bytes)

-- bytes written in two steps
pub append_twice : (known : Option (List ℕ)) (bytes : List ℕ) (at n : ℕ) → append_known (append_known known (take at bytes)) (take n (drop at bytes)) ≡ append_known known (take (at + n) bytes)
append_twice None bytes at n = refl
append_twice (Some xs) bytes at n = ap Some (append_assoc xs (take at bytes) (take n (drop at bytes)) ∙ ap (λ (ys : List ℕ). xs ++ ys) (sym (take-add at n bytes)))

-- bytes read in two steps
pub prepend_twice : (known : Option (List ℕ)) (front back : List ℕ) → prepend_known front (prepend_known back known) ≡ prepend_known (front ++ back) known
prepend_twice None front back = refl
prepend_twice (Some xs) front back = ap Some (sym (append_assoc front back xs))
