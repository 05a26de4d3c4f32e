-- Lemmas: a test of all paths of a map is one of the list that it was made of. The last is the law
-- of the shelves in memory, and so stands here and not in proofs/.
use Rattle.std.specs.Prelude.{◌≡◌, ℕ, Bool, true, false, ◌||◌, ◌&&◌, List, [], ◌∷◌, map, length, refl}
use Rattle.std.proofs.Common.{sym, ◌∙◌, ap, arith}
use Rattle.std.specs.List.{list_any, list_all}
use Rattle.std.specs.Ordering.{nat_cmp}
use Rattle.std.specs.Cmp.Lexicographic.{slice_cmp}
use Rattle.std.specs.FinMap.{entries, keys, put, entries-insert, empty, len-entries, len-empty, slice_cmp-IsAntisymmetric, nat_cmp-IsAntisymmetric}
use Rattle.std.proofs.lemmas.Cmp.{nat_list_cmp_total}
use Rattle.std.specs.declared.cmp.Ordering.TheVariants.{Less, Equal, Greater}
use Rattle.mt_shelf.specs.Held.{by_order, files_in, names_in, all_paths}
use Rattle.mt_shelf.specs.Files.{HasPaths, is_file_path}
use Rattle.mt_fault.specs.declared.file.FileBytes.{FileBytes}

abbrev Pair : Type 0
Pair = List ℕ × List ℕ

abbrev firsts : List Pair → List (List ℕ)
firsts es = map (λ (e : Pair). e.0) es

same_key : (k q : List ℕ) → slice_cmp nat_cmp k q ≡ Equal → k ≡ q
same_key = slice_cmp-IsAntisymmetric nat_cmp-IsAntisymmetric

twice_or : (a b x : Bool) → a ≡ b → (b || x) ≡ (a || (b || x))
twice_or true true x e = refl
twice_or false b x e = refl
twice_or true false x e = cc

swapped_or : (a b x : Bool) → (b || (a || x)) ≡ (a || (b || x))
swapped_or true true x = refl
swapped_or true false x = refl
swapped_or false true x = refl
swapped_or false false x = refl

twice_and : (a b x : Bool) → a ≡ b → (b && x) ≡ (a && (b && x))
twice_and true b x e = refl
twice_and false false x e = refl
twice_and false true x e = cc

swapped_and : (a b x : Bool) → (b && (a && x)) ≡ (a && (b && x))
swapped_and true true x = refl
swapped_and true false x = refl
swapped_and false true x = refl
swapped_and false false x = refl

any-put : (p : List ℕ → Bool) (k v : List ℕ) (es : List Pair) → list_any p (firsts (put (slice_cmp nat_cmp) k v es)) ≡ (p k || list_any p (firsts es))
any-put p k v [] = refl
any-put p k v (e ∷ es) = elim (slice_cmp nat_cmp k e.0) as (λ o. slice_cmp nat_cmp k e.0 ≡ o → list_any p (firsts (by_order o ((k, v) ∷ e ∷ es) ((e.0, v) ∷ es) (e ∷ put (slice_cmp nat_cmp) k v es))) ≡ (p k || (p e.0 || list_any p (firsts es)))) [
  | Less ↦ λ _. refl
  | Equal ↦ λ o. twice_or (p k) (p e.0) (list_any p (firsts es)) (ap p (same_key k e.0 o))
  | Greater ↦ λ _. ap (λ (b : Bool). p e.0 || b) (any-put p k v es) ∙ swapped_or (p k) (p e.0) (list_any p (firsts es))
] refl

all-put : (p : List ℕ → Bool) (k v : List ℕ) (es : List Pair) → list_all p (firsts (put (slice_cmp nat_cmp) k v es)) ≡ (p k && list_all p (firsts es))
all-put p k v [] = refl
all-put p k v (e ∷ es) = elim (slice_cmp nat_cmp k e.0) as (λ o. slice_cmp nat_cmp k e.0 ≡ o → list_all p (firsts (by_order o ((k, v) ∷ e ∷ es) ((e.0, v) ∷ es) (e ∷ put (slice_cmp nat_cmp) k v es))) ≡ (p k && (p e.0 && list_all p (firsts es)))) [
  | Less ↦ λ _. refl
  | Equal ↦ λ o. twice_and (p k) (p e.0) (list_all p (firsts es)) (ap p (same_key k e.0 o))
  | Greater ↦ λ _. ap (λ (b : Bool). p e.0 && b) (all-put p k v es) ∙ swapped_and (p k) (p e.0) (list_all p (firsts es))
] refl

no_length : (es : List Pair) → length es ≡ 0 → es ≡ []
no_length [] e = refl
no_length (e ∷ es) is = absurd (omega arith)

pub entries-empty : entries (empty {X = List ℕ} {R = slice_cmp nat_cmp}) ≡ []
entries-empty = no_length (entries (empty {X = List ℕ} {R = slice_cmp nat_cmp})) (sym (len-entries (empty {X = List ℕ} {R = slice_cmp nat_cmp})) ∙ len-empty (slice_cmp nat_cmp) (List ℕ))

pub keys_any : (p : List ℕ → Bool) (held : List FileBytes) → list_any p (keys (files_in held)) ≡ list_any p (names_in held)
keys_any p [] = ap (λ (es : List Pair). list_any p (firsts es)) entries-empty
keys_any p (file ∷ held) =
    ap (λ (es : List Pair). list_any p (firsts es)) (entries-insert nat_list_cmp_total (files_in held) file.name file.bytes)
    ∙ any-put p file.name file.bytes (entries (files_in held))
    ∙ ap (λ (b : Bool). p file.name || b) (keys_any p held)

pub keys_all : (p : List ℕ → Bool) (held : List FileBytes) → list_all p (keys (files_in held)) ≡ list_all p (names_in held)
keys_all p [] = ap (λ (es : List Pair). list_all p (firsts es)) entries-empty
keys_all p (file ∷ held) =
    ap (λ (es : List Pair). list_all p (firsts es)) (entries-insert nat_list_cmp_total (files_in held) file.name file.bytes)
    ∙ all-put p file.name file.bytes (entries (files_in held))
    ∙ ap (λ (b : Bool). p file.name && b) (keys_all p held)

pub known_paths : (held : List FileBytes) → all_paths held ≡ true → HasPaths (files_in held)
known_paths held good = keys_all is_file_path held ∙ good
