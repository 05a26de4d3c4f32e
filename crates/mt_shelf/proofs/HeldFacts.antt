-- Files in a list, as a finite map.
use Rattle.std.proofs.Common.{◌≡◌, ◌<◌, ◌≤◌, ◌+◌, ℕ, suc, nat_eq, Bool, true, false, cond, ◌&&◌, List, [], ◌∷◌, ◌++◌, map, length, take, drop, get_or, slice_set, slice_get, Option, Some, None, is_some, length-append, refl, sym, ◌∙◌, ap, subst, arith, add-one, length-take-le}
use Rattle.std.proofs.Math.Seq.{split_at, set-append_seam, get_or-append_seam, take-suc}
use Rattle.std.proofs.lemmas.List.{length-set, map-append}
use Rattle.std.proofs.lemmas.List.Folds.{list_all-append}
use Rattle.std.proofs.lemmas.Option.{slice_get_read}
use Rattle.std.specs.Option.{option_map}
use Rattle.std.specs.List.{list_all}
use Rattle.std.specs.Ordering.{nat_cmp, eq_by_cmp, is_eq}
use Rattle.std.specs.Cmp.Lexicographic.{slice_cmp, pointwise, texts_ties}
use Rattle.std.specs.FinMap.{find, get, insert, get-from_entries, get-insert, same_map, len, len-insert, nat_cmp-IsAntisymmetric, slice_cmp-IsAntisymmetric, from_entries, from_entries_push}
use Rattle.std.proofs.lemmas.Cmp.{nat_list_cmp_total}
use Rattle.std.proofs.lemmas.Map.Lookups.{exact_bytes}
use Rattle.std.specs.declared.cmp.Ordering.{Ordering}
use Rattle.std.specs.declared.cmp.Ordering.TheVariants.{Less, Equal, Greater}
use Rattle.mt_shelf.specs.Files.{Files, is_file_path}
use Rattle.mt_shelf.specs.Held.{pair_of, files_in, IsFirst, names_in, all_paths, AllDiffer}
use Rattle.mt_fault.specs.declared.file.FileBytes.{FileBytes}

-- what a path has in a list
abbrev pub at_path : List ℕ → List FileBytes → Option (List ℕ)
at_path path held = find (slice_cmp nat_cmp) path (map pair_of held)

abbrev pub same_path : List ℕ → List ℕ → Bool
same_path = eq_by_cmp (slice_cmp nat_cmp)

pub get-files_in : (held : List FileBytes) (path : List ℕ) → get (files_in held) path ≡ at_path path held
get-files_in held path = get-from_entries nat_list_cmp_total (map pair_of held) path

pub same_files : (m n : Files) → ((q : List ℕ) → get m q ≡ get n q) → m ≡ n
same_files m n same = same_map nat_list_cmp_total (slice_cmp-IsAntisymmetric nat_cmp-IsAntisymmetric) m n same

abbrev or_else : Option (List ℕ) → Option (List ℕ) → Option (List ℕ)
or_else None later = later
or_else (Some v) later = Some v

cond_or : (b : Bool) (v : List ℕ) (x y : Option (List ℕ)) → cond b (Some v) (or_else x y) ≡ or_else (cond b (Some v) x) y
cond_or true v x y = refl
cond_or false v x y = refl

at_path-append : (q : List ℕ) (front back : List FileBytes) → at_path q (front ++ back) ≡ or_else (at_path q front) (at_path q back)
at_path-append q [] back = refl
at_path-append q (f ∷ front) back = ap (λ (o : Option (List ℕ)). cond (same_path q f.name) (Some f.bytes) o) (at_path-append q front back) ∙ cond_or (same_path q f.name) f.bytes (at_path q front) (at_path q back)

is_same : (q path : List ℕ) → same_path q path ≡ true → q ≡ path
is_same q path e = exact_bytes q path (equal (slice_cmp nat_cmp q path) e)
  where
    equal : (r : Ordering) → is_eq r ≡ true → r ≡ Equal
    equal Less h = cc
    equal Equal h = refl
    equal Greater h = cc

-- with another file in the place of the first of its path
replaced : (q path : List ℕ) (front : List FileBytes) (file other : FileBytes) (back : List FileBytes) → at_path path front ≡ None → file.name ≡ path → other.name ≡ path
    → at_path q (front ++ other ∷ back) ≡ cond (same_path q path) (Some other.bytes) (at_path q (front ++ file ∷ back))
replaced q path front file other back before named also = at_path-append q front (other ∷ back) ∙ by_test (same_path q path) refl ∙ ap (λ (o : Option (List ℕ)). cond (same_path q path) (Some other.bytes) o) (sym (at_path-append q front (file ∷ back)))
  where
    tested : (f : FileBytes) → f.name ≡ path → (b : Bool) → same_path q path ≡ b → at_path q (f ∷ back) ≡ cond b (Some f.bytes) (at_path q back)
    tested f is b e = ap (λ (t : Bool). cond t (Some f.bytes) (at_path q back)) (ap (same_path q) is ∙ e)

    by_test : (b : Bool) → same_path q path ≡ b → or_else (at_path q front) (at_path q (other ∷ back)) ≡ cond b (Some other.bytes) (or_else (at_path q front) (at_path q (file ∷ back)))
    by_test true e =
        let P : List ℕ → Type 0 = λ p. at_path p front ≡ None in
        let none : at_path q front ≡ None = subst P (sym (is_same q path e)) before in
        ap (λ (o : Option (List ℕ)). or_else o (at_path q (other ∷ back))) none ∙ tested other also true e
    by_test false e = ap (or_else (at_path q front)) (tested other also false e ∙ sym (tested file named false e))

pub files-replaced : (front : List FileBytes) (file other : FileBytes) (back : List FileBytes) (path : List ℕ) → at_path path front ≡ None → file.name ≡ path → other.name ≡ path
    → files_in (front ++ other ∷ back) ≡ insert (files_in (front ++ file ∷ back)) path other.bytes
files-replaced front file other back path before named also = same_files _ _ (λ q.
    get-files_in (front ++ other ∷ back) q
    ∙ replaced q path front file other back before named also
    ∙ ap (λ (o : Option (List ℕ)). cond (same_path q path) (Some other.bytes) o) (sym (get-files_in (front ++ file ∷ back) q))
    ∙ sym (get-insert nat_list_cmp_total (files_in (front ++ file ∷ back)) path other.bytes q))

-- a file in the place of the first of its path, by its index
pub files-set : (held : List FileBytes) (i : ℕ) (old : FileBytes) (path bytes : List ℕ) → IsFirst held path i → old ≡ get_or held i old
    → files_in (slice_set held i (record { name = old.name; bytes = bytes })) ≡ insert (files_in held) path bytes
files-set held i old path bytes first is = elim_whole first.earlier first.file first.later first.whole first.index (sym (get-files_in first.earlier path) ∙ first.absent) first.named
  where
    elim_whole : (front : List FileBytes) (file : FileBytes) (back : List FileBytes) → held ≡ front ++ file ∷ back → length front ≡ i → at_path path front ≡ None → file.name ≡ path
        → files_in (slice_set held i (record { name = old.name; bytes = bytes })) ≡ insert (files_in held) path bytes
    elim_whole front file back whole index before named =
        let there : get_or held i old ≡ file = ap (λ (h : List FileBytes). get_or h i old) whole ∙ ap (λ (n : ℕ). get_or (front ++ file ∷ back) n old) (sym index) ∙ get_or-append_seam front file back old in
        let old_is : old.name ≡ path = ap (λ (f : FileBytes). f.name) (is ∙ there) ∙ named in
        let other : FileBytes = record { name = old.name; bytes = bytes } in
        let set_is : slice_set held i other ≡ front ++ other ∷ back = ap (λ (h : List FileBytes). slice_set h i other) whole ∙ ap (λ (n : ℕ). slice_set (front ++ file ∷ back) n other) (sym index) ∙ set-append_seam front file back other in
        ap files_in set_is ∙ files-replaced front file other back path before named old_is ∙ ap (λ (h : List FileBytes). insert (files_in h) path bytes) (sym whole)

-- a new path at the end
pub files-push : (held : List FileBytes) (file : FileBytes) → get (files_in held) file.name ≡ None → files_in (held ++ file ∷ []) ≡ insert (files_in held) file.name file.bytes
files-push held file none =
    ap (from_entries {R = slice_cmp nat_cmp}) (map-append pair_of held (file ∷ []))
    ∙ from_entries_push nat_list_cmp_total (slice_cmp-IsAntisymmetric nat_cmp-IsAntisymmetric) (map pair_of held) file.name file.bytes (sym (get-files_in held file.name) ∙ none)

-- one file more, which has another path
pub one_more : (path : List ℕ) (held : List FileBytes) (i : ℕ) (file : FileBytes) → i < length held → file ≡ get_or held i file → at_path path (take i held) ≡ None → pointwise nat_eq path file.name ≡ false → at_path path (take (i + 1) held) ≡ None
one_more path held i file inside is before differs =
    rw (add-one, take-suc held i file inside) (
    at_path-append path (take i held) (get_or held i file ∷ [])
    ∙ ap (λ (o : Option (List ℕ)). or_else o (at_path path (get_or held i file ∷ []))) before
    ∙ ap (λ (f : FileBytes). at_path path (f ∷ [])) (sym is)
    ∙ ap (λ (t : Bool). cond t (Some file.bytes) None) (sym (texts_ties path file.name) ∙ differs))

pub first_is : (path : List ℕ) (held : List FileBytes) (i : ℕ) (file : FileBytes) → i < length held → file ≡ get_or held i file → at_path path (take i held) ≡ None → pointwise nat_eq path file.name ≡ true → IsFirst held path i
first_is path held i file inside is before same = record {
  earlier = take i held;
  file = file;
  later = drop (suc i) held;
  whole = split_at held i file inside ∙ ap (λ (f : FileBytes). take i held ++ f ∷ drop (suc i) held) (sym is);
  index = let le : i ≤ length held = omega arith in length-take-le i held le;
  absent = get-files_in (take i held) path ∙ before;
  named = sym (is_same path file.name (sym (texts_ties path file.name) ∙ same));
}

names-set : (front : List FileBytes) (file other : FileBytes) (back : List FileBytes) → other.name ≡ file.name → names_in (front ++ other ∷ back) ≡ names_in (front ++ file ∷ back)
names-set front file other back same = map-append (λ f. f.name) front (other ∷ back) ∙ ap (λ (name : List ℕ). names_in front ++ name ∷ names_in back) same ∙ sym (map-append (λ f. f.name) front (file ∷ back))

pub paths-set : (held : List FileBytes) (i : ℕ) (old : FileBytes) (path bytes : List ℕ) → IsFirst held path i → old ≡ get_or held i old
    → all_paths (slice_set held i (record { name = old.name; bytes = bytes })) ≡ all_paths held
paths-set held i old path bytes first is = elim_whole first.earlier first.file first.later first.whole first.index
  where
    elim_whole : (front : List FileBytes) (file : FileBytes) (back : List FileBytes) → held ≡ front ++ file ∷ back → length front ≡ i → all_paths (slice_set held i (record { name = old.name; bytes = bytes })) ≡ all_paths held
    elim_whole front file back whole index =
        let there : get_or held i old ≡ file = ap (λ (h : List FileBytes). get_or h i old) whole ∙ ap (λ (n : ℕ). get_or (front ++ file ∷ back) n old) (sym index) ∙ get_or-append_seam front file back old in
        let other : FileBytes = record { name = old.name; bytes = bytes } in
        let set_is : slice_set held i other ≡ front ++ other ∷ back = ap (λ (h : List FileBytes). slice_set h i other) whole ∙ ap (λ (n : ℕ). slice_set (front ++ file ∷ back) n other) (sym index) ∙ set-append_seam front file back other in
        ap all_paths set_is ∙ ap (list_all is_file_path) (names-set front file other back (ap (λ (f : FileBytes). f.name) (is ∙ there))) ∙ ap all_paths (sym whole)

both : (a b : Bool) → a ≡ true → b ≡ true → (a && (b && true)) ≡ true
both a b p q = rw (p, q) refl

pub paths-push : (held : List FileBytes) (file : FileBytes) → all_paths held ≡ true → is_file_path file.name ≡ true → all_paths (held ++ file ∷ []) ≡ true
paths-push held file good path = ap (list_all is_file_path) (map-append (λ f. f.name) held (file ∷ [])) ∙ list_all-append is_file_path (names_in held) (file.name ∷ []) ∙ both (all_paths held) (is_file_path file.name) good path

pub found_first : (path : List ℕ) (held : List FileBytes) (i : ℕ) (file : FileBytes) → i < length held → file ≡ get_or held i file → at_path path (take i held) ≡ None → pointwise nat_eq path file.name ≡ true → get (files_in held) path ≡ option_map (λ f. f.bytes) (slice_get held i)
found_first path held i file inside is before same =
    get-files_in held path
    ∙ ap (at_path path) (split_at held i file inside ∙ ap (λ (f : FileBytes). take i held ++ f ∷ drop (suc i) held) (sym is))
    ∙ at_path-append path (take i held) (file ∷ drop (suc i) held)
    ∙ ap (λ (o : Option (List ℕ)). or_else o (at_path path (file ∷ drop (suc i) held))) before
    ∙ ap (λ (t : Bool). cond t (Some file.bytes) (at_path path (drop (suc i) held))) (sym (texts_ties path file.name) ∙ same)
    ∙ ap (option_map (λ f. f.bytes)) (sym (slice_get_read held (length held) i file refl inside is))

-- a file in the place of the one of its path
pub differ-set : (held : List FileBytes) (i : ℕ) (old : FileBytes) (path bytes : List ℕ) → IsFirst held path i → old ≡ get_or held i old → i < length held
    → get (files_in held) path ≡ option_map (λ f. f.bytes) (slice_get held i) → AllDiffer held → AllDiffer (slice_set held i (record { name = old.name; bytes = bytes }))
differ-set held i old path bytes first is inside found differ =
    let there : get (files_in held) path ≡ Some old.bytes = found ∙ ap (option_map (λ f. f.bytes)) (slice_get_read held (length held) i old refl inside is) in
    ap len (files-set held i old path bytes first is)
    ∙ len-insert nat_list_cmp_total (files_in held) path bytes
    ∙ ap (λ (b : Bool). cond b (len (files_in held)) (len (files_in held) + 1)) (ap is_some there)
    ∙ differ
    ∙ sym (length-set held i (record { name = old.name; bytes = bytes }))

-- a new path at the end
pub differ-push : (held : List FileBytes) (file : FileBytes) → get (files_in held) file.name ≡ None → AllDiffer held → AllDiffer (held ++ file ∷ [])
differ-push held file none differ =
    ap len (files-push held file none)
    ∙ len-insert nat_list_cmp_total (files_in held) file.name file.bytes
    ∙ ap (λ (b : Bool). cond b (len (files_in held)) (len (files_in held) + 1)) (ap is_some none)
    ∙ ap (λ (n : ℕ). n + 1) differ
    ∙ sym (length-append held (file ∷ []))
