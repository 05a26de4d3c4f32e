-- Listings.
use Rattle.std.proofs.Common.{◌≡◌, ◌<◌, ◌+◌, ℕ, suc, Bool, true, false, ◌||◌, List, [], ◌∷◌, ◌++◌, map, length, take, drop, get_or, slice_set, refl, sym, ◌∙◌, ap, subst, arith, add-one, drop-cons, append_assoc, length-take-le, ◌≤◌, Option, Some, None, ◌&&◌}
use Rattle.std.proofs.Math.Seq.{take-suc, split_at, set-append_seam}
use Rattle.std.proofs.Math.ListN.{drop_of_length-le}
use Rattle.std.proofs.lemmas.List.{take_all}
use Rattle.std.proofs.Math.Dec.{T}
use Rattle.std.specs.Cmp.{tied_itself}
use Rattle.std.specs.Option.{option_map}
use Rattle.std.specs.FinMap.Entries.{below_all}
use Rattle.std.proofs.lemmas.Option.{slice_get_read}
use Rattle.std.proofs.lemmas.Cmp.{nat_list_cmp_total}
use Rattle.std.proofs.lemmas.Map.Lookups.{exact_bytes}
use Rattle.std.specs.FinMap.{put, is_sorted, entries, entries-insert, entries_sorted}
use Rattle.mt_shelf.specs.Paths.{joined_path, name_below, is_path, is_relative}
use Rattle.std.specs.Str.{is_utf8, IsUtf8}
use Rattle.mt_shelf.specs.Files.{Files, entry_of, entries_below, is_file_path, HasPaths, IsListing}
use Rattle.mt_shelf.proofs.Puts.{joined_below, first_true, second_true, good_name_below}
use Rattle.mt_shelf.specs.KeptPaths.{entries-empty}
use Rattle.std.specs.List.{list_any, list_all, insert, filter_map, cons_option}
use Rattle.std.specs.Ordering.{nat_cmp, ordering_then, is_lt}
use Rattle.std.specs.Cmp.Lexicographic.{slice_cmp}
use Rattle.std.specs.declared.cmp.Ordering.{Ordering}
use Rattle.std.specs.declared.cmp.Ordering.TheVariants.{Less, Equal, Greater}
use Rattle.std.proofs.lemmas.Bool.{and_from}
use Rattle.mt_facts.proofs.Orderings.{nat_cmp_same}
use Rattle.mt_shelf.specs.Held.{by_order, with_entry, with_entry_if, with_entry_of, names_in, files_in, pair_of}
use Rattle.mt_shelf.specs.declared.file.Entry.{Entry}
use Rattle.mt_fault.specs.declared.file.FileBytes.{FileBytes}

pub any-names : (p : List ℕ → Bool) (held : List FileBytes) → list_any p (names_in held) ≡ list_any (λ f. p f.name) held
any-names p [] = refl
any-names p (file ∷ held) = ap (λ (b : Bool). p file.name || b) (any-names p held)

-- with_entry at the first entry of a rest, by how the names compare
at_first : (name : List ℕ) (size : ℕ) (e : Entry) (rest : List Entry) (o : Ordering) → slice_cmp nat_cmp name e.name ≡ o
    → with_entry name size (e ∷ rest) ≡ by_order o ((record { name = name; size = size }) ∷ e ∷ rest) ((record { name = e.name; size = size }) ∷ rest) (e ∷ with_entry name size rest)
at_first name size e rest o is = ap (λ (o' : Ordering). by_order o' ((record { name = name; size = size }) ∷ e ∷ rest) ((record { name = e.name; size = size }) ∷ rest) (e ∷ with_entry name size rest)) is

abbrev pub new_entry : List ℕ → ℕ → Entry
new_entry name size = record { name = name; size = size }

pub put_later : (name : List ℕ) (size i : ℕ) (es : List Entry) (e : Entry) → i < length es → e ≡ get_or es i e → slice_cmp nat_cmp name e.name ≡ Greater
    → with_entry name size es ≡ take i es ++ with_entry name size (drop i es) → with_entry name size es ≡ take (i + 1) es ++ with_entry name size (drop (i + 1) es)
put_later name size i es e inside is order before =
    before
    ∙ ap (λ (back : List Entry). take i es ++ with_entry name size back) (drop-cons es i e inside ∙ ap (λ (x : Entry). x ∷ drop (suc i) es) (sym is))
    ∙ ap (λ (back : List Entry). take i es ++ back) (at_first name size e (drop (suc i) es) Greater order)
    ∙ sym (append_assoc (take i es) (e ∷ []) (with_entry name size (drop (suc i) es)))
    ∙ ap (λ (front : List Entry). front ++ with_entry name size (drop (suc i) es)) (ap (λ (x : Entry). take i es ++ x ∷ []) is ∙ sym (take-suc es i e inside))
    ∙ (rw add-one refl)

pub put_here : (name : List ℕ) (size i : ℕ) (es : List Entry) (e : Entry) → i < length es → e ≡ get_or es i e → slice_cmp nat_cmp name e.name ≡ Less
    → with_entry name size es ≡ take i es ++ with_entry name size (drop i es) → with_entry name size es ≡ insert es i (new_entry name size)
put_here name size i es e inside is order before =
    let rest_is : drop i es ≡ e ∷ drop (suc i) es = drop-cons es i e inside ∙ ap (λ (x : Entry). x ∷ drop (suc i) es) (sym is) in
    before
    ∙ ap (λ (back : List Entry). take i es ++ with_entry name size back) rest_is
    ∙ ap (λ (back : List Entry). take i es ++ back) (at_first name size e (drop (suc i) es) Less order)
    ∙ ap (λ (back : List Entry). take i es ++ new_entry name size ∷ back) (sym rest_is)

pub put_over : (name : List ℕ) (size i : ℕ) (es : List Entry) (e : Entry) → i < length es → e ≡ get_or es i e → slice_cmp nat_cmp name e.name ≡ Equal
    → with_entry name size es ≡ take i es ++ with_entry name size (drop i es) → with_entry name size es ≡ slice_set es i (new_entry e.name size)
put_over name size i es e inside is order before =
    let rest_is : drop i es ≡ e ∷ drop (suc i) es = drop-cons es i e inside ∙ ap (λ (x : Entry). x ∷ drop (suc i) es) (sym is) in
    let len : length (take i es) ≡ i = let le : i ≤ length es = omega arith in length-take-le i es le in
    let whole : es ≡ take i es ++ e ∷ drop (suc i) es = split_at es i e inside ∙ ap (λ (x : Entry). take i es ++ x ∷ drop (suc i) es) (sym is) in
    before
    ∙ ap (λ (back : List Entry). take i es ++ with_entry name size back) rest_is
    ∙ ap (λ (back : List Entry). take i es ++ back) (at_first name size e (drop (suc i) es) Equal order)
    ∙ sym (set-append_seam (take i es) e (drop (suc i) es) (new_entry e.name size))
    ∙ ap (λ (n : ℕ). slice_set (take i es ++ e ∷ drop (suc i) es) n (new_entry e.name size)) len
    ∙ ap (λ (l : List Entry). slice_set l i (new_entry e.name size)) (sym whole)

pub put_last : (name : List ℕ) (size i : ℕ) (es : List Entry) → length es ≤ i
    → with_entry name size es ≡ take i es ++ with_entry name size (drop i es) → with_entry name size es ≡ es ++ new_entry name size ∷ []
put_last name size i es past before =
    before
    ∙ ap (λ (front : List Entry). front ++ with_entry name size (drop i es)) (take_all i es past)
    ∙ ap (λ (back : List Entry). es ++ with_entry name size back) (drop_of_length-le es past)

pub first : (a b : Bool) → T (a && b) → T a
first true b p = tt
first false b p = absurd p

pub second : (a b : Bool) → T (a && b) → T b
second true b p = p
second false b p = absurd p

pub both : (a b : Bool) → T a → T b → T (a && b)
both true b p q = q
both false b p q = absurd p

pub is_less : (r : Ordering) → T (is_lt r) → r ≡ Less
is_less Less h = refl
is_less Equal h = absurd h
is_less Greater h = absurd h

pub less_is : (r : Ordering) → r ≡ Less → T (is_lt r)
less_is r e = subst (λ o. T (is_lt o)) (sym e) tt

cmp_joined : (part n m : List ℕ) → slice_cmp nat_cmp (joined_path part n) (joined_path part m) ≡ slice_cmp nat_cmp n m
cmp_joined [] n m = ap (λ (o : Ordering). ordering_then o (slice_cmp nat_cmp n m)) (nat_cmp_same 47)
cmp_joined (p ∷ part) n m = ap (λ (o : Ordering). ordering_then o (slice_cmp nat_cmp (joined_path part n) (joined_path part m))) (nat_cmp_same p) ∙ cmp_joined part n m

cmp_below : (part k q n m : List ℕ) → name_below part k ≡ Some n → name_below part q ≡ Some m → slice_cmp nat_cmp k q ≡ slice_cmp nat_cmp n m
cmp_below part k q n m kn qm = ap (λ (x : List ℕ). slice_cmp nat_cmp x q) (joined_below part k n kn) ∙ ap (slice_cmp nat_cmp (joined_path part n)) (joined_below part q m qm) ∙ cmp_joined part n m

abbrev pub Pair : Type 0
Pair = List ℕ × List ℕ

abbrev shown : List ℕ → List Pair → List Entry
shown part es = filter_map (entry_of part) es

abbrev named_entry : Option (List ℕ) → ℕ → Option Entry
named_entry o size = option_map (λ (n : List ℕ). new_entry n size) o

-- a name that is below all is put in front
in_front : (part k n : List ℕ) (size : ℕ) → name_below part k ≡ Some n → (es : List Pair) → T (below_all (slice_cmp nat_cmp) k es) → with_entry n size (shown part es) ≡ new_entry n size ∷ shown part es
in_front part k n size kn [] less = refl
in_front part k n size kn (e ∷ es) less = by_name (name_below part e.0) refl (in_front part k n size kn es (second (is_lt (slice_cmp nat_cmp k e.0)) (below_all (slice_cmp nat_cmp) k es) less))
  where
    by_name : (o : Option (List ℕ)) → name_below part e.0 ≡ o → with_entry n size (shown part es) ≡ new_entry n size ∷ shown part es
        → with_entry n size (cons_option (named_entry o (length e.1)) (shown part es)) ≡ new_entry n size ∷ cons_option (named_entry o (length e.1)) (shown part es)
    by_name None is later = later
    by_name (Some m) is later = at_first n size (new_entry m (length e.1)) (shown part es) Less (sym (cmp_below part k e.0 n m kn is) ∙ is_less (slice_cmp nat_cmp k e.0) (first (is_lt (slice_cmp nat_cmp k e.0)) (below_all (slice_cmp nat_cmp) k es) less))

-- a file that is put into a map is put into the listing
pub shown-put : (part k v : List ℕ) (es : List Pair) → T (is_sorted (slice_cmp nat_cmp) es) → shown part (put (slice_cmp nat_cmp) k v es) ≡ with_entry_of part (k, v) (shown part es)
shown-put part k v [] sorted = by_name (name_below part k)
  where
    by_name : (o : Option (List ℕ)) → cons_option (named_entry o (length v)) [] ≡ with_entry_if o (length v) []
    by_name None = refl
    by_name (Some n) = refl
shown-put part k v (e ∷ es) sorted = by_cmp (slice_cmp nat_cmp k e.0) refl (shown-put part k v es (second (below_all (slice_cmp nat_cmp) e.0 es) (is_sorted (slice_cmp nat_cmp) es) sorted)) (first (below_all (slice_cmp nat_cmp) e.0 es) (is_sorted (slice_cmp nat_cmp) es) sorted)
  where
    less_all : (x : List ℕ) (rest : List Pair) → slice_cmp nat_cmp k x ≡ Less → T (below_all (slice_cmp nat_cmp) x rest) → T (below_all (slice_cmp nat_cmp) k rest)
    less_all x [] l all = tt
    less_all x (f ∷ rest) l all =
        let here : slice_cmp nat_cmp x f.0 ≡ Less = is_less (slice_cmp nat_cmp x f.0) (first (is_lt (slice_cmp nat_cmp x f.0)) (below_all (slice_cmp nat_cmp) x rest) all) in
        both (is_lt (slice_cmp nat_cmp k f.0)) (below_all (slice_cmp nat_cmp) k rest) (less_is (slice_cmp nat_cmp k f.0) (nat_list_cmp_total.trans k x f.0 l here)) (less_all x rest l (second (is_lt (slice_cmp nat_cmp x f.0)) (below_all (slice_cmp nat_cmp) x rest) all))

    at_less : (o : Option (List ℕ)) → name_below part k ≡ o → T (below_all (slice_cmp nat_cmp) k (e ∷ es)) → cons_option (named_entry o (length v)) (shown part (e ∷ es)) ≡ with_entry_if o (length v) (shown part (e ∷ es))
    at_less None is all = refl
    at_less (Some n) is all = sym (in_front part k n (length v) is (e ∷ es) all)

    at_equal : (o : Option (List ℕ)) → cons_option (named_entry o (length v)) (shown part es) ≡ with_entry_if o (length v) (cons_option (named_entry o (length e.1)) (shown part es))
    at_equal None = refl
    at_equal (Some n) = sym (at_first n (length v) (new_entry n (length e.1)) (shown part es) Equal (tied_itself nat_list_cmp_total n))

    at_greater : (o p : Option (List ℕ)) → name_below part k ≡ o → name_below part e.0 ≡ p → slice_cmp nat_cmp k e.0 ≡ Greater
        → cons_option (named_entry p (length e.1)) (with_entry_if o (length v) (shown part es)) ≡ with_entry_if o (length v) (cons_option (named_entry p (length e.1)) (shown part es))
    at_greater o None is also greater = refl
    at_greater None (Some m) is also greater = refl
    at_greater (Some n) (Some m) is also greater = sym (at_first n (length v) (new_entry m (length e.1)) (shown part es) Greater (sym (cmp_below part k e.0 n m is also) ∙ greater))

    by_cmp : (o : Ordering) → slice_cmp nat_cmp k e.0 ≡ o → shown part (put (slice_cmp nat_cmp) k v es) ≡ with_entry_of part (k, v) (shown part es) → T (below_all (slice_cmp nat_cmp) e.0 es)
        → shown part (by_order o ((k, v) ∷ e ∷ es) ((e.0, v) ∷ es) (e ∷ put (slice_cmp nat_cmp) k v es)) ≡ with_entry_of part (k, v) (shown part (e ∷ es))
    by_cmp Less is later all = at_less (name_below part k) refl (both (is_lt (slice_cmp nat_cmp k e.0)) (below_all (slice_cmp nat_cmp) k es) (less_is (slice_cmp nat_cmp k e.0) is) (less_all e.0 es is all))
    by_cmp Equal is later all = at_equal (name_below part e.0) ∙ ap (λ (p : List ℕ). with_entry_if (name_below part p) (length v) (shown part (e ∷ es))) (sym (exact_bytes k e.0 is))
    by_cmp Greater is later all = ap (cons_option (entry_of part e)) later ∙ at_greater (name_below part k) (name_below part e.0) refl refl is

-- the listing of one file more
pub entries_below-cons : (part : List ℕ) (file : FileBytes) (held : List FileBytes) → entries_below part (files_in (file ∷ held)) ≡ with_entry_of part (pair_of file) (entries_below part (files_in held))
entries_below-cons part file held =
    ap (shown part) (entries-insert nat_list_cmp_total (files_in held) file.name file.bytes)
    ∙ shown-put part file.name file.bytes (entries (files_in held)) (entries_sorted (files_in held))

pub entries_below-nil : (part : List ℕ) → entries_below part (files_in []) ≡ []
entries_below-nil part = ap (shown part) entries-empty

pub same_item : (es : List Entry) (i : ℕ) (a b : Entry) → i < length es → a ≡ get_or es i a → b ≡ get_or es i b → a ≡ b
same_item es i a b inside p q = some (sym (slice_get_read es (length es) i a refl inside p) ∙ slice_get_read es (length es) i b refl inside q)
  where
    some : Some a ≡ Some b → a ≡ b
    some e = cc

-- one file more, from the end
pub listed_from : (part : List ℕ) (held : List FileBytes) (i j : ℕ) (file : FileBytes) → i ≡ suc j → j < length held → file ≡ get_or held j file
    → with_entry_of part (pair_of file) (entries_below part (files_in (drop i held))) ≡ entries_below part (files_in (drop j held))
listed_from part held i j file next inside is =
    ap (λ (n : ℕ). with_entry_of part (pair_of file) (entries_below part (files_in (drop n held)))) next
    ∙ sym (entries_below-cons part file (drop (suc j) held))
    ∙ ap (λ (h : List FileBytes). entries_below part (files_in h)) (ap (λ (f : FileBytes). f ∷ drop (suc j) held) is ∙ sym (drop-cons held j file inside))

abbrev pub keyed : Entry → List ℕ × ℕ
keyed e = (e.name, e.size)

-- what lies above a path has names above its name
above : (part k n : List ℕ) → name_below part k ≡ Some n → (es : List Pair) → T (below_all (slice_cmp nat_cmp) k es) → T (below_all (slice_cmp nat_cmp) n (map keyed (shown part es)))
above part k n kn [] less = tt
above part k n kn (e ∷ es) less = by_name (name_below part e.0) refl (above part k n kn es (second (is_lt (slice_cmp nat_cmp k e.0)) (below_all (slice_cmp nat_cmp) k es) less))
  where
    by_name : (o : Option (List ℕ)) → name_below part e.0 ≡ o → T (below_all (slice_cmp nat_cmp) n (map keyed (shown part es))) → T (below_all (slice_cmp nat_cmp) n (map keyed (cons_option (named_entry o (length e.1)) (shown part es))))
    by_name None is later = later
    by_name (Some m) is later = both (is_lt (slice_cmp nat_cmp n m)) (below_all (slice_cmp nat_cmp) n (map keyed (shown part es))) (less_is (slice_cmp nat_cmp n m) (sym (cmp_below part k e.0 n m kn is) ∙ is_less (slice_cmp nat_cmp k e.0) (first (is_lt (slice_cmp nat_cmp k e.0)) (below_all (slice_cmp nat_cmp) k es) less))) later

-- a listing's names rise
rising-shown : (part : List ℕ) (es : List Pair) → T (is_sorted (slice_cmp nat_cmp) es) → T (is_sorted (slice_cmp nat_cmp) (map keyed (shown part es)))
rising-shown part [] sorted = tt
rising-shown part (e ∷ es) sorted = by_name (name_below part e.0) refl (rising-shown part es (second (below_all (slice_cmp nat_cmp) e.0 es) (is_sorted (slice_cmp nat_cmp) es) sorted))
  where
    by_name : (o : Option (List ℕ)) → name_below part e.0 ≡ o → T (is_sorted (slice_cmp nat_cmp) (map keyed (shown part es))) → T (is_sorted (slice_cmp nat_cmp) (map keyed (cons_option (named_entry o (length e.1)) (shown part es))))
    by_name None is later = later
    by_name (Some m) is later = both (below_all (slice_cmp nat_cmp) m (map keyed (shown part es))) (is_sorted (slice_cmp nat_cmp) (map keyed (shown part es))) (above part e.0 m is es (first (below_all (slice_cmp nat_cmp) e.0 es) (is_sorted (slice_cmp nat_cmp) es) sorted)) later

pub true_from_T : (b : Bool) → T b → b ≡ true
true_from_T true h = refl
true_from_T false h = absurd h

abbrev good_name : Entry → Bool
good_name e = is_utf8 e.name && is_relative e.name

-- a listing's names have their form
names-shown : (part : List ℕ) → IsUtf8 part → is_path part ≡ true → (es : List Pair) → list_all is_file_path (map (λ e. e.0) es) ≡ true → list_all good_name (shown part es) ≡ true
names-shown part utf8 form [] good = refl
names-shown part utf8 form (e ∷ es) good = by_name (name_below part e.0) refl (names-shown part utf8 form es (second_true (is_file_path e.0) (list_all is_file_path (map (λ f. f.0) es)) good))
  where
    by_name : (o : Option (List ℕ)) → name_below part e.0 ≡ o → list_all good_name (shown part es) ≡ true → list_all good_name (cons_option (named_entry o (length e.1)) (shown part es)) ≡ true
    by_name None is later = later
    by_name (Some n) is later = and_from (is_utf8 n && is_relative n) (list_all good_name (shown part es)) (good_name_below part e.0 n utf8 form (first_true (is_file_path e.0) (list_all is_file_path (map (λ f. f.0) es)) good) is) later

pub is_listing : (part : List ℕ) (files : Files) → IsUtf8 part → is_path part ≡ true → HasPaths files → IsListing (entries_below part files)
is_listing part files utf8 form paths = record {
  names = names-shown part utf8 form (entries files) paths;
  rising = true_from_T _ (rising-shown part (entries files) (entries_sorted files));
}
