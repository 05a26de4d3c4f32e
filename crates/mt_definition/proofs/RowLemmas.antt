-- The first row that falls, and the granule of a row.
use Rattle.std.proofs.Common.{◌≡◌, ℕ, zero, suc, ◌+◌, ◌-◌, ◌<◌, ◌≤◌, Bool, true, false, List, [], ◌∷◌, length, drop, refl, ap, sym, ◌∙◌, arith, get_or}
use Rattle.std.specs.Prelude.{Option, Some, None, option_map, if◌then◌else◌, All}
use Rattle.std.proofs.lemmas.List.Elements.{All-nil, All-cons, All-head, All-tail}
use Rattle.std.specs.Ordering.{is_lt}
use Rattle.std.specs.declared.cmp.Ordering.{Ordering}
use Rattle.mt_defs.specs.Rows.{Row, key_cmp}
use Rattle.mt_definition.specs.RowsReading.{first_fall, first_index, granule_of}

-- so many rows later
abbrev pub later_by : ℕ → Option ℕ → Option ℕ
later_by n found = option_map (λ k. k + n) found

one_later : (n : ℕ) (found : Option ℕ) → later_by n (option_map suc found) ≡ later_by (suc n) found
one_later n None = refl
one_later n (Some k) = ap Some (omega arith)

later_suc : (n : ℕ) (found : Option ℕ) → later_by (suc n) found ≡ option_map suc (later_by n found)
later_suc n None = refl
later_suc n (Some k) = ap Some (omega arith)

not_later : (found : Option ℕ) → later_by 0 found ≡ found
not_later None = refl
not_later (Some k) = ap Some (omega arith)

-- the row doesn't fall, so the first that does is a later one
pub fall_step : (sort : List ℕ) (rows : List Row) (n : ℕ) (d e : Row) → suc n < length rows → is_lt (key_cmp sort (get_or rows (suc n) d) (get_or rows n e)) ≡ false
    → later_by n (first_fall sort (drop n rows)) ≡ later_by (suc n) (first_fall sort (drop (suc n) rows))
fall_step sort [] n d e inside rises = absurd (omega (arith, inside))
fall_step sort (a ∷ []) zero d e inside rises = absurd (omega (arith, inside))
fall_step sort (a ∷ b ∷ rows) zero d e inside rises =
    ap (λ t. later_by 0 (if t then Some 1 else option_map suc (first_fall sort (b ∷ rows)))) rises ∙ one_later 0 (first_fall sort (b ∷ rows))
fall_step sort (a ∷ rows) (suc n) d e inside rises =
    later_suc n (first_fall sort (drop n rows)) ∙ ap (option_map suc) (fall_step sort rows n d e (omega (arith, inside)) rises) ∙ sym (later_suc (suc n) (first_fall sort (drop (suc n) rows)))

-- the row falls
pub fall_here : (sort : List ℕ) (rows : List Row) (n : ℕ) (d e : Row) → suc n < length rows → is_lt (key_cmp sort (get_or rows (suc n) d) (get_or rows n e)) ≡ true
    → later_by n (first_fall sort (drop n rows)) ≡ Some (suc n)
fall_here sort [] n d e inside falls = absurd (omega (arith, inside))
fall_here sort (a ∷ []) zero d e inside falls = absurd (omega (arith, inside))
fall_here sort (a ∷ b ∷ rows) zero d e inside falls = ap (λ t. later_by 0 (if t then Some 1 else option_map suc (first_fall sort (b ∷ rows)))) falls ∙ ap Some (omega arith)
fall_here sort (a ∷ rows) (suc n) d e inside falls = later_suc n (first_fall sort (drop n rows)) ∙ ap (option_map suc) (fall_here sort rows n d e (omega (arith, inside)) falls)

-- no row is left
pub fall_none : (sort : List ℕ) (rows : List Row) (n : ℕ) → length rows ≤ suc n → first_fall sort (drop n rows) ≡ None
fall_none sort [] zero few = refl
fall_none sort [] (suc n) few = refl
fall_none sort (a ∷ []) zero few = refl
fall_none sort (a ∷ b ∷ rows) zero few = absurd (omega (arith, few))
fall_none sort (a ∷ rows) (suc n) few = fall_none sort rows n (omega (arith, few))

-- ---- rows in order

-- no row falls where rows are in order, and the other way round
pub fall_free : (sort : List ℕ) (rows : List Row) → first_fall sort rows ≡ None → (k : ℕ) (d : Row) → suc k < length rows → is_lt (key_cmp sort (get_or rows (suc k) d) (get_or rows k d)) ≡ false
fall_free sort [] none k d inside = absurd (omega (arith, inside))
fall_free sort (a ∷ []) none k d inside = absurd (omega (arith, inside))
fall_free sort (a ∷ b ∷ rows) none k d inside = here (is_lt (key_cmp sort b a)) refl (λ later k lt. fall_free sort (b ∷ rows) later k d lt) none k inside
  where
    none_mapped : (found : Option ℕ) → option_map suc found ≡ None → found ≡ None
    none_mapped None e = refl
    none_mapped (Some k) e = cc

    here : (t : Bool) → is_lt (key_cmp sort b a) ≡ t
        → (first_fall sort (b ∷ rows) ≡ None → (k : ℕ) → suc k < length (b ∷ rows) → is_lt (key_cmp sort (get_or (b ∷ rows) (suc k) d) (get_or (b ∷ rows) k d)) ≡ false)
        → (if t then Some 1 else option_map suc (first_fall sort (b ∷ rows))) ≡ None → (k : ℕ) → suc k < length (a ∷ b ∷ rows)
        → is_lt (key_cmp sort (get_or (a ∷ b ∷ rows) (suc k) d) (get_or (a ∷ b ∷ rows) k d)) ≡ false
    here true is later e k inside = cc
    here false is later e zero inside = is
    here false is later e (suc k) inside = later (none_mapped (first_fall sort (b ∷ rows)) e) k (omega (arith, inside))

pub free_of_falls : (sort : List ℕ) (rows : List Row) → ((k : ℕ) (d : Row) → suc k < length rows → is_lt (key_cmp sort (get_or rows (suc k) d) (get_or rows k d)) ≡ false) → first_fall sort rows ≡ None
free_of_falls sort [] rise = refl
free_of_falls sort (a ∷ []) rise = refl
free_of_falls sort (a ∷ b ∷ rows) rise =
    ap (λ t. if t then Some 1 else option_map suc (first_fall sort (b ∷ rows))) (rise 0 a (omega arith))
    ∙ ap (option_map suc) (free_of_falls sort (b ∷ rows) (λ k d inside. rise (suc k) d (omega (arith, inside))))

-- ---- granules

pub granule_next : (granules later : List ℕ) (count row : ℕ) → granules ≡ count ∷ later → (row < count → ⊥) → granule_of granules row ≡ suc (granule_of later (row - count))
granule_next granules later count row is out = ap (λ g. granule_of g row) is ∙ grind arith

-- ---- the first that passes

pub index_step : {X : Type 0} (test : X → Bool) (xs : List X) (n : ℕ) (d : X) → n < length xs → test (get_or xs n d) ≡ false → later_by n (first_index test (drop n xs)) ≡ later_by (suc n) (first_index test (drop (suc n) xs))
index_step test [] n d inside fails = absurd (omega (arith, inside))
index_step test (x ∷ xs) zero d inside fails = ap (λ t. later_by 0 (if t then Some 0 else option_map suc (first_index test xs))) fails ∙ one_later 0 (first_index test xs)
index_step test (x ∷ xs) (suc n) d inside fails =
    later_suc n (first_index test (drop n xs)) ∙ ap (option_map suc) (index_step test xs n d (omega (arith, inside)) fails) ∙ sym (later_suc (suc n) (first_index test (drop (suc n) xs)))

pub index_here : {X : Type 0} (test : X → Bool) (xs : List X) (n : ℕ) (d : X) → n < length xs → test (get_or xs n d) ≡ true → later_by n (first_index test (drop n xs)) ≡ Some n
index_here test [] n d inside passes = absurd (omega (arith, inside))
index_here test (x ∷ xs) zero d inside passes = ap (λ t. later_by 0 (if t then Some 0 else option_map suc (first_index test xs))) passes ∙ ap Some (omega arith)
index_here test (x ∷ xs) (suc n) d inside passes = later_suc n (first_index test (drop n xs)) ∙ ap (option_map suc) (index_here test xs n d (omega (arith, inside)) passes)

pub index_none : {X : Type 0} (test : X → Bool) (xs : List X) (n : ℕ) → length xs ≤ n → first_index test (drop n xs) ≡ None
index_none test [] zero few = refl
index_none test [] (suc n) few = refl
index_none test (x ∷ xs) zero few = absurd (omega (arith, few))
index_none test (x ∷ xs) (suc n) few = index_none test xs n (omega (arith, few))

-- none passes where none is found, and the other way round
pub none_passes : {X : Type 0} (test : X → Bool) (xs : List X) → first_index test xs ≡ None → All (λ x. test x ≡ false) xs
none_passes test [] none = All-nil (λ x. test x ≡ false)
none_passes {X} test (x ∷ xs) none = here (test x) refl (none_passes test xs) none
  where
    none_mapped : (found : Option ℕ) → option_map suc found ≡ None → found ≡ None
    none_mapped None e = refl
    none_mapped (Some k) e = cc

    here : (t : Bool) → test x ≡ t → (first_index test xs ≡ None → All (λ x. test x ≡ false) xs) → (if t then Some 0 else option_map suc (first_index test xs)) ≡ None → All (λ x. test x ≡ false) (x ∷ xs)
    here true is later e = cc
    here false is later e = All-cons (λ x. test x ≡ false) x xs is (later (none_mapped (first_index test xs) e))

pub none_found_of : {X : Type 0} (test : X → Bool) (xs : List X) → All (λ x. test x ≡ false) xs → first_index test xs ≡ None
none_found_of test [] all = refl
none_found_of test (x ∷ xs) all =
    ap (λ t. if t then Some 0 else option_map suc (first_index test xs)) (All-head (λ x. test x ≡ false) x xs all) ∙ ap (option_map suc) (none_found_of test xs (All-tail (λ x. test x ≡ false) x xs all))

-- ---- as the loop asks for it

pub rises_on : (sort : List ℕ) (rows : List Row) (i : ℕ) (row before : Row) → 1 ≤ i → first_fall sort rows ≡ later_by (i - 1) (first_fall sort (drop (i - 1) rows)) → i < length rows
    → row ≡ get_or rows i row → before ≡ get_or rows (i - 1) before → (o : Ordering) → o ≡ key_cmp sort row before → (below : Bool) → below ≡ is_lt o → below ≡ false
    → first_fall sort rows ≡ later_by (i + 1 - 1) (first_fall sort (drop (i + 1 - 1) rows))
rises_on sort rows zero row before some ahead inside at at_before o order below tested fails = absurd (omega (arith, some))
rises_on sort rows (suc n) row before some ahead inside at at_before o order below tested fails =
    let less : suc n - 1 ≡ n = omega arith in
    let former : before ≡ get_or rows n before = at_before ∙ ap (λ k. get_or rows k before) less in
    let rises : is_lt (key_cmp sort (get_or rows (suc n) row) (get_or rows n before)) ≡ false =
    ap (λ (r : Row). is_lt (key_cmp sort r (get_or rows n before))) (sym at) ∙ ap (λ (b : Row). is_lt (key_cmp sort row b)) (sym former) ∙ ap is_lt (sym order) ∙ sym tested ∙ fails in
    ahead ∙ ap (λ k. later_by k (first_fall sort (drop k rows))) less ∙ fall_step sort rows n row before inside rises ∙ ap (λ k. later_by k (first_fall sort (drop k rows))) (let e : suc n ≡ suc n + 1 - 1 = omega arith in e)

pub falls_nowhere : (sort : List ℕ) (rows : List Row) (i : ℕ) → 1 ≤ i → first_fall sort rows ≡ later_by (i - 1) (first_fall sort (drop (i - 1) rows)) → length rows ≤ i → None ≡ first_fall sort rows
falls_nowhere sort rows zero some ahead over = absurd (omega (arith, some))
falls_nowhere sort rows (suc n) some ahead over =
    let less : suc n - 1 ≡ n = omega arith in
    sym (ahead ∙ ap (λ k. later_by k (first_fall sort (drop k rows))) less ∙ ap (later_by n) (fall_none sort rows n over))
