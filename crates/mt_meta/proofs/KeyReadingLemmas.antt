-- Keys, one value after the other, and one key after the other.
use Rattle.std.proofs.Common.{◌≡◌, ℕ, suc, ◌+◌, ◌<◌, ◌≤◌, true, List, [], ◌∷◌, ◌++◌, length, get_or, take, drop, zero, Option, Some, None, Result, Ok, Err, refl, ap, sym, ◌∙◌, arith, append_assoc, inl, inr}
use Rattle.std.specs.List.{list_all, flat_map}
use Rattle.std.proofs.lemmas.List.{length-append, append-nil, drop_more, get_or_default}
use Rattle.std.proofs.lemmas.List.Concat.{flat_map-append}
use Rattle.std.proofs.lemmas.List.Folds.{list_all-append}
use Rattle.mt_types.specs.declared.ty.Ty.{Ty}
use Rattle.mt_types.specs.declared.value.Value.{Value}
use Rattle.mt_types.specs.Fits.{fits_of}
use Rattle.mt_types.specs.Items.{item_bytes}
use Rattle.mt_fault.specs.declared.fault.Why.TheVariants.{Key}
use Rattle.mt_fault.specs.declared.error.FileError.{FileError}
use Rattle.mt_fault.specs.declared.error.FileError.TheVariants.{AtFault, NoMemory}
use Rattle.mt_table.specs.declared.column.Column.{Column}
use Rattle.mt_defs.specs.Metadata.{column_at, no_column}
use Rattle.mt_defs.specs.PrimaryIndex.{index_name}
use Rattle.mt_defs.specs.Rows.{Row}
use Rattle.std.proofs.lemmas.List.Elements.{All-take}
use Rattle.std.proofs.lemmas.Bool.{and_from}
use Rattle.mt_meta.specs.Keys.{AreKeys, is_scalar}
use Rattle.mt_fault.specs.Results.{IsFault}
use Rattle.mt_meta.specs.KeyReading.{fits_key, key_items, types_of_key, IsFirst, AreKeysOf, GivesAll, GivesKeys, ReturnsKeys}
use Rattle.mt_types.proofs.StepLemmas.{both_true as both}
use Rattle.mt_meta.proofs.ColumnsLaw.{not_some}

-- ---- the values of a key

-- the values so far and those of the types that are left are a key; and no others are
pub record KeyGoesOn (all : List Ty) (bytes : List ℕ) (types : List Ty) (key : Row) (rest : List ℕ) : Type 0 where
  pub back : (later : Row) (more : List ℕ) → fits_key types later ≡ true → rest ≡ key_items types later ++ more
      → (fits_key all (key ++ later) ≡ true) × (bytes ≡ key_items all (key ++ later) ++ more)
  pub on : (value : Row) (more : List ℕ) → fits_key all value ≡ true → bytes ≡ key_items all value ++ more
      → (later : Row) × (value ≡ key ++ later) × (fits_key types later ≡ true) × (rest ≡ key_items types later ++ more)

pub key_start : (all : List Ty) (bytes : List ℕ) → KeyGoesOn all bytes all [] bytes
key_start all bytes = record { back = λ later more f e. (f, e); on = λ value more f e. (value, refl, f, e) }

first_value : (ty : Ty) (types : List Ty) (later : Row) → fits_key (ty ∷ types) later ≡ true → (v : Value) × (vs : Row) × (later ≡ v ∷ vs) × (fits_of ty v ≡ true) × (fits_key types vs ≡ true)
first_value ty types [] f = cc
first_value ty types (v ∷ vs) f = let parts = both (fits_of ty v) (fits_key types vs) f in (v, vs, refl, parts.0, parts.1)

same_first : (v w : Value) (x y : List ℕ) → (let o : Option (Value × List ℕ) = Some (v, x) in o) ≡ Some (w, y) → (v ≡ w) × (x ≡ y)
same_first v w x y e =
    let both : (let p : Value × List ℕ = (v, x) in p) ≡ (w, y) = cc in
    (ap (λ (p : Value × List ℕ). p.0) both, ap (λ (p : Value × List ℕ). p.1) both)

pub key_more : (all : List Ty) (bytes : List ℕ) (ty : Ty) (types left : List Ty) (key : Row) (value : Value) (rest after : List ℕ) → left ≡ ty ∷ types
    → IsFirst (fits_of ty) (item_bytes ty) rest (Some (value, after)) → KeyGoesOn all bytes left key rest → KeyGoesOn all bytes types (key ++ value ∷ []) after
key_more all bytes ty types left key value rest after is first goes = record {
  back = λ later more f e.
      let whole : rest ≡ key_items (ty ∷ types) (value ∷ later) ++ more =
      first.found.1 ∙ ap (λ (t : List ℕ). item_bytes ty value ++ t) e ∙ sym (append_assoc (item_bytes ty value) (key_items types later) more) in
      let b = goes.back (value ∷ later) more (ap (λ (ts : List Ty). fits_key ts (value ∷ later)) is ∙ and_from (fits_of ty value) (fits_key types later) first.found.0 f)
      (whole ∙ ap (λ (ts : List Ty). key_items ts (value ∷ later) ++ more) (sym is)) in
      let joined = append_assoc key (value ∷ []) later in
      (ap (fits_key all) joined ∙ b.0, b.1 ∙ ap (λ (k : Row). key_items all k ++ more) (sym joined));
  on = λ whole more f e.
      let o = goes.on whole more f e in
      let v = first_value ty types o.0 (ap (λ (ts : List Ty). fits_key ts o.0) (sym is) ∙ o.2) in
      let begins : rest ≡ item_bytes ty v.0 ++ (key_items types v.1 ++ more) =
      o.3 ∙ ap (λ (ts : List Ty). key_items ts o.0 ++ more) is ∙ ap (λ (k : Row). key_items (ty ∷ types) k ++ more) v.2 ∙ append_assoc (item_bytes ty v.0) (key_items types v.1) more in
      let same = same_first value v.0 after (key_items types v.1 ++ more) (first.only v.0 (key_items types v.1 ++ more) v.3 begins) in
      (v.1, o.1 ∙ ap (λ (k : Row). key ++ k) v.2 ∙ ap (λ (w : Value). key ++ w ∷ v.1) (sym same.0) ∙ sym (append_assoc key (value ∷ []) v.1), v.4, same.1);
}

pub key_none : (all : List Ty) (bytes : List ℕ) (ty : Ty) (types left : List Ty) (key : Row) (rest : List ℕ) → left ≡ ty ∷ types
    → IsFirst (fits_of ty) (item_bytes ty) rest None → KeyGoesOn all bytes left key rest → IsFirst (fits_key all) (key_items all) bytes None
key_none all bytes ty types left key rest is first goes = record {
  found = tt;
  only = λ whole more f e.
      let o = goes.on whole more f e in
      let v = first_value ty types o.0 (ap (λ (ts : List Ty). fits_key ts o.0) (sym is) ∙ o.2) in
      let begins : rest ≡ item_bytes ty v.0 ++ (key_items types v.1 ++ more) =
      o.3 ∙ ap (λ (ts : List Ty). key_items ts o.0 ++ more) is ∙ ap (λ (k : Row). key_items (ty ∷ types) k ++ more) v.2 ∙ append_assoc (item_bytes ty v.0) (key_items types v.1) more in
      absurd (not_some (v.0, key_items types v.1 ++ more) (first.only v.0 (key_items types v.1 ++ more) v.3 begins));
}

none_later : (later : Row) → fits_key [] later ≡ true → later ≡ []
none_later [] f = refl
none_later (v ∷ vs) f = cc

pub key_end : (all : List Ty) (bytes : List ℕ) (left : List Ty) (key : Row) (rest : List ℕ) → left ≡ [] → KeyGoesOn all bytes left key rest → IsFirst (fits_key all) (key_items all) bytes (Some (key, rest))
key_end all bytes left key rest is goes =
    let b = goes.back [] rest (ap (λ (ts : List Ty). fits_key ts []) is) (ap (λ (ts : List Ty). key_items ts [] ++ rest) (sym is)) in
    record {
      found = (ap (fits_key all) (sym (append-nil key)) ∙ b.0, b.1 ∙ ap (λ (k : Row). key_items all k ++ rest) (append-nil key));
      only = λ whole more f e.
          let o = goes.on whole more f e in
          let none = none_later o.0 (ap (λ (ts : List Ty). fits_key ts o.0) (sym is) ∙ o.2) in
          let key_is : whole ≡ key = o.1 ∙ ap (λ (k : Row). key ++ k) none ∙ append-nil key in
          let rest_is : rest ≡ more = o.3 ∙ ap (λ (ts : List Ty). key_items ts o.0 ++ more) is ∙ ap (λ (k : Row). key_items [] k ++ more) none in
          ap (λ (k : Row). let p : Option (Row × List ℕ) = Some (k, rest) in p) (sym key_is) ∙ ap (λ (t : List ℕ). let p : Option (Row × List ℕ) = Some (whole, t) in p) rest_is;
    }

pub dropped : (xs : List ℕ) (i : ℕ) → length xs ≤ i → drop i xs ≡ []
dropped [] zero le = refl
dropped [] (suc i) le = refl
dropped (x ∷ xs) zero le = absurd (omega arith)
dropped (x ∷ xs) (suc i) le = dropped xs i (omega arith)

-- the type of the next column
pub next_type : (columns : List Column) (keys : List ℕ) (i : ℕ) (column : Column) → i < length keys → get_or keys i 0 < length columns → column ≡ get_or columns (get_or keys i 0) column
    → types_of_key columns (drop i keys) ≡ column.ty ∷ types_of_key columns (drop (i + 1) keys)
next_type columns keys i column lt known is =
    ap (types_of_key columns) (drop_more keys i 0 lt)
    ∙ ap (λ (c : Column). c.ty ∷ types_of_key columns (drop (i + 1) keys)) (get_or_default columns (get_or keys i 0) no_column column known ∙ sym is)

-- ---- the keys of a list

-- the keys so far begin the bytes, and any list of keys with these bytes goes on from them
pub record KeysGoOn (types : List Ty) (bytes : List ℕ) (keys : List Row) (rest : List ℕ) : Type 0 where
  pub fit : list_all (fits_key types) keys ≡ true
  pub items : bytes ≡ flat_map (key_items types) keys ++ rest
  pub on : (whole : List Row) → list_all (fits_key types) whole ≡ true → bytes ≡ flat_map (key_items types) whole → length keys ≤ length whole
      → (later : List Row) × (whole ≡ keys ++ later) × (list_all (fits_key types) later ≡ true) × (rest ≡ flat_map (key_items types) later)

pub keys_start : (types : List Ty) (bytes : List ℕ) → KeysGoOn types bytes [] bytes
keys_start types bytes = record { fit = refl; items = refl; on = λ whole f e _. (whole, refl, f, e) }

-- a key that goes on
another : (types : List Ty) (bytes : List ℕ) (keys : List Row) (rest : List ℕ) → KeysGoOn types bytes keys rest → (whole : List Row) → list_all (fits_key types) whole ≡ true → bytes ≡ flat_map (key_items types) whole
    → length keys < length whole → (key : Row) × (later : List Row) × (whole ≡ keys ++ key ∷ later) × (fits_key types key ≡ true) × (list_all (fits_key types) later ≡ true) × (rest ≡ key_items types key ++ flat_map (key_items types) later)
another types bytes keys rest goes whole f e more =
    let o = goes.on whole f e (omega (arith, more)) in
    first_key o.0 (ap length o.1 ∙ length-append keys o.0) o.1 o.2 o.3
  where
    first_key : (later : List Row) → length whole ≡ length keys + length later → whole ≡ keys ++ later → list_all (fits_key types) later ≡ true → rest ≡ flat_map (key_items types) later
        → (key : Row) × (after : List Row) × (whole ≡ keys ++ key ∷ after) × (fits_key types key ≡ true) × (list_all (fits_key types) after ≡ true) × (rest ≡ key_items types key ++ flat_map (key_items types) after)
    first_key [] long is f e = absurd (omega (arith, long, more))
    first_key (key ∷ after) long is f e = let parts = both (fits_key types key) (list_all (fits_key types) after) f in (key, after, is, parts.0, parts.1, e)

same_key : (k l : Row) (x y : List ℕ) → (let o : Option (Row × List ℕ) = Some (k, x) in o) ≡ Some (l, y) → (k ≡ l) × (x ≡ y)
same_key k l x y e =
    let both : (let p : Row × List ℕ = (k, x) in p) ≡ (l, y) = cc in
    (ap (λ (p : Row × List ℕ). p.0) both, ap (λ (p : Row × List ℕ). p.1) both)

pub keys_more : (types : List Ty) (bytes : List ℕ) (keys : List Row) (key : Row) (rest after : List ℕ) → IsFirst (fits_key types) (key_items types) rest (Some (key, after)) → KeysGoOn types bytes keys rest
    → KeysGoOn types bytes (keys ++ key ∷ []) after
keys_more types bytes keys key rest after first goes = record {
  fit = list_all-append (fits_key types) keys (key ∷ []) ∙ and_from _ _ goes.fit (and_from (fits_key types key) true first.found.0 refl);
  items = goes.items ∙ ap (λ (t : List ℕ). flat_map (key_items types) keys ++ t) first.found.1
      ∙ sym (append_assoc (flat_map (key_items types) keys) (key_items types key) after)
      ∙ ap (λ (t : List ℕ). (flat_map (key_items types) keys ++ t) ++ after) (sym (append-nil (key_items types key)))
      ∙ ap (λ (t : List ℕ). t ++ after) (sym (flat_map-append (key_items types) keys (key ∷ [])));
  on = λ whole f e long.
      let joined : length (keys ++ key ∷ []) ≡ length keys + 1 = length-append keys (key ∷ []) in
      let a = another types bytes keys rest goes whole f e (omega (arith, long, joined)) in
      let same = same_key key a.0 after (flat_map (key_items types) a.1) (first.only a.0 (flat_map (key_items types) a.1) a.3 a.5) in
      (a.1, a.2 ∙ ap (λ (k : Row). keys ++ k ∷ a.1) (sym same.0) ∙ sym (append_assoc keys (key ∷ []) a.1), a.4, same.1);
}

-- ---- what is returned

abbrev pub Returns : List Ty → ℕ → List ℕ → Result (List Row) FileError → Type 0
Returns types count bytes result = GivesKeys types count bytes result × ((keys : List Row) → AreKeysOf types count bytes keys → ReturnsKeys keys result)

pub no_key : (types : List Ty) (count : ℕ) (bytes : List ℕ) (keys : List Row) (rest : List ℕ) (e : FileError) → IsFirst (fits_key types) (key_items types) rest None → KeysGoOn types bytes keys rest → length keys < count
    → IsFault (record { file = index_name; granule = Some (length keys); at = None; why = Key }) e → Returns types count bytes (Err e)
no_key types count bytes keys rest (AtFault f) first goes few is = (
  record { keys = keys; rest = rest; fit = goes.fit; items = goes.items; wrong = inl (is, few, λ key more fits e. not_some (key, more) (first.only key more fits e)) },
  λ whole are.
      let a = another types bytes keys rest goes whole are.fit are.items (omega (arith, few, are.many)) in
      absurd (not_some (a.0, flat_map (key_items types) a.1) (first.only a.0 (flat_map (key_items types) a.1) a.3 a.5)),
)
no_key types count bytes keys rest NoMemory first goes few is = (tt, λ whole are. tt)

none_after : (keys later : List Row) (count : ℕ) (whole : List Row) → whole ≡ keys ++ later → length whole ≡ count → length keys ≡ count → later ≡ []
none_after keys [] count whole is long few = refl
none_after keys (key ∷ later) count whole is long few = absurd (omega (arith, ap length is, length-append keys (key ∷ later), long, few))

pub all_keys : (types : List Ty) (count : ℕ) (bytes : List ℕ) (keys : List Row) (rest : List ℕ) (result : Result (List Row) FileError) → KeysGoOn types bytes keys rest → length keys ≡ count → GivesAll keys rest result
    → Returns types count bytes result
all_keys types count bytes keys rest (Ok found) goes many (is, none) = (
  record {
    fit = ap (list_all (fits_key types)) is ∙ goes.fit;
    many = ap length is ∙ many;
    items = goes.items ∙ ap (λ (t : List ℕ). flat_map (key_items types) keys ++ t) none ∙ append-nil (flat_map (key_items types) keys) ∙ ap (flat_map (key_items types)) (sym is);
  },
  λ whole are.
      let o = goes.on whole are.fit are.items (omega (arith, many, are.many)) in
      is ∙ sym (append-nil keys) ∙ ap (λ (later : List Row). keys ++ later) (sym (none_after keys o.0 count whole o.1 are.many many)) ∙ sym o.1,
)
all_keys types count bytes keys rest (Err (AtFault f)) goes many (is, some) = (
  record { keys = keys; rest = rest; fit = goes.fit; items = goes.items; wrong = inr (is, many, some) },
  λ whole are.
      let o = goes.on whole are.fit are.items (omega (arith, many, are.many)) in
      absurd (some (o.3 ∙ ap (flat_map (key_items types)) (none_after keys o.0 count whole o.1 are.many many))),
)
all_keys types count bytes keys rest (Err NoMemory) goes many (is, some) = (tt, λ whole are. tt)

-- the first of some keys
pub keys_taken : (columns : List Column) (keys : List ℕ) (n : ℕ) → AreKeys columns keys → AreKeys columns (take n keys)
keys_taken columns keys n are = record {
  known = All-take (λ i. i < length columns) n keys are.known;
  scalar = All-take (λ i. is_scalar (column_at columns i).ty ≡ true) n keys are.scalar;
}
