-- The loop over a null map, and NULL in the place of values.
use Rattle.std.proofs.Common.{◌≡◌, ◌≢◌, ℕ, zero, suc, ◌+◌, ◌<◌, ◌≤◌, List, [], ◌∷◌, ◌++◌, length, take, drop, get_or, set, Result, Ok, Err, refl, ap, sym, ◌∙◌, subst, arith, add-one}
use Rattle.std.specs.Prelude.{◌==◌, if◌then◌else◌}
use Rattle.std.proofs.lemmas.Bool.{eq-eqb, ne_eqb}
use Rattle.std.proofs.lemmas.List.{length-take-le, drop_more, drop_all}
use Rattle.std.proofs.Math.Seq.{take-suc}
use Rattle.mt_types.specs.declared.value.Value.{Value}
use Rattle.mt_types.specs.declared.value.Value.TheVariants.{Null}
use Rattle.mt_types.specs.Steps.{at}
use Rattle.mt_item.specs.declared.fault.CodecWhy.TheVariants.{Short, NullByte}
use Rattle.mt_codec.specs.ColumnReading.{items_from, null_front, nulled}
use Rattle.mt_codec.proofs.LoopLemmas.{Comes, goes, ends, fails}
use Rattle.mt_codec.proofs.StreamLemmas.{null_none, null_read, null_wrong, at_fault, at_found}

-- the loop has come to this byte of a null map
abbrev pub ComesTo : ℕ → List ℕ → ℕ → Type 0
ComesTo count bytes read = Comes null_front count bytes (take read bytes) (drop read bytes)

numbered : (stream count read size : ℕ) (bytes : List ℕ) (why : _) → size ≡ read → items_from null_front 0 count bytes ≡ Err (size, why) → at stream (items_from null_front 0 count bytes) ≡ Err (stream, (read, why))
numbered stream count read size bytes why same is = at_fault stream read why (items_from null_front 0 count bytes) (is ∙ ap (λ (n : ℕ). let r : Result (List ℕ × List ℕ) _ = Err (n, why) in r) same)

pub nulls_short : (stream count : ℕ) (bytes : List ℕ) (read : ℕ) → length bytes ≤ read → read ≤ length bytes → read < count → ComesTo count bytes read → at stream (items_from null_front 0 count bytes) ≡ Err (stream, (read, Short))
nulls_short stream count bytes read over within less had =
    let long = length-take-le read bytes within in
    numbered stream count read (length (take read bytes)) bytes Short long
    (fails null_front count bytes (take read bytes) (drop read bytes) Short (omega (arith, long, less)) (ap null_front (drop_all read bytes over) ∙ null_none) had)

pub nulls_wrong : (stream count : ℕ) (bytes : List ℕ) (read : ℕ) → read < length bytes → read < count → 1 < get_or bytes read 0 → ComesTo count bytes read → at stream (items_from null_front 0 count bytes) ≡ Err (stream, (read, NullByte))
nulls_wrong stream count bytes read within less wrong had =
    let long = length-take-le read bytes (omega arith) in
    numbered stream count read (length (take read bytes)) bytes NullByte long
    (fails null_front count bytes (take read bytes) (drop read bytes) NullByte (omega (arith, long, less)) (ap null_front (drop_more bytes read 0 within) ∙ null_wrong (get_or bytes read 0) (drop (read + 1) bytes) wrong) had)

pub nulls_more : (count : ℕ) (bytes : List ℕ) (read : ℕ) → read < length bytes → read < count → get_or bytes read 0 ≤ 1 → ComesTo count bytes read → ComesTo count bytes (read + 1)
nulls_more count bytes read within less small had =
    let long = length-take-le read bytes (omega arith) in
    subst (λ (read' : List ℕ). Comes null_front count bytes read' (drop (read + 1) bytes)) (sym (rw add-one (take-suc bytes read 0 within)))
    (goes null_front count bytes (take read bytes) (drop read bytes) (get_or bytes read 0) (drop (read + 1) bytes) (omega (arith, long, less))
    (ap null_front (drop_more bytes read 0 within) ∙ null_read (get_or bytes read 0) (drop (read + 1) bytes) small) had)

pub nulls_end : (stream count : ℕ) (bytes : List ℕ) (read : ℕ) (front back : List ℕ) → read ≤ length bytes → count ≤ read → front ≡ take read bytes → back ≡ drop read bytes → ComesTo count bytes read → at stream (items_from null_front 0 count bytes) ≡ Ok (front, back)
nulls_end stream count bytes read front back within over f b had =
    let long = length-take-le read bytes within in
    at_found stream (front, back) (items_from null_front 0 count bytes) (rw (f, b) (ends null_front count bytes (take read bytes) (drop read bytes) (omega (arith, long, over)) had))

-- ---- NULL in the place of values

-- NULL is put in the first places
abbrev pub nulled_to : ℕ → List ℕ → List Value → List Value
nulled_to i nulls values = nulled (take i nulls) (take i values) ++ drop i values

pub null_put : (i : ℕ) (nulls : List ℕ) (values : List Value) → i < length nulls → length nulls ≡ length values → get_or nulls i 0 ≡ 1 → set (nulled_to i nulls values) i Null ≡ nulled_to (suc i) nulls values
null_put i [] values less long is = absurd (omega arith)
null_put i (n ∷ nulls) [] less long is = absurd (omega arith)
null_put zero (n ∷ nulls) (v ∷ values) less long is = rw (eq-eqb n 1 is) refl
null_put (suc i) (n ∷ nulls) (v ∷ values) less long is = ap (λ (vs : List Value). (if n == 1 then Null else v) ∷ vs) (null_put i nulls values (omega arith) (omega (arith, long)) is)

pub value_kept : (i : ℕ) (nulls : List ℕ) (values : List Value) → i < length nulls → length nulls ≡ length values → get_or nulls i 0 ≢ 1 → nulled_to i nulls values ≡ nulled_to (suc i) nulls values
value_kept i [] values less long not = absurd (omega arith)
value_kept i (n ∷ nulls) [] less long not = absurd (omega arith)
value_kept zero (n ∷ nulls) (v ∷ values) less long not = rw (ne_eqb n 1 not) refl
value_kept (suc i) (n ∷ nulls) (v ∷ values) less long not = ap (λ (vs : List Value). (if n == 1 then Null else v) ∷ vs) (value_kept i nulls values (omega arith) (omega (arith, long)) not)
