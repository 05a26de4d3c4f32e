-- The loop over the items of a substream: what is read so far, and what is left to be read.
use Rattle.std.proofs.Common.{◌≡◌, ℕ, zero, suc, ◌+◌, ◌-◌, ◌<◌, ◌≤◌, List, [], ◌∷◌, ◌++◌, length, refl, ap, sym, ◌∙◌, subst, arith, append_assoc, append-nil, add-one}
use Rattle.std.specs.Prelude.{Result, Ok, Err}
use Rattle.std.proofs.lemmas.List.{length_push}
use Rattle.mt_types.specs.Steps.{◌>>=◌, at}
use Rattle.mt_item.specs.declared.fault.CodecWhy.{CodecWhy}
use Rattle.mt_item.specs.ItemReading.{First}
use Rattle.mt_item.specs.Results.{GivesItem}
use Rattle.mt_item.specs.declared.fault.ItemError.{ItemError}
use Rattle.mt_item.specs.declared.fault.ItemError.TheVariants.{Bad, NoMemory}
use Rattle.mt_codec.specs.declared.fault.CodecError.{CodecError}
use Rattle.mt_codec.specs.Cursor.{item_error}
use Rattle.mt_codec.specs.Results.{CodecFailsAs}
use Rattle.mt_codec.specs.ColumnReading.{Read, items_from}

-- an item's error is what it is read as, out of memory aside
abbrev pub ItemFails : {A : Type 0} → ItemError → First A → Type 0
ItemFails (Bad why) reading = reading ≡ Err why
ItemFails NoMemory reading = Unit {0}

-- items and the bytes that follow them, or which item is wrong and why
abbrev pub ReadItems : Type 0 → Type 0
ReadItems A = Result (List A × List ℕ) (ℕ × CodecWhy)

-- these items before those that are read
abbrev pub with_front : {A : Type 0} → List A → ReadItems A → ReadItems A
with_front front read = read >>= λ more. Ok (front ++ more.0, more.1)

pub items_none : {A : Type 0} (front : List ℕ → First A) (item : ℕ) (bytes : List ℕ) → items_from front item zero bytes ≡ Ok ([], bytes)
unfolding items_from
items_none front item bytes = refl

pub items_next : {A : Type 0} (front : List ℕ → First A) (item count : ℕ) (bytes : List ℕ)
    → items_from front item (suc count) bytes ≡ (at item (front bytes) >>= λ first. (items_from front (item + 1) count first.1 >>= λ more. Ok (first.0 ∷ more.0, more.1)))
unfolding items_from
items_next front item count bytes = refl

-- the loop has read these items, and what is left decides
pub record Comes {A : Type 0} (front : List ℕ → First A) (count : ℕ) (bytes : List ℕ) (read : List A) (rest : List ℕ) : Type 0 where
  pub left : with_front read (items_from front (length read) (count - length read) rest) ≡ items_from front 0 count bytes
  pub few : length read ≤ count

nothing : {A : Type 0} (read : ReadItems A) → with_front [] read ≡ read
nothing (Ok more) = refl
nothing (Err e) = refl

pub starts : {A : Type 0} (front : List ℕ → First A) (count : ℕ) (bytes : List ℕ) → Comes front count bytes [] bytes
starts {A} front count bytes = record { left = ap (λ (n : ℕ). with_front [] (items_from front 0 n bytes)) (none_read count) ∙ nothing (items_from front 0 count bytes); few = omega arith }
  where
    none_read : (count : ℕ) → count - 0 ≡ count
    none_read count = omega arith

-- one more item
one_more : {A : Type 0} (read : List A) (x : A) (more : ReadItems A) → with_front read (more >>= λ m. Ok (x ∷ m.0, m.1)) ≡ with_front (read ++ x ∷ []) more
one_more {A} read x (Ok m) = ap (λ (xs : List A). let r : ReadItems A = Ok (xs, m.1) in r) (sym (append_assoc read (x ∷ []) m.0))
one_more read x (Err e) = refl

-- there is at least one
one_left : (count size : ℕ) → size < count → count - size ≡ suc (count - suc size)
one_left count size less = omega arith

pub goes : {A : Type 0} (front : List ℕ → First A) (count : ℕ) (bytes : List ℕ) (read : List A) (rest : List ℕ) (x : A) (after : List ℕ) → length read < count → front rest ≡ Ok (x, after)
    → Comes front count bytes read rest → Comes front count bytes (read ++ x ∷ []) after
goes {A} front count bytes read rest x after less is had =
    let long : length (read ++ x ∷ []) ≡ length read + 1 = length_push read x in
    record {
      left =
          ap (λ (n : ℕ). with_front (read ++ x ∷ []) (items_from front n (count - n) after)) long
          ∙ ap (λ (n : ℕ). with_front (read ++ x ∷ []) (items_from front (length read + 1) n after)) (ap (λ (n : ℕ). count - n) (add-one (length read)))
          ∙ sym (one_more read x (items_from front (length read + 1) (count - suc (length read)) after))
          ∙ ap (λ (r : First A). with_front read (at (length read) r >>= λ first. (items_from front (length read + 1) (count - suc (length read)) first.1 >>= λ more. Ok (first.0 ∷ more.0, more.1)))) (sym is)
          ∙ ap (with_front read) (sym (items_next front (length read) (count - suc (length read)) rest))
          ∙ ap (λ (n : ℕ). with_front read (items_from front (length read) n rest)) (sym (one_left count (length read) less)) ∙ had.left;
      few = omega (arith, long);
    }

pub ends : {A : Type 0} (front : List ℕ → First A) (count : ℕ) (bytes : List ℕ) (read : List A) (rest : List ℕ) → count ≤ length read → Comes front count bytes read rest → items_from front 0 count bytes ≡ Ok (read, rest)
ends {A} front count bytes read rest over had =
    sym had.left ∙ ap (λ (n : ℕ). with_front read (items_from front (length read) n rest)) (all_read count (length read) over)
    ∙ ap (with_front read) (items_none front (length read) rest) ∙ ap (λ (xs : List A). let r : ReadItems A = Ok (xs, rest) in r) (append-nil read)
  where
    all_read : (count size : ℕ) → count ≤ size → count - size ≡ 0
    all_read count size over = omega arith

pub fails : {A : Type 0} (front : List ℕ → First A) (count : ℕ) (bytes : List ℕ) (read : List A) (rest : List ℕ) (why : CodecWhy) → length read < count → front rest ≡ Err why
    → Comes front count bytes read rest → items_from front 0 count bytes ≡ Err (length read, why)
fails {A} front count bytes read rest why less is had =
    sym had.left ∙ ap (λ (n : ℕ). with_front read (items_from front (length read) n rest)) (one_left count (length read) less)
    ∙ ap (with_front read) (items_next front (length read) (count - suc (length read)) rest)
    ∙ ap (λ (r : First A). with_front read (at (length read) r >>= λ first. (items_from front (length read + 1) (count - suc (length read)) first.1 >>= λ more. Ok (first.0 ∷ more.0, more.1)))) is

-- the same as an error
pub item_fails : {A : Type 0} (front : List ℕ → First A) (stream count : ℕ) (bytes : List ℕ) (read : List A) (rest : List ℕ) (size : ℕ) (e : ItemError) (error : CodecError) → length read < count → ItemFails e (front rest)
    → Comes front count bytes read rest → size ≡ length read → error ≡ item_error stream size e → CodecFailsAs error (at stream (items_from front 0 count bytes))
item_fails {A} front stream count bytes read rest size (Bad why) error less wrong had same is =
    subst (λ (x : CodecError). CodecFailsAs x (at stream (items_from front 0 count bytes))) (sym is)
    (ap (λ (q : ReadItems A). at stream q) (fails front count bytes read rest why less wrong had) ∙ ap (λ (n : ℕ). let r : Read (List A × List ℕ) = Err (stream, (n, why)) in r) (sym same))
item_fails {A} front stream count bytes read rest size NoMemory error less wrong had same is =
    subst (λ (x : CodecError). CodecFailsAs x (at stream (items_from front 0 count bytes))) (sym is) tt

-- an item's error, as it is given
pub item_wrong : {A : Type 0} (e : ItemError) (reading : First A) → GivesItem (Err e) reading → ItemFails e reading
item_wrong (Bad why) reading is = is
item_wrong NoMemory reading is = tt
