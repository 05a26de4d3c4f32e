-- The substreams that are left after one of them.
use Rattle.std.proofs.Common.{◌≡◌, ◌≢◌, ℕ, suc, true, false, List, [], ◌∷◌, length, Result, Ok, Err, refl, ap, sym, ◌∙◌, arith, Bor}
use Rattle.std.specs.Prelude.{◌==◌}
use Rattle.std.proofs.lemmas.Bool.{eqb-true}
use Rattle.mt_item.specs.declared.fault.CodecWhy.TheVariants.{Over}
use Rattle.mt_codec.specs.declared.streams.Streams.{Streams}
use Rattle.mt_codec.specs.declared.streams.Streams.TheVariants.{Apart, Joined}
use Rattle.mt_codec.specs.ColumnReading.{after_items}
use Rattle.mt_codec.specs.Results.{bytes_of}
use Rattle.mt_codec.specs.Cursor.{is_apart, lists, others}
use Rattle.mt_codec.proofs.StreamLemmas.{after_none, after_over, after_joined}

none_left : (bytes : List ℕ) → (length bytes == 0) ≡ true → bytes ≡ []
none_left [] e = refl
none_left (b ∷ bytes) e = absurd (omega (arith, eqb-true (suc (length bytes)) 0 e))

some_left : (bytes : List ℕ) → (length bytes == 0) ≡ false → bytes ≢ []
some_left [] e is = cc
some_left (b ∷ bytes) e is = cc

pub after_some : (self : Streams) (streams : Bor (List (Bor (List ℕ)))) (stream count : ℕ) (rest : List ℕ) → self ≡ Apart streams → (length rest == 0) ≡ false
    → after_items (is_apart self) stream count rest (others (lists self)) ≡ Err (stream, (count, Over))
after_some self streams stream count rest is some = ap (λ (s : Streams). after_items (is_apart s) stream count rest (others (lists s))) is ∙ after_over stream count rest (others (bytes_of streams.now)) (some_left rest some)

pub after_apart : (self : Streams) (streams : Bor (List (Bor (List ℕ)))) (stream count : ℕ) (rest : List ℕ) (left : List (List ℕ)) → self ≡ Apart streams → (length rest == 0) ≡ true → others (bytes_of streams.now) ≡ left
    → (true ≡ is_apart self) × (after_items (is_apart self) stream count rest (others (lists self)) ≡ Ok left)
after_apart self streams stream count rest left is none back =
    (sym (ap is_apart is), ap (λ (s : Streams). after_items (is_apart s) stream count rest (others (lists s))) is ∙ after_none stream count rest (others (bytes_of streams.now)) (none_left rest none) ∙ ap (λ (l : List (List ℕ)). let r : Result (List (List ℕ)) _ = Ok l in r) back)

no_lists : (streams : List (Bor (List ℕ))) → length streams ≡ 0 → others (bytes_of streams) ≡ bytes_of streams
no_lists [] e = refl
no_lists (s ∷ streams) e = absurd (omega arith)

pub no_more : (self : Streams) (streams : Bor (List (Bor (List ℕ)))) (stream count : ℕ) (rest : List ℕ) → self ≡ Apart streams → (length rest == 0) ≡ true → length streams.now ≡ 0
    → (is_apart self ≡ is_apart self) × (after_items (is_apart self) stream count rest (others (lists self)) ≡ Ok (lists self))
no_more self streams stream count rest is none empty =
    (refl, (after_apart self streams stream count rest (lists self) is none (no_lists streams.now empty ∙ sym (ap lists is))).1)

pub after_bytes : (self : Streams) (bytes : Bor (List ℕ)) (stream count : ℕ) (rest : List ℕ) → self ≡ Joined bytes
    → (false ≡ is_apart self) × (after_items (is_apart self) stream count rest (others (lists self)) ≡ Ok (rest ∷ []))
after_bytes self bytes stream count rest is =
    (sym (ap is_apart is), ap (λ (s : Streams). after_items (is_apart s) stream count rest (others (lists s))) is ∙ after_joined stream count rest [])
