-- Names of files: the stem before the first dot, slashes, and escaped names.
use Rattle.std.proofs.Common.{◌≡◌, ℕ, suc, ◌+◌, ◌/◌, ◌%◌, ◌<◌, ◌≤◌, Bool, true, false, not, ◌&&◌, ◌||◌, List, [], ◌∷◌, ◌++◌, length, drop, get_or, refl, ap, sym, ◌∙◌, arith, eqb}
use Rattle.std.specs.Prelude.{codes, nat_lt, if◌then◌else◌}
use Rattle.std.specs.List.{list_all, list_any}
use Rattle.std.proofs.lemmas.Bool.{and_parts, and_from, ne_eqb, ltb-true, lt-ltb, not-true, or_right}
use Rattle.std.proofs.lemmas.List.Folds.{list_all-append, list_any-append}
use Rattle.mt_defs.specs.FileNames.{file_name_byte, file_name, hex_digit, is_word_byte}

-- ---- stems

-- a byte that is neither a dot nor a slash
abbrev pub is_stem_byte : ℕ → Bool
is_stem_byte c = not (eqb c 46) && not (eqb c 47)

-- no dot and no slash
abbrev pub is_stem : List ℕ → Bool
is_stem = list_all is_stem_byte

-- a name before its first dot
abbrev pub stem_of : List ℕ → List ℕ
stem_of [] = []
stem_of (c ∷ name) = if eqb c 46 then [] else c ∷ stem_of name

-- a slash is in the name
abbrev pub has_slash : List ℕ → Bool
has_slash = list_any (λ c. eqb c 47)

pub stem_before_dot : (stem rest : List ℕ) → is_stem stem ≡ true → stem_of (stem ++ 46 ∷ rest) ≡ stem
stem_before_dot [] rest e = refl
stem_before_dot (c ∷ stem) rest e =
    let both = and_parts (is_stem_byte c) (is_stem stem) e in
    let no_dot = not-true (eqb c 46) (and_parts (not (eqb c 46)) (not (eqb c 47)) both.0).0 in
    ap (λ b. if b then [] else c ∷ stem_of (stem ++ 46 ∷ rest)) no_dot ∙ ap (λ s. c ∷ s) (stem_before_dot stem rest both.1)

pub stem_without_slash : (stem : List ℕ) → is_stem stem ≡ true → has_slash stem ≡ false
stem_without_slash [] e = refl
stem_without_slash (c ∷ stem) e =
    let both = and_parts (is_stem_byte c) (is_stem stem) e in
    let no_slash = not-true (eqb c 47) (and_parts (not (eqb c 46)) (not (eqb c 47)) both.0).1 in
    ap (λ b. b || has_slash stem) no_slash ∙ stem_without_slash stem both.1

-- a slash is in neither part
pub no_slash_appended : (a b : List ℕ) → has_slash a ≡ false → has_slash b ≡ false → has_slash (a ++ b) ≡ false
no_slash_appended a b no_a no_b = list_any-append (λ c. eqb c 47) a b ∙ ap (λ t. t || has_slash b) no_a ∙ no_b

pub slash_later : (a b : List ℕ) → has_slash b ≡ true → has_slash (a ++ b) ≡ true
slash_later a b e = list_any-append (λ c. eqb c 47) a b ∙ or_right (has_slash a) (has_slash b) e

pub slash_first : (a b : List ℕ) → has_slash a ≡ true → has_slash (a ++ b) ≡ true
slash_first a b e = list_any-append (λ c. eqb c 47) a b ∙ ap (λ t. t || has_slash b) e

pub stems_appended : (a b : List ℕ) → is_stem a ≡ true → is_stem b ≡ true → is_stem (a ++ b) ≡ true
stems_appended a b is_a is_b = list_all-append is_stem_byte a b ∙ and_from (is_stem a) (is_stem b) is_a is_b

-- ---- escaped names are stems

pub stem_byte : (c : ℕ) → (c ≡ 46 → ⊥) → (c ≡ 47 → ⊥) → is_stem_byte c ≡ true
stem_byte c no_dot no_slash = and_from (not (eqb c 46)) (not (eqb c 47)) (ap not (ne_eqb c 46 no_dot)) (ap not (ne_eqb c 47 no_slash))

word_stem : (c : ℕ) → is_word_byte c ≡ true → is_stem_byte c ≡ true
word_stem c e =
    stem_byte c (λ is. let bad : false ≡ true = ap is_word_byte (sym is) ∙ e in cc) (λ is. let bad : false ≡ true = ap is_word_byte (sym is) ∙ e in cc)

digit_by : (n : ℕ) (b : Bool) → nat_lt n 10 ≡ b → 48 ≤ (if b then 48 + n else 55 + n)
digit_by n true e = omega arith
digit_by n false e = omega arith

pub digit_high : (n : ℕ) → 48 ≤ hex_digit n
digit_high n = digit_by n (nat_lt n 10) refl

digit_stem : (n : ℕ) → is_stem_byte (hex_digit n) ≡ true
digit_stem n = let high = digit_high n in stem_byte (hex_digit n) (λ is. omega (arith, is, high)) (λ is. omega (arith, is, high))

escaped_by : (c : ℕ) (b : Bool) → is_word_byte c ≡ b → is_stem (if b then c ∷ [] else codes "%" ++ hex_digit (c / 16) ∷ hex_digit (c % 16) ∷ []) ≡ true
escaped_by c true e = and_from (is_stem_byte c) true (word_stem c e) refl
escaped_by c false e = and_from (is_stem_byte (hex_digit (c / 16))) _ (digit_stem (c / 16)) (and_from (is_stem_byte (hex_digit (c % 16))) true (digit_stem (c % 16)) refl)

pub file_name_stem : (name : List ℕ) → is_stem (file_name name) ≡ true
file_name_stem [] = refl
file_name_stem (c ∷ name) = stems_appended (file_name_byte c) (file_name name) (escaped_by c (is_word_byte c) refl) (file_name_stem name)

-- ---- escaped names differ

abbrev escaped_as : Bool → ℕ → List ℕ
escaped_as word c = if word then c ∷ [] else codes "%" ++ hex_digit (c / 16) ∷ hex_digit (c % 16) ∷ []

not_small : (n : ℕ) → nat_lt n 10 ≡ false → n < 10 → ⊥
not_small n e small = let bad : false ≡ true = sym e ∙ lt-ltb n 10 small in cc

digits_by : (m n : ℕ) (b d : Bool) → nat_lt m 10 ≡ b → nat_lt n 10 ≡ d → (if b then 48 + m else 55 + m) ≡ (if d then 48 + n else 55 + n) → m ≡ n
digits_by m n true true e f same = omega (arith, same)
digits_by m n false false e f same = omega (arith, same)
digits_by m n true false e f same = let low : m < 10 = ltb-true m 10 e in absurd (not_small n f (omega (arith, same, low)))
digits_by m n false true e f same = let low : n < 10 = ltb-true n 10 f in absurd (not_small m e (omega (arith, same, low)))

digit_same : (m n : ℕ) → hex_digit m ≡ hex_digit n → m ≡ n
digit_same m n same = digits_by m n (nat_lt m 10) (nat_lt n 10) refl refl same

-- two bytes whose escaped forms begin the same bytes
pub record SameByte (c d : ℕ) (rest rest' : List ℕ) : Type 0 where
  pub byte : c ≡ d
  pub later : rest ≡ rest'

heads : (c d : ℕ) (xs ys : List ℕ) → c ∷ xs ≡ d ∷ ys → (c ≡ d) × (xs ≡ ys)
heads c d xs ys e = (ap (λ l. get_or l 0 0) e, ap (drop 1) e)

same_by : (c d : ℕ) (rest rest' : List ℕ) (v w : Bool) → is_word_byte c ≡ v → is_word_byte d ≡ w → escaped_as v c ++ rest ≡ escaped_as w d ++ rest' → SameByte c d rest rest'
same_by c d rest rest' true true e f same = let one = heads c d rest rest' same in record { byte = one.0; later = one.1 }
same_by c d rest rest' true false e f same =
    let one = heads c 37 rest (hex_digit (d / 16) ∷ hex_digit (d % 16) ∷ rest') same in
    let bad : false ≡ true = ap is_word_byte (sym one.0) ∙ e in
    cc
same_by c d rest rest' false true e f same =
    let one = heads 37 d (hex_digit (c / 16) ∷ hex_digit (c % 16) ∷ rest) rest' same in
    let bad : false ≡ true = ap is_word_byte one.0 ∙ f in
    cc
same_by c d rest rest' false false e f same =
    let one = heads 37 37 (hex_digit (c / 16) ∷ hex_digit (c % 16) ∷ rest) (hex_digit (d / 16) ∷ hex_digit (d % 16) ∷ rest') same in
    let two = heads (hex_digit (c / 16)) (hex_digit (d / 16)) (hex_digit (c % 16) ∷ rest) (hex_digit (d % 16) ∷ rest') one.1 in
    let three = heads (hex_digit (c % 16)) (hex_digit (d % 16)) rest rest' two.1 in
    let high : c / 16 ≡ d / 16 = digit_same (c / 16) (d / 16) two.0 in
    let low : c % 16 ≡ d % 16 = digit_same (c % 16) (d % 16) three.0 in
    record { byte = omega (arith, high, low); later = three.1 }

some_by : (c : ℕ) (rest : List ℕ) (v : Bool) → escaped_as v c ++ rest ≡ [] → ⊥
some_by c rest true e = let bad : suc (length rest) ≡ 0 = ap length e in omega (arith, bad)
some_by c rest false e = let bad : suc (suc (suc (length rest))) ≡ 0 = ap length e in omega (arith, bad)

-- names that are escaped alike are the same
pub file_name_injective : (a b : List ℕ) → file_name a ≡ file_name b → a ≡ b
file_name_injective [] [] e = refl
file_name_injective [] (d ∷ b) e = absurd (some_by d (file_name b) (is_word_byte d) (sym e))
file_name_injective (c ∷ a) [] e = absurd (some_by c (file_name a) (is_word_byte c) e)
file_name_injective (c ∷ a) (d ∷ b) e =
    let one = same_by c d (file_name a) (file_name b) (is_word_byte c) (is_word_byte d) refl refl e in
    ap (λ x. x ∷ a) one.byte ∙ ap (λ rest. d ∷ rest) (file_name_injective a b one.later)
