-- Written elements of arrays are read again.
use Rattle.std.proofs.Common.{◌≡◌, ◌≢◌, ℕ, zero, suc, ◌-◌, ◌<◌, ◌≤◌, Bool, true, false, List, [], ◌∷◌, ◌++◌, length, get_or, map, Ok, refl, sym, ap, ◌∙◌, length-append, arith}
use Rattle.std.specs.List.{join_with_byte, list_all, prefix_len, suffix_len, AllByRecursion}
use Rattle.std.proofs.lemmas.Bool.{ne_eqb, le-leb}
use Rattle.std.proofs.lemmas.List.{append-nil}
use Rattle.std.proofs.lemmas.List.Sums.{suffix_len_is}
use Rattle.std.proofs.Math.Seq.{take-append_seam, take-length}
use Rattle.mt_tsv.specs.declared.ascii.TheConstants.{OPEN, CLOSE, COMMA, QUOTE}
use Rattle.mt_tsv.specs.declared.nesting.Nesting.TheVariants.{InQuotes}
use Rattle.mt_tsv.specs.Nesting.{closes_last, is_quoted}
use Rattle.mt_tsv.specs.Arrays.{is_space, trimmed, without_first_spaces, without_last_spaces, middle, is_bracketed, is_null_word, unless_blank, elements_after, have_quotes, level_of}
use Rattle.mt_tsv.proofs.Walks.{AreSolid, joined_elements, joined_matched}
use Rattle.mt_tsv.proofs.WrittenTexts.{AreNumberBytes, StaysInQuotes}

-- ---- ends without spaces

-- a text that begins and ends with other bytes than spaces
pub record HasEnds (text : List ℕ) : Type 0 where
  pub first : is_space (get_or text 0 0) ≡ false
  pub last : is_space (get_or text (length text - 1) 0) ≡ false
  pub some : 0 < length text

no_first_spaces : (text : List ℕ) → HasEnds text → prefix_len is_space text ≡ 0
no_first_spaces [] h = refl
no_first_spaces (b ∷ text) h = rw h.first refl

no_last_spaces : (text : List ℕ) → HasEnds text → suffix_len is_space text ≡ 0
no_last_spaces text h =
    let n : length text - length text ≡ 0 = omega arith in
    suffix_len_is is_space text (length text) 0 (omega arith) (λ k le lt. absurd (omega arith)) (λ some. h.last) ∙ n

pub trimmed_again : (text : List ℕ) → HasEnds text → trimmed text ≡ text
trimmed_again text h =
    let n : length text - 0 ≡ length text = omega arith in
    let first : without_first_spaces text ≡ text = rw (no_first_spaces text h) refl in
    let last : without_last_spaces text ≡ text = rw (no_last_spaces text h, n) (take-length text) in
    ap without_last_spaces first ∙ last

last_of : (middle : List ℕ) (b : ℕ) → get_or (middle ++ b ∷ []) (length middle) 0 ≡ b
last_of [] b = refl
last_of (c ∷ middle) b = last_of middle b

pub ends_between : (first last : ℕ) (middle : List ℕ) → is_space first ≡ false → is_space last ≡ false → HasEnds (first ∷ (middle ++ last ∷ []))
ends_between first last middle f l =
    let n : length (first ∷ (middle ++ last ∷ [])) - 1 ≡ suc (length middle) = omega (arith, length-append middle (last ∷ [])) in
    record { first = f; last = rw n (rw (last_of middle last) l); some = omega arith }

number_at : (bytes : List ℕ) (k : ℕ) → AreNumberBytes bytes → k < length bytes → is_space (get_or bytes k 0) ≡ false
number_at [] k h lt = absurd (omega arith)
number_at (b ∷ bytes) zero h lt = ne_eqb b 32 (omega (arith, h.0))
number_at (b ∷ bytes) (suc k) h lt = number_at bytes k h.1 (omega arith)

pub number_ends : (bytes : List ℕ) → AreNumberBytes bytes → 0 < length bytes → HasEnds bytes
number_ends bytes h some = record { first = number_at bytes 0 h some; last = number_at bytes (length bytes - 1) h (omega arith); some = some }

-- ---- between the first byte and the last

pub middle_again : (first last : ℕ) (text : List ℕ) → middle (first ∷ (text ++ last ∷ [])) ≡ text
middle_again first last text =
    let n : length (first ∷ (text ++ last ∷ [])) - 1 - 1 ≡ length text = omega (arith, length-append text (last ∷ [])) in
    rw n (take-append_seam text (last ∷ []))

pub bracketed_again : (text : List ℕ) → is_bracketed (OPEN ∷ (text ++ CLOSE ∷ [])) ≡ true
bracketed_again text =
    let two : 2 ≤ length (OPEN ∷ (text ++ CLOSE ∷ [])) = omega (arith, length-append text (CLOSE ∷ [])) in
    let n : length (OPEN ∷ (text ++ CLOSE ∷ [])) - 1 ≡ suc (length text) = omega (arith, length-append text (CLOSE ∷ [])) in
    rw (le-leb 2 (length (OPEN ∷ (text ++ CLOSE ∷ []))) two, n) (rw (last_of text CLOSE) refl)

last_quote : closes_last (InQuotes 0) (QUOTE ∷ []) ≡ true
unfolding closes_last
last_quote = refl

pub quoted_again : (text : List ℕ) → StaysInQuotes text → is_quoted (QUOTE ∷ (text ++ QUOTE ∷ [])) ≡ true
quoted_again text h = h (QUOTE ∷ []) ∙ last_quote

-- ---- no word NULL

pub no_null_word : (b : ℕ) (rest : List ℕ) → b ≢ 78 → is_null_word (b ∷ rest) ≡ false
no_null_word b [] h = refl
no_null_word b (c ∷ []) h = refl
no_null_word b (c ∷ d ∷ []) h = refl
no_null_word b (c ∷ d ∷ e ∷ []) h = rw (ne_eqb b 78 h) refl
no_null_word b (c ∷ d ∷ e ∷ f ∷ rest) h = refl

pub number_no_word : (bytes : List ℕ) → AreNumberBytes bytes → is_null_word bytes ≡ false
number_no_word [] h = refl
number_no_word (b ∷ bytes) h = no_null_word b bytes (omega (arith, h.0))

-- ---- the level of an array

not_blank : (text rest : List ℕ) → HasEnds text → list_all is_space (text ++ rest) ≡ false
not_blank [] rest h = absurd (omega (arith, h.some))
not_blank (b ∷ text) rest h = rw h.first refl

joined_not_blank : (text : List ℕ) (texts : List (List ℕ)) → HasEnds text → list_all is_space (join_with_byte COMMA (text ∷ texts)) ≡ false
joined_not_blank text [] h = ap (list_all is_space) (sym (append-nil text)) ∙ not_blank text [] h
joined_not_blank text (next ∷ texts) h = not_blank text (COMMA ∷ join_with_byte COMMA (next ∷ texts)) h

-- elements, as they are written
pub record AreElements (in_quotes : Bool) (texts : List (List ℕ)) : Type 0 where
  pub solid : AreSolid texts
  pub ends : AllByRecursion HasEnds texts
  pub quotes : have_quotes in_quotes texts ≡ true

all_trimmed : (texts : List (List ℕ)) → AllByRecursion HasEnds texts → map trimmed texts ≡ texts
all_trimmed [] h = refl
all_trimmed (text ∷ texts) h = rw (trimmed_again text h.0, all_trimmed texts h.1) refl

elements_again : (texts : List (List ℕ)) → AreSolid texts → AllByRecursion HasEnds texts → elements_after (unless_blank (join_with_byte COMMA texts)) ≡ texts
elements_again [] s e = refl
elements_again (text ∷ texts) s e =
    rw (joined_not_blank text texts e.0) (ap (map trimmed) (joined_elements text texts s) ∙ all_trimmed (text ∷ texts) e)

pub level_again : (in_quotes : Bool) (texts : List (List ℕ)) → AreElements in_quotes texts → level_of in_quotes (OPEN ∷ (join_with_byte COMMA texts ++ CLOSE ∷ [])) ≡ Ok texts
unfolding level_of
level_again in_quotes texts h =
    let content = join_with_byte COMMA texts in
    let m = middle_again OPEN CLOSE content in
    let e = elements_again texts h.solid h.ends in
    rw (bracketed_again content, m, joined_matched texts h.solid, e, h.quotes) refl
