-- The elements of an array, byte by byte.
use Rattle.std.proofs.Common.{◌≡◌, ℕ, suc, ◌+◌, ◌<◌, Bool, true, false, cond, ◌≤◌, List, [], ◌∷◌, ◌++◌, length, get_or, take, drop, drop-cons, Option, Some, None, refl, sym, ap, ◌∙◌, append_assoc, arith}
use Rattle.std.specs.List.{onto_first}
use Rattle.std.proofs.lemmas.List.{append-nil, take_more, take_all, drop_all}
use Rattle.mt_tsv.specs.declared.nesting.Nesting.{Nesting}
use Rattle.mt_tsv.specs.declared.nesting.Nesting.TheVariants.{Outside}
use Rattle.mt_tsv.specs.Nesting.{nesting_after, is_comma, elements_from}

-- the byte of a loop over bytes
pub byte_at : (bytes : List ℕ) (i b : ℕ) → i < length bytes → b ≡ get_or bytes i 0 → drop i bytes ≡ b ∷ drop (i + 1) bytes
byte_at bytes i b lt e =
    let k : suc i ≡ i + 1 = omega arith in
    drop-cons bytes i 0 lt ∙ rw k (ap (λ (y : ℕ). y ∷ drop (i + 1) bytes) (sym e))

-- the first element, continued
abbrev pub glued : List ℕ → List (List ℕ) → List (List ℕ)
glued run [] = run ∷ []
glued run (text ∷ texts) = (run ++ text) ∷ texts

pub glued-onto : (run : List ℕ) (b : ℕ) (texts : List (List ℕ)) → glued run (onto_first b texts) ≡ glued (run ++ b ∷ []) texts
glued-onto run b [] = refl
glued-onto run b (text ∷ texts) = ap (λ (t : List ℕ). t ∷ texts) (simp append_assoc)

-- there is always an element
onto_cons : (b : ℕ) (texts : List (List ℕ)) → (text : List ℕ) × (more : List (List ℕ)) × (onto_first b texts ≡ text ∷ more)
onto_cons b [] = (b ∷ [], [], refl)
onto_cons b (text ∷ texts) = (b ∷ text, texts, refl)

chosen : (c : Bool) (b : ℕ) (others texts : List (List ℕ)) → (text : List ℕ) × (more : List (List ℕ)) × (cond c ([] ∷ others) (onto_first b texts) ≡ text ∷ more)
chosen true b others texts = ([], others, refl)
chosen false b others texts = onto_cons b texts

pub elements_cons : (nesting : Nesting) (bytes : List ℕ) → (text : List ℕ) × (more : List (List ℕ)) × (elements_from nesting bytes ≡ text ∷ more)
unfolding elements_from
elements_cons nesting [] = ([], [], refl)
elements_cons nesting (b ∷ rest) = chosen (is_comma nesting b) b (elements_from (Outside 0) rest) (elements_from (nesting_after nesting b) rest)

pub glued-nil : (nesting : Nesting) (bytes : List ℕ) → glued [] (elements_from nesting bytes) ≡ elements_from nesting bytes
glued-nil nesting bytes = let e = elements_cons nesting bytes in rw e.2 refl

-- a byte that parts no elements
pub glued_more : (bytes : List ℕ) (i b : ℕ) (nesting : Nesting) (whole : List (List ℕ)) → i < length bytes → b ≡ get_or bytes i 0 → is_comma nesting b ≡ false
    → glued (take i bytes) (elements_from nesting (drop i bytes)) ≡ whole → glued (take (i + 1) bytes) (elements_from (nesting_after nesting b) (drop (i + 1) bytes)) ≡ whole
unfolding elements_from
glued_more bytes i b nesting whole lt is other h =
    let one : elements_from nesting (drop i bytes) ≡ onto_first b (elements_from (nesting_after nesting b) (drop (i + 1) bytes)) = ap (elements_from nesting) (byte_at bytes i b lt is) ∙ rw other refl in
    let longer : take (i + 1) bytes ≡ take i bytes ++ b ∷ [] = take_more bytes i 0 lt ∙ ap (λ (y : ℕ). take i bytes ++ y ∷ []) (sym is) in
    rw longer (sym (glued-onto (take i bytes) b (elements_from (nesting_after nesting b) (drop (i + 1) bytes))) ∙ sym (ap (glued (take i bytes)) one) ∙ h)

-- the comma after the first element
pub glued_stop : (bytes : List ℕ) (i b : ℕ) (nesting : Nesting) (whole : List (List ℕ)) → i < length bytes → b ≡ get_or bytes i 0 → is_comma nesting b ≡ true
    → glued (take i bytes) (elements_from nesting (drop i bytes)) ≡ whole → whole ≡ take i bytes ∷ elements_from (Outside 0) (drop (i + 1) bytes)
unfolding elements_from
glued_stop bytes i b nesting whole lt is comma h =
    let one : elements_from nesting (drop i bytes) ≡ [] ∷ elements_from (Outside 0) (drop (i + 1) bytes) = ap (elements_from nesting) (byte_at bytes i b lt is) ∙ rw comma refl in
    sym h ∙ ap (glued (take i bytes)) one ∙ ap (λ (t : List ℕ). t ∷ elements_from (Outside 0) (drop (i + 1) bytes)) (append-nil (take i bytes))

-- no comma is left
pub glued_end : (bytes : List ℕ) (i : ℕ) (nesting : Nesting) (whole : List (List ℕ)) → length bytes ≤ i
    → glued (take i bytes) (elements_from nesting (drop i bytes)) ≡ whole → whole ≡ bytes ∷ []
unfolding elements_from
glued_end bytes i nesting whole le h =
    let one : elements_from nesting (drop i bytes) ≡ [] ∷ [] = ap (elements_from nesting) (drop_all i bytes le) in
    sym h ∙ ap (glued (take i bytes)) one ∙ ap (λ (t : List ℕ). t ∷ []) (append-nil (take i bytes) ∙ take_all i bytes le)

-- how far a walk over the elements still has to go
abbrev pub bytes_left : Option (List ℕ) → ℕ
bytes_left (Some rest) = length rest + 1
bytes_left None = 0
