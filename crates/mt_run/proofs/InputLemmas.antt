-- The words of inputs are tried one after another.
use Rattle.std.proofs.Common.{◌≡◌, List, [], ◌∷◌, map, true, false, IsTrue, All, sym, ap, ◌∙◌, string_bytes, Global, String}
use Rattle.std.specs.Prelude.{◌&&◌}
use Rattle.std.specs.List.{list_all}
use Rattle.std.proofs.lemmas.List.Elements.{All-nil, All-cons}
use Rattle.mt_types.proofs.StepLemmas.{both_true}
use Rattle.mt_shelf.specs.Paths.{is_path}

-- what is left decides
abbrev pub Decide : List (String Global) → List (String Global) → Type 0
Decide rest words = list_all is_path (map string_bytes rest) ≡ list_all is_path (map string_bytes words)

pub decide_next : (rest words more : List (String Global)) (word : String Global) → rest ≡ word ∷ more → is_path (string_bytes word) ≡ true → Decide rest words → Decide more words
decide_next rest words more word e good before =
    sym (ap (λ b. b && list_all is_path (map string_bytes more)) good) ∙ sym (ap (λ (r : List (String Global)). list_all is_path (map string_bytes r)) e) ∙ before

pub decide_refused : (rest words more : List (String Global)) (word : String Global) → rest ≡ word ∷ more → is_path (string_bytes word) ≡ false → Decide rest words → false ≡ list_all is_path (map string_bytes words)
decide_refused rest words more word e bad before =
    sym (ap (λ b. b && list_all is_path (map string_bytes more)) bad) ∙ sym (ap (λ (r : List (String Global)). list_all is_path (map string_bytes r)) e) ∙ before

pub decide_end : (rest words : List (String Global)) → rest ≡ [] → Decide rest words → true ≡ list_all is_path (map string_bytes words)
decide_end rest words e before = sym (ap (λ (r : List (String Global)). list_all is_path (map string_bytes r)) e) ∙ before

-- each of them is a path
pub paths_of : (words : List (String Global)) → list_all is_path (map string_bytes words) ≡ true → All (λ word. IsTrue (is_path (string_bytes word))) words
paths_of [] e = All-nil (λ (word : String Global). IsTrue (is_path (string_bytes word)))
paths_of (word ∷ words) e =
    let both = both_true (is_path (string_bytes word)) (list_all is_path (map string_bytes words)) e in
    All-cons (λ (w : String Global). IsTrue (is_path (string_bytes w))) word words both.0 (paths_of words both.1)
