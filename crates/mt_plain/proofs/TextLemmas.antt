-- columns.txt of two columns of numbers.
use Rattle.std.proofs.Common.{◌≡◌, ℕ, List, [], ◌∷◌, ◌++◌, refl, ap, sym, ◌∙◌, append_assoc}
use Rattle.std.specs.Prelude.{codes}
use Rattle.std.specs.Fmt.{digits}
use Rattle.std.proofs.lemmas.List.{append-nil}
use Rattle.mt_table.specs.Form.{uint64_column}
use Rattle.mt_defs.specs.Metadata.{column_line, columns_text}
use Rattle.mt_defs.proofs.Examples.{name_u64}

line_is : (name : List ℕ) → column_line (uint64_column name) ≡ codes "`" ++ (name ++ codes "` UInt64\n")
line_is name =
    ap (λ ty. (((codes "`" ++ name) ++ codes "` ") ++ ty) ++ codes "\n") name_u64
    ∙ append_assoc ((codes "`" ++ name) ++ codes "` ") (codes "UInt64") (codes "\n")
    ∙ append_assoc (codes "`" ++ name) (codes "` ") (codes "UInt64\n")
    ∙ append_assoc (codes "`") name (codes "` UInt64\n")

-- three appends are a line
pub line_appended : (name out x y : List ℕ) → x ≡ out ++ codes "`" → y ≡ x ++ name → y ++ codes "` UInt64\n" ≡ out ++ column_line (uint64_column name)
line_appended name out x y p q =
    ap (λ l. l ++ codes "` UInt64\n") (q ∙ ap (λ l. l ++ name) p) ∙ append_assoc (out ++ codes "`") name (codes "` UInt64\n")
    ∙ append_assoc out (codes "`") (name ++ codes "` UInt64\n") ∙ ap (λ l. out ++ l) (sym (line_is name))

text_is : (first second : List ℕ)
    → columns_text (uint64_column first ∷ uint64_column second ∷ []) ≡ codes "columns format version: 1\n2 columns:\n" ++ (column_line (uint64_column first) ++ (column_line (uint64_column second) ++ []))
unfolding digits
text_is first second = refl

-- the head and two lines
pub text_appended : (first second x y z : List ℕ) → x ≡ codes "columns format version: 1\n2 columns:\n" → y ≡ x ++ column_line (uint64_column first) → z ≡ y ++ column_line (uint64_column second)
    → z ≡ columns_text (uint64_column first ∷ uint64_column second ∷ [])
text_appended first second x y z p q r =
    let head = codes "columns format version: 1\n2 columns:\n" in
    let one = column_line (uint64_column first) in
    let two = column_line (uint64_column second) in
    r ∙ ap (λ l. l ++ two) (q ∙ ap (λ l. l ++ one) p) ∙ append_assoc head one two
    ∙ ap (λ l. head ++ (one ++ l)) (sym (append-nil two)) ∙ sym (text_is first second)
