-- The tree of a production, made of those of its parts.
use Rattle.std.specs.Prelude.{ℕ, List, Bool}
use Rattle.mt_cond_syntax.specs.declared.op.Op.{Op}
use Rattle.mt_cond_syntax.specs.declared.tree.Literal.{Literal}
use Rattle.mt_cond_syntax.specs.declared.tree.CondText.{CondText}
use Rattle.mt_cond_syntax.specs.declared.tree.CondText.TheVariants.{Cmp, OneOf, IsNull, Starts, Has}

-- a comparison of its name, its sign and its literal
abbrev pub comparison_of : List ℕ × (Op × Literal) → CondText
comparison_of x = Cmp x.0 x.1.0 x.1.1

-- an IN of its name and its literals
abbrev pub one_of_of : List ℕ × List Literal → CondText
one_of_of x = OneOf x.0 x.1

-- an IS NULL of its name, and whether it is with NOT
abbrev pub null_test_of : List ℕ × Bool → CondText
null_test_of x = IsNull x.0 x.1

-- a startsWith of its name and its text
abbrev pub starts_of : List ℕ × List ℕ → CondText
starts_of x = Starts x.0 x.1

-- a has of its name and its literal
abbrev pub has_of : List ℕ × Literal → CondText
has_of x = Has x.0 x.1
