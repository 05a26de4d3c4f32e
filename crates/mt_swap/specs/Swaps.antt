-- Which of two shelves serves.
use Rattle.std.specs.Prelude.{ℕ, ◌==◌, if◌then◌else◌, Option, None, Some}
use Rattle.mt_shelf.specs.declared.sure_shelf.SureShelf.{SureShelf}

-- the second shelf, or the first where the second serves already
abbrev pub turned_to : Option SureShelf → SureShelf → SureShelf
turned_to (Some next) serving = next
turned_to None serving = serving

-- the shelf that gets the next call: the one that serves, while so many calls are left to it, and then the other
abbrev pub serving_of : ℕ → Option SureShelf → SureShelf → SureShelf
serving_of left next serving = if left == 0 then turned_to next serving else serving
