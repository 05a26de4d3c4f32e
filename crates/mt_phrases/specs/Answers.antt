-- What readers return.
use Rattle.std.specs.Prelude.{◌≡◌, Option, Some, None, Result, Ok, Err}
use Rattle.mt_phrases.specs.declared.error.SyntaxError.{SyntaxError}
use Rattle.mt_phrases.specs.declared.error.SyntaxError.TheVariants.{Bad, NoMemory}

-- what was returned is this sentence, unless memory was refused
abbrev pub GivesSentence : {A : Type 0} → Result A SyntaxError → A → Type 0
GivesSentence (Ok read) sentence = read ≡ sentence
GivesSentence (Err Bad) sentence = ⊥
GivesSentence (Err NoMemory) sentence = Unit {0}

-- an error comes of nothing being there, unless memory was refused
abbrev pub Fails : {Y : Type 0} → SyntaxError → Option Y → Type 0
Fails Bad read = read ≡ None
Fails NoMemory read = Unit {0}

-- what was returned, as it is seen, is what reading gives, unless memory was refused
abbrev pub GivesPhrase : {X Y : Type 0} → (X → Y) → Result X SyntaxError → Option Y → Type 0
GivesPhrase view (Ok x) read = read ≡ Some (view x)
GivesPhrase view (Err error) read = Fails error read
