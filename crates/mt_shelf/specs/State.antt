-- The state of a shelf, and what its calls make of it.
use Rattle.std.specs.Prelude.{◌≡◌, ◌⊎◌, ◌≤◌, Result, OnOk, IsErrOf, ℕ, Bool, true, false, List, [], ◌∷◌, ◌++◌, Option}
use Rattle.std.specs.Option.{option_map}
use Rattle.mt_shelf.specs.declared.causes.CallError.{CallError}
use Rattle.mt_shelf.specs.declared.causes.CallError.TheVariants.{Failed, NoMemory}
use Rattle.mt_shelf.specs.Causes.{grown_count}
use Rattle.mt_shelf.specs.Files.{Files, Draft, gained_files}

-- the files, and a draft that is to be published below a target
pub record Content : Type 0 where
  pub files : Files
  pub target : List ℕ
  pub draft : Draft

-- what contracts see of a shelf
pub record State : Type 0 where
  -- none where it isn't known, as of real folders
  pub content : Option Content
  -- whether a draft is open
  pub begun : Bool
  -- how many bytes reads gave
  pub taken : ℕ

-- the files, where they are known
abbrev pub files_of : State → Option Files
files_of state = option_map (λ content. content.files) state.content

-- with another draft, for a target
abbrev pub with_draft : List ℕ → Draft → Content → Content
with_draft target draft content = record content { target = target; draft = draft }

-- with a file more in the draft
abbrev pub with_put : List ℕ → List ℕ → Content → Content
with_put name bytes content = record content { draft = content.draft ++ (name, bytes) ∷ [] }

-- the files with those of the draft
abbrev pub published_files : Content → Files
published_files content = gained_files content.target content.draft content.files

-- the state after `begin`
abbrev pub after_begin : List ℕ → State → State
after_begin part state = record state { content = option_map (with_draft part []) state.content; begun = true }

-- the state after `put`
abbrev pub after_put : List ℕ → List ℕ → State → State
after_put name bytes state = record state { content = option_map (with_put name bytes) state.content }

-- the state after a read of so many bytes
abbrev pub after_read : ℕ → State → State
after_read count state = record state { taken = grown_count state.taken count }

-- the draft is closed, and these are the files
pub record Closes (old new : State) (after : Option Files) : Type 0 where
  pub files : files_of new ≡ after
  pub closed : new.begun ≡ false
  pub taken : new.taken ≡ old.taken

-- the draft is lost, and the files stay
abbrev pub Drops : State → State → Type 0
Drops old new = Closes old new (files_of old)

-- a `publish` that failed: all or nothing
abbrev pub AllOrNone : State → State → Type 0
AllOrNone old new = Closes old new (option_map published_files old.content) ⊎ Drops old new

-- with more files in the draft
abbrev pub with_puts : Draft → Content → Content
with_puts draft content = record content { draft = content.draft ++ draft }

-- the state after `put` of each
abbrev pub after_puts : Draft → State → State
after_puts draft state = record state { content = option_map (with_puts draft) state.content }

-- at most so many bytes have been taken, and nothing else has changed
abbrev pub ReadsUpTo : ℕ → State → State → Type 0
ReadsUpTo most old new = (count : ℕ) × (count ≤ most) × (new ≡ after_read count old)

-- an attempt to publish: the files afterwards, or those from before where it failed
pub record Stores (after : Option Files) (old new : State) (result : Result Unit CallError) : Type 0 where
  pub ok : OnOk result (files_of new ≡ after)
  pub failed : IsErrOf result Failed → (files_of new ≡ after) ⊎ (files_of new ≡ files_of old)
  pub memory : IsErrOf result NoMemory → files_of new ≡ files_of old
  pub closed : new.begun ≡ false
  pub taken : new.taken ≡ old.taken
