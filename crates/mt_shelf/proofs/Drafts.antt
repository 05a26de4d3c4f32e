-- Drafts that grow.
use Rattle.std.proofs.Common.{◌≡◌, ℕ, List, [], ◌∷◌, ◌++◌, Option, Some, None, refl, ap, append_assoc}
use Rattle.std.proofs.lemmas.List.{append-nil}
use Rattle.std.specs.Option.{option_map}
use Rattle.mt_shelf.specs.Files.{Draft, gained_files}
use Rattle.mt_shelf.specs.State.{State, Content, files_of, after_puts, after_put, after_begin, published_files, with_put, with_puts, with_draft}

content-put : (draft : Draft) (name bytes : List ℕ) (content : Option Content) → option_map (with_put name bytes) (option_map (with_puts draft) content) ≡ option_map (with_puts (draft ++ (name, bytes) ∷ [])) content
content-put draft name bytes None = refl
content-put draft name bytes (Some c) = ap (λ (d : Draft). Some (record c { draft = d })) (append_assoc c.draft draft ((name, bytes) ∷ []))

-- one more
pub put_after_all : (draft : Draft) (name bytes : List ℕ) (s : State) → after_put name bytes (after_puts draft s) ≡ after_puts (draft ++ (name, bytes) ∷ []) s
put_after_all draft name bytes s = ap (λ (content : Option Content). record s { content = content }) (content-put draft name bytes s.content)

content-nil : (content : Option Content) → option_map (with_puts []) content ≡ content
content-nil None = refl
content-nil (Some c) = ap (λ (d : Draft). Some (record c { draft = d })) (append-nil c.draft)

pub put-nil : (s : State) → after_puts [] s ≡ s
put-nil s = ap (λ (content : Option Content). record s { content = content }) (content-nil s.content)

content-published_files : (part : List ℕ) (draft : Draft) (content : Option Content) → option_map published_files (option_map (with_puts draft) (option_map (with_draft part []) content)) ≡ option_map (gained_files part draft) (option_map (λ c. c.files) content)
content-published_files part draft None = refl
content-published_files part draft (Some c) = refl

-- what a draft publishes that was opened at a part
pub published_files-all : (part : List ℕ) (draft : Draft) (s : State) → option_map published_files (after_puts draft (after_begin part s)).content ≡ option_map (gained_files part draft) (files_of s)
published_files-all part draft s = content-published_files part draft s.content

content-kept : (draft : Draft) (content : Option Content) → option_map (λ (c : Content). c.files) (option_map (with_puts draft) content) ≡ option_map (λ (c : Content). c.files) content
content-kept draft None = refl
content-kept draft (Some c) = refl

pub files-after_puts : (draft : Draft) (s : State) → files_of (after_puts draft s) ≡ files_of s
files-after_puts draft s = content-kept draft s.content

content-begun : (part : List ℕ) (content : Option Content) → option_map (λ (c : Content). c.files) (option_map (with_draft part []) content) ≡ option_map (λ (c : Content). c.files) content
content-begun part None = refl
content-begun part (Some c) = refl

pub files-after_begin : (part : List ℕ) (s : State) → files_of (after_begin part s) ≡ files_of s
files-after_begin part s = content-begun part s.content
