-- Bytes taken in two steps, and facts about a known file.
use Rattle.std.proofs.Common.{◌≡◌, ℕ, ◌+◌, ◌≤◌, List, ◌++◌, take, drop, Option, Some, None, ap, sym, ◌∙◌, arith}
use Rattle.std.specs.Prelude.{IsSomeAnd}
use Rattle.std.specs.FinMap.{get}
use Rattle.std.proofs.Math.Seq.{take-add}
use Rattle.std.proofs.lemmas.List.{drop-drop}
use Rattle.mt_shelf.specs.Files.{Files}
use Rattle.mt_shelf.specs.State.{State, after_read, ReadsUpTo}
use Rattle.mt_shelf.proofs.WholeFiles.{grown_twice}
use Rattle.mt_shelf_frame.specs.Taking.{KnownBytes}

pub read_twice : (s : State) (a b : ℕ) → after_read b (after_read a s) ≡ after_read (a + b) s
read_twice s a b = ap (λ (n : ℕ). let t : State = record s { taken = n } in t) (grown_twice s.taken a b)

pub read_at_most : (s t : State) (a n : ℕ) → t ≡ after_read a s → a ≤ n → ReadsUpTo n s t
read_at_most s t a n is h = (a, h, is)

pub known_so : (files : Option Files) (path : List ℕ) (P Q : List ℕ → Type 0) → ((bytes : List ℕ) → P bytes → Q bytes) → KnownBytes files path P → KnownBytes files path Q
known_so None path P Q f known = tt
known_so (Some files) path P Q f known = found (get files path) known
  where
    found : (bytes : Option (List ℕ)) → IsSomeAnd bytes P → IsSomeAnd bytes Q
    found None known = known
    found (Some bytes) known = f bytes known

pub known_both : (files : Option Files) (path : List ℕ) (P Q : List ℕ → Type 0) → KnownBytes files path P → KnownBytes files path Q → KnownBytes files path (λ bytes. P bytes × Q bytes)
known_both None path P Q p q = tt
known_both (Some files) path P Q p q = found (get files path) p q
  where
    found : (bytes : Option (List ℕ)) → IsSomeAnd bytes P → IsSomeAnd bytes Q → IsSomeAnd bytes (λ bs. P bs × Q bs)
    found None p q = p
    found (Some bytes) p q = (p, q)

-- one more piece of a file's bytes in a buffer
pub filled : (old new bytes : List ℕ) (at done n : ℕ) → take done new ≡ take done old → take done old ≡ take done (drop at bytes) → take n (drop done new) ≡ take n (drop (at + done) bytes)
    → take (done + n) new ≡ take (done + n) (drop at bytes)
filled old new bytes at done n kept had more =
    take-add done n new ∙ ap (λ (xs : List ℕ). xs ++ take n (drop done new)) (kept ∙ had)
    ∙ ap (λ (xs : List ℕ). take done (drop at bytes) ++ xs) (more ∙ ap (λ (xs : List ℕ). take n xs) (sym (drop-drop done at bytes))) ∙ sym (take-add done n (drop at bytes))

-- a read after some bytes were taken
pub reads_on : (old mid new : State) (a n : ℕ) → mid ≡ after_read a old → ReadsUpTo n mid new → ReadsUpTo (a + n) old new
reads_on old mid new a n is (k, le, more) = (a + k, omega arith, more ∙ ap (λ (s : State). after_read k s) is ∙ read_twice old a k)

pub reads_within : (old new : State) (m n : ℕ) → m ≤ n → ReadsUpTo m old new → ReadsUpTo n old new
reads_within old new m n less (k, le, is) = (k, omega arith, is)
