-- The numbers that are read of a marks file are those of which its bytes are made.
use Rattle.std.proofs.Common.{◌≡◌, ℕ, zero, suc, ◌+◌, ◌*◌, ◌/◌, ◌≤◌, List, ◌++◌, length, map, take, drop, refl, ap, sym, ◌∙◌, arith, take-add}
use Rattle.std.specs.List.{flat_map}
use Rattle.std.proofs.lemmas.List.{length-take, length-drop, take_all}
use Rattle.std.proofs.lemmas.Nat.{le_bytes_8}
use Rattle.mt_defs.specs.declared.mark.Mark.{Mark}
use Rattle.mt_defs.specs.Marks.{entry_bytes, mark_bytes, marks_bytes, u64_bytes}
use Rattle.mt_frame.proofs.BlockLemmas.{BytesAt, bytes_in_drop, bytes_in_take}
use Rattle.mt_marks.specs.Entries.{Entry}
use Rattle.mt_marks.specs.MarkReading.{entries_from, entry_len, marks_from, u64_at}
use Rattle.mt_marks.proofs.RawLemmas.{all_rows, entries_next, entries_none, marks_next, marks_none}

-- the marks of each entry
abbrev pub entry_lists : List Entry → List (List Mark)
entry_lists = map (λ (e : Entry). e.marks)

eight : (bytes : List ℕ) (i : ℕ) → BytesAt bytes → i + 8 ≤ length bytes → u64_bytes (u64_at i bytes) ≡ take 8 (drop i bytes)
eight bytes i are long =
    let l : length (take 8 (drop i bytes)) ≡ 8 = omega (arith, length-take 8 (drop i bytes), length-drop i bytes) in
    le_bytes_8 (take 8 (drop i bytes)) (u64_at i bytes) l (bytes_in_take 8 (drop i bytes) (bytes_in_drop bytes are i)) refl

mark_back : (bytes : List ℕ) → BytesAt bytes → 16 ≤ length bytes → mark_bytes (record { offset = u64_at 0 bytes; inner = u64_at 8 bytes }) ≡ take 16 bytes
mark_back bytes are long =
    ap (λ (l : List ℕ). l ++ u64_bytes (u64_at 8 bytes)) (eight bytes 0 are (omega arith)) ∙ ap (λ (l : List ℕ). take 8 bytes ++ l) (eight bytes 8 are (omega arith)) ∙ sym (take-add 8 8 bytes)

marks_back : (k : ℕ) (bytes : List ℕ) → BytesAt bytes → 16 * k ≤ length bytes → flat_map mark_bytes (marks_from k bytes) ≡ take (16 * k) bytes
marks_back zero bytes are long = ap (flat_map mark_bytes) (marks_none bytes) ∙ ap (λ (n : ℕ). take n bytes) (let z : 0 ≡ 16 * 0 = omega arith in z)
marks_back (suc k) bytes are long =
    ap (flat_map mark_bytes) (marks_next k bytes)
    ∙ ap (λ (l : List ℕ). l ++ flat_map mark_bytes (marks_from k (drop 16 bytes))) (mark_back bytes are (omega arith))
    ∙ ap (λ (l : List ℕ). take 16 bytes ++ l) (marks_back k (drop 16 bytes) (bytes_in_drop bytes are 16) (omega (arith, length-drop 16 bytes)))
    ∙ sym (take-add 16 (16 * k) bytes) ∙ ap (λ (n : ℕ). take n bytes) (let z : 16 + 16 * k ≡ 16 * suc k = omega arith in z)

entry_back : (per : ℕ) (bytes : List ℕ) → BytesAt bytes → entry_len per ≤ length bytes → entry_bytes (marks_from per bytes) (u64_at (16 * per) bytes) ≡ take (entry_len per) bytes
entry_back per bytes are long =
    ap (λ (l : List ℕ). l ++ u64_bytes (u64_at (16 * per) bytes)) (marks_back per bytes are (omega arith))
    ∙ ap (λ (l : List ℕ). take (16 * per) bytes ++ l) (eight bytes (16 * per) are (omega arith)) ∙ sym (take-add (16 * per) 8 bytes)

entries_bytes : (per n : ℕ) (bytes : List ℕ) → BytesAt bytes → n * entry_len per ≤ length bytes
    → marks_bytes (entry_lists (entries_from per n bytes)) (all_rows (entries_from per n bytes)) ≡ take (n * entry_len per) bytes
entries_bytes per zero bytes are long = ap (λ (es : List Entry). marks_bytes (entry_lists es) (all_rows es)) (entries_none per bytes) ∙ ap (λ (n : ℕ). take n bytes) (let z : 0 ≡ 0 * entry_len per = omega arith in z)
entries_bytes per (suc n) bytes are long =
    let more : List Entry = entries_from per n (drop (entry_len per) bytes) in
    ap (λ (es : List Entry). marks_bytes (entry_lists es) (all_rows es)) (entries_next per n bytes)
    ∙ ap (λ (l : List ℕ). l ++ marks_bytes (entry_lists more) (all_rows more)) (entry_back per bytes are (omega arith))
    ∙ ap (λ (l : List ℕ). take (entry_len per) bytes ++ l) (entries_bytes per n (drop (entry_len per) bytes) (bytes_in_drop bytes are (entry_len per)) (omega (arith, length-drop (entry_len per) bytes)))
    ∙ sym (take-add (entry_len per) (n * entry_len per) bytes) ∙ ap (λ (k : ℕ). take k bytes) (let z : entry_len per + n * entry_len per ≡ suc n * entry_len per = omega arith in z)

-- a file of whole entries is made of them
pub file_encodes : (per : ℕ) (bytes : List ℕ) (es : List Entry) → BytesAt bytes → es ≡ entries_from per (length bytes / entry_len per) bytes → length bytes ≡ length bytes / entry_len per * entry_len per → bytes ≡ marks_bytes (entry_lists es) (all_rows es)
file_encodes per bytes es are is whole =
    sym (ap (λ (es : List Entry). marks_bytes (entry_lists es) (all_rows es)) is ∙ entries_bytes per (length bytes / entry_len per) bytes are (omega (arith, whole)) ∙ take_all (length bytes / entry_len per * entry_len per) bytes (omega (arith, whole)))
