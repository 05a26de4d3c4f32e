-- Reading frames is exact: the blocks that are read are those of which the file is made.
use Rattle.std.proofs.Common.{◌≡◌, ℕ, zero, suc, ◌+◌, ◌<◌, ◌≤◌, List, [], ◌∷◌, ◌++◌, length, take, drop, refl, ap, sym, ◌∙◌, subst, append_assoc, arith, length-append, lit<}
use Rattle.std.specs.Prelude.{Result, Ok, Err, slice_index, All, ◌↔◌}
use Rattle.std.specs.Int.{w32, to_le_bytes, from_le_bytes}
use Rattle.std.proofs.lemmas.Bool.{leb-true, ltb-true, eqb-true, le-leb, lt-ltb, eq-eqb}
use Rattle.std.proofs.lemmas.List.{take-append-drop, length-take, length-drop, drop-drop, get_or-drop, get_or-append-add}
use Rattle.std.proofs.Math.Seq.{drop-cons}
use Rattle.std.proofs.Math.Seq.{drop-append-add, take-append_seam, drop-append_seam, get_or-append_seam}
use Rattle.std.proofs.lemmas.Nat.{le_bytes_4, from_le_bytes-to_le_bytes_4}
use Rattle.std.proofs.lemmas.List.Elements.{All-cons, All-nil, All-head, All-tail}
use Rattle.mt_frame.specs.declared.fault.FrameWhy.{FrameWhy}
use Rattle.mt_types.specs.Steps.{◌>>=◌, at, onto}
use Rattle.mt_defs.specs.Frames.{Block, IsBlock, IsFileOf, block_bytes, file_of}
use Rattle.mt_defs.specs.declared.frame.TheConstants.{MAX_PAYLOAD}
use Rattle.mt_defs.specs.Lists.{AreBytes}
use Rattle.mt_frame.specs.FrameReading.{frame_reading, frames_from, frames_reading, u32_at}
use Rattle.mt_types.proofs.StepLemmas.{required, both_true, ok_pair, passed, ok_one, both_of, onto_ok, at_ok_then}

-- each number is a byte
abbrev pub BytesAt : List ℕ → Type 0
BytesAt bytes = (i : ℕ) → slice_index bytes i < 256

pub all_bytes : (bytes : List ℕ) → BytesAt bytes → AreBytes bytes
all_bytes [] are = All-nil (λ byte. byte < 256)
all_bytes (b ∷ bytes) are = All-cons (λ byte. byte < 256) b bytes (are 0) (all_bytes bytes (λ i. are (suc i)))

-- what an accepted first fixes
pub record IsHeaderOf (bytes : List ℕ) (c : Block) (rest : List ℕ) : Type 0 where
  pub long : 25 ≤ length bytes
  pub method : slice_index bytes 16 ≡ 2
  pub sizes : u32_at 17 bytes ≡ u32_at 21 bytes + 9
  pub some : 0 < u32_at 21 bytes
  pub most : u32_at 21 bytes ≤ MAX_PAYLOAD
  pub whole : 25 + u32_at 21 bytes ≤ length bytes
  pub block : c ≡ record { checksum = take 16 bytes; payload = take (u32_at 21 bytes) (drop 25 bytes) }
  pub rest_is : rest ≡ drop (25 + u32_at 21 bytes) bytes

pub header_facts : (bytes : List ℕ) (c : Block) (rest : List ℕ) → frame_reading bytes ≡ Ok (c, rest) → IsHeaderOf bytes c rest
unfolding frame_reading
header_facts bytes c rest e =
    required _ _ _ _ e (λ a e. required _ _ _ _ e (λ b e. required _ _ _ _ e (λ d e. required _ _ _ _ e (λ f e. required _ _ _ _ e (λ g e.
    let both = both_true _ _ d in let pair = ok_pair _ _ _ _ e in
    record { long = leb-true _ _ a; method = eqb-true _ _ b; sizes = eqb-true _ _ both.0; some = ltb-true _ _ both.1; most = leb-true _ _ f; whole = leb-true _ _ g; block = pair.0; rest_is = pair.1 })))))

pub bytes_in_drop : (bytes : List ℕ) → BytesAt bytes → (m : ℕ) → BytesAt (drop m bytes)
bytes_in_drop bytes are m i = rw get_or-drop (are (m + i))

pub bytes_in_take : (n : ℕ) (bytes : List ℕ) → BytesAt bytes → BytesAt (take n bytes)
bytes_in_take zero bytes are i = lit< tt
bytes_in_take (suc n) [] are i = are i
bytes_in_take (suc n) (b ∷ bytes) are zero = are zero
bytes_in_take (suc n) (b ∷ bytes) are (suc i) = bytes_in_take n bytes (λ j. are (suc j)) i

-- what stands in a frame's places
module _ (checksum payload rest : List ℕ) (method said size : ℕ) where
  abbrev frame_bytes : List ℕ
  frame_bytes = checksum ++ method ∷ (to_le_bytes w32 said ++ (to_le_bytes w32 size ++ (payload ++ rest)))

  pub at_method : length checksum ≡ 16 → slice_index frame_bytes 16 ≡ method
  at_method e = subst (λ (n : ℕ). slice_index frame_bytes n ≡ method) e (get_or-append_seam checksum method _ 0)

  pub at_said : length checksum ≡ 16 → drop 17 frame_bytes ≡ to_le_bytes w32 said ++ (to_le_bytes w32 size ++ (payload ++ rest))
  at_said e = subst (λ (n : ℕ). drop (n + 1) frame_bytes ≡ to_le_bytes w32 said ++ (to_le_bytes w32 size ++ (payload ++ rest))) e (drop-append-add checksum _ 1)

  pub at_size : length checksum ≡ 16 → drop 21 frame_bytes ≡ to_le_bytes w32 size ++ (payload ++ rest)
  at_size e = subst (λ (n : ℕ). drop (n + 5) frame_bytes ≡ to_le_bytes w32 size ++ (payload ++ rest)) e (drop-append-add checksum _ 5)

  pub at_payload : length checksum ≡ 16 → drop 25 frame_bytes ≡ payload ++ rest
  at_payload e = subst (λ (n : ℕ). drop (n + 9) frame_bytes ≡ payload ++ rest) e (drop-append-add checksum _ 9)

  pub at_sums : length checksum ≡ 16 → take 16 frame_bytes ≡ checksum
  at_sums e = subst (λ (n : ℕ). take n frame_bytes ≡ checksum) e (take-append_seam checksum _)

-- four bytes are those of their number
four : (bytes : List ℕ) (i : ℕ) → BytesAt bytes → i + 4 ≤ length bytes → take 4 (drop i bytes) ≡ to_le_bytes w32 (u32_at i bytes)
four bytes i are long =
    let l : length (take 4 (drop i bytes)) ≡ 4 = omega (arith, length-take 4 (drop i bytes), length-drop i bytes) in
    sym (le_bytes_4 (take 4 (drop i bytes)) (u32_at i bytes) l (bytes_in_take 4 (drop i bytes) (bytes_in_drop bytes are i)) refl)

cut_at : (bytes : List ℕ) (i n : ℕ) → drop i bytes ≡ take n (drop i bytes) ++ drop (i + n) bytes
cut_at bytes i n = sym (take-append-drop n (drop i bytes)) ∙ ap (λ (r : List ℕ). take n (drop i bytes) ++ r) (drop-drop n i bytes)

-- bytes of at least a header, in a frame's places
split_up : (bytes : List ℕ) (n : ℕ) → 25 ≤ length bytes →
    bytes ≡ take 16 bytes ++ slice_index bytes 16 ∷ (take 4 (drop 17 bytes) ++ (take 4 (drop 21 bytes) ++ (take n (drop 25 bytes) ++ drop (25 + n) bytes)))
split_up bytes n long =
    let a : bytes ≡ take 16 bytes ++ drop 16 bytes = sym (take-append-drop 16 bytes) in
    let b : drop 16 bytes ≡ slice_index bytes 16 ∷ drop 17 bytes = drop-cons bytes 16 0 (omega arith) in
    let c : drop 17 bytes ≡ take 4 (drop 17 bytes) ++ drop 21 bytes = cut_at bytes 17 4 in
    let d : drop 21 bytes ≡ take 4 (drop 21 bytes) ++ drop 25 bytes = cut_at bytes 21 4 in
    let e : drop 25 bytes ≡ take n (drop 25 bytes) ++ drop (25 + n) bytes = cut_at bytes 25 n in
    a ∙ ap (λ (r : List ℕ). take 16 bytes ++ r) (b ∙ ap (λ (r : List ℕ). slice_index bytes 16 ∷ r) (c ∙ ap (λ (r : List ℕ). take 4 (drop 17 bytes) ++ r) (d ∙ ap (λ (r : List ℕ). take 4 (drop 21 bytes) ++ r) e)))

-- a first that is read is a frame, and the bytes are its and then the rest
pub frame_sound : (bytes : List ℕ) (c : Block) (rest : List ℕ) → BytesAt bytes → frame_reading bytes ≡ Ok (c, rest) → IsBlock c × (bytes ≡ block_bytes c ++ rest)
frame_sound bytes c rest are e =
    let f = header_facts bytes c rest e in
    let n = u32_at 21 bytes in
    let size : length c.payload ≡ n = ap (λ (c : Block). length c.payload) f.block ∙ omega (arith, f.whole, length-take n (drop 25 bytes), length-drop 25 bytes) in
    let checksum : length c.checksum ≡ 16 = ap (λ (c : Block). length c.checksum) f.block ∙ omega (arith, f.long, length-take 16 bytes) in
    let parts = split_up bytes n f.long in
    let said : take 4 (drop 17 bytes) ≡ to_le_bytes w32 (length c.payload + 9) = four bytes 17 are (omega (arith, f.long)) ∙ ap (to_le_bytes w32) (f.sizes ∙ ap (λ (k : ℕ). k + 9) (sym size)) in
    let held : take 4 (drop 21 bytes) ≡ to_le_bytes w32 (length c.payload) = four bytes 21 are (omega (arith, f.long)) ∙ ap (to_le_bytes w32) (sym size) in
    let whole : bytes ≡ take 16 bytes ++ 2 ∷ (to_le_bytes w32 (length c.payload + 9) ++ (to_le_bytes w32 (length c.payload) ++ (take n (drop 25 bytes) ++ drop (25 + n) bytes))) =
    parts ∙ joined_parts (take 16 bytes) (slice_index bytes 16) 2 (take 4 (drop 17 bytes)) (to_le_bytes w32 (length c.payload + 9)) (take 4 (drop 21 bytes)) (to_le_bytes w32 (length c.payload)) _ f.method said held in (
      record {
        checksum_length = checksum;
        checksum_bytes = subst (λ (xs : List ℕ). AreBytes xs) (sym (ap (λ (c : Block). c.checksum) f.block)) (all_bytes (take 16 bytes) (bytes_in_take 16 bytes are));
        not_empty = omega (arith, size, f.some);
        small = rw size f.most;
        payload_bytes = subst (λ (xs : List ℕ). AreBytes xs) (sym (ap (λ (c : Block). c.payload) f.block)) (all_bytes (take n (drop 25 bytes)) (bytes_in_take n (drop 25 bytes) (bytes_in_drop bytes are 25)));
      },
      whole ∙ regrouped c rest bytes n f.block f.rest_is,
    )
  where
    joined_parts : (s : List ℕ) (m m' : ℕ) (a a' b b' r : List ℕ) → m ≡ m' → a ≡ a' → b ≡ b' → s ++ m ∷ (a ++ (b ++ r)) ≡ s ++ m' ∷ (a' ++ (b' ++ r))
    joined_parts s m m' a a' b b' r e f g = cc

    regrouped : (c : Block) (rest bytes : List ℕ) (n : ℕ) → c ≡ record { checksum = take 16 bytes; payload = take n (drop 25 bytes) } → rest ≡ drop (25 + n) bytes →
        take 16 bytes ++ 2 ∷ (to_le_bytes w32 (length c.payload + 9) ++ (to_le_bytes w32 (length c.payload) ++ (take n (drop 25 bytes) ++ drop (25 + n) bytes))) ≡ block_bytes c ++ rest
    regrouped c rest bytes n is left =
        let s : take 16 bytes ≡ c.checksum = sym (ap (λ (c : Block). c.checksum) is) in
        let p : take n (drop 25 bytes) ≡ c.payload = sym (ap (λ (c : Block). c.payload) is) in
        rw (s, p, ← left) (simp append_assoc)

-- a first whose parts hold is read
reads_frame : (bytes : List ℕ) → 25 ≤ length bytes → slice_index bytes 16 ≡ 2 → u32_at 17 bytes ≡ u32_at 21 bytes + 9 → 0 < u32_at 21 bytes → u32_at 21 bytes ≤ MAX_PAYLOAD → 25 + u32_at 21 bytes ≤ length bytes →
    frame_reading bytes ≡ Ok (record { checksum = take 16 bytes; payload = take (u32_at 21 bytes) (drop 25 bytes) }, drop (25 + u32_at 21 bytes) bytes)
unfolding frame_reading
reads_frame bytes long method sizes some most whole =
    passed _ _ _ (le-leb _ _ long) ∙ passed _ _ _ (eq-eqb _ _ method) ∙ passed _ _ _ (both_of _ _ (eq-eqb _ _ sizes) (lt-ltb _ _ some)) ∙ passed _ _ _ (le-leb _ _ most) ∙ passed _ _ _ (le-leb _ _ whole)

-- what a frame says at its places is what the reading of a first wants
pub frame_complete : (c : Block) (rest : List ℕ) → IsBlock c → frame_reading (block_bytes c ++ rest) ≡ Ok (c, rest)
frame_complete c rest is =
    let n = length c.payload in
    let fb = frame_bytes c.checksum c.payload rest 2 (n + 9) n in
    let size : u32_at 21 fb ≡ n = ap (λ (r : List ℕ). from_le_bytes w32 (take 4 r)) (at_size c.checksum c.payload rest 2 (n + 9) n is.checksum_length) ∙ from_le_bytes-to_le_bytes_4 n (omega (arith, is.small)) in
    let said : u32_at 17 fb ≡ n + 9 = ap (λ (r : List ℕ). from_le_bytes w32 (take 4 r)) (at_said c.checksum c.payload rest 2 (n + 9) n is.checksum_length) ∙ from_le_bytes-to_le_bytes_4 (n + 9) (omega (arith, is.small)) in
    let long : length fb ≡ 25 + (n + length rest) = length-append c.checksum _ ∙ omega (arith, is.checksum_length, length-append c.payload rest) in
    let read = reads_frame fb (omega arith) (at_method c.checksum c.payload rest 2 (n + 9) n is.checksum_length) (said ∙ ap (λ (k : ℕ). k + 9) (sym size)) (omega (arith, is.not_empty)) (rw size is.small) (omega arith) in
    let body : drop 25 fb ≡ c.payload ++ rest = at_payload c.checksum c.payload rest 2 (n + 9) n is.checksum_length in
    let left : drop (25 + n) fb ≡ rest = sym (drop-drop n 25 fb) ∙ ap (drop n) body ∙ drop-append_seam c.payload rest in
    let pay : take n (drop 25 fb) ≡ c.payload = ap (take n) body ∙ take-append_seam c.payload rest in
    ap frame_reading (regroup c rest) ∙ read ∙ settled (take 16 fb) (drop 25 fb) (u32_at 21 fb) fb c rest (at_sums c.checksum c.payload rest 2 (n + 9) n is.checksum_length) size pay left
  where
    regroup : (c : Block) (rest : List ℕ) → block_bytes c ++ rest ≡ c.checksum ++ 2 ∷ (to_le_bytes w32 (length c.payload + 9) ++ (to_le_bytes w32 (length c.payload) ++ (c.payload ++ rest)))
    regroup c rest = simp append_assoc

    settled : (s d : List ℕ) (k : ℕ) (fb : List ℕ) (c : Block) (rest : List ℕ) → s ≡ c.checksum → k ≡ length c.payload → take (length c.payload) d ≡ c.payload → drop (25 + length c.payload) fb ≡ rest →
        (let r : Result (Block × List ℕ) FrameWhy = Ok (record { checksum = s; payload = take k d }, drop (25 + k) fb) in r) ≡ Ok (c, rest)
    settled s d k fb c rest a b e f = rw (b, a, e, f) refl

-- ---- the whole file

-- a frame takes a byte
pub frame_shrinks : (bytes : List ℕ) (c : Block) (rest : List ℕ) → frame_reading bytes ≡ Ok (c, rest) → length rest < length bytes
frame_shrinks bytes c rest e =
    let f = header_facts bytes c rest e in
    omega (arith, f.whole, ap (λ (r : List ℕ). length r) f.rest_is, length-drop (25 + u32_at 21 bytes) bytes)

-- one step of reading, given what the first is and how the rest is read
abbrev frames_step : ℕ → Result (Block × List ℕ) FrameWhy → (ℕ → List ℕ → Result (List Block) (ℕ × FrameWhy)) → Result (List Block) (ℕ × FrameWhy)
frames_step offset r more = at offset r >>= λ first. onto first.0 (more (offset + (25 + length first.0.payload)) first.1)

pub frames_next : (m offset b : ℕ) (bytes : List ℕ) → frames_from (suc m) offset (b ∷ bytes) ≡ frames_step offset (frame_reading (b ∷ bytes)) (frames_from m)
unfolding frames_from
frames_next m offset b bytes = refl

pub frames_none : (m offset : ℕ) → frames_from m offset [] ≡ Ok []
unfolding frames_from
frames_none m offset = refl

same_step : (offset : ℕ) (whole : List ℕ) (r : Result (Block × List ℕ) FrameWhy) (f g : ℕ → List ℕ → Result (List Block) (ℕ × FrameWhy)) → frame_reading whole ≡ r
    → ((o : ℕ) (rest : List ℕ) → length rest < length whole → f o rest ≡ g o rest) → frames_step offset r f ≡ frames_step offset r g
same_step offset whole (Err w) f g e same = refl
same_step offset whole (Ok (c, rest)) f g e same = ap (λ (r : Result (List Block) (ℕ × FrameWhy)). onto c r) (same (offset + (25 + length c.payload)) rest (frame_shrinks whole c rest e))

-- more than enough steps change nothing
pub enough : (m n offset : ℕ) (bytes : List ℕ) → length bytes ≤ m → length bytes ≤ n → frames_from m offset bytes ≡ frames_from n offset bytes
enough m n offset [] a b = frames_none m offset ∙ sym (frames_none n offset)
enough zero n offset (x ∷ bytes) a b = absurd (omega arith)
enough (suc m) zero offset (x ∷ bytes) a b = absurd (omega arith)
enough (suc m) (suc n) offset (x ∷ bytes) a b =
    frames_next m offset x bytes
    ∙ same_step offset (x ∷ bytes) (frame_reading (x ∷ bytes)) (frames_from m) (frames_from n) refl (λ o rest less. enough m n o rest (omega arith) (omega arith))
    ∙ sym (frames_next n offset x bytes)

pub bytes_after : (bytes first rest : List ℕ) → BytesAt bytes → bytes ≡ first ++ rest → BytesAt rest
bytes_after bytes first rest are is i =
    subst (λ (k : ℕ). k < 256) (ap (λ (bs : List ℕ). slice_index bs (length first + i)) is ∙ get_or-append-add first rest i 0) (are (length first + i))

out_of_steps : {Z : Type 0} (offset b : ℕ) (bytes : List ℕ) (blocks : List Block) → frames_from zero offset (b ∷ bytes) ≡ Ok blocks → Z
unfolding frames_from
out_of_steps offset b bytes blocks e = cc

pub frames_sound : (m offset : ℕ) (bytes : List ℕ) (blocks : List Block) → BytesAt bytes → frames_from m offset bytes ≡ Ok blocks → IsFileOf blocks bytes
frames_sound m offset [] blocks are e = subst (λ (cs : List Block). IsFileOf cs []) (sym (ok_one _ _ (sym (frames_none m offset) ∙ e))) (record { each = All-nil IsBlock; bytes = refl })
frames_sound zero offset (b ∷ bytes) blocks are e = out_of_steps offset b bytes blocks e
frames_sound (suc m) offset (b ∷ bytes) blocks are e =
    at_ok_then offset (frame_reading (b ∷ bytes)) (λ first. onto first.0 (frames_from m (offset + (25 + length first.0.payload)) first.1)) blocks (sym (frames_next m offset b bytes) ∙ e) (λ first is e.
    onto_ok first.0 (frames_from m (offset + (25 + length first.0.payload)) first.1) blocks e (λ others are_others all.
    let here = frame_sound (b ∷ bytes) first.0 first.1 are is in
    let more = frames_sound m (offset + (25 + length first.0.payload)) first.1 others (bytes_after (b ∷ bytes) (block_bytes first.0) first.1 are here.1) are_others in
    subst (λ (cs : List Block). IsFileOf cs (b ∷ bytes)) (sym all)
    (record { each = All-cons IsBlock first.0 others here.0 more.each; bytes = here.1 ∙ ap (λ (r : List ℕ). block_bytes first.0 ++ r) more.bytes })))

frame_is : (c : Block) → block_bytes c ≡ c.checksum ++ 2 ∷ (to_le_bytes w32 (length c.payload + 9) ++ (to_le_bytes w32 (length c.payload) ++ c.payload))
frame_is c = refl

pub frame_len : (c : Block) → IsBlock c → length (block_bytes c) ≡ 25 + length c.payload
frame_len c is = ap (λ (bs : List ℕ). length bs) (frame_is c) ∙ length-append c.checksum (2 ∷ (to_le_bytes w32 (length c.payload + 9) ++ (to_le_bytes w32 (length c.payload) ++ c.payload))) ∙ omega (arith, is.checksum_length)

frame_starts : (c : Block) (rest : List ℕ) → IsBlock c → (b : ℕ) × (tail : List ℕ) × (block_bytes c ++ rest ≡ b ∷ tail)
frame_starts c rest is =
    begins (block_bytes c ++ rest) (omega (arith, frame_len c is, length-append (block_bytes c) rest))
  where
    begins : (bytes : List ℕ) → 1 ≤ length bytes → (b : ℕ) × (tail : List ℕ) × (bytes ≡ b ∷ tail)
    begins [] h = absurd (omega arith)
    begins (b ∷ tail) h = (b, tail, refl)

pub frames_complete : (m offset : ℕ) (blocks : List Block) → All IsBlock blocks → length (file_of blocks) ≤ m → frames_from m offset (file_of blocks) ≡ Ok blocks
frames_complete m offset [] are long = frames_none m offset
frames_complete zero offset (c ∷ cs) are long =
    let s = frame_starts c (file_of cs) (All-head IsBlock c cs are) in
    absurd (omega (arith, long, ap (λ (r : List ℕ). length r) s.2))
frames_complete (suc m) offset (c ∷ cs) are long =
    let is = All-head IsBlock c cs are in
    let s = frame_starts c (file_of cs) is in
    let first : frame_reading (s.0 ∷ s.1) ≡ Ok (c, file_of cs) = ap frame_reading (sym s.2) ∙ frame_complete c (file_of cs) is in
    let less = frame_shrinks (s.0 ∷ s.1) c (file_of cs) first in
    let more = frames_complete m (offset + (25 + length c.payload)) cs (All-tail IsBlock c cs are) (omega (arith, less, long, ap (λ (r : List ℕ). length r) s.2)) in
    ap (λ (bytes : List ℕ). frames_from (suc m) offset bytes) s.2 ∙ frames_next m offset s.0 s.1
    ∙ ap (λ (r : Result (Block × List ℕ) FrameWhy). frames_step offset r (frames_from m)) first ∙ ap (λ (r : Result (List Block) (ℕ × FrameWhy)). onto c r) more

-- the frames of a file are those of which it is made, and no others
pub frames_exact : (file : List ℕ) (blocks : List Block) → BytesAt file → (frames_reading file ≡ Ok blocks) ↔ (IsFileOf blocks file)
frames_exact file blocks are = (
  (λ e. frames_sound (length file) 0 file blocks are e),
  (λ is. subst (λ (bytes : List ℕ). frames_reading bytes ≡ Ok blocks) (sym is.bytes) (frames_complete (length (file_of blocks)) 0 blocks is.each (omega arith))),
)
