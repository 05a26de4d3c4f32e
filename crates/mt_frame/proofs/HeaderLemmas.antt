-- What the reading of a first answers, test by test.
use Rattle.std.proofs.Common.{◌≡◌, ℕ, ◌+◌, ◌<◌, ◌≤◌, ◌^◌, List, length, take, drop, refl, ap, sym, ◌∙◌, arith, ◌≢◌}
use Rattle.std.specs.Prelude.{Ok, Err, slice_index}
use Rattle.std.specs.Int.{w32, to_le_bytes, from_le_bytes}
use Rattle.std.proofs.lemmas.Bool.{le-leb, lt-leb, lt-ltb, le-ltb, eq-eqb, ne_eqb, and_from, and_left, and_right}
use Rattle.std.proofs.lemmas.List.{length-take, length-drop}
use Rattle.std.proofs.lemmas.Nat.{from_le_bytes-to_le_bytes_4}
use Rattle.mt_frame.specs.declared.fault.FrameWhy.TheVariants as why
use Rattle.mt_defs.specs.Frames.{Block}
use Rattle.mt_defs.specs.declared.frame.TheConstants.{MAX_PAYLOAD}
use Rattle.mt_frame.specs.FrameReading.{frame_reading, u32_at}
use Rattle.mt_types.proofs.StepLemmas.{passed, failed}

-- the number that a call read
pub number : (bytes : List ℕ) (i n : ℕ) → n < 2 ^ 32 → to_le_bytes w32 n ≡ take 4 (drop i bytes) → u32_at i bytes ≡ n
number bytes i n small is = ap (from_le_bytes w32) (sym is) ∙ from_le_bytes-to_le_bytes_4 n small

pub is_short : (bytes : List ℕ) → length bytes < 25 → frame_reading bytes ≡ Err why.Cut
unfolding frame_reading
is_short bytes h = failed _ _ _ (lt-leb _ _ h)

module _ (bytes : List ℕ) (long : 25 ≤ length bytes) where
  pub is_method : slice_index bytes 16 ≢ 2 → frame_reading bytes ≡ Err why.Method
  unfolding frame_reading
  is_method h = passed _ _ _ (le-leb _ _ long) ∙ failed _ _ _ (ne_eqb _ _ h)

  module _ (said size : ℕ) (method : slice_index bytes 16 ≡ 2) (a : u32_at 17 bytes ≡ said) (b : u32_at 21 bytes ≡ size) where
    pub is_unlike : said ≢ size + 9 → frame_reading bytes ≡ Err why.Sizes
    unfolding frame_reading
    is_unlike h = passed _ _ _ (le-leb _ _ long) ∙ passed _ _ _ (eq-eqb _ _ method) ∙ failed _ _ _ (and_left _ _ (ne_eqb _ _ (λ e. h (sym a ∙ e ∙ ap (λ (k : ℕ). k + 9) b))))

    pub is_none : size ≡ 0 → frame_reading bytes ≡ Err why.Sizes
    unfolding frame_reading
    is_none h = passed _ _ _ (le-leb _ _ long) ∙ passed _ _ _ (eq-eqb _ _ method) ∙ failed _ _ _ (and_right _ _ (le-ltb _ _ (let z : u32_at 21 bytes ≤ 0 = omega arith in z)))

    module _ (sizes : said ≡ size + 9) (some : size ≢ 0) where
      pub is_over : MAX_PAYLOAD < size → frame_reading bytes ≡ Err why.TooLong
      unfolding frame_reading
      is_over h =
          let equal : u32_at 17 bytes ≡ u32_at 21 bytes + 9 = omega arith in
          let positive : 0 < u32_at 21 bytes = omega arith in
          let large : MAX_PAYLOAD < u32_at 21 bytes = omega arith in
          passed _ _ _ (le-leb _ _ long) ∙ passed _ _ _ (eq-eqb _ _ method) ∙ passed _ _ _ (and_from _ _ (eq-eqb _ _ equal) (lt-ltb _ _ positive))
          ∙ failed _ _ _ (lt-leb _ _ large)

      pub is_cut : size ≤ MAX_PAYLOAD → length bytes < 25 + size → frame_reading bytes ≡ Err why.Cut
      unfolding frame_reading
      is_cut most h =
          let equal : u32_at 17 bytes ≡ u32_at 21 bytes + 9 = omega arith in
          let positive : 0 < u32_at 21 bytes = omega arith in
          let small : u32_at 21 bytes ≤ MAX_PAYLOAD = omega arith in
          let large : length bytes < 25 + u32_at 21 bytes = omega arith in
          passed _ _ _ (le-leb _ _ long) ∙ passed _ _ _ (eq-eqb _ _ method) ∙ passed _ _ _ (and_from _ _ (eq-eqb _ _ equal) (lt-ltb _ _ positive))
          ∙ passed _ _ _ (le-leb _ _ small) ∙ failed _ _ _ (lt-leb _ _ large)

      pub is_frame : size ≤ MAX_PAYLOAD → 25 + size ≤ length bytes → (c : Block) × (size ≡ length c.payload) × (frame_reading bytes ≡ Ok (c, drop (25 + size) bytes))
      unfolding frame_reading
      is_frame most h =
          let equal : u32_at 17 bytes ≡ u32_at 21 bytes + 9 = omega arith in
          let positive : 0 < u32_at 21 bytes = omega arith in
          let small : u32_at 21 bytes ≤ MAX_PAYLOAD = omega arith in
          let whole : 25 + u32_at 21 bytes ≤ length bytes = omega arith in (
            record { checksum = take 16 bytes; payload = take size (drop 25 bytes) },
            omega (arith, length-take size (drop 25 bytes), length-drop 25 bytes),
            passed _ _ _ (le-leb _ _ long) ∙ passed _ _ _ (eq-eqb _ _ method) ∙ passed _ _ _ (and_from _ _ (eq-eqb _ _ equal) (lt-ltb _ _ positive))
                ∙ passed _ _ _ (le-leb _ _ small) ∙ passed _ _ _ (le-leb _ _ whole) ∙ rw b refl,
          )
