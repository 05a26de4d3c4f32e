-- Frames: the uncompressed blocks of a data file, docs/FORMAT.md, "Frames" (ClickHouse: CompressedReadBuffer).
use Rattle.std.specs.Prelude.{◌≡◌, ℕ, ◌+◌, ◌≤◌, List, ◌∷◌, ◌++◌, length, All}
use Rattle.std.specs.List.{flat_map}
use Rattle.std.specs.Int.{w32, to_le_bytes}
use Rattle.mt_defs.specs.declared.frame.TheConstants.{CHECKSUM_BYTES, METHOD_NONE, SIZES_EXTRA, MAX_PAYLOAD}
use Rattle.mt_defs.specs.Lists.{AreBytes}

-- what a frame holds: a checksum, which may be any, and a payload
pub record Block : Type 0 where
  pub checksum : List ℕ
  pub payload : List ℕ

-- a frame: the checksum, the method, both sizes, and the payload
abbrev pub block_bytes : Block → List ℕ
block_bytes block =
    block.checksum ++ (METHOD_NONE ∷ (to_le_bytes w32 (length block.payload + SIZES_EXTRA) ++ (to_le_bytes w32 (length block.payload) ++ block.payload)))

-- the sizes that a frame may have
pub record IsBlock (block : Block) : Type 0 where
  pub checksum_length : length block.checksum ≡ CHECKSUM_BYTES
  pub checksum_bytes : AreBytes block.checksum
  pub not_empty : 1 ≤ length block.payload
  pub small : length block.payload ≤ MAX_PAYLOAD
  pub payload_bytes : AreBytes block.payload

-- the bytes of some frames, one after another
abbrev pub file_of : List Block → List ℕ
file_of = flat_map block_bytes

-- the payloads of some frames, one after another
abbrev pub payload_of : List Block → List ℕ
payload_of = flat_map (λ block. block.payload)

-- the file is these frames, one after another
pub record IsFileOf (blocks : List Block) (file : List ℕ) : Type 0 where
  pub each : All IsBlock blocks
  pub bytes : file ≡ file_of blocks

-- the file is frames whose payloads together are this payload
abbrev pub IsFramed : List ℕ → List ℕ → Type 0
IsFramed payload file = (blocks : List Block) × IsFileOf blocks file × (payload ≡ payload_of blocks)
