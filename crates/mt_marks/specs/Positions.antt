-- The position that a mark denotes, by the frames' offsets and lengths alone: docs/FORMAT.md, "Marks".
use Rattle.std.specs.Prelude.{ℕ, suc, ◌+◌, nat_lt, nat_le, ◌==◌, ◌&&◌, if◌then◌else◌, List, [], ◌∷◌, map, Option, Some, None}
use Rattle.mt_defs.specs.declared.frame.Frame.{Frame}
use Rattle.mt_defs.specs.declared.mark.Mark.{Mark}
use Rattle.mt_frame.specs.declared.frames.Frames.{Frames}

-- the position that a mark denotes in the last frames of a file, before which so long a payload stands
unfoldable pub position_from : ℕ → ℕ → List Frame → Mark → Option ℕ
position_from before end [] mark = if (mark.offset == end) && (mark.inner == 0) then Some before else None
position_from before end (frame ∷ frames) mark =
    if mark.offset == frame.offset then (if nat_le mark.inner frame.payload then Some (before + mark.inner) else None)
    else position_from (before + frame.payload) end frames mark

-- the position that a mark denotes, or none
abbrev pub position_of : Frames → Mark → Option ℕ
position_of frames mark = position_from 0 frames.end frames.list mark

-- where the frames begin
abbrev pub offsets_of : List Frame → List ℕ
offsets_of = map (λ frame. frame.offset)

-- how many frames begin before an offset
unfoldable pub frames_before : ℕ → List Frame → ℕ
frames_before offset [] = 0
frames_before offset (frame ∷ frames) = if nat_lt frame.offset offset then suc (frames_before offset frames) else 0
