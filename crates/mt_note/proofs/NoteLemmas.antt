-- What the notes got of a status: the whole line, or a prefix of it.
use Rattle.std.proofs.Common.{◌≡◌, inl, inr, ℕ, List, length, Option, refl, ap, sym, ◌∙◌}
use Rattle.std.proofs.Math.Seq.{take-length}
use Rattle.std.specs.Io.KnownBytes.{append_known}
use Rattle.mt_shelf.specs.Streams.{GrowsByPrefix}
use Rattle.mt_shelf.specs.Causes.{Rose}
use Rattle.mt_command.specs.declared.status.Status.{Status}
use Rattle.mt_command.specs.declared.status.Status.TheVariants.{Done, AtFault, BadWords, NoTable, NoPart, BadTable, BadQuery, Exists, NoRows, BadRows, ManyPartitions, MixedPartitions, TooMuch, SourceFault, ShelfFault, SinkFault, NoMemory}
use Rattle.mt_note.specs.Notes.{Noted, line_of}

pub whole_prefix : (line : List ℕ) (old new : Option (List ℕ)) → new ≡ append_known old line → GrowsByPrefix line old new
whole_prefix line old new is = (length line, is ∙ ap (append_known old) (sym (take-length line)))

-- the whole line was written
pub noted_whole : (status : Status) (old new : Option (List ℕ)) (before now : ℕ) → ¬ (status ≡ Done) → new ≡ append_known old (line_of status) → Noted status old new before now
noted_whole Done old new before now refused is = absurd (refused refl)
noted_whole NoMemory old new before now refused is = (NoMemory, whole_prefix _ old new is)
noted_whole BadWords old new before now refused is = (whole_prefix _ old new is, inr is)
noted_whole (AtFault part fault) old new before now refused is = (whole_prefix _ old new is, inr is)
noted_whole NoTable old new before now refused is = (whole_prefix _ old new is, inr is)
noted_whole (NoPart part) old new before now refused is = (whole_prefix _ old new is, inr is)
noted_whole (BadTable why) old new before now refused is = (whole_prefix _ old new is, inr is)
noted_whole (BadQuery why) old new before now refused is = (whole_prefix _ old new is, inr is)
noted_whole Exists old new before now refused is = (whole_prefix _ old new is, inr is)
noted_whole NoRows old new before now refused is = (whole_prefix _ old new is, inr is)
noted_whole (BadRows line why) old new before now refused is = (whole_prefix _ old new is, inr is)
noted_whole (ManyPartitions line) old new before now refused is = (whole_prefix _ old new is, inr is)
noted_whole (MixedPartitions input) old new before now refused is = (whole_prefix _ old new is, inr is)
noted_whole (TooMuch what limit) old new before now refused is = (whole_prefix _ old new is, inr is)
noted_whole SourceFault old new before now refused is = (whole_prefix _ old new is, inr is)
noted_whole ShelfFault old new before now refused is = (whole_prefix _ old new is, inr is)
noted_whole SinkFault old new before now refused is = (whole_prefix _ old new is, inr is)

-- a prefix of it was written, where the notes failed
pub noted_prefix : (status : Status) (old new : Option (List ℕ)) (before now : ℕ) → ¬ (status ≡ Done) → Rose before now → GrowsByPrefix (line_of status) old new → Noted status old new before now
noted_prefix Done old new before now refused rose prefix = absurd (refused refl)
noted_prefix NoMemory old new before now refused rose prefix = (NoMemory, prefix)
noted_prefix BadWords old new before now refused rose prefix = (prefix, inl rose)
noted_prefix (AtFault part fault) old new before now refused rose prefix = (prefix, inl rose)
noted_prefix NoTable old new before now refused rose prefix = (prefix, inl rose)
noted_prefix (NoPart part) old new before now refused rose prefix = (prefix, inl rose)
noted_prefix (BadTable why) old new before now refused rose prefix = (prefix, inl rose)
noted_prefix (BadQuery why) old new before now refused rose prefix = (prefix, inl rose)
noted_prefix Exists old new before now refused rose prefix = (prefix, inl rose)
noted_prefix NoRows old new before now refused rose prefix = (prefix, inl rose)
noted_prefix (BadRows line why) old new before now refused rose prefix = (prefix, inl rose)
noted_prefix (ManyPartitions line) old new before now refused rose prefix = (prefix, inl rose)
noted_prefix (MixedPartitions input) old new before now refused rose prefix = (prefix, inl rose)
noted_prefix (TooMuch what limit) old new before now refused rose prefix = (prefix, inl rose)
noted_prefix SourceFault old new before now refused rose prefix = (prefix, inl rose)
noted_prefix ShelfFault old new before now refused rose prefix = (prefix, inl rose)
noted_prefix SinkFault old new before now refused rose prefix = (prefix, inl rose)
