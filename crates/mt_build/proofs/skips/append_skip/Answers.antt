use Rattle.std.proofs.Common.{sym, subst, ap, ◌∙◌, map, length}
use Rattle.std.specs.List.{concat, flat_map}
use Rattle.mt_granules.specs.declared.data_file.DataFile.{DataFile}
use Rattle.mt_defs.specs.Granules.{AreGranules}
use Rattle.mt_defs.specs.Lists.{offsets_from}
use Rattle.mt_defs.specs.WrittenFrames.{mark_at, written_frames}
use Rattle.mt_defs.specs.WrittenSkips.{written_entries}
use Rattle.mt_build.specs.SkipFiles.{passed_mark}
use Rattle.mt_layout.proofs.HoldLemmas.{granules_hold}
use Rattle.mt_build.proofs.SkipLemmas.{skip_appended}
use Rattle.mt_build.proofs.skips.append_skip.Goals as goal

pub column_entries-requires-clause-cut : goal.column_entries-requires-clause-cut
column_entries-requires-clause-cut c =
    let table = c.args.table.now in
    subst (λ granules. AreGranules granules c.args.rows.now) (sym (c.as_slice.ensures ∙ c.requires.layout.granules)) (granules_hold table.settings table.columns c.args.rows.now)

pub returns : goal.returns
returns c =
    let table = c.args.table.now in
    let rows = c.args.rows.now in
    let skip = c.args.skip.now in
    skip_appended table rows skip c.args.layout.now c.args.files.now.items c.push.new.self.items c.push-2.new.self.items c.in_ok-entries.entries c.in_ok-bytes.field-0.bytes c.in_ok-bytes.field-0.marks c.in_ok-name.name c.in_ok-name-2.name c.in_ok-bytes-2.bytes
    c.requires.layout
    (c.in_ok-entries.ensures ∙ ap (written_entries table skip rows) c.as_slice.ensures)
    (ap (λ (f : DataFile). f.bytes) c.in_ok-bytes.ensures ∙ ap (λ es. concat (map written_frames es)) c.as_slice-2.ensures)
    (ap (λ (f : DataFile). f.marks) c.in_ok-bytes.ensures ∙ ap (λ es. map mark_at (offsets_from 0 (map length (map written_frames es)))) c.as_slice-2.ensures)
    c.in_ok-name.ensures c.in_ok-name-2.ensures
    (c.in_ok-bytes-2.ensures ∙ ap (flat_map passed_mark) c.as_slice-3.ensures)
    c.in_ok-push.ensures.items c.in_ok-push-2.ensures.items
