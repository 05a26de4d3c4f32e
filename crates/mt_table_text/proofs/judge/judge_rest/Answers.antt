use Rattle.std.proofs.Common.{◌∙◌, ap, sym}
use Rattle.std.specs.Prelude.{Ok}
use Rattle.std.specs.List.{list_all}
use Rattle.mt_table_text.specs.Judging.{fields_judged, fields_of, from_settings}
use Rattle.mt_table_rules.specs.Rules.{is_uncompressed}
use Rattle.mt_table_rules.specs.SettingTexts.{settings_of}
use Rattle.mt_table_text.proofs.JudgeLemmas.{broken, judged_keeps, kept, no_setting, set}
use Rattle.mt_table_text.proofs.judge.judge_rest.Goals as goal

pub returns-then-not-are_uncompressed : goal.returns-then-not-are_uncompressed
returns-then-not-are_uncompressed c = broken _ _ (from_settings c.args.columns c.args.text.now) (fields_judged c.args.text.now) c.requires.so_far (ap (list_all is_uncompressed) (sym c.as_slice.ensures) ∙ sym c.are_uncompressed.ensures ∙ c.if-not-are_uncompressed.true)

pub returns-in_default : goal.returns-in_default
returns-in_default c =
    let codecs = kept _ _ (from_settings c.args.columns c.args.text.now) (fields_judged c.args.text.now) c.requires.so_far (ap (list_all is_uncompressed) (sym c.as_slice.ensures) ∙ sym c.are_uncompressed.ensures ∙ c.if-not-are_uncompressed.false) in
    no_setting c.args.text.now c.args.columns (fields_judged c.args.text.now) codecs (sym c.in_default.is ∙ c.read_settings.ensures ∙ ap settings_of c.as_slice-2.ensures)

pub returns-then-not-are_few : goal.returns-then-not-are_few
returns-then-not-are_few c =
    let codecs = kept _ _ (from_settings c.args.columns c.args.text.now) (fields_judged c.args.text.now) c.requires.so_far (ap (list_all is_uncompressed) (sym c.as_slice.ensures) ∙ sym c.are_uncompressed.ensures ∙ c.if-not-are_uncompressed.false) in
    let settings = set c.args.text.now c.args.columns c.in-Some.settings (fields_judged c.args.text.now) codecs (sym c.in-Some.is ∙ c.read_settings.ensures ∙ ap settings_of c.as_slice-2.ensures) in
    broken _ _ (Ok (fields_of c.args.columns c.in-Some.settings c.args.text.now)) (fields_judged c.args.text.now) settings (sym c.are_few.ensures ∙ c.if-not-are_few.true)

pub table_of-requires-clause-rules : goal.table_of-requires-clause-rules
table_of-requires-clause-rules c =
    let codecs = kept _ _ (from_settings c.args.columns c.args.text.now) (fields_judged c.args.text.now) c.requires.so_far (ap (list_all is_uncompressed) (sym c.as_slice.ensures) ∙ sym c.are_uncompressed.ensures ∙ c.if-not-are_uncompressed.false) in
    let settings = set c.args.text.now c.args.columns c.in-Some.settings (fields_judged c.args.text.now) codecs (sym c.in-Some.is ∙ c.read_settings.ensures ∙ ap settings_of c.as_slice-2.ensures) in
    let judging = kept _ _ (Ok (fields_of c.args.columns c.in-Some.settings c.args.text.now)) (fields_judged c.args.text.now) settings (sym c.are_few.ensures ∙ c.if-not-are_few.false) in
    judged_keeps c.args.text.now (fields_of c.args.columns c.in-Some.settings c.args.text.now) c.requires.formed judging

pub returns : goal.returns
returns c =
    let codecs = kept _ _ (from_settings c.args.columns c.args.text.now) (fields_judged c.args.text.now) c.requires.so_far (ap (list_all is_uncompressed) (sym c.as_slice.ensures) ∙ sym c.are_uncompressed.ensures ∙ c.if-not-are_uncompressed.false) in
    let settings = set c.args.text.now c.args.columns c.in-Some.settings (fields_judged c.args.text.now) codecs (sym c.in-Some.is ∙ c.read_settings.ensures ∙ ap settings_of c.as_slice-2.ensures) in
    let judging = kept _ _ (Ok (fields_of c.args.columns c.in-Some.settings c.args.text.now)) (fields_judged c.args.text.now) settings (sym c.are_few.ensures ∙ c.if-not-are_few.false) in
    judging ∙ ap Ok (sym c.in_ok-table_of.ensures)
