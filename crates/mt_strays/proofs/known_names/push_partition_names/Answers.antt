use Rattle.std.proofs.Common.{◌∷◌, [], ◌++◌, List, sym, ap, ◌∙◌, map}
use Rattle.std.proofs.lemmas.List.{append_assoc}
use Rattle.std.proofs.lemmas.Result.{IfOk-equal}
use Rattle.mt_defs.specs.Partition.{minmax_name, expression_column, partition_name}
use Rattle.mt_files.proofs.OnceLemmas.{partition_names_are}
use Rattle.mt_strays.proofs.known_names.push_partition_names.Goals as goal

pub returns : goal.returns
returns c =
    let table = c.args.table.now in
    let later = map (λ expression. minmax_name table (expression_column expression)) table.partition in
    IfOk-equal c.push_minmax_names.result c.push_minmax_names.new.names.items _ _ c.push_minmax_names.ensures
    (ap (λ (l : List (List _)). l ++ later) c.in_ok-push_name.ensures ∙ append_assoc c.args.names.now.items (partition_name ∷ []) later
    ∙ ap (λ (l : List (List _)). c.args.names.now.items ++ l) (sym (partition_names_are table (λ none. let e = sym (c.is_empty.ensures.1 none) ∙ c.if-is_empty.false in cc))))
