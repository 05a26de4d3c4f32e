use Rattle.std.proofs.Common.{Bool, List, ℕ, Ok, ◌≡◌, ◌+◌, ap, sym, subst, ◌∙◌}
use Rattle.std.proofs.lemmas.Result.{err_from_is_err_and}
use Rattle.mt_types.specs.declared.value.Value.{Value}
use Rattle.mt_item.specs.ItemReading.{item_front}
use Rattle.mt_codec.specs.Results.{CodecFailsAs}
use Rattle.mt_codec.specs.ColumnReading.{Read, stream_from}
use Rattle.mt_codec.specs.Cursor.{is_apart, lists}
use Rattle.mt_codec.proofs.ColumnLemmas.{nullable_wrong, nullable_inner_wrong, nullable_read}
use Rattle.mt_codec.proofs.decoding.read_nullable.Goals as goal

pub returns-in_err-nulls : goal.returns-in_err-nulls
returns-in_err-nulls c =
    let p = err_from_is_err_and c.from_residual.result c.from_residual.ensures.1 in
    rw (p.1, p.2) (nullable_wrong (is_apart c.args.streams) (stream_from (is_apart c.args.streams) (item_front c.args.inner.now)) c.args.stream c.args.count (lists c.args.streams) c.in_err-nulls.field-0.0 c.in_err-nulls.ensures.reads)

pub returns-in_err-values : goal.returns-in_err-values
returns-in_err-values c =
    let p = err_from_is_err_and c.from_residual-in_err-values.result c.from_residual-in_err-values.ensures.1 in
    let apart = is_apart c.args.streams in
    let e = c.in_err-values.field-0.0 in
    let inner = subst (λ (a : Bool). CodecFailsAs e (stream_from a (item_front c.args.inner.now) (c.args.stream + 1) c.args.count (lists c.in_ok-nulls.left))) c.in_ok-nulls.ensures.reads.0 c.in_err-values.ensures.reads in
    rw (p.1, p.2) (nullable_inner_wrong apart (stream_from apart (item_front c.args.inner.now)) c.args.stream c.args.count (lists c.args.streams) c.in_ok-nulls.nulls.now (lists c.in_ok-nulls.left) e c.in_ok-nulls.ensures.reads.1 inner)

pub nulled-requires : goal.nulled-requires
nulled-requires c = c.in_ok-nulls.ensures.many ∙ sym c.in_ok-values.ensures.many

pub returns : goal.returns
returns c =
    let apart = is_apart c.args.streams in
    let inner = subst (λ (a : Bool). stream_from a (item_front c.args.inner.now) (c.args.stream + 1) c.args.count (lists c.in_ok-nulls.left) ≡ Ok (c.in_ok-values.values, lists c.in_ok-values.left)) c.in_ok-nulls.ensures.reads.0 c.in_ok-values.ensures.reads.1 in (
      c.in_ok-values.ensures.reads.0 ∙ c.in_ok-nulls.ensures.reads.0,
      nullable_read apart (stream_from apart (item_front c.args.inner.now)) c.args.stream c.args.count (lists c.args.streams) c.in_ok-nulls.nulls.now (lists c.in_ok-nulls.left) c.in_ok-values.values (lists c.in_ok-values.left) c.in_ok-nulls.ensures.reads.1 inner
          ∙ ap (λ (vs : List Value). let r : Read (List Value × List (List ℕ)) = Ok (vs, lists c.in_ok-values.left) in r) (sym c.nulled.ensures),
    )
