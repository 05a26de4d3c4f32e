use Rattle.std.proofs.Common.{ℕ, List, Result, Err, ap, refl, subst}
use Rattle.mt_query.specs.declared.query.Query.{Query}
use Rattle.mt_query.specs.declared.why.QueryError.{QueryError}
use Rattle.mt_query.specs.Queries.{Asks}
use Rattle.mt_select.proofs.query.read_query.Goals as goal

pub returns-in-Err-Bad-clause-gives : goal.returns-in-Err-Bad-clause-gives
returns-in-Err-Bad-clause-gives c =
    λ inside. (
      c.in-Err-Bad.why,
      subst (λ (text : List ℕ). Asks text c.args.table.now (Err c.in-Err-Bad.why)) c.as_bytes.ensures.value
          (c.in-Err-Bad.ensures.bad c.in-Err-Bad.why (ap (λ (error : QueryError). let r : Result Query QueryError = Err error in r) c.in-Err-Bad.field-0-is)),
      refl,
    )
