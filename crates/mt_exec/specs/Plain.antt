-- Rows in the order of a query's items, where there are no groups.
use Rattle.std.specs.Prelude.{List, map}
use Rattle.std.specs.declared.cmp.Ordering.{Ordering}
use Rattle.mt_types.specs.Order.{values_cmp}
use Rattle.mt_defs.specs.Rows.{Row}
use Rattle.mt_query.specs.declared.query.Item.{Item}
use Rattle.mt_fold.specs.Answer.{plain_item}

-- rows compare by their values of the items, from left to right
abbrev pub items_cmp : List Item → Row → Row → Ordering
items_cmp items a b = values_cmp (map (plain_item a) items) (map (plain_item b) items)
