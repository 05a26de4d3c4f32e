use Rattle.std.proofs.Common.{◌≡◌, ℕ, ◌+◌, ◌*◌, ◌<◌, ◌≤◌, List, ◌++◌, length, take, drop, ap, sym, subst, ◌∙◌, arith}
use Rattle.std.specs.Prelude.{Ok}
use Rattle.std.proofs.lemmas.List.{length-take-le}
use Rattle.mt_types.specs.declared.value.Value.{Value}
use Rattle.mt_item.specs.declared.fault.CodecWhy.TheVariants.{Short}
use Rattle.mt_cells.specs.declared.kind.Kind.{Kind}
use Rattle.mt_cells.specs.Kinds.{size_of, values_of}
use Rattle.mt_cells.proofs.CellLemmas.{length-values_of}
use Rattle.mt_codec.specs.ColumnReading.{items_from}
use Rattle.mt_codec.proofs.LoopLemmas.{ReadItems}
use Rattle.mt_codec.proofs.StreamLemmas.{at_fault, at_found}
use Rattle.mt_column_codec.specs.FixedItems.{fixed_front}
use Rattle.mt_column_codec.proofs.FixedLemmas.{fixed_all, fixed_few, within_room}
use Rattle.mt_column_codec.proofs.cells.cells_in.Goals as goal

pub room_in-room-requires : goal.room_in-room-requires
room_in-room-requires c = subst (λ (s : ℕ). 1 ≤ s) (sym c.size-size.ensures) c.requires

pub returns-then-room-count-clause-reads : goal.returns-then-room-count-clause-reads
returns-then-room-count-clause-reads c =
    let kind = c.args.kind in
    let room = c.room_in-room.result in
    let bytes = c.args.bytes.now in
    let have = subst (λ (s : ℕ). room * s ≤ length bytes) c.size-size.ensures c.room_in-room.ensures.have in
    let no_more = subst (λ (s : ℕ). length bytes < (room + 1) * s) c.size-size.ensures c.room_in-room.ensures.no_more in
    at_fault c.args.stream room Short (items_from (fixed_front kind) 0 c.args.count bytes) (fixed_few kind room c.args.count bytes c.if-room-count.true have no_more)

pub split_items-requires : goal.split_items-requires
split_items-requires c =
    let few : c.as_count-count.result ≤ c.room_in-room.result = omega (arith, c.as_count-count.ensures, c.if-room-count.false) in
    within_room c.as_count-count.result c.room_in-room.result c.size-size.result (length c.args.bytes.now) few c.room_in-room.ensures.have

pub append_items-requires : goal.append_items-requires
append_items-requires c =
    let count = c.as_count-count.result in
    let size = c.size-size.result in
    let bytes = c.args.bytes.now in
    let few : count ≤ c.room_in-room.result = omega (arith, c.as_count-count.ensures, c.if-room-count.false) in
    ap (λ (bs : List ℕ). length bs) c.split_items.ensures.items ∙ length-take-le (count * size) bytes (within_room count c.room_in-room.result size (length bytes) few c.room_in-room.ensures.have)
    ∙ ap (λ (s : ℕ). count * s) (c.size-size.ensures ∙ sym (ap size_of c.new-cells.ensures.kind))

pub returns-clause-reads : goal.returns-clause-reads
returns-clause-reads c =
    let kind = c.args.kind in
    let count = c.as_count-count.result in
    let size = c.size-size.result in
    let bytes = c.args.bytes.now in
    let items = c.split_items.result.0.now in
    let rest = c.split_items.result.1.now in
    let few : count ≤ c.room_in-room.result = omega (arith, c.as_count-count.ensures, c.if-room-count.false) in
    let long = subst (λ (s : ℕ). count * s ≤ length bytes) c.size-size.ensures (within_room count c.room_in-room.result size (length bytes) few c.room_in-room.ensures.have) in
    let front = subst (λ (s : ℕ). items ≡ take (count * s) bytes) c.size-size.ensures c.split_items.ensures.items in
    let back = subst (λ (s : ℕ). rest ≡ drop (count * s) bytes) c.size-size.ensures c.split_items.ensures.rest in
    let values : c.append_items.new.self.values ≡ values_of kind count items =
    c.in_ok-append_items.ensures.ok ∙ ap (λ (vs : List Value). vs ++ values_of c.new-cells.result.kind count items) c.new-cells.ensures.values ∙ ap (λ (k : Kind). values_of k count items) c.new-cells.ensures.kind in
    at_found c.args.stream _ _ (ap (λ (n : ℕ). items_from (fixed_front kind) 0 n bytes) (sym c.as_count-count.ensures) ∙ fixed_all kind count bytes items rest long front back
    ∙ ap (λ (vs : List Value). let r : ReadItems Value = Ok (vs, rest) in r) (sym values))

pub returns-clause-many : goal.returns-clause-many
returns-clause-many c =
    let count = c.as_count-count.result in
    let items = c.split_items.result.0.now in
    let values : c.append_items.new.self.values ≡ values_of c.args.kind count items =
    c.in_ok-append_items.ensures.ok ∙ ap (λ (vs : List Value). vs ++ values_of c.new-cells.result.kind count items) c.new-cells.ensures.values ∙ ap (λ (k : Kind). values_of k count items) c.new-cells.ensures.kind in
    ap (λ (vs : List Value). length vs) values ∙ length-values_of c.args.kind count items ∙ c.as_count-count.ensures
