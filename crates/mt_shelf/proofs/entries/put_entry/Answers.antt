use Rattle.std.proofs.Common.{◌≡◌, ◌<◌, ◌≤◌, ◌∙◌, sym, ap, arith, length, slice_set}
use Rattle.std.specs.Cmp.Lexicographic.{slice_cmp}
use Rattle.std.specs.Ordering.{nat_cmp}
use Rattle.std.specs.declared.cmp.Ordering.TheVariants.{Less, Equal, Greater}
use Rattle.mt_shelf.specs.Held.{with_entry}
use Rattle.mt_shelf.specs.declared.file.Entry.{Entry}
use Rattle.mt_shelf.proofs.Listings.{put_here, put_over, put_later, put_last, same_item, new_entry}
use Rattle.mt_shelf.proofs.entries.put_entry.Goals as goal

pub returns-in-Less : goal.returns-in-Less
returns-in-Less c =
    let inside : c.loop-i.i < length c.loop-i.entries.items = omega (arith, c.loop-i.invariant.end) in
    let order : slice_cmp nat_cmp c.args.entry.name c.index.result.now.name ≡ Less = rw (← c.as_slice.ensures, ← c.as_slice-in-loop-i.ensures) (sym c.in-Less.ensures) in
    c.in_ok-insert-in-Less.ensures.items
    ∙ sym (put_here c.args.entry.name c.args.entry.size c.loop-i.i c.loop-i.entries.items c.index.result.now inside c.index.ensures order c.loop-i.invariant.put)
    ∙ ap (with_entry c.args.entry.name c.args.entry.size) c.loop-i.invariant.same

pub returns-in-Equal : goal.returns-in-Equal
returns-in-Equal c =
    let inside : c.loop-i.i < length c.loop-i.entries.items = omega (arith, c.loop-i.invariant.end) in
    let order : slice_cmp nat_cmp c.args.entry.name c.index.result.now.name ≡ Equal = rw (← c.as_slice.ensures, ← c.as_slice-in-loop-i.ensures) (sym c.in-Equal.ensures) in
    let same : c.index.result.now ≡ c.index_mut.result.now = same_item c.loop-i.entries.items c.loop-i.i c.index.result.now c.index_mut.result.now inside c.index.ensures c.index_mut.ensures.value in
    let over : with_entry c.args.entry.name c.args.entry.size c.loop-i.entries.items ≡ slice_set c.loop-i.entries.items c.loop-i.i (new_entry c.index.result.now.name c.args.entry.size) = put_over c.args.entry.name c.args.entry.size c.loop-i.i c.loop-i.entries.items c.index.result.now inside c.index.ensures order c.loop-i.invariant.put in
    ap (λ (e : Entry). slice_set c.loop-i.entries.items c.loop-i.i (new_entry e.name c.args.entry.size)) (sym same) ∙ sym over ∙ ap (with_entry c.args.entry.name c.args.entry.size) c.loop-i.invariant.same

pub loop-i-preserved : goal.loop-i-preserved
loop-i-preserved c =
    let inside : c.loop-i.i < length c.loop-i.entries.items = omega (arith, c.loop-i.invariant.end) in
    let order : slice_cmp nat_cmp c.args.entry.name c.index.result.now.name ≡ Greater = rw (← c.as_slice.ensures, ← c.as_slice-in-loop-i.ensures) (sym c.in-Greater.ensures) in
    record {
      same = c.loop-i.invariant.same;
      end = c.loop-i.invariant.end;
      put = put_later c.args.entry.name c.args.entry.size c.loop-i.i c.loop-i.entries.items c.index.result.now inside c.index.ensures order c.loop-i.invariant.put;
    }

pub returns : goal.returns
returns c =
    let le : length c.loop-i.entries.items ≤ c.loop-i.i = omega (arith, c.loop-i.invariant.end) in
    c.in_ok-push.ensures.items
    ∙ sym (put_last c.args.entry.name c.args.entry.size c.loop-i.i c.loop-i.entries.items le c.loop-i.invariant.put)
    ∙ ap (with_entry c.args.entry.name c.args.entry.size) c.loop-i.invariant.same
