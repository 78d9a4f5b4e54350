-- One more item is read.
use Rattle.std.proofs.Common.{sym, ◌∙◌, refl, inl, inr}
use Rattle.std.proofs.lemmas.Result.{err_from_is_err_and}
use Rattle.packet_base.specs.Lists.{items_at}
use Rattle.packet_base.proofs.ItemsInALoop.{items_begin, items_all, items_most, items_next, items_stop, began_so, read_well}
use Rattle.packet_base.proofs.packet_list.read_items.Goals as goal

pub loop-init : goal.loop-init
loop-init g c = (
  items_begin g.T.ListItem.item_at c.new-items.result.items c.len-end.result c.args.body.now
      c.new-items.ensures.items c.len-end.ensures,
  inl refl,
)

pub returns-then-is_empty-clause-exact : goal.returns-then-is_empty-clause-exact
returns-then-is_empty-clause-exact g c =
    items_all g.T.ListItem.item_at c.loop.items.items c.len-end.result c.loop.counter c.loop.body
    (items_at g.T.ListItem.item_at c.args.body.now) (sym c.is_empty.ensures ∙ c.if-is_empty.true)
    c.loop.invariant.0

pub returns-in_err-read-clause-exact : goal.returns-in_err-read-clause-exact
returns-in_err-read-clause-exact g c =
    let p = err_from_is_err_and c.from_residual.result c.from_residual.ensures.1 in
    rw (p.1, p.2) (
    items_stop g.T.ListItem.item_at c.loop.items.items c.len-end.result c.loop.counter c.loop.body
    (items_at g.T.ListItem.item_at c.args.body.now) c.in_err-read.field-0.0 c.loop-test.true
    (sym c.is_empty.ensures ∙ c.if-is_empty.false) c.in_err-read.ensures.exact c.loop.invariant.0
    )

pub loop-preserved : goal.loop-preserved
loop-preserved g c = (
  items_next g.T.ListItem.item_at c.loop.items.items c.push.new.self.items c.len-end.result c.loop.counter
      c.loop.body c.in_ok-read.field-0 c.read.new.body (items_at g.T.ListItem.item_at c.args.body.now)
      c.loop-test.true (sym c.is_empty.ensures ∙ c.if-is_empty.false) c.in_ok-read.ensures.exact
      c.in_ok-push.ensures.items c.loop.invariant.0,
  inr (began_so g.T.ListItem.item_at c.args.body.now c.loop.body (read_well c.in_ok-read.ensures.exact) c.loop.invariant.1),
)

pub returns-clause-exact : goal.returns-clause-exact
returns-clause-exact g c =
    items_most g.T.ListItem.item_at c.loop.items.items c.len-end.result c.loop.counter c.loop.body
    (items_at g.T.ListItem.item_at c.args.body.now) c.loop-test.false c.loop.invariant.0

pub returns-in_err-push-clause-memory : goal.returns-in_err-push-clause-memory
returns-in_err-push-clause-memory g c memory =
    began_so g.T.ListItem.item_at c.args.body.now c.loop.body (read_well c.in_ok-read.ensures.exact) c.loop.invariant.1
