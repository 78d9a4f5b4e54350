use Rattle.std.proofs.Common.{codes, refl, subst, sym, List}
use Rattle.script.specs.Fields.{Text}
use Rattle.script.specs.Orders.{Orders}
use Rattle.script.specs.declared.orders.order_lines.Order.TheVariants as orders
use Rattle.script.proofs.FieldsGiven.{one_field, three_fields, two_fields}
use Rattle.script.proofs.OrdersRefused.{crash_refused, members_refused, primary_refused}
use Rattle.script.proofs.orders.order_lines.order_of_words.Goals as goal

pub returns-in-quit-clause-order : goal.returns-in-quit-clause-order
returns-in-quit-clause-order c = subst (λ (all : List Text). Orders all orders.Quit)
    (sym (one_field c.args.words.now _ (codes "quit") _ refl c.in-quit.len_at_least c.in-quit.len_below c.in-quit.is-quit)) Orders.quit

pub returns-in-status-clause-order : goal.returns-in-status-clause-order
returns-in-status-clause-order c = subst (λ (all : List Text). Orders all orders.Status)
    (sym (one_field c.args.words.now _ (codes "status") _ refl c.in-status.len_at_least c.in-status.len_below c.in-status.is-status)) Orders.status

pub returns-in_ok-named_node-in-crash-clause-order : goal.returns-in_ok-named_node-in-crash-clause-order
returns-in_ok-named_node-in-crash-clause-order c = subst (λ (all : List Text). Orders all (orders.Crash c.in_ok-named_node-in-crash.field-0))
    (sym (two_fields c.args.words.now _ (codes "crash") _ _ refl c.in-crash.len_at_least c.in-crash.len_below c.in-crash.is-crash))
    (Orders.crash c.in_ok-named_node-in-crash.ensures.number)

pub returns-in_err-named_node-in-crash-clause-refused : goal.returns-in_err-named_node-in-crash-clause-refused
returns-in_err-named_node-in-crash-clause-refused c =
    crash_refused c.from_residual.result c.in_err-named_node-in-crash.field-0.0 c.args.words.now _ _ c.in_err-named_node-in-crash.ensures.refused
    c.from_residual.ensures.1 c.in-crash.len_at_least c.in-crash.len_below c.in-crash.is-crash

pub returns-in_ok-primary-in-assign-clause-order : goal.returns-in_ok-primary-in-assign-clause-order
returns-in_ok-primary-in-assign-clause-order c = subst (λ (all : List Text). Orders all (orders.Assign record { members = c.in_ok-members-in-assign.members; primary = c.in_ok-primary-in-assign.primary }))
    (sym (three_fields c.args.words.now _ (codes "assign") _ _ _ refl c.in-assign.len_at_least c.in-assign.len_below c.in-assign.is-assign))
    (Orders.assign c.in_ok-members-in-assign.ensures.members c.in_ok-primary-in-assign.ensures.number)

pub returns-in_err-members-in-assign-clause-refused : goal.returns-in_err-members-in-assign-clause-refused
returns-in_err-members-in-assign-clause-refused c =
    members_refused c.from_residual-in_err-members-in-assign.result c.in_err-members-in-assign.field-0.0 c.args.words.now _ _ c.in_err-members-in-assign.ensures.refused
    c.from_residual-in_err-members-in-assign.ensures.1 c.in-assign.len_at_least c.in-assign.len_below c.in-assign.is-assign

pub returns-in_err-primary-in-assign-clause-refused : goal.returns-in_err-primary-in-assign-clause-refused
returns-in_err-primary-in-assign-clause-refused c =
    primary_refused c.from_residual-in_err-primary-in-assign.result c.in_err-primary-in-assign.field-0.0 c.args.words.now _ _ c.in_err-primary-in-assign.ensures.refused
    c.from_residual-in_err-primary-in-assign.ensures.1 c.in-assign.len_at_least c.in-assign.len_below c.in-assign.is-assign
