-- The items that a node took, by longer and longer logs.
use Rattle.std.proofs.Common.{◌≡◌, ℕ, ◌+◌, ◌==◌, Bool, true, false, if◌then◌else◌, List, [], ◌∷◌, ◌++◌, refl, ap, sym, ◌∙◌, arith, append_assoc}
use Rattle.std.proofs.lemmas.List.{append-nil}
use Rattle.std.proofs.lemmas.Bool.Decides.{nat_tests}
use mathlib.Core.List.{IsPrefix}
use Rattle.ballot_base.specs.declared.config.Config.{Config}
use Rattle.ballot_base.specs.declared.message.Effect.{Effect}
use Rattle.broker_spec.specs.declared.command.Command.{Command}
use Rattle.broker_spec.specs.declared.command.Output.{Output}
use Rattle.world_base.specs.declared.node_connections.port.Port.{Port}
use Rattle.world_base.specs.declared.node_core.item.Item.{Item}
use Rattle.run_history.specs.declared.event.NodeAct.{NodeAct}
use Rattle.run_history.specs.declared.event.NodeAct.TheVariants.{Takes, HandsOver}
use Rattle.run_history.specs.declared.event.RunEvent.{RunEvent}
use Rattle.run_history.specs.declared.event.RunEvent.TheVariants.{ByNode}
use Rattle.run_history.specs.Log.{events_by, is_by, item_of, item_of_act, items_taken, opening_log}
use Rattle.run_history.specs.Parties.{DidAct, HandedOver, NodeView, TookItem}
use Rattle.run_history.proofs.LongerLogs.{events_append}

items_append : (number : ℕ) (xs ys : List RunEvent) → items_taken number (xs ++ ys) ≡ items_taken number xs ++ items_taken number ys
items_append number [] ys = refl
items_append number (x ∷ xs) ys =
    ap (λ t. (if is_by number x then item_of x else []) ++ t) (items_append number xs ys)
    ∙ sym (append_assoc (if is_by number x then item_of x else []) (items_taken number xs) (items_taken number ys))

none_by : (number : ℕ) (x : RunEvent) (xs : List RunEvent) (b : Bool) → is_by number x ≡ b → (if b then 1 else 0) + events_by number xs ≡ 0
    → (events_by number xs ≡ 0 → items_taken number xs ≡ []) → (if b then item_of x else []) ++ items_taken number xs ≡ []
none_by number x xs true is none rest = absurd (omega (arith, none))
none_by number x xs false is none rest = rest (omega (arith, none))

-- a node without events took nothing
none_taken : (number : ℕ) (xs : List RunEvent) → events_by number xs ≡ 0 → items_taken number xs ≡ []
none_taken number [] none = refl
none_taken number (x ∷ xs) none = none_by number x xs (is_by number x) refl none (none_taken number xs)

-- a node without further events took no more
pub items_stay : (number : ℕ) (xs ys : List RunEvent) → IsPrefix xs ys → events_by number ys ≡ events_by number xs → items_taken number ys ≡ items_taken number xs
items_stay number xs ys p same =
    let sum = ap (events_by number) (sym p.1) ∙ events_append number xs p.0 in
    let none : events_by number p.0 ≡ 0 = omega (arith, sum, same) in
    ap (items_taken number) (sym p.1)
    ∙ (items_append number xs p.0 ∙ (ap (λ t. items_taken number xs ++ t) (none_taken number p.0 none) ∙ append-nil (items_taken number xs)))

-- what an act of a node takes comes after what it had taken
did_items : (old new : NodeView) (act : NodeAct) (given : List (Effect Command Output)) → DidAct old act given new
    → items_taken (old.index + 1) new.log ≡ items_taken (old.index + 1) old.log ++ item_of_act act
did_items old new act given did =
    let number = old.index + 1 in
    let event : RunEvent = ByNode (record { node = old.index; act = act; after = new.node; given = given }) in
    let me : (old.index + 1 == old.index + 1) ≡ true = grind (arith, nat_tests) in
    let own : items_taken number (event ∷ []) ≡ item_of_act act = rw me (append-nil (item_of_act act)) in
    ap (items_taken number) did.now
    ∙ (items_append number did.earlier (event ∷ [])
    ∙ (ap (λ t. t ++ items_taken number (event ∷ [])) (items_stay number old.log did.earlier did.begins did.none_since)
    ∙ ap (λ t. items_taken number old.log ++ t) own))

-- a step takes one item
pub took_items : (old new : NodeView) (item : Item) (before after : List (Effect Command Output)) → TookItem old item new before after
    → items_taken (old.index + 1) new.log ≡ items_taken (old.index + 1) old.log ++ item ∷ []
took_items old new item before after took = did_items old new (Takes item) took.stepped.given took.did

-- a hand-over takes none
pub handed_items : (old new : NodeView) (port : Port) → HandedOver old port new
    → items_taken (old.index + 1) new.log ≡ items_taken (old.index + 1) old.log
handed_items old new port handed = did_items old new (HandsOver port) [] handed.did ∙ append-nil (items_taken (old.index + 1) old.log)

-- no item was taken as the group opens
pub opened_items : (number nodes : ℕ) (config : Config) (linked : Bool) → items_taken number (opening_log nodes config linked) ≡ []
opened_items number nodes config linked = refl
