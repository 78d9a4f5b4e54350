-- OutboxKept.antt: an outbox in which an item is queued, if there is room and memory for it, holds what
-- may wait for its node.
use Rattle.std.proofs.Common.{◌≡◌, ℕ, ◌+◌, ◌-◌, ◌≤◌, zero, suc, Bool, true, false, ◌||◌, not, nat_lt, if◌then◌else◌, List, [], ◌∷◌, ◌++◌, Option, Some, None, length, take, refl, sym, subst, ap, arith}
use mathlib.Core.List.{IsPrefix}
use Rattle.ballot_base.specs.declared.config.Config.{Config}
use Rattle.broker_spec.specs.declared.command.Command.{Command}
use Rattle.ballot_base.specs.declared.message.Message.{Message}
use Rattle.world_base.specs.declared.node_core.item.Item.{Item}
use Rattle.world_base.specs.declared.node_core.item.Item.TheVariants.{Peer, Crash, Expel}
use Rattle.lists.specs.Lists.{Each, In}
use Rattle.lists.proofs.OfEach.{each_append, each_then}
use Rattle.run_history.specs.declared.event.RunEvent.{RunEvent}
use Rattle.run_history.specs.Linked.{IsRun}
use Rattle.run_history.specs.Log.{sent_in}
use Rattle.run_history.specs.Sending.{WasSentTo}
use Rattle.run_history.proofs.LongerLogs.{in_later}
use Rattle.post.specs.outbox.Queued.{IsOrder, IsPosted, IsQueued}
use Rattle.post.specs.outbox.Queued.IsOrder.{crashes, expels}
use Rattle.post.specs.outbox.Queued.IsPosted.{ordered, sent_to}
use Rattle.post.specs.outbox.Replacement.{newest_item, replaces, replaces_one, still_waiting}
use Rattle.post.specs.outbox.WaitingItems.{Waits, may_be_queued, is_of_node, of_nodes}

one : Item → ℕ
one item = if is_of_node item then 1 else 0

one_least : (b : Bool) → (if b then 1 else 0) ≤ 1
one_least true = omega arith
one_least false = omega arith

of_nodes_more : (items : List Item) (item : Item) → of_nodes (items ++ item ∷ []) ≡ of_nodes items + (if is_of_node item then 1 else 0)
of_nodes_more [] item = omega arith
of_nodes_more (first ∷ items) item = let e = of_nodes_more items item in omega (arith, e)

of_nodes_least : (items : List Item) → of_nodes items ≤ length items
of_nodes_least [] = omega arith
of_nodes_least (first ∷ items) =
    let a = one_least (is_of_node first) in let e = of_nodes_least items in omega (arith, a, e)

of_nodes_taken : (n : ℕ) (items : List Item) → of_nodes (take n items) ≤ of_nodes items
of_nodes_taken zero items = omega arith
of_nodes_taken (suc n) [] = omega arith
of_nodes_taken (suc n) (first ∷ items) = let e = of_nodes_taken n items in omega (arith, e)

pub each_taken : {A : Type 0} (P : A → Type 0) (n : ℕ) (items : List A) → Each P items → Each P (take n items)
each_taken P zero items each = tt
each_taken P (suc n) [] each = tt
each_taken P (suc n) (first ∷ items) each = (each.0, each_taken P n items each.1)

-- a prefix of what waits
pub waits_taken : (sent : List (ℕ × Message Command)) (number n : ℕ) (items : List Item) → Waits sent number items → Waits sent number (take n items)
waits_taken sent number n items waits = record {
  queued = each_taken (IsPosted sent number) n items waits.queued;
  bounded = let e = of_nodes_taken n items in let b = waits.bounded in omega (arith, e, b);
}

-- ---- a longer log

posted_later : (xs ys : List RunEvent) (number : ℕ) → IsPrefix xs ys → (item : Item) → IsPosted (sent_in xs) number item → IsPosted (sent_in ys) number item
posted_later xs ys number more _ (sent_to message was) = sent_to message (in_later (number, message) xs ys more was)
posted_later xs ys number more item (ordered order) = ordered order

-- what waits may wait by a longer log
pub waits_later : (xs ys : List RunEvent) (number : ℕ) (items : List Item) → IsPrefix xs ys → Waits (sent_in xs) number items → Waits (sent_in ys) number items
waits_later xs ys number items more waits = record {
  queued = each_then (IsPosted (sent_in xs) number) (IsPosted (sent_in ys) number) items (posted_later xs ys number more) waits.queued;
  bounded = waits.bounded;
}

-- what waits may be queued by a log of the run
pub waits_queued : (linked : Bool) (nodes : ℕ) (config : Config) (log : List RunEvent) (number : ℕ) (items : List Item)
    → IsRun linked nodes config log → Waits (sent_in log) number items → Each (IsQueued linked nodes config number) items
waits_queued linked nodes config log number items run waits =
    each_then (IsPosted (sent_in log) number) (IsQueued linked nodes config number) items
    (λ item posted. record { log = log; run = run; posted = posted }) waits.queued

-- ---- one more item

-- if there is room the bound is kept
roomy : (b : Bool) (count size : ℕ) → (not b || nat_lt size 524288) ≡ true → count ≤ size → count ≤ 524288
    → count + (if b then 1 else 0) ≤ 524288
roomy true count size room least bounded = grind (arith, room, least, bounded)
roomy false count size room least bounded = grind (arith, bounded)

waits_more : (sent : List (ℕ × Message Command)) (number : ℕ) (item : Item) (items : List Item)
    → IsPosted sent number item → may_be_queued item items ≡ true → Waits sent number items → Waits sent number (items ++ item ∷ [])
waits_more sent number item items posted room waits = record {
  queued = each_append (IsPosted sent number) items (item ∷ []) waits.queued (posted, tt);
  bounded = subst (λ (count : ℕ). count ≤ 524288) (sym (of_nodes_more items item))
      (roomy (is_of_node item) (of_nodes items) (length items) room (of_nodes_least items) waits.bounded);
}

queued_by : (sent : List (ℕ × Message Command)) (number : ℕ) (item : Item) (kept : Bool) (old new : List Item)
    → IsPosted sent number item → may_be_queued item old ≡ true → Waits sent number old
    → new ≡ (if kept then old ++ item ∷ [] else old) → Waits sent number new
queued_by sent number item true old new posted room waits is = subst (Waits sent number) (sym is) (waits_more sent number item old posted room waits)
queued_by sent number item false old new posted room waits is = subst (Waits sent number) (sym is) waits

-- an item that may be queued by what is known, where what was seen is extended by that
pub queued_more : (seen known after : List RunEvent) (number : ℕ) (item : Item) (kept : Bool) (old new : List Item)
    → IsPrefix seen after → IsPrefix known after → IsPosted (sent_in known) number item → may_be_queued item old ≡ true
    → Waits (sent_in seen) number old → new ≡ (if kept then old ++ item ∷ [] else old) → Waits (sent_in after) number new
queued_more seen known after number item kept old new this that posted room waits is =
    queued_by (sent_in after) number item kept old new (posted_later known after number that item posted) room
    (waits_later seen after number old this waits) is

-- a message of the master is not one of a node
from_master : (from : ℕ) → from ≡ 0 → nat_lt 0 from ≡ false
from_master from is = ap (λ (n : ℕ). nat_lt 0 n) is

room_always : (b : Bool) (size : ℕ) → b ≡ false → (not b || nat_lt size 524288) ≡ true
room_always b size is = ap (λ (c : Bool). not c || nat_lt size 524288) is

-- the same for a message of the master, for which room was made before
pub queued_answer : (seen known after : List RunEvent) (number : ℕ) (message : Message Command) (kept : Bool) (before old new : List Item)
    → IsPrefix seen after → IsPrefix known after → In (number, message) (sent_in known)
    → message.from ≡ 0 → Waits (sent_in seen) number before → old ≡ before
    → new ≡ (if kept then old ++ Peer message ∷ [] else old) → Waits (sent_in after) number new
queued_answer seen known after number message kept before old new this that was from waits same is =
    queued_more seen known after number (Peer message) kept before new this that (sent_to message was)
    (room_always (nat_lt 0 message.from) (length before) (from_master message.from from)) waits
    (subst (λ (items : List Item). new ≡ (if kept then items ++ Peer message ∷ [] else items)) same is)

-- ---- orders

-- an order is sent by no event
pub order_is_sent : (sent : List (ℕ × Message Command)) (number : ℕ) (order : Item) → IsOrder order → WasSentTo sent number order
order_is_sent sent number _ crashes = tt
order_is_sent sent number _ (expels client) = tt

none_replaced : (order : Item) (items : List Item) (newest : Option Item) → ((older : Item) → replaces order older ≡ false)
    → (if replaces_one order newest then take (length items - 1) items else items) ≡ items
none_replaced order items None none = refl
none_replaced order items (Some older) none = ap (λ (b : Bool). if b then take (length items - 1) items else items) (none older)

-- an order replaces nothing
pub order_replaces_none : (order : Item) (items : List Item) → IsOrder order → still_waiting order items ≡ items
order_replaces_none _ items crashes = none_replaced Crash items (newest_item items) (λ older. refl)
order_replaces_none _ items (expels client) = none_replaced (Expel client) items (newest_item items) (λ older. refl)
