-- HandedInRun.antt: what a node handed over for a port, by longer and longer logs.
use Rattle.std.proofs.Common.{◌≡◌, ℕ, ◌+◌, ◌==◌, Bool, true, false, if◌then◌else◌, List, [], ◌∷◌, ◌++◌, Option, refl, ap, sym, ◌∙◌, arith, append_assoc}
use Rattle.std.specs.Prelude.{slice_get}
use Rattle.std.proofs.lemmas.List.{append-nil}
use Rattle.std.proofs.lemmas.Bool.Decides.{nat_tests}
use mathlib.Core.List.{IsPrefix}
use Rattle.ballot_base.specs.declared.config.Config.{Config}
use Rattle.ballot_base.specs.declared.message.Effect.{Effect}
use Rattle.broker_spec.specs.declared.command.Command.{Command}
use Rattle.broker_spec.specs.declared.command.Output.{Output}
use Rattle.world_base.specs.declared.node_connections.port.Port.{Port}
use Rattle.world_base.specs.node_core.Core.{CoreState}
use Rattle.run_history.specs.declared.event.NodeAct.{NodeAct}
use Rattle.run_history.specs.declared.event.NodeAct.TheVariants.{HandsOver, Takes}
use Rattle.run_history.specs.declared.event.RunEvent.{RunEvent}
use Rattle.run_history.specs.declared.event.RunEvent.TheVariants.{ByLink, ByMaster, ByNode, Opens}
use Rattle.run_history.specs.Log.{events_by, is_by, nodes_after, nodes_in}
use Rattle.run_history.specs.Parties.{DidAct, NodeView}
use Rattle.run_history.proofs.LongerLogs.{events_append, nodes_append, untouched}
use Rattle.node.specs.HandedBytes.{bytes_of, bytes_of_act, handed_at, handed_from}
use Rattle.node.specs.Theorems.{HandOversAddUp, StepsHandOverNothing}

handed_append : (index : ℕ) (port : Port) (nodes : List CoreState) (xs ys : List RunEvent)
    → handed_from index port nodes (xs ++ ys) ≡ handed_from index port nodes xs ++ handed_from index port (nodes_after nodes xs) ys
handed_append index port nodes [] ys = refl
handed_append index port nodes (x ∷ xs) ys =
    let next = nodes_after nodes (x ∷ []) in
    let rest : handed_from index port next (xs ++ ys) ≡ handed_from index port next xs ++ handed_from index port (nodes_after nodes (x ∷ xs)) ys =
    handed_append index port next xs ys
    ∙ ap (λ (n : List CoreState). handed_from index port next xs ++ handed_from index port n ys) (sym (nodes_append nodes (x ∷ []) xs)) in
    ap (λ t. bytes_of index port nodes x ++ t) rest
    ∙ sym (append_assoc (bytes_of index port nodes x) (handed_from index port next xs) (handed_from index port (nodes_after nodes (x ∷ xs)) ys))

-- an event of others hands over nothing of this node
none_of : (index : ℕ) (port : Port) (nodes : List CoreState) (x : RunEvent) (more : ℕ) (b : Bool) → is_by (index + 1) x ≡ b
    → (if b then 1 else 0) + more ≡ 0 → bytes_of index port nodes x ≡ []
none_of index port nodes x more true is none = absurd (omega (arith, none))
none_of index port nodes (Opens group) more false is none = refl
none_of index port nodes (ByMaster event) more false is none = refl
none_of index port nodes (ByLink brought) more false is none = refl
none_of index port nodes (ByNode event) more false is none =
    let other : (event.node == index) ≡ false = grind (arith, nat_tests, is) in
    ap (λ c. if c then bytes_of_act event.act port (slice_get nodes index) else []) other

-- so do events of others
none_from : (index : ℕ) (port : Port) (nodes : List CoreState) (xs : List RunEvent) → events_by (index + 1) xs ≡ 0 → handed_from index port nodes xs ≡ []
none_from index port nodes [] none = refl
none_from index port nodes (x ∷ xs) none =
    let first : bytes_of index port nodes x ≡ [] = none_of index port nodes x (events_by (index + 1) xs) (is_by (index + 1) x) refl none in
    let next : handed_from index port (nodes_after nodes (x ∷ [])) xs ≡ [] = none_from index port (nodes_after nodes (x ∷ [])) xs (omega (arith, none)) in
    λ i. first i ++ next i

-- a node without events handed over nothing
pub none_handed : (nodes : ℕ) (config : Config) (index : ℕ) (port : Port) (log : List RunEvent) → events_by (index + 1) log ≡ 0
    → handed_at nodes config index port log ≡ []
none_handed nodes config index port log none = none_from index port (nodes_in nodes config []) log none

-- what an act of a node hands over comes after what it had handed over
did_hand : (nodes : ℕ) (config : Config) (old new : NodeView) (act : NodeAct) (given : List (Effect Command Output)) (port : Port)
    → DidAct old act given new
    → handed_at nodes config old.index port new.log
    ≡ handed_at nodes config old.index port old.log ++ bytes_of_act act port (slice_get (nodes_in nodes config old.log) old.index)
did_hand nodes config old new act given port did =
    let first = nodes_in nodes config [] in
    let event : RunEvent = ByNode (record { node = old.index; act = act; after = new.node; given = given }) in
    let sum = ap (events_by (old.index + 1)) (sym did.begins.1) ∙ events_append (old.index + 1) old.log did.begins.0 in
    let none : events_by (old.index + 1) did.begins.0 ≡ 0 = omega (arith, sum, did.none_since) in
    let me : (old.index == old.index) ≡ true = grind (arith, nat_tests) in
    let was : handed_from old.index port first did.earlier ≡ handed_from old.index port first old.log =
    ap (handed_from old.index port first) (sym did.begins.1)
    ∙ (handed_append old.index port first old.log did.begins.0
    ∙ (ap (λ t. handed_from old.index port first old.log ++ t) (none_from old.index port (nodes_after first old.log) did.begins.0 none)
    ∙ append-nil (handed_from old.index port first old.log))) in
    let core : slice_get (nodes_after first did.earlier) old.index ≡ slice_get (nodes_after first old.log) old.index =
    ap (λ (log : List RunEvent). slice_get (nodes_after first log) old.index) (sym did.begins.1)
    ∙ (ap (λ (n : List CoreState). slice_get n old.index) (nodes_append first old.log did.begins.0)
    ∙ untouched (nodes_after first old.log) old.index did.begins.0 none) in
    let now : handed_from old.index port (nodes_after first did.earlier) (event ∷ []) ≡ bytes_of_act act port (slice_get (nodes_after first old.log) old.index) =
    append-nil (bytes_of old.index port (nodes_after first did.earlier) event)
    ∙ (ap (λ c. if c then bytes_of_act act port (slice_get (nodes_after first did.earlier) old.index) else []) me
    ∙ ap (bytes_of_act act port) core) in
    ap (handed_from old.index port first) did.now
    ∙ (handed_append old.index port first did.earlier (event ∷ [])
    ∙ (λ i. was i ++ now i))

pub hand_overs_add_up : HandOversAddUp
hand_overs_add_up nodes config old new port other is handed =
    did_hand nodes config old new (HandsOver port) [] other handed.did
    ∙ ap (λ (core : Option CoreState). handed_at nodes config old.index other old.log ++ bytes_of_act (HandsOver port) other core) is

pub steps_hand_over_nothing : StepsHandOverNothing
steps_hand_over_nothing nodes config old new item port before after took =
    did_hand nodes config old new (Takes item) took.stepped.given port took.did
    ∙ append-nil (handed_at nodes config old.index port old.log)

-- by a longer log no less was handed over
pub handed_longer : (nodes : ℕ) (config : Config) (index : ℕ) (port : Port) (xs ys : List RunEvent) → IsPrefix xs ys
    → IsPrefix (handed_at nodes config index port xs) (handed_at nodes config index port ys)
handed_longer nodes config index port xs ys longer =
    let first = nodes_in nodes config [] in (
      handed_from index port (nodes_after first xs) longer.0,
      sym (handed_append index port first xs longer.0) ∙ ap (handed_from index port first) longer.1,
    )
