-- A connection that its node does not take changes nothing for the clients, and what holds for all
-- connections is kept.
use Rattle.std.proofs.Common.{◌≡◌, ◌⊎◌, inl, inr, ℕ, false, Option, Some, None, slice_get, refl, sym, ap, ◌∙◌, subst}
use Rattle.std.proofs.lemmas.Bool.{both_ways}
use Rattle.ballot_base.specs.declared.config.Config.{Config}
use Rattle.broker_spec.specs.Connection.{ConnectionName}
use Rattle.lists.specs.Lists.{In}
use Rattle.world_base.specs.declared.node_connections.connection.Connection.{Connection as NodesEnd}
use Rattle.world_base.specs.declared.node_core.item.Item.TheVariants.{Opened}
use Rattle.world_base.specs.declared.node_connections.port.Port.{Port}
use Rattle.world_base.specs.node_core.Core.{CoreState}
use Rattle.world_base.specs.node_connections.Connections.{is_at}
use Rattle.world_base.specs.node_core.PortOutput.{listed_at}
use Rattle.headline.specs.node_moves.Moves.NodeCall.{takes}
use Rattle.headline.specs.node_group.Steps.{GroupTrace}
use Rattle.headline.specs.node_group.Steps.GroupTrace.{then_went}
use Rattle.headline.specs.byte_world.Steps.{DoesCall, node_call_of}
use Rattle.headline.specs.byte_world.World.{HasPipe, ByteWorld, is_used}
use Rattle.headline.proofs.of_byte_world.NodesGoOn.{IsOpened, of_each, stood_as}
use Rattle.headline.proofs.of_byte_world.PipesHold.{is_the_port, none_found}
use Rattle.headline.proofs.of_byte_world.OpensUnused.{OpensUnused, opens_unused}
use Rattle.headline.proofs.of_byte_world.PortsKept.{IsOfOld}
use Rattle.headline.proofs.of_byte_world.WorldsHold.{Holds, IsKnown, IsUnheard, LeadsToPort, holds_on}

same_core : (a b : CoreState) → (let o : Option CoreState = Some a in o) ≡ Some b → a ≡ b
same_core a b e = cc

module _ {nodes : ℕ} {config : Config} (v : ByteWorld) (went : GroupTrace nodes config v.group) (h : Holds v went) (n : ℕ) (port : Port) (now : ℕ) (d : DoesCall v.group (Some (n, takes (Opened port now))))
    (unused : is_used n port v.clients ≡ false) (core : CoreState) (stands : slice_get d.after.nodes n ≡ Some core) (none : listed_at port core ≡ None) where
  facts : OpensUnused v went n port now d
  facts = opens_unused v went h n port now d unused

  -- no connection of the node is at that port
  not_there : (e : NodesEnd) → In e core.connections → e.port.0 ≡ port.0 → ⊥
  not_there e i same = both_ways (is_at port e) (of_each (λ (z : NodesEnd). is_at port z ≡ false) (none_found (is_at port) core.connections none) i) (is_the_port port e same)

  each_led : (m : ℕ) (z : CoreState) (e : NodesEnd) → slice_get d.after.nodes m ≡ Some z → In e z.connections → LeadsToPort v m e.port
  each_led m z e stood j = by (stood_as v.group d.after went d.step m z stood).core (stood_as v.group d.after went d.step m z stood).stands ((stood_as v.group d.after went d.step m z stood).after.was e j)
    where
      by : (before : CoreState) → slice_get v.group.nodes m ≡ Some before → IsOfOld before.connections e ⊎ IsOpened (node_call_of d.step) m before e → LeadsToPort v m e.port
      by before at (inl o) = facts.old_led m before e at o
      by before at (inr o) =
          let f = facts.opened_there m before e o in
          let one : z ≡ core = same_core z core (sym stood ∙ ap (slice_get d.after.nodes) f.0 ∙ stands) in
          absurd (not_there e (subst (λ (k : CoreState). In e k.connections) one j) f.1)

  each_known : (x : ConnectionName) → IsUnheard went x ⊎ IsKnown v x → IsUnheard (then_went went d.step) x ⊎ IsKnown v x
  each_known x (inl silent) = inl (facts.still_unheard x silent)
  each_known x (inr k) = inr k

  pub taken_back_holds : Holds (record v { group = d.after }) (then_went went d.step)
  taken_back_holds =
      holds_on v (record v { group = d.after }) went (then_went went d.step) h
      (λ k c l κ p has.
      let old : HasPipe v k c l κ p = record { client = has.client; connection = has.connection; pipe = has.pipe } in
      record { c = c; κ = κ; p = p; has = old; name = refl; holds = facts.old_holds k c l κ p old })
      (λ k c l κ p has.
      record { c = c; later = κ; q = p; has = record { client = has.client; connection = has.connection; pipe = has.pipe }; name = refl; node = refl; port = refl })
      each_led (λ x. each_known x (h.known x))
