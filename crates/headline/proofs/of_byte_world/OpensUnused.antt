-- A new connection is reported to a node at a port that no pipe leads to: what stays, whether the
-- node takes it or not.
use Rattle.std.proofs.Common.{◌≡◌, ℕ, zero, suc, Bool, true, false, ◌&&◌, ◌||◌, ◌==◌, List, [], ◌∷◌, ◌++◌, Option, Some, slice_get, refl, sym, ap, ◌∙◌}
use Rattle.std.specs.List.{list_any}
use Rattle.std.proofs.lemmas.Bool.{both_ways}
use Rattle.ballot_base.specs.declared.config.Config.{Config}
use Rattle.broker_spec.specs.Connection.{ConnectionName}
use Rattle.lists.proofs.Tests.{eq_same}
use Rattle.exactly_once.specs.Sides.{ClientConnection}
use Rattle.world_base.specs.declared.node_connections.connection.Connection.{Connection as NodesEnd}
use Rattle.world_base.specs.declared.node_core.item.Item.TheVariants.{Opened}
use Rattle.world_base.specs.declared.node_connections.port.Port.{Port}
use Rattle.world_base.specs.node_core.Core.{CoreState}
use Rattle.headline.specs.node_moves.Moves.{NodeCall}
use Rattle.headline.specs.node_moves.Moves.NodeCall.{takes}
use Rattle.headline.specs.node_group.Steps.{GroupTrace}
use Rattle.headline.specs.node_group.Steps.GroupTrace.{then_went}
use Rattle.headline.specs.node_group.Streams.{comes_up, goes_down}
use Rattle.headline.specs.byte_world.Steps.{DoesCall, node_call_of}
use Rattle.headline.specs.byte_world.World.{ClientPipes, HasPipe, Pipe, ByteWorld, is_used, leads_to}
use Rattle.headline.proofs.of_byte_world.NodesGoOn.{IsOpened, carries_with}
use Rattle.headline.proofs.of_byte_world.PipesHold.{PipeHolds, apart_on}
use Rattle.headline.proofs.of_byte_world.PortsKept.{IsOfOld}
use Rattle.headline.proofs.of_byte_world.WorldsHold.{Holds, IsUnheard, LeadsToPort}

-- ---- a port that no pipe leads to

any_at : {X : Type 0} (test : X → Bool) (xs : List X) (i : ℕ) (x : X) → slice_get xs i ≡ Some x → test x ≡ true → list_any test xs ≡ true
any_at test [] i x e is = cc
any_at {X = X} test (y ∷ xs) zero x e is = let same : y ≡ x = cc in let now : test y ≡ true = ap test same ∙ is in rw now refl
any_at test (y ∷ xs) (suc i) x e is = by (test y) (any_at test xs i x e is)
  where
    by : (b : Bool) → list_any test xs ≡ true → (b || list_any test xs) ≡ true
    by true rest = refl
    by false rest = rest

leads_used : (v : ByteWorld) (n : ℕ) (port : Port) → LeadsToPort v n port → is_used n port v.clients ≡ true
leads_used v n port l =
    any_at (λ (c : ClientPipes). list_any (leads_to n port) c.pipes) v.clients l.index l.client l.has.client
    (any_at (leads_to n port) l.client.pipes l.nth l.pipe l.has.pipe (both (l.pipe.node == n) (l.pipe.port.0 == port.0) (ap (λ k. l.pipe.node == k) (sym l.node) ∙ eq_same l.pipe.node) (ap (λ k. l.pipe.port.0 == k) (sym l.at) ∙ eq_same l.pipe.port.0)))
  where
    both : (a b : Bool) → a ≡ true → b ≡ true → (a && b) ≡ true
    both a b e f = rw (e, f) refl

-- if a call opens a connection
abbrev opened_place : Option (ℕ × NodeCall) → ℕ
opened_place (Some (n, takes (Opened port now))) = n
opened_place _ = 0

abbrev opened_port : Option (ℕ × NodeCall) → ℕ
opened_port (Some (n, takes (Opened port now))) = port.0
opened_port _ = 0

-- what holds if one is reported to a node there: each connection that was there has its pipe, and
-- the pipes continue
pub record OpensUnused {nodes : ℕ} {config : Config} (v : ByteWorld) (went : GroupTrace nodes config v.group) (n : ℕ) (port : Port) (now : ℕ)
    (d : DoesCall v.group (Some (n, takes (Opened port now)))) : Type 0 where
  pub no_lead : LeadsToPort v n port → ⊥
  pub old_led : (m : ℕ) (old : CoreState) (e : NodesEnd) → slice_get v.group.nodes m ≡ Some old → IsOfOld old.connections e → LeadsToPort v m e.port
  pub opened_there : (m : ℕ) (old : CoreState) (e : NodesEnd) → IsOpened (node_call_of d.step) m old e → (m ≡ n) × (e.port.0 ≡ port.0)
  pub still_unheard : (x : ConnectionName) → IsUnheard went x → IsUnheard (then_went went d.step) x
  pub old_holds : (i : ℕ) (c : ClientPipes) (j : ℕ) (κ : ClientConnection) (p : Pipe) → HasPipe v i c j κ p → PipeHolds (then_went went d.step) κ p

module _ {nodes : ℕ} {config : Config} (v : ByteWorld) (went : GroupTrace nodes config v.group) (h : Holds v went) (n : ℕ) (port : Port) (now : ℕ) (d : DoesCall v.group (Some (n, takes (Opened port now))))
    (unused : is_used n port v.clients ≡ false) where
  no_lead : LeadsToPort v n port → ⊥
  no_lead l = both_ways (is_used n port v.clients) unused (leads_used v n port l)

  -- a connection that was there before has a pipe
  old_led : (m : ℕ) (old : CoreState) (e : NodesEnd) → slice_get v.group.nodes m ≡ Some old → IsOfOld old.connections e → LeadsToPort v m e.port
  old_led m old e at o =
      let l = h.used m old o.was at o.among in
      record { index = l.index; client = l.client; nth = l.nth; connection = l.connection; pipe = l.pipe; has = l.has; node = l.node; at = l.at ∙ sym (ap (λ (z : Port). z.0) o.later.port) }

  opened_there : (m : ℕ) (old : CoreState) (e : NodesEnd) → IsOpened (node_call_of d.step) m old e → (m ≡ n) × (e.port.0 ≡ port.0)
  opened_there m old e o = (ap opened_place (sym o.is ∙ d.is), ap (λ (z : Port). z.0) o.new.port_is ∙ ap opened_port (sym o.is ∙ d.is))

  quiet : (x : ConnectionName) → (comes_up x d.step ≡ []) × (goes_down x d.step ≡ [])
  quiet x = let c = carries_with v.group d.after d.step n (takes (Opened port now)) d.faithful d.is in (c.up x, c.down x)

  still_unheard : (x : ConnectionName) → IsUnheard went x → IsUnheard (then_went went d.step) x
  still_unheard x none = (ap (λ l. l ++ comes_up x d.step) none.0 ∙ (quiet x).0, ap (λ l. l ++ goes_down x d.step) none.1 ∙ (quiet x).1)

  -- the pipes that were there continue
  old_holds : (i : ℕ) (c : ClientPipes) (j : ℕ) (κ : ClientConnection) (p : Pipe) → HasPipe v i c j κ p → PipeHolds (then_went went d.step) κ p
  old_holds i c j κ p has =
      apart_on went d.step κ p
      (λ old e at o same. let z = opened_there p.node old e o in
      no_lead (record { index = i; client = c; nth = j; connection = κ; pipe = p; has = has; node = z.0; at = sym same ∙ z.1 }))
      (quiet κ.name).0 (quiet κ.name).1 (h.each i c j κ p has)

  pub opens_unused : OpensUnused v went n port now d
  opens_unused =
      record {
        no_lead = no_lead;
        old_led = old_led;
        opened_there = opened_there;
        still_unheard = still_unheard;
        old_holds = old_holds;
      }
