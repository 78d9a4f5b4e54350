-- The pipes of a world carry in order.
use Rattle.std.proofs.Common.{◌≡◌, inl, ℕ, zero, suc, List, [], ◌∷◌, ◌++◌, map, Option, Some, slice_get, refl, sym, ap, ◌∙◌, subst}
use Rattle.ballot_base.specs.declared.config.Config.{Config}
use Rattle.broker_spec.specs.declared.command.Command.{Command}
use Rattle.broker_spec.specs.Place.{Client}
use Rattle.lists.specs.Lists.{In, IsPrefixOf}
use Rattle.exactly_once.specs.Sides.{ClientConnection}
use Rattle.world_base.specs.declared.node_connections.connection.Connection.{Connection as NodesEnd}
use Rattle.world_base.specs.node_core.Core.{CoreState}
use Rattle.headline.specs.node_group.Group.{opening_cores}
use Rattle.headline.specs.node_group.Steps.{GroupTrace}
use Rattle.headline.specs.node_group.Steps.GroupTrace.{opened}
use Rattle.headline.proofs.of_node_group.NamesInGroups.{each_got}
use Rattle.broker_spec.specs.Connection.{ConnectionName}
use Rattle.headline.specs.node_group.Carried.{answers_to}
use Rattle.headline.specs.node_group.Streams.{came_up, went_down}
use Rattle.headline.proofs.of_node_group.CarriedInOrder.{CarriedSo, IsAgreedSo, carried_so, carries_each, no_connections}
use Rattle.headline.specs.byte_world.Carried.{trace_of, went_on}
use Rattle.headline.specs.byte_world.Steps.{Reached, ByteWorldStep}
use Rattle.headline.specs.byte_world.Steps.Reached.{begins, goes_on}
use Rattle.headline.specs.byte_world.Steps.ByteWorldStep.{group_goes, calls, connects, is_taken_back, comes_up, goes_down, arrives, handles}
use Rattle.headline.specs.byte_world.InPipes.{IsInOrder, PipesCarryInOrder}
use Rattle.headline.specs.byte_world.World.{ClientPipes, HasPipe, Pipe, ByteWorld, new_client, opening, packets_of}
use Rattle.headline.proofs.of_byte_world.WorldsHold.{Holds, arrives_holds, client_holds, set_at}
use Rattle.headline.proofs.of_byte_world.WorldsKeep.{call_writes, calls_hold, comes_holds, goes_holds, group_holds, handles_hold}
use Rattle.headline.proofs.of_byte_world.TakenBack.{taken_back_holds}
use Rattle.headline.proofs.of_byte_world.WorldsOpen.{connects_holds}

-- ---- as it opens

opens_bare : (cs : List Client) (i : ℕ) (c : ClientPipes) (j : ℕ) (κ : ClientConnection) → slice_get (map new_client cs) i ≡ Some c → slice_get c.connections j ≡ Some κ → ⊥
opens_bare [] i c j κ e f = cc
opens_bare (d ∷ cs) zero c j κ e f = nowhere j (ap (λ (z : ClientPipes). slice_get z.connections j) (some_is (new_client d) c e) ∙ f)
  where
    some_is : (a b : ClientPipes) → (let o : Option ClientPipes = Some a in o) ≡ Some b → a ≡ b
    some_is a b g = cc

    nowhere : (k : ℕ) → slice_get (new_client d).connections k ≡ Some κ → ⊥
    nowhere k g = cc
opens_bare (d ∷ cs) (suc i) c j κ e f = opens_bare cs i c j κ e f

pub opens_hold : (greatest nodes : ℕ) (config : Config) (cs : List Client) (went : GroupTrace nodes config (opening greatest nodes config cs).group) → ((x : ConnectionName) → (came_up x went ≡ []) × (went_down x went ≡ []))
    → Holds (opening greatest nodes config cs) went
opens_hold greatest nodes config cs went silent =
    record {
      each = λ i c j κ p has. absurd (opens_bare cs i c j κ has.client has.connection);
      one = λ i c j κ p k d l μ q has other same. absurd (opens_bare cs i c j κ has.client has.connection);
      used = λ n core d at i. absurd (bare core d (each_got (λ (k : CoreState). k.connections ≡ []) (opening_cores nodes config) n core (no_connections nodes config) at) i);
      known = λ x. inl (silent x);
    }
  where
    none_in : (d : NodesEnd) (cs : List NodesEnd) → cs ≡ [] → In d cs → ⊥
    none_in d [] e i = elim i [ ]
    none_in d (c ∷ cs) e i = cc

    bare : (core : CoreState) (d : NodesEnd) → core.connections ≡ [] → In d core.connections → ⊥
    bare core d e i = none_in d core.connections e i

-- ---- each step

pub step_holds : {nodes : ℕ} {config : Config} (v w : ByteWorld) (went : GroupTrace nodes config v.group) → Holds v went → (step : ByteWorldStep v w) → Holds w (went_on went step)
step_holds v w went h (group_goes node_call d apart) = group_holds v went node_call d apart h
step_holds v w went h (calls i c t happens at call spelled) =
    let new = call_writes happens call in calls_hold v went i c t.keeper t.connections new.0 at new.1 spelled h
step_holds v w went h (connects i n c port now d core end at unused after there_so spelled) =
    connects_holds v went h n port now d core end after there_so unused i c at spelled
step_holds v w went h (is_taken_back n port now d core unused after none) = taken_back_holds v went h n port now d unused core after none
step_holds v w went h (comes_up i j c κ p piece rest now d has is) = comes_holds v went i j c κ p piece rest now d has is h
step_holds v w went h (goes_down i j c κ p d has) = goes_holds v went i j c κ p d has h
step_holds v w went h (arrives i j c κ p piece rest has is) =
    let q : Pipe = record p { down = rest; came = record p.came { bytes = p.came.bytes ++ piece } } in
    client_holds v went i j c _ κ κ p q has (set_at c j κ p q has.connection has.pipe refl refl) (arrives_holds went κ p piece rest is (h.each i c j κ p has)) h
step_holds v w went h (handles i c κ others p pipes packet left at first piped is_open cut spelled) =
    handles_hold v went i c κ others p pipes packet left at first piped cut spelled h

pub reached_holds : {nodes : ℕ} {config : Config} {cs : List Client} (w : ByteWorld) (trail : Reached nodes config cs w) → Holds w (trace_of trail)
reached_holds {nodes = nodes} {config = config} {cs = cs} w (begins greatest can) = opens_hold greatest nodes config cs (opened greatest can) (λ x. (refl, refl))
reached_holds w (goes_on {old = v} before step) = step_holds v w (trace_of before) (reached_holds v before) step

-- ---- the law

-- what is carried on each connection, by each list that is agreed
pub in_order : {nodes : ℕ} {config : Config} (w : ByteWorld) (went : GroupTrace nodes config w.group) → Holds w went → (so : CarriedSo went) (agreed : List Command) → IsAgreedSo so agreed
    → (i : ℕ) (c : ClientPipes) (j : ℕ) (κ : ClientConnection) (p : Pipe) → HasPipe w i c j κ p → IsInOrder agreed κ p
in_order w went holds so agreed is i c j κ p has =
    let h = holds.each i c j κ p has in
    let both = carries_each w.group went so agreed is κ.name (packets_of κ.written) h.up.later h.up.joined in
    record {
      up = both.up;
      handled = h.down.handled;
      counted = h.down.counted;
      whole = h.down.whole;
      down = subst (λ (l : List ℕ). IsPrefixOf l (answers_to κ.name agreed)) (sym h.down.is) both.down;
      sound = h.down.sound;
    }

pub pipes_carry_in_order : PipesCarryInOrder
pipes_carry_in_order nodes config cs w trail =
    let so = carried_so (trace_of trail) in
    record { of = so.of; each = in_order w (trace_of trail) (reached_holds w trail) so }
