-- What a node does in a step is what a group that corresponds to the nodes may do.
use Rattle.std.proofs.Common.{◌≡◌, inl, inr, ◌<◌, ◌^◌, ℕ, zero, suc, ◌-◌, ◌+◌, Bool, true, false, ◌&&◌, if◌then◌else◌, List, ◌++◌, Some, refl, sym, ap, ◌∙◌, subst, arith}
use Rattle.std.specs.Prelude.{slice_get, slice_set, get_or, OnOk, Result, Ok, Err}
use Rattle.std.specs.Result.{is_err}
use Rattle.std.proofs.lemmas.Option.{get_or_from_slice_get}
use Rattle.ballot_base.specs.declared.message.Effect.{Effect}
use Rattle.ballot_base.specs.Losses.{one_more}
use Rattle.ballot_base.specs.declared.message.Message.{Message}
use Rattle.lists.specs.Lists.{In}
use Rattle.agreement.specs.cut_logs.World.{messages}
use Rattle.broker_spec.specs.declared.command.Command.{Command}
use Rattle.broker_spec.specs.declared.command.Output.{Output}
use Rattle.world_base.specs.declared.node_core.item.Item.{Item}
use Rattle.world_base.specs.declared.node_core.item.Item.TheVariants.{Peer, Tick, Opened, Bytes, Ended, Expel, Cut, Crash}
use Rattle.world_base.specs.node_core.Core.{CoreState, CountedCore}
use Rattle.world_base.specs.node_core.Step.{node_step}
use Rattle.headline.specs.node_moves.Moves.{NodeCall, done}
use Rattle.headline.specs.node_moves.Moves.NodeCall.{takes}
use Rattle.headline.specs.node_group.Group.{Group, group_after_outcome, with_record}
use Rattle.headline.specs.node_group.Proposals.{recorded_in}
use Rattle.headline.specs.node_group.Steps.{all_given}
use Rattle.headline.specs.node_group.Steps.GroupStep.{node_acts}
use Rattle.headline.specs.byte_world.NodeCalls.{NodeCallWasSent, recorded_after}
use Rattle.headline.proofs.of_byte_world.NodeCallsCarry.{node_calls_carry_their_bytes}
use Rattle.headline.proofs.of_node_group.Placed.{get_mapped, set_mapped}
use Rattle.world_nodes.specs.Nodes.{NodesState, NodesStandFor}
use Rattle.world_nodes.specs.ExactSteps.{NodeDoesCall, after_node_call}
use Rattle.world_nodes.specs.Steps.{NodeItemOrLost}
use Rattle.world_nodes.specs.Inside.{RunsAt, TookItem, ItemWasSent}

abbrev pub core_in : CountedCore → CoreState
core_in c = c.core

-- ---- a call

pub acts : (old : NodesState) (at : ℕ) (node : CountedCore) (node_call : NodeCall) → slice_get old.nodes at ≡ Some node
    → ((g : Group) → NodesStandFor g old → NodeCallWasSent g at node.core node_call)
    → NodeDoesCall at node_call old (record (after_node_call at node node_call old) { archive = recorded_after old.archive node.core node_call })
acts old at node node_call there sent g s =
    let r = node_calls_carry_their_bytes g at node_call node.core (sent g s) in
    let turn = done node_call node.core in
    let found : slice_get g.nodes at ≡ Some node.core = ap (λ (l : List CoreState). slice_get l at) s.nodes ∙ get_mapped core_in old.nodes at node there in
    record {
      does = record {
        after = group_after_outcome (with_record g (recorded_in g.archive r.run)) at turn (all_given r.run);
        step = node_acts at node.core node_call turn r.run found refl r.first r.sent;
        is = refl;
        faithful = r.bytes;
      };
      stands = record {
        master = s.master;
        nodes = ap (λ (l : List CoreState). slice_set l at turn.core) s.nodes
            ∙ sym (set_mapped core_in old.nodes at (let c : CountedCore = record node { core = turn.core } in c));
        sent = ap (λ (l : List (ℕ × Message Command)). l ++ messages turn.messages) s.sent;
        archive = r.records g.archive ∙ ap (λ (l : List Command). recorded_after l node.core node_call) s.archive;
      };
    }

-- ---- results

-- what holds for a result that is not refused
pub where_ok : {A E : Type 0} (r : Result A E) (P : Type 0) → is_err r ≡ false → OnOk r P → P
where_ok (Ok a) P e holds = holds
where_ok (Err why) P e holds = cc

-- ---- counts

pub not_one_more : (losses : ℕ) → losses < 2 ^ 64 - 1 → one_more losses ≡ losses → ⊥
not_one_more losses low e = omega (arith, low, e)

-- ---- an item

-- what was sent to the node of a number was sent to the one at its index
pub node_call_sent : (old : NodesState) (node at : ℕ) (core : CoreState) (item : Item) → at ≡ node - 1 → 0 < node → ItemWasSent node item old.sent
    → (g : Group) → NodesStandFor g old → NodeCallWasSent g at core (takes item)
node_call_sent old zero at core item place positive sent g s = absurd (omega (arith, positive))
node_call_sent old (suc n) at core (Peer message) place positive sent g s =
    subst (λ (l : List (ℕ × Message Command)). In (at + 1, message) l) (sym s.sent)
    (subst (λ (k : ℕ). In (k, message) old.sent) (let e : suc n ≡ at + 1 = omega (arith, place) in e) sent)
node_call_sent old (suc n) at core (Tick now) place positive sent g s = tt
node_call_sent old (suc n) at core (Opened port now) place positive sent g s = tt
node_call_sent old (suc n) at core (Bytes port piece now) place positive sent g s = tt
node_call_sent old (suc n) at core (Ended port) place positive sent g s = tt
node_call_sent old (suc n) at core (Expel client) place positive sent g s = tt
node_call_sent old (suc n) at core Cut place positive sent g s = absurd sent
node_call_sent old (suc n) at core Crash place positive sent g s = tt

-- the nodes after the turn of one, with the changed record
abbrev pub after_turn_of : ℕ → CountedCore → List (ℕ × Message Command) → ℕ → NodesState → NodesState
after_turn_of at new more losses old = record old { nodes = slice_set old.nodes at new; sent = more; losses = losses }

abbrev pub after_turn_with : ℕ → CountedCore → List (ℕ × Message Command) → List Command → ℕ → NodesState → NodesState
after_turn_with at new more archive losses old =
    record old { nodes = slice_set old.nodes at new; sent = more; archive = archive; losses = losses }

pub whole_turn : (old : NodesState) (at : ℕ) (core new : CountedCore) (item : Item) (more : List (ℕ × Message Command))
    → TookItem core item new old.sent more true → after_turn_of at new more old.losses old ≡ after_node_call at core (takes item) old
whole_turn old at core new item more t =
    let e = t.exact refl in
    ap (λ (c : CountedCore). after_turn_of at c more old.losses old) e.0
    ∙ ap (λ (l : List (ℕ × Message Command)). after_turn_of at (record core { core = (node_step item core.core).core }) l old.losses old)
    (t.is ∙ ap (λ (l : List (Effect Command Output)). old.sent ++ messages l) e.1)

pub turn_takes : (old : NodesState) (node at : ℕ) (x : RunsAt old.nodes node at) (new : CountedCore) (item : Item) (more : List (ℕ × Message Command))
    (whole : Bool) (losses : ℕ) → TookItem x.core item new old.sent more whole → losses ≡ (if whole && true then old.losses else one_more old.losses)
    → NodeItemOrLost node item old (after_turn_of at new more losses old)
turn_takes old node at x new item more true losses t count =
    record {
      core = x.core;
      runs = x.runs;
      way = inl (
          ap (λ (k : ℕ). after_turn_of at new more k old) count ∙ whole_turn old at x.core new item more t
          ∙ ap (λ (k : ℕ). after_node_call k x.core (takes item) old) x.index
          );
    }
turn_takes old node at x new item more false losses t count =
    record {
      core = x.core;
      runs = x.runs;
      way = inr (
          record {
            node = new;
            wanted = t.wanted;
            kept = t.kept;
            runs = t.runs;
            thinned = t.thinned;
            is = ap (λ (k : ℕ). after_turn_of at new more k old) count
                ∙ ap (λ (l : List (ℕ × Message Command)). after_turn_of at new l (one_more old.losses) old) t.is
                ∙ ap (λ (k : ℕ). after_turn_of k new (old.sent ++ messages t.kept) (one_more old.losses) old) x.index;
          }
          );
    }

-- what is read at an index is the node that is there
pub same_core : (nodes : List CountedCore) (at : ℕ) (core z : CountedCore) → slice_get nodes at ≡ Some core → z ≡ get_or nodes at z → z ≡ core
same_core nodes at core z there is = is ∙ get_or_from_slice_get nodes at core z there

pub took_by : (nodes : List CountedCore) (at : ℕ) (core z : CountedCore) (item : Item) (new : CountedCore) (sent more : List (ℕ × Message Command)) (whole : Bool)
    → slice_get nodes at ≡ Some core → z ≡ get_or nodes at z → TookItem z item new sent more whole → TookItem core item new sent more whole
took_by nodes at core z item new sent more whole there is t =
    subst (λ (y : CountedCore). TookItem y item new sent more whole) (same_core nodes at core z there is) t
