-- Gathered.antt: connections are asked one after another, from the newest to the oldest.
use Rattle.std.proofs.Common.{◌≡◌, inl, inr, ◌<◌, ◌-◌, ℕ, zero, suc, Bool, true, false, List, ◌++◌, Some, length, set, slice_get, refl, sym, ap, ◌∙◌, subst, arith}
use Rattle.world_nodes.specs.RunningNodes.{numbered_node}
use Rattle.world_nodes.specs.Steps.{nodes_with_loss}
use Rattle.world_pipes.specs.declared.clients.connection_slot.ConnectionSlot.{ConnectionSlot}
use Rattle.world.specs.Found.{slot_numbered, port_at_node, with_piped}
use Rattle.world_pipes.specs.clients.NodeOutput.{with_down}
use Rattle.world.specs.NodeOutput.{GatheredWhere, Gathers, GathersAmong, IsGathered, MayBeGathered, leads_open_to}
use Rattle.world_pipes.specs.clients.NodeOutput.{bytes_put_out}
use Rattle.world.specs.Inside.Steps.{IsTrace}
use Rattle.world.specs.Inside.PortOutput.{GatheringOrLost, GathersOn, marked}
use Rattle.world.specs.World.{WorldState}
use Rattle.world.proofs.Joined.{goes_on_join}
use Rattle.world.proofs.StandsThere.{numbered_at}
use Rattle.world_pipes.proofs.of_clients.Turned.{set_itself}

-- ---- one connection

pub is_gathered : (number : ℕ) (place : ConnectionSlot) (is_open : Bool) (old mid new : WorldState) → slice_get old.connections (number - 1) ≡ Some place → 0 < number → GathersOn number place old is_open mid
    → new ≡ marked number place is_open mid → IsGathered number old new
is_gathered number place is_open old mid new at positive h is =
    let down : WorldState = record (with_piped place.client h.client
    (with_down place.at h.pair (h.pair.down ++ bytes_put_out (port_at_node number) (numbered_node old.nodes.nodes place.node)) h.client.piped) old) { nodes = h.between } in
    record {
      connected = record { slot = place; numbered = numbered_at number old.connections (Some place) positive at; client = h.client; owned = h.owned; pair = h.pair; stands = h.stands };
      node = numbered_node old.nodes.nodes place.node;
      is_node = refl;
      between = h.between;
      gives = h.gives;
      is = is ∙ ap (marked number place is_open) h.is ∙ ap (λ (b : Bool). marked number place b down) h.reported;
    }

-- one that stays open is as it was
pub stays_open : (number : ℕ) (place : ConnectionSlot) (w : WorldState) → slice_get w.connections (number - 1) ≡ Some place → place.is_open ≡ true → w ≡ marked number place true w
stays_open number place w found up =
    ap (λ (l : List ConnectionSlot). record w { connections = l })
    (sym (set_itself w.connections (number - 1) place found) ∙ ap (λ (b : Bool). set w.connections (number - 1) (record place { is_open = b })) up)

-- exactly, or its node ran out of memory
pub may_be_gathered : (number : ℕ) (place : ConnectionSlot) (is_open : Bool) (old mid new : WorldState) → slice_get old.connections (number - 1) ≡ Some place → 0 < number → place.is_open ≡ true
    → GatheringOrLost number place old is_open mid → new ≡ marked number place is_open mid → MayBeGathered false number old new
may_be_gathered number place is_open old mid new at positive up (inl h) is = inl (is_gathered number place is_open old mid new at positive h is)
may_be_gathered number place is_open old mid new at positive up (inr lost) is =
    let forgot : WorldState = record old { nodes = nodes_with_loss old.nodes } in
    inr (is ∙ ap (marked number place is_open) lost.1 ∙ ap (λ (b : Bool). marked number place b forgot) lost.0 ∙ sym (stays_open number place forgot at up))

-- ---- the connections of a node

-- what was asked so far, and what is still to come
pub record IsGathering (node count number : ℕ) (initial now : WorldState) : Type 0 where
  pub goes : IsTrace initial now
  pub rest : (later : WorldState) → GathersAmong false number node now later → GathersAmong false count node initial later

pub gathering_on : (node count number next : ℕ) (initial now new : WorldState) → 0 < number → next ≡ number - 1 → IsGathering node count number initial now → IsTrace now new
    → GatheredWhere false (leads_open_to node (slot_numbered number now.connections)) number now new → IsGathering node count next initial new
gathering_on node count zero next initial now new positive less g goes asks = absurd (omega (arith, positive))
gathering_on node count (suc before) next initial now new positive less g goes asks =
    subst (λ (k : ℕ). IsGathering node count k initial new) (let e : before ≡ next = omega (arith, less) in e)
    (record { goes = goes_on_join initial now new g.goes goes; rest = λ later more. g.rest later (new, asks, more) })

pub gathered : (node count number : ℕ) (initial now : WorldState) → number ≡ 0 → IsGathering node count number initial now → GathersAmong false count node initial now
gathered node count number initial now end g = g.rest now (subst (λ (k : ℕ). GathersAmong false k node now now) (sym end) refl)

pub gathers_all : (node : ℕ) (old new : WorldState) (count : ℕ) → 0 < node → count ≡ length old.connections → GathersAmong false count node old new → Gathers false node old new
gathers_all zero old new count positive all g = absurd (omega (arith, positive))
gathers_all (suc at) old new count positive all g = subst (λ (k : ℕ). GathersAmong false k (suc at) old new) all g

pub gathers_none : (node : ℕ) (old : WorldState) → node ≡ 0 → Gathers false node old old
gathers_none node old none = subst (λ (k : ℕ). Gathers false k old old) (sym none) refl
