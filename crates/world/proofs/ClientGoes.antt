-- ClientTrace.antt: if a client takes a step, its world does.
use Rattle.std.proofs.Common.{◌≡◌, ◌≤◌, ℕ, List, [], ◌++◌, Some, set, slice_get, refl, sym, ap, ap₂, ◌∙◌, subst, arith}
use Rattle.std.proofs.lemmas.List.{append-nil, map-append, set-set}
use Rattle.lists.proofs.Places.{get_set}
use Rattle.headline.specs.byte_world.World.{ClientPipes, ByteWorld, with_client}
use Rattle.headline.specs.byte_world.Published.{from_client}
use Rattle.session_base.specs.declared.publication.Publication.{Publication}
use Rattle.world_pipes.specs.ModelSteps.{FollowsAll, FollowsBy}
use Rattle.world_pipes.specs.Steps.{ClientTrace, published_in_steps as published_with, published_with as published_with_one}
use Rattle.world_pipes.specs.Piped.{Piped}
use Rattle.world_pipes.proofs.StepsInWorlds.{steps_in_worlds}
use Rattle.world_pipes.specs.declared.clients.connection_slot.ConnectionSlot.{ConnectionSlot}
use Rattle.world_pipes.specs.declared.clients.world_client.WorldClient.{WorldClient}
use Rattle.world_pipes.specs.clients.SlotsAreValid.{SlotsAreValid, connection_targets, targets_of_clients}
use Rattle.world.specs.Inside.Steps.{IsTrace, IsTraceAsking}
use Rattle.world.specs.Inside.ClientCalls.{with_one_loss}
use Rattle.world.specs.StandsFor.{WorldSteps, FollowsModel, FollowsModelAsking, published_along}
use Rattle.world.specs.StandsFor.WorldSteps.{rests, goes_on}
use Rattle.world.specs.World.{WorldState}
use Rattle.world.proofs.ClientsStand.{client_at, stand_set}
use Rattle.world.proofs.Joined.{asked_goes_join, world_stays}
use Rattle.world_pipes.proofs.of_clients.LeadsKept.{housed_set}
use Rattle.world_pipes.proofs.of_clients.NodesGoOn.{nodes_rest}
use Rattle.world_pipes.proofs.of_clients.Turned.{set_itself}

-- ---- the model

-- steps to a world of these clients, with what is published
record StepsBy (asked : List (ℕ × Publication)) (w : ByteWorld) (cs : List ClientPipes) : Type 0 where
  pub steps : WorldSteps w (record w { clients = cs })
  pub asked_is : published_along steps ≡ asked

-- the step of one client, and its place then
record StepsTo (asked : List Publication) (w : ByteWorld) (i : ℕ) (d : ClientPipes) : Type 0 where
  pub by : StepsBy (from_client i asked) w (set w.clients i d)
  pub at : slice_get (with_client i d w).clients i ≡ Some d

steps_to : (w : ByteWorld) (i : ℕ) {c d : ClientPipes} → slice_get w.clients i ≡ Some c → (goes : ClientTrace c d) → StepsTo (published_with goes) w i d
steps_to w i {c = c} at ClientTrace.stays =
    record {
      by = subst (λ (cs : List ClientPipes). StepsBy [] w cs) (sym (set_itself w.clients i c at)) (record { steps = rests; asked_is = refl });
      at = get_set w.clients i c c at;
    }
steps_to w i {c = c} at (ClientTrace.goes_on {before = d} {after = e} goes step) =
    let first = steps_to w i at goes in
    let last = steps_in_worlds (with_client i d w) i d e first.at step in
    record {
      by = subst (λ (cs : List ClientPipes). StepsBy (from_client i (published_with goes ++ published_with_one step)) w cs) (set-set w.clients i d e)
          (record {
            steps = goes_on first.by.steps last.is;
            asked_is = ap₂ (λ (x y : List (ℕ × Publication)). x ++ y) first.by.asked_is last.published
                ∙ sym (map-append (λ (p : Publication). (i, p)) (published_with goes) (published_with_one step));
          });
      at = get_set w.clients i c e at;
    }

-- ---- worlds in code

-- the client at this index becomes this
abbrev pub with_piped : ℕ → WorldClient → Piped → WorldState → WorldState
with_piped i client piped w = record w { clients = set w.clients i (record client { piped = piped }) }

pub client_asked : (asked : List Publication) (old : WorldState) (i : ℕ) (client : WorldClient) (piped : Piped) → slice_get old.clients i ≡ Some client
    → FollowsBy asked client.piped piped → FollowsModelAsking (from_client i asked) old (with_piped i client piped old)
client_asked asked old i client piped found follows nodes config cs m trail s =
    let a = client_at old.clients m.clients i client s.clients found in
    let f = follows a.c a.stands in
    let to = (steps_to m i a.at f.goes).by in
    record {
      after = with_client i f.next m;
      steps = to.steps;
      asked_is = to.asked_is ∙ ap (from_client i) f.publishes;
      stands = record { nodes = s.nodes; clients = stand_set old.clients m.clients i (record client { piped = piped }) f.next s.clients f.stands };
    }

pub client_goes : (old : WorldState) (i : ℕ) (client : WorldClient) (piped : Piped) → slice_get old.clients i ≡ Some client → FollowsAll client.piped piped →
    FollowsModel old (with_piped i client piped old)
client_goes = client_asked []

-- only clients change, and no count falls
pub clients_go_on : (asked : List (ℕ × Publication)) (old new : WorldState) → new.nodes ≡ old.nodes → old.losses ≤ new.losses → FollowsModelAsking asked old new → IsTraceAsking asked old new
clients_go_on asked old new nodes rises goes = record { rises = rises; nodes = nodes_rest old.nodes new.nodes nodes; goes = goes }

pub client_asked_on : (asked : List Publication) (old : WorldState) (i : ℕ) (client : WorldClient) (piped : Piped) → slice_get old.clients i ≡ Some client
    → FollowsBy asked client.piped piped → IsTraceAsking (from_client i asked) old (with_piped i client piped old)
client_asked_on asked old i client piped found follows =
    clients_go_on (from_client i asked) old (with_piped i client piped old) refl (omega arith) (client_asked asked old i client piped found follows)

pub client_goes_on : (old : WorldState) (i : ℕ) (client : WorldClient) (piped : Piped) → slice_get old.clients i ≡ Some client → FollowsAll client.piped piped →
    IsTrace old (with_piped i client piped old)
client_goes_on = client_asked_on []

-- it finds no memory, which is counted
pub client_asked_with_loss : (asked : List Publication) (old : WorldState) (i : ℕ) (client : WorldClient) (piped : Piped) → slice_get old.clients i ≡ Some client
    → FollowsBy asked client.piped piped → old.losses ≤ (with_one_loss old).losses → IsTraceAsking (from_client i asked) old (with_one_loss (with_piped i client piped old))
client_asked_with_loss asked old i client piped found follows rises =
    let mid = with_piped i client piped old in
    let all = from_client i asked in
    clients_go_on all old (with_one_loss mid) refl rises
    (subst (λ (l : List (ℕ × Publication)). FollowsModelAsking l old (with_one_loss mid)) (append-nil all)
    (asked_goes_join all [] old mid (with_one_loss mid) (client_asked asked old i client piped found follows) (world_stays mid (with_one_loss mid) refl refl)))

pub client_goes_with_loss : (old : WorldState) (i : ℕ) (client : WorldClient) (piped : Piped) → slice_get old.clients i ≡ Some client → FollowsAll client.piped piped →
    old.losses ≤ (with_one_loss old).losses → IsTrace old (with_one_loss (with_piped i client piped old))
client_goes_with_loss = client_asked_with_loss []

-- a client that stays as it is leaves the world as it is
pub same_piped : (old : WorldState) (i : ℕ) (client : WorldClient) (piped : Piped) → slice_get old.clients i ≡ Some client → piped ≡ client.piped → with_piped i client piped old ≡ old
same_piped old i client piped found same =
    ap (λ (p : Piped). with_piped i client p old) same ∙ ap (λ (cs : List WorldClient). record old { clients = cs }) (set_itself old.clients i client found)

-- and connections lead to the same nodes
pub housed_still : (clients : List WorldClient) (connections : List ConnectionSlot) (i : ℕ) (client : WorldClient) (piped : Piped) → slice_get clients i ≡ Some client →
    connection_targets piped.pairs ≡ connection_targets client.piped.pairs → SlotsAreValid (targets_of_clients clients) connections →
    SlotsAreValid (targets_of_clients (set clients i (record client { piped = piped }))) connections
housed_still clients connections i client piped found same housed =
    subst (λ all. SlotsAreValid all connections) (sym (housed_set clients i client (record client { piped = piped }) found same)) housed
