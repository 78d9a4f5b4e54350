-- Every event keeps what holds for a client's life.
use Rattle.std.proofs.Common.{false, [], ◌∷◌, refl, sym, ap, subst, arith}
use Rattle.std.proofs.lemmas.Bool.{both_ways}
use Rattle.packet.specs.declared.packet.Packet.TheVariants as packets
use Rattle.session_base.specs.Identifiers.{least_free}
use Rattle.broker_spec.specs.Place.{Client, Limits}
use Rattle.client_base.specs.Keeper.{Keeper, ids_in_use, next_own_number}
use Rattle.client_base.specs.Called.{adds_own, written_for}
use Rattle.client_base.specs.Connected.{new_connection, opening_connect}
use Rattle.client_base.specs.Written.{plain, written_publish}
use Rattle.exactly_once.specs.Story.{Story, StoryStep}
use Rattle.exactly_once.specs.StoryCommands.{names_client}
use Rattle.exactly_once.specs.Story.StoryStep.{takes, others_take, receives, opens_anew, loses, disconnects, publishes_one, subscribes, unsubscribes}
use Rattle.exactly_once.proofs.publishing.kept.KeepsNobody.{nobody_opened}
use Rattle.exactly_once.proofs.sessions.KeepsKeeper.{unserved_opened, unserved_publishes}
use Rattle.exactly_once.proofs.sessions.LifePlaces.{life_taken, life_other}
use Rattle.exactly_once.proofs.sessions.Life.{NoneWelcome, HasConnections, HasKeeper, IsLife}
use Rattle.exactly_once.proofs.sessions.LifeWritten.{connections_written, connections_either, connections_maybe, held_written, keeper_lost, silent_either, silent_maybe}
use Rattle.exactly_once.proofs.sessions.LifeReceived.{life_received}
use Rattle.client_base.proofs.NumbersStay.{publishes_numbers}

pub life_goes : (limits : Limits) (c : Client) (s t : Story) → IsLife limits c s → StoryStep limits s t → IsLife limits c t
life_goes limits c s t life (takes i κ w stands next) = life_taken limits c s i κ w life stands next
life_goes limits c s t life (others_take command other none) =
    life_other limits c s command life (λ h. other (subst (λ (d : Client). names_client s.past d command) (sym life.keeper.client) h)) none
life_goes limits c s t life (receives κ others packet are opened next) =
    let two = life_received limits c s.past s.keeper κ others packet opened next (subst (HasConnections limits c s.past) are life.connections) (subst (HasKeeper c s.past s.keeper) are life.keeper)
    (record { keeper = s.keeper; connection = κ }) refl in
    record { list = life.list; past_is = life.past_is; session = life.session; connections = two.0; keeper = two.1 }
life_goes limits c s t life (opens_anew x fresh none uncounted) =
    record {
      list = life.list;
      past_is = life.past_is;
      session = life.session;
      connections = record {
        names = (fresh, life.connections.names);
        untouched = (λ new. record { is = ap (λ d. new_connection d x) life.keeper.client; queued = none; uncounted = uncounted }, life.connections.untouched);
        shut = (λ e. record { unconfirmed = refl; nothing = refl; unwelcome = subst NoneWelcome (sym none) tt }, life.connections.shut);
        nobody = nobody_opened s.past c s.connections (new_connection s.keeper.client x) uncounted life.connections.nobody;
        counted = (record { counted = uncounted; within = omega arith }, life.connections.counted);
      };
      keeper = record {
        client = life.keeper.client;
        held = (λ e. refl, λ e. absurd (both_ways false refl e));
        unserved = unserved_opened c s.keeper life.keeper.unserved;
        silent = λ e. (ap (λ d. opening_connect d ∷ []) life.keeper.client, life.keeper.silent e);
        numbers = life.keeper.numbers;
        unasked = λ e. refl;
        begun = life.keeper.begun;
      };
    }
life_goes limits c s t life loses =
    record { list = life.list; past_is = life.past_is; session = life.session; connections = life.connections; keeper = keeper_lost c s.past s.keeper s.connections s.connections life.keeper life.keeper.silent }
life_goes limits c s t life disconnects =
    record {
      list = life.list;
      past_is = life.past_is;
      session = life.session;
      connections = connections_maybe limits s.past c s.keeper s.keeper.is_online (plain packets.Disconnect ∷ []) s.connections refl life.keeper.held life.connections;
      keeper = keeper_lost c s.past s.keeper s.connections t.connections life.keeper
          (silent_maybe c s.keeper s.keeper.is_online (plain packets.Disconnect ∷ []) s.connections refl life.keeper.unserved life.keeper.silent);
    }
life_goes limits c s t life (publishes_one p needs) =
    record {
      list = life.list;
      past_is = life.past_is;
      session = life.session;
      connections = connections_either limits s.past c s.keeper s.keeper.is_online (written_publish false (next_own_number s.keeper) (least_free (ids_in_use s.keeper)) p ∷ []) s.connections refl life.keeper.held life.connections;
      keeper = record {
        client = life.keeper.client;
        held = held_written s.keeper (adds_own p s.keeper) (written_for p s.keeper) s.connections refl refl life.keeper.held;
        unserved = unserved_publishes c s.keeper p needs life.keeper.unserved;
        silent = silent_either c s.keeper s.keeper.is_online (written_publish false (next_own_number s.keeper) (least_free (ids_in_use s.keeper)) p ∷ []) s.connections refl life.keeper.unserved life.keeper.silent;
        numbers = publishes_numbers p s.keeper life.keeper.numbers;
        unasked = life.keeper.unasked;
        begun = life.keeper.begun;
      };
    }
life_goes limits c s t life (subscribes p on id) =
    record {
      list = life.list;
      past_is = life.past_is;
      session = life.session;
      connections = connections_written limits s.past c s.keeper (plain (packets.Subscribe p) ∷ []) s.connections on life.keeper.held life.connections;
      keeper = record {
        client = life.keeper.client;
        held = held_written s.keeper t.keeper (plain (packets.Subscribe p) ∷ []) s.connections refl refl life.keeper.held;
        unserved = λ e. absurd (both_ways s.keeper.is_online (ap (λ (k : Keeper). k.is_online) (life.keeper.unserved e).is) on);
        silent = λ e. absurd (both_ways s.keeper.is_online (ap (λ (k : Keeper). k.is_online) (life.keeper.unserved e).is) on);
        numbers = life.keeper.numbers;
        unasked = λ off. absurd (both_ways s.keeper.is_online off on);
        begun = life.keeper.begun;
      };
    }
life_goes limits c s t life (unsubscribes p on id) =
    record {
      list = life.list;
      past_is = life.past_is;
      session = life.session;
      connections = connections_written limits s.past c s.keeper (plain (packets.Unsubscribe p) ∷ []) s.connections on life.keeper.held life.connections;
      keeper = record {
        client = life.keeper.client;
        held = held_written s.keeper t.keeper (plain (packets.Unsubscribe p) ∷ []) s.connections refl refl life.keeper.held;
        unserved = λ e. absurd (both_ways s.keeper.is_online (ap (λ (k : Keeper). k.is_online) (life.keeper.unserved e).is) on);
        silent = λ e. absurd (both_ways s.keeper.is_online (ap (λ (k : Keeper). k.is_online) (life.keeper.unserved e).is) on);
        numbers = life.keeper.numbers;
        unasked = λ off. absurd (both_ways s.keeper.is_online off on);
        begun = life.keeper.begun;
      };
    }
