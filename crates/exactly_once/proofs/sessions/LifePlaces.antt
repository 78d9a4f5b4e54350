-- A place keeps what holds for a client's life: of a packet that it wrote, and of another command.
use Rattle.std.proofs.Common.{◌≡◌, ℕ, zero, suc, false, List, [], ◌∷◌, ◌++◌, Some, refl, sym, ◌∙◌, ap, subst, inl, inr}
use Rattle.std.specs.Prelude.{slice_get}
use Rattle.packet.specs.declared.packet.Packet.{Packet}
use Rattle.lists.proofs.Tests.{or_right}
use Rattle.broker_spec.specs.Place.{Client, Place, Past, Limits}
use Rattle.broker_spec.specs.Sessions.{expels, begins}
use Rattle.broker_spec.specs.Marks.{mark_of}
use Rattle.broker_spec.specs.Commands.{place_of, past_from, past_of}
use Rattle.broker_spec.specs.declared.command.Command.{Command}
use Rattle.broker_spec.specs.declared.command.Command.TheVariants as commands
use Rattle.client_base.specs.Keeper.{Written, Keeper}
use Rattle.exactly_once.specs.Sides.{ClientConnection}
use Rattle.exactly_once.specs.Story.{Story}
use Rattle.exactly_once.specs.StoryCommands.{any_named, with_one_counted, command_of, is_packet_of, names_client}
use Rattle.exactly_once.specs.InStep.{has_begun}
use Rattle.exactly_once.proofs.places.After.{IsSpared}
use Rattle.exactly_once.proofs.places.Spared.{other_spares}
use Rattle.exactly_once.proofs.publishing.Last.{each_there}
use Rattle.exactly_once.proofs.publishing.kept.KeepsNames.{OpensKept, counted_named, counted_apart, session_kept, kept_connect, kept_other}
use Rattle.exactly_once.proofs.publishing.kept.KeepsNobody.{OpensOwn, nobody_placed, own_connect, other_opens, nobody_named}
use Rattle.exactly_once.proofs.sessions.Anew.{IsUntouched}
use Rattle.exactly_once.proofs.sessions.EachPlaced.{each_other, IsOwnCommand, own_command, own_untouched, own_shut, own_counted, counted_other}
use Rattle.exactly_once.proofs.sessions.Placed.{untouched_other, shut_other}
use Rattle.exactly_once.proofs.sessions.Life.{IsShutUnopened, IsHeld, HasConnections, HasKeeper, IsLife, IsCounted}
use Rattle.client_base.specs.Connected.{opening_connect}
use Rattle.lists.specs.Lists.{Each}

-- ---- the list

past_more : (limits : Limits) (past : Past) (list : List Command) (command : Command) → past_from limits past (list ++ command ∷ []) ≡ place_of limits (past_from limits past list) command ∷ past_from limits past list
unfolding past_from
past_more limits past [] command = refl
past_more limits past (d ∷ list) command = past_more limits (place_of limits past d ∷ past) list command

pub one_more : (limits : Limits) (past : Past) (list : List Command) (command : Command) → past ≡ past_of limits list → place_of limits past command ∷ past ≡ past_of limits (list ++ command ∷ [])
one_more limits past list command is = ap (λ p. place_of limits p command ∷ p) is ∙ sym (past_more limits [] list command)

-- ---- the client

held_counted : (keeper : Keeper) (i : ℕ) (connections : List ClientConnection) → IsHeld keeper connections → IsHeld keeper (with_one_counted i connections)
held_counted keeper i [] h = h
held_counted keeper zero (κ ∷ connections) h = h
held_counted keeper (suc i) (κ ∷ connections) h = h

silent_counted : (c : Client) (i : ℕ) (connections : List ClientConnection) → Each (λ (κ : ClientConnection). κ.written ≡ opening_connect c ∷ []) connections → Each (λ (κ : ClientConnection). κ.written ≡ opening_connect c ∷ []) (with_one_counted i connections)
silent_counted c i [] h = tt
silent_counted c zero (κ ∷ connections) h = (h.0, h.1)
silent_counted c (suc i) (κ ∷ connections) h = (h.0, silent_counted c i connections h.1)

pub keeper_placed : (c : Client) (place : Place) (past : Past) (keeper : Keeper) (i : ℕ) (connections : List ClientConnection) → HasKeeper c past keeper connections → HasKeeper c (place ∷ past) keeper (with_one_counted i connections)
keeper_placed c place past keeper i connections k =
    record {
      client = k.client;
      held = held_counted keeper i connections k.held;
      unserved = k.unserved;
      silent = λ e. silent_counted c i connections (k.silent e);
      numbers = k.numbers;
      unasked = k.unasked;
      begun = λ e. or_right (begins place past c) (has_begun past c) (k.begun e);
    }

-- ---- a packet that it wrote

-- which client it names
pub own_opens : (limits : Limits) (past : Past) (c : Client) (κ : ClientConnection) (packet : Packet) (command : Command) → IsOwnCommand c κ packet command → OpensKept c (place_of limits past command)
own_opens limits past c κ packet command (inl k) =
    subst (λ (d : Command). OpensKept c (place_of limits past d)) (sym k.1) (kept_connect κ.name c c (mark_of limits past (commands.Connect κ.name c false)))
own_opens limits past c κ packet command (inr k) = subst (λ (d : Command). OpensKept c (place_of limits past d)) (sym k.1) (λ opened e. cc)

pub own_spares : (past : Past) (c : Client) (κ : ClientConnection) (packet : Packet) (command : Command) → IsOwnCommand c κ packet command → IsSpared command past c
own_spares past c κ packet command (inl k) = inl (ap (λ d. expels d c) k.1)
own_spares past c κ packet command (inr k) = inl (ap (λ d. expels d c) k.1)

own_alone_opens : (limits : Limits) (past : Past) (c : Client) (connections : List ClientConnection) (κ : ClientConnection) (packet : Packet) (command : Command) → IsOwnCommand c κ packet command
    → OpensOwn c connections (place_of limits past command)
own_alone_opens limits past c connections κ packet command (inl k) =
    subst (λ (d : Command). OpensOwn c connections (place_of limits past d)) (sym k.1) (own_connect κ.name c connections false (mark_of limits past (commands.Connect κ.name c false)))
own_alone_opens limits past c connections κ packet command (inr k) = subst (λ (d : Command). OpensOwn c connections (place_of limits past d)) (sym k.1) (λ d opened e named. cc)

own_connections : (limits : Limits) (past : Past) (c : Client) (i : ℕ) (κ : ClientConnection) (w : Written) (command : Command) (connections : List ClientConnection) → IsOwnCommand c κ w.packet command → slice_get κ.written κ.taken ≡ Some w
    → slice_get connections i ≡ Some κ → HasConnections limits c past connections → HasConnections limits c (place_of limits past command ∷ past) (with_one_counted i connections)
own_connections limits past c i κ w command connections kind next at h =
    let packet = w.packet in
    let untouched = each_there (λ (μ : ClientConnection). μ.taken ≡ 0 → IsUntouched limits past c μ) i connections κ at h.untouched in
    record {
      names = counted_apart i connections h.names;
      untouched = own_untouched limits past c i κ packet command connections kind at h.names h.untouched;
      shut = own_shut limits past c i κ packet command connections kind untouched at h.names h.shut;
      nobody = nobody_named (place_of limits past command ∷ past) c connections (with_one_counted i connections) (λ test. counted_named test i connections)
          (nobody_placed (place_of limits past command) past c connections (own_alone_opens limits past c connections κ packet command kind) h.nobody);
      counted = own_counted limits past c i κ w command connections kind next at h.names h.counted;
    }

-- its kind
pub life_command : (limits : Limits) (c : Client) (s : Story) (i : ℕ) (κ : ClientConnection) (w : Written) → IsLife limits c s → slice_get s.connections i ≡ Some κ → slice_get κ.written κ.taken ≡ Some w
    → IsOwnCommand c κ w.packet (command_of κ.name κ.taken w.packet)
life_command limits c s i κ w life at next =
    own_command limits s.past c κ w (each_there (λ (μ : ClientConnection). μ.taken ≡ 0 → IsUntouched limits s.past c μ) i s.connections κ at life.connections.untouched) next

pub life_taken : (limits : Limits) (c : Client) (s : Story) (i : ℕ) (κ : ClientConnection) (w : Written) → IsLife limits c s → slice_get s.connections i ≡ Some κ → slice_get κ.written κ.taken ≡ Some w
    → IsLife limits c (record { past = place_of limits s.past (command_of κ.name κ.taken w.packet) ∷ s.past; connections = with_one_counted i s.connections; keeper = s.keeper })
life_taken limits c s i κ w life at next =
    let command = command_of κ.name κ.taken w.packet in
    let kind = life_command limits c s i κ w life at next in
    record {
      list = life.list ++ command ∷ [];
      past_is = one_more limits s.past life.list command life.past_is;
      session = session_kept (place_of limits s.past command) s.past c (own_opens limits s.past c κ w.packet command kind) (own_spares s.past c κ w.packet command kind) life.session;
      connections = own_connections limits s.past c i κ w command s.connections kind next at life.connections;
      keeper = keeper_placed c (place_of limits s.past command) s.past s.keeper i s.connections life.keeper;
    }

-- ---- a command of none of its connections

pub keeper_stays : (c : Client) (place : Place) (past : Past) (keeper : Keeper) (connections : List ClientConnection) → HasKeeper c past keeper connections → HasKeeper c (place ∷ past) keeper connections
keeper_stays c place past keeper connections k =
    record { client = k.client; held = k.held; unserved = k.unserved; silent = k.silent; numbers = k.numbers; unasked = k.unasked; begun = λ e. or_right (begins place past c) (has_begun past c) (k.begun e) }

pub other_connections : (limits : Limits) (past : Past) (c : Client) (command : Command) (connections : List ClientConnection) → any_named (is_packet_of command) connections ≡ false → HasConnections limits c past connections
    → HasConnections limits c (place_of limits past command ∷ past) connections
other_connections limits past c command connections none h =
    let place = place_of limits past command in
    record {
      names = h.names;
      untouched = each_other (λ (μ : ClientConnection). μ.taken ≡ 0 → IsUntouched limits past c μ) (λ (μ : ClientConnection). μ.taken ≡ 0 → IsUntouched limits (place ∷ past) c μ) (is_packet_of command) connections none
          (λ μ other g new. untouched_other limits place past c μ other (g new)) h.untouched;
      shut = each_other (IsShutUnopened limits past c) (IsShutUnopened limits (place ∷ past) c) (is_packet_of command) connections none (λ μ other g. shut_other limits place past c μ other g) h.shut;
      nobody = nobody_placed place past c connections (other_opens c connections command place.mark none) h.nobody;
      counted = each_other (IsCounted past) (IsCounted (place ∷ past)) (is_packet_of command) connections none (λ μ other g. counted_other place past μ other g) h.counted;
    }

pub life_other : (limits : Limits) (c : Client) (s : Story) (command : Command) → IsLife limits c s → (names_client s.past c command → ⊥) → any_named (is_packet_of command) s.connections ≡ false
    → IsLife limits c (record s { past = place_of limits s.past command ∷ s.past })
life_other limits c s command life other none =
    let place = place_of limits s.past command in
    record {
      list = life.list ++ command ∷ [];
      past_is = one_more limits s.past life.list command life.past_is;
      session = session_kept place s.past c (kept_other s.past c command place.mark other) (other_spares s.past c command other) life.session;
      connections = other_connections limits s.past c command s.connections none life.connections;
      keeper = keeper_stays c place s.past s.keeper s.connections life.keeper;
    }
