-- What a client accepted stays in turn, whatever happens: on its newest connection it accepts in the session that began last.
use Rattle.std.proofs.Common.{◌≡◌, ℕ, List, [], ◌∷◌, length, Option, Some, None, refl, sym, ◌∙◌, ap, subst, inl, inr, ◌⊎◌}
use Rattle.packet.specs.declared.packet.Packet.TheVariants as packets
use Rattle.broker_spec.specs.Place.{Client, Past, Limits}
use Rattle.broker_spec.specs.Sessions.{session_start}
use Rattle.broker_spec.specs.declared.command.Command.TheVariants as commands
use Rattle.broker_spec.specs.Commands.{place_of}
use Rattle.client_base.specs.Called.{written_for}
use Rattle.client_base.specs.Written.{plain}
use Rattle.exactly_once.specs.Sides.{ClientConnection}
use Rattle.exactly_once.specs.Story.{Story, StoryStep}
use Rattle.exactly_once.specs.StoryCommands.{command_of, names_client}
use Rattle.exactly_once.specs.Story.StoryStep.{takes, others_take, receives, opens_anew, loses, disconnects, publishes_one, subscribes, unsubscribes}
use Rattle.exactly_once.specs.InStep.{opened_in, starts_of}
use Rattle.exactly_once.proofs.keeping.CurrentOnes.{none_opened}
use Rattle.exactly_once.proofs.publishing.Last.{each_there}
use Rattle.exactly_once.proofs.sessions.Anew.{IsUntouched}
use Rattle.exactly_once.proofs.sessions.EachPlaced.{own_fresh, counted_none}
use Rattle.exactly_once.proofs.sessions.Expelled.{IsOver}
use Rattle.exactly_once.proofs.sessions.Expelled.IsOver.{lingers, parts}
use Rattle.exactly_once.proofs.sessions.InTurn.{IsTailInTurn, IsHeadOfLast, IsOfLast, all_in_turn, tail_placed, tail_written, tail_maybe}
use Rattle.exactly_once.proofs.sessions.Lasting.{IsHeadOpened}
use Rattle.exactly_once.proofs.sessions.LastingGoes.{all_fresh}
use Rattle.exactly_once.proofs.sessions.Life.{AreShutUnopened, IsLife}
use Rattle.exactly_once.proofs.sessions.LifePlaces.{life_command}
use Rattle.exactly_once.proofs.sessions.Lingering.{Lingers}
use Rattle.exactly_once.proofs.sessions.Parted.{IsHeadUnopened}
use Rattle.exactly_once.proofs.sessions.Turns.{IsLastOf, started_last}

-- ---- the newest connection

-- while a session lasts
pub head_lasting : (limits : Limits) (past : Past) (c : Client) (connections : List ClientConnection) → IsHeadOpened past c connections → AreShutUnopened limits past c connections
    → IsHeadOfLast past c connections
head_lasting limits past c [] head shut = tt
head_lasting limits past c (κ ∷ others) (inl none) shut = inl (shut.0 none).nothing
head_lasting limits past c (κ ∷ others) (inr same) shut = by (session_start past c) refl
  where
    by : (o : Option ℕ) → session_start past c ≡ o → IsOfLast past c κ
    by None e = inl (shut.0 (same ∙ e)).nothing
    by (Some n) e = inr (n, same ∙ e, started_last past c n e)

head_parted : (limits : Limits) (past : Past) (c : Client) (connections : List ClientConnection) → IsHeadUnopened past c connections → AreShutUnopened limits past c connections → IsHeadOfLast past c connections
head_parted limits past c [] head shut = tt
head_parted limits past c (κ ∷ others) none shut = inl (shut.0 none).nothing

-- if the client still receives packets of one that has ended, it is as at the Expel
head_lingers : (limits : Limits) (c : Client) (s : Story) → Lingers limits c s → IsHeadOfLast s.past c s.connections
head_lingers limits c s l =
    subst (IsHeadOfLast s.past c) (sym l.are) (by (head_lasting limits l.earlier c (l.newest ∷ l.before) l.frozen.lasts.head l.frozen.life.connections.shut))
  where
    by : IsOfLast l.earlier c l.newest → IsOfLast s.past c (record l.newest { taken = l.count })
    by (inl nothing) = inl nothing
    by (inr (n, opened, last)) = inr (n, l.since.opened ∙ opened, subst (λ (starts : List ℕ). IsLastOf starts n) (sym l.since.starts) last)

pub head_over : (limits : Limits) (c : Client) (s : Story) → IsLife limits c s → IsOver limits c s → IsHeadOfLast s.past c s.connections
head_over limits c s life (lingers l) = head_lingers limits c s l
head_over limits c s life (parts p) = head_parted limits s.past c s.connections p.head life.connections.shut

-- ---- the events

pub turn_goes : (limits : Limits) (c : Client) (s t : Story) → IsLife limits c s → IsHeadOfLast s.past c s.connections → IsTailInTurn s.past c s.connections → StoryStep limits s t
    → IsTailInTurn t.past c t.connections
turn_goes limits c s t life head h (takes i κ w stands next) =
    let command = command_of κ.name κ.taken w.packet in
    let kind = life_command limits c s i κ w life stands next in
    let untouched = each_there (λ (μ : ClientConnection). μ.taken ≡ 0 → IsUntouched limits s.past c μ) i s.connections κ stands life.connections.untouched in
    tail_placed (place_of limits s.past command) s.past c i s.connections (own_fresh limits s.past c i κ w.packet command s.connections kind untouched stands life.connections.names) h
turn_goes limits c s t life head h (others_take command other none) =
    let place = place_of limits s.past command in
    let mine = subst (λ (d : Client). names_client s.past d command → ⊥) life.keeper.client other in
    subst (IsTailInTurn (place ∷ s.past) c) (counted_none s.connections)
    (tail_placed place s.past c (length s.connections) s.connections (all_fresh place c s.connections (none_opened s.past c command place.mark mine)) h)
turn_goes limits c s t life head h (receives κ others packet are opened next) = subst (IsTailInTurn s.past c) are h
turn_goes limits c s t life head h (opens_anew x fresh none uncounted) = all_in_turn s.past c s.connections head h
turn_goes limits c s t life head h loses = h
turn_goes limits c s t life head h disconnects = tail_maybe s.past c s.keeper.is_online (plain packets.Disconnect ∷ []) s.connections h
turn_goes limits c s t life head h (publishes_one p needs) = tail_written s.past c (written_for p s.keeper) s.connections h
turn_goes limits c s t life head h (subscribes p on id) = tail_written s.past c (plain (packets.Subscribe p) ∷ []) s.connections h
turn_goes limits c s t life head h (unsubscribes p on id) = tail_written s.past c (plain (packets.Unsubscribe p) ∷ []) s.connections h

pub turn_expelled : (limits : Limits) (c : Client) (s : Story) → IsTailInTurn s.past c s.connections → IsTailInTurn (place_of limits s.past (commands.Expel c) ∷ s.past) c s.connections
turn_expelled limits c s h =
    let place = place_of limits s.past (commands.Expel c) in
    subst (IsTailInTurn (place ∷ s.past) c) (counted_none s.connections)
    (tail_placed place s.past c (length s.connections) s.connections (all_fresh place c s.connections refl) h)
