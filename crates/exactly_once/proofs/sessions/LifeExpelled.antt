-- An Expel of a client keeps what holds for its life, and leaves no session.
use Rattle.std.proofs.Common.{◌≡◌, Bool, true, false, List, [], ◌∷◌, ◌++◌, Option, Some, None, refl, ◌∙◌, ap, inl}
use Rattle.broker_spec.specs.Place.{Client, Past, Limits}
use Rattle.broker_spec.specs.Sessions.{ends_any, newest_clean_session, current_connection, clean_session_of}
use Rattle.broker_spec.specs.Commands.{place_of}
use Rattle.broker_spec.specs.declared.command.Command.TheVariants as commands
use Rattle.broker_spec.proofs.ClientsInOrder.{same_self}
use Rattle.exactly_once.specs.Sides.{ClientConnection}
use Rattle.exactly_once.specs.Story.{Story}
use Rattle.exactly_once.specs.StoryCommands.{any_named, is_packet_of}
use Rattle.exactly_once.proofs.sessions.Life.{IsLife}
use Rattle.exactly_once.proofs.sessions.LifePlaces.{one_more, keeper_stays, other_connections}

pub none_expelled : (connections : List ClientConnection) (c : Client) → any_named (is_packet_of (commands.Expel c)) connections ≡ false
none_expelled [] c = refl
none_expelled (κ ∷ connections) c = none_expelled connections c

none_left : (over : Bool) (session : Option Bool) → newest_clean_session None true over session ≡ None
none_left over None = refl
none_left over (Some clean) = refl

-- leaves no session
pub expelled_session : (limits : Limits) (past : Past) (c : Client) → clean_session_of (place_of limits past (commands.Expel c) ∷ past) c ≡ None
unfolding clean_session_of
expelled_session limits past c =
    let place = place_of limits past (commands.Expel c) in
    ap (λ b. newest_clean_session None b (ends_any place c (current_connection past c)) (clean_session_of past c)) (same_self c) ∙ none_left (ends_any place c (current_connection past c)) (clean_session_of past c)

pub life_expelled : (limits : Limits) (c : Client) (s : Story) → IsLife limits c s → IsLife limits c (record s { past = place_of limits s.past (commands.Expel c) ∷ s.past })
life_expelled limits c s life =
    let place = place_of limits s.past (commands.Expel c) in
    record {
      list = life.list ++ commands.Expel c ∷ [];
      past_is = one_more limits s.past life.list (commands.Expel c) life.past_is;
      session = inl (expelled_session limits s.past c);
      connections = other_connections limits s.past c (commands.Expel c) s.connections (none_expelled s.connections c) life.connections;
      keeper = keeper_stays c place s.past s.keeper s.connections life.keeper;
    }
