-- A command that is not one of the client's comes next in the list: its connection may end, and
-- nothing else happens.
use Rattle.std.proofs.Common.{◌≡◌, ℕ, Bool, true, false, if◌then◌else◌, List, [], ◌∷◌, ◌++◌, Option, Some, None, refl, ap, sym, ◌∙◌, subst, inl, inr, ◌⊎◌}
use Rattle.std.proofs.lemmas.List.{append-nil}
use Rattle.std.proofs.lemmas.Bool.{cases_Bool}
use Rattle.packet.specs.declared.packet.Packet.{Packet}
use Rattle.packet.specs.declared.packet.Packet.TheVariants as packets
use Rattle.session_base.specs.Publication.{publication_of}
use Rattle.broker_spec.specs.Connection.{ConnectionName, same_connection}
use Rattle.broker_spec.specs.Place.{Client, Mark, Place, Past, Limits, same_client, only_if}
use Rattle.broker_spec.specs.Sessions.{accepts, ends_any, current_connection}
use Rattle.broker_spec.specs.Owner.{owner_of}
use Rattle.broker_spec.specs.Received.{is_new, is_repeat, receives, received_by, received_of}
use Rattle.session_base.specs.Identifiers.{without_id}
use Rattle.broker_spec.specs.Marks.{is_refused, packet_mark, packet_mark_of}
use Rattle.broker_spec.specs.Commands.{place_of}
use Rattle.broker_spec.specs.declared.command.Command.{Command}
use Rattle.broker_spec.specs.declared.command.Command.TheVariants as commands
use Rattle.broker_spec.proofs.ClientsInOrder.{same_is}
use Rattle.broker_base.proofs.ConnectionsOfSessions.{same_turned}
use Rattle.lists.proofs.Tests.{or_none}
use Rattle.exactly_once.specs.Sides.{ClientConnection}
use Rattle.client_base.specs.Keeper.{Keeper}
use Rattle.exactly_once.specs.StoryCommands.{any_named, is_packet_of, packet_count, names_client}
use Rattle.exactly_once.specs.Carried.{carries, connection_named, written_number_at, more_by, new_numbers}
use Rattle.exactly_once.specs.Inside.Projections.{last_confirmed, as_publisher, GoesTo}
use Rattle.exactly_once.specs.Inside.Shape.{HasShape, LastIsCurrent}
use Rattle.exactly_once.proofs.places.After.{IsSpared, current_stays, current_ends, received_spared}
use Rattle.exactly_once.proofs.places.Spared.{other_spares}
use Rattle.exactly_once.proofs.places.Owned.{owner_is_other}
use Rattle.exactly_once.proofs.publishing.Links.{current_last, forward_last}
use Rattle.exactly_once.proofs.publishing.First.{story_by}
use Rattle.exactly_once.proofs.publishing.Last.{each_last, none_named}
use Rattle.exactly_once.proofs.publishing.Elsewhere.{connect_none, NoneSent}
use Rattle.exactly_once.proofs.publishing.PacketAnswers.{packet_none}
use Rattle.exactly_once.proofs.publishing.AtPlaces.{NoneToLast, come_same, StaysOrLeaves, goes_place}
use Rattle.broker_spec.specs.Answers.{close_outputs}

-- ---- it carries none of the client's publications

unnamed : (x : ConnectionName) (connections : List ClientConnection) → any_named (same_connection x) connections ≡ false → connection_named x connections ≡ None
unnamed x [] e = refl
unnamed x (κ ∷ connections) e =
    let h = or_none (same_connection x κ.name) (any_named (same_connection x) connections) e in
    ap (λ b. if b then Some κ else connection_named x connections) h.0 ∙ unnamed x connections h.1

carries_none : (connections : List ClientConnection) (command : Command) (past : Past) → any_named (is_packet_of command) connections ≡ false → carries connections command past ≡ None
carries_none connections (commands.Packet x (packets.Publish p)) past e = ap (written_number_at (packet_count x past)) (unnamed x connections e)
carries_none connections (commands.Packet x packet) past e = refl
carries_none connections (commands.Connect x c clean) past e = refl
carries_none connections (commands.Lost x) past e = refl
carries_none connections (commands.Start b) past e = refl
carries_none connections (commands.Expel d) past e = refl

number_none : (connections : List ClientConnection) (place : Place) (past : Past) → carries connections place.command past ≡ None → new_numbers connections past ≡ new_numbers connections (place ∷ past)
number_none connections place past e = sym (ap (λ number. new_numbers connections past ++ more_by (is_new place.command place.mark) number) e ∙ by (is_new place.command place.mark))
  where
    by : (b : Bool) → new_numbers connections past ++ more_by b None ≡ new_numbers connections past
    by true = append-nil (new_numbers connections past)
    by false = append-nil (new_numbers connections past)

-- ---- its connection is over, or stays

none_current : (last : Option ClientConnection) → current_last None last ≡ false
none_current None = refl
none_current (Some κ) = refl

goes_other : (limits : Limits) (place : Place) (past : Past) (keeper : Keeper) (connections : List ClientConnection) → HasShape limits (story_by past connections keeper)
    → accepts place.command place.mark keeper.client ≡ None → IsSpared place.command past keeper.client → received_by place.command place.mark keeper.client (received_of past keeper.client) ≡ received_of past keeper.client
    → any_named (is_packet_of place.command) connections ≡ false → NoneToLast limits place past connections
    → GoesTo (as_publisher limits (story_by past connections keeper)) (as_publisher limits (story_by (place ∷ past) connections keeper))
goes_other limits place past keeper connections shape opens spared same none quiet =
    goes_place limits place past keeper connections connections (number_none connections place past (carries_none connections place.command past none))
    (sym (received_spared place past keeper.client opens spared shape.session same)) (come_same limits place past keeper connections shape.connections quiet)
    (by (cases_Bool (ends_any place keeper.client (current_connection past keeper.client))))
  where
    by : (ends_any place keeper.client (current_connection past keeper.client) ≡ true) ⊎ (ends_any place keeper.client (current_connection past keeper.client) ≡ false)
        → StaysOrLeaves (current_last (current_connection past keeper.client) (last_confirmed connections)) (current_last (current_connection (place ∷ past) keeper.client) (last_confirmed connections))
        (forward_last (last_confirmed connections)) (forward_last (last_confirmed connections))
    by (inl over) = inl (ap (λ o. current_last o (last_confirmed connections)) (current_ends place past keeper.client opens over) ∙ none_current (last_confirmed connections))
    by (inr on) = inr (ap (λ o. current_last o (last_confirmed connections)) (sym (current_stays place past keeper.client opens on)), refl)

-- ---- by the kind of command

-- another client's packet receives nothing for this one
received_other : (limits : Limits) (past : Past) (x : ConnectionName) (packet : Packet) (c d : Client) (ids : List ℕ) → same_client d c ≡ false
    → received_by (commands.Packet x packet) (packet_mark limits past d packet) c ids ≡ ids
received_other limits past x (packets.Publish p) c d ids e = by (is_repeat past d p.delivery) (is_refused limits past (publication_of p))
  where
    by : (b r : Bool) → received_by (commands.Packet x (packets.Publish p)) (if b then Mark.Repeat d else if r then Mark.Refused d else Mark.Taken d) c ids ≡ ids
    by true r = refl
    by false true = refl
    by false false = ap (λ b. if b then receives p.delivery ids else ids) e
received_other limits past x (packets.Pubrel id) c d ids e = ap (λ b. if b then without_id id ids else ids) e
received_other limits past x _ c d ids e = refl

received_none : (x : ConnectionName) (packet : Packet) (c : Client) (ids : List ℕ) → received_by (commands.Packet x packet) Mark.Unmarked c ids ≡ ids
received_none x (packets.Publish p) c ids = refl
received_none x (packets.Pubrel id) c ids = refl
received_none x _ c ids = refl

-- another client's Connect opens nothing for this one
opens_other : (x : ConnectionName) (c d : Client) (clean : Bool) (mark : Mark) → same_client d c ≡ false → accepts (commands.Connect x d clean) mark c ≡ None
opens_other x c d clean Mark.Accepted e = ap (λ b. only_if b (Some (x, clean))) e
opens_other x c d clean _ e = refl

not_same : (c d : Client) → (d ≡ c → ⊥) → same_client d c ≡ false
not_same c d other = by (cases_Bool (same_client d c))
  where
    by : (same_client d c ≡ true) ⊎ (same_client d c ≡ false) → same_client d c ≡ false
    by (inl e) = absurd (other (same_is d c e))
    by (inr e) = e

-- the connection on which the client is, is one of its own
mine : (o : Option ConnectionName) (connections : List ClientConnection) → LastIsCurrent o connections → (y : ConnectionName) → o ≡ Some y → any_named (same_connection y) connections ≡ true
mine None connections lastly y e = cc
mine (Some x) connections lastly y e = let same : x ≡ y = cc in subst (λ (z : ConnectionName). any_named (same_connection z) connections ≡ true) same lastly.0

pub others_take_it : (limits : Limits) (past : Past) (keeper : Keeper) (connections : List ClientConnection) (command : Command) → HasShape limits (story_by past connections keeper)
    → (names_client past keeper.client command → ⊥) → any_named (is_packet_of command) connections ≡ false
    → GoesTo (as_publisher limits (story_by past connections keeper)) (as_publisher limits (story_by (place_of limits past command ∷ past) connections keeper))
others_take_it limits past keeper connections (commands.Packet x packet) shape other none =
    goes_other limits (place_of limits past (commands.Packet x packet)) past keeper connections shape refl (inl refl) (by (owner_of past x) refl) none
    (λ κ e. packet_none κ.name limits (place_of limits past (commands.Packet x packet)) past x packet (packet_mark_of limits past packet (owner_of past x))
    (λ h. same_turned κ.name x ∙ each_last (λ (μ : ClientConnection). same_connection x μ.name ≡ false) connections κ (none_named (same_connection x) connections none) e))
  where
    by : (o : Option Client) → owner_of past x ≡ o
        → received_by (commands.Packet x packet) (packet_mark_of limits past packet o) keeper.client (received_of past keeper.client) ≡ received_of past keeper.client
    by None e = received_none x packet keeper.client (received_of past keeper.client)
    by (Some d) e =
        received_other limits past x packet keeper.client d (received_of past keeper.client)
        (owner_is_other past keeper.client d connections x (mine (current_connection past keeper.client) connections shape.last_is_current) none e)
others_take_it limits past keeper connections (commands.Connect x d clean) shape other none =
    let place = place_of limits past (commands.Connect x d clean) in
    goes_other limits place past keeper connections shape (opens_other x keeper.client d clean place.mark (not_same keeper.client d other)) (inl refl) refl none
    (λ κ e. connect_none κ.name limits place past x d place.mark)
others_take_it limits past keeper connections (commands.Lost x) shape other none =
    goes_other limits (place_of limits past (commands.Lost x)) past keeper connections shape refl (inl refl) refl none (λ κ e. refl)
others_take_it limits past keeper connections (commands.Start b) shape other none =
    goes_other limits (place_of limits past (commands.Start b)) past keeper connections shape refl (inl refl) refl none (λ κ e. refl)
others_take_it limits past keeper connections (commands.Expel d) shape other none =
    goes_other limits (place_of limits past (commands.Expel d)) past keeper connections shape refl (other_spares past keeper.client (commands.Expel d) other) refl none (λ κ e. closes κ.name (current_connection past d))
  where
    closes : (y : ConnectionName) (o : Option ConnectionName) → NoneSent y (close_outputs o)
    closes y None = refl
    closes y (Some x) = refl
