-- What the place of a client's PUBACK, PUBREC or PUBCOMP does to its entries.
use Rattle.std.proofs.Common.{◌≡◌, ℕ, Bool, true, false, if◌then◌else◌, List, [], ◌∷◌, ◌++◌, length, map, Option, Some, None, refl, ap, sym, ◌∙◌}
use Rattle.packet.specs.declared.packet.Packet.{Packet}
use Rattle.session_base.specs.declared.publication.Publication.{Publication}
use Rattle.broker_spec.specs.Connection.{ConnectionName, same_connection}
use Rattle.broker_spec.specs.Place.{Client, same_client, Mark, Place, Past, Limits}
use Rattle.broker_spec.specs.Sessions.{current_connection, clean_session_of}
use Rattle.broker_spec.specs.Entries.{Entry, copies_at, queued}
use Rattle.broker_spec.specs.Times.{answered_by, start_all, started, window_at, entries_of}
use Rattle.broker_spec.specs.Sends.{all_started}
use Rattle.broker_spec.specs.declared.command.Command.TheVariants as commands
use Rattle.broker_spec.proofs.ClientsInOrder.{same_self}
use Rattle.broker_base.proofs.ConnectionsOfSessions.{same_turned}
use Rattle.broker_spec.proofs.EntriesStartedBefore.{before_below, before_answered, before_new}
use Rattle.broker_base.proofs.QueueAfter.{sound_entries, sound_answered}
use Rattle.broker_base.proofs.QuietPasts.{no_connection, entries_next}
use Rattle.exactly_once.specs.Handshake.{Forward, publishing}
use Rattle.exactly_once.specs.Sends.{sends_to}
use Rattle.exactly_once.specs.Story.{Story}
use Rattle.exactly_once.specs.Inside.Projections.{is_current}
use Rattle.exactly_once.specs.Inside.AsSubscriber.{forward_of}
use Rattle.exactly_once.proofs.Deliveries.{started_elsewhere}
use Rattle.exactly_once.proofs.Packets.{at_packet}
use Rattle.exactly_once.proofs.Sent.{NoneStartedAt, forward_started}
use Rattle.exactly_once.proofs.subscribing.events.Leaving.{same_name}
use Rattle.exactly_once.proofs.subscribing.Resending.{none_here}
use Rattle.exactly_once.proofs.subscribing.Adding.{rows_at}
use Rattle.exactly_once.proofs.subscribing.Views.{SendsAt}
use Rattle.exactly_once.proofs.subscribing.Placed.{GoesOn}
use Rattle.exactly_once.proofs.subscribing.Own.{stays_on}
use Rattle.exactly_once.proofs.subscribing.places.Quiet.{current_same}

-- a client that is served has a session
pub session_there : (past : Past) (c : Client) (x : ConnectionName) → current_connection past c ≡ Some x → (clean : Bool) × (clean_session_of past c ≡ Some clean)
session_there past c x e = by (clean_session_of past c) refl
  where
    by : (o : Option Bool) → clean_session_of past c ≡ o → (clean : Bool) × (clean_session_of past c ≡ Some clean)
    by None s = absurd (let none : current_connection past c ≡ None = no_connection past c s in let f : None ≡ Some x = sym none ∙ e in cc)
    by (Some clean) s = (clean, s)

-- the client's answer
abbrev pub at_own : Story → ConnectionName → Packet → Place
at_own s y packet = at_packet y packet (Mark.Handled s.keeper.client)

-- its entries after it, before any starts
abbrev pub answered : Story → Limits → ConnectionName → Packet → List Entry
answered s limits y packet = answered_by (commands.Packet y packet) (Mark.Handled s.keeper.client) (length s.past) s.keeper.client (entries_of limits s.past s.keeper.client)

-- of these nothing started at this place
pub none_started : (limits : Limits) (s : Story) (y : ConnectionName) (packet : Packet) → NoneStartedAt (length s.past) (answered s limits y packet ++ [])
none_started limits s y packet =
    none_here (length s.past) (answered s limits y packet ++ [])
    (before_new (length s.past) (answered s limits y packet) []
    (before_answered (commands.Packet y packet) (Mark.Handled s.keeper.client) (length s.past) s.keeper.client (entries_of limits s.past s.keeper.client)
    (before_below (length s.past) (entries_of limits s.past s.keeper.client) (sound_entries limits s.past s.keeper.client).below)))

-- what starts is sent
pub started_sends : (w n : ℕ) (y x : ConnectionName) (current : Option ConnectionName) (es after : List Entry) → current ≡ Some y → after ≡ started w n current es → NoneStartedAt n es
    → forward_of (sends_to x (all_started y n after)) ≡ (if is_current current x then map publishing (rows_at w current es) else [])
started_sends w n y x current es after e f h =
    ap (λ (l : List Entry). forward_of (sends_to x (all_started y n l))) (f ∙ ap (λ o. started w n o es) e) ∙ by (same_connection y x) refl
    ∙ ap (λ o. if is_current o x then map publishing (rows_at w o es) else []) (sym e)
  where
    by : (b : Bool) → same_connection y x ≡ b → forward_of (sends_to x (all_started y n (start_all w n [] es))) ≡ (if b then map publishing (rows_at w (Some y) es) else [])
    by true g = ap (λ (z : ConnectionName). forward_of (sends_to x (all_started z n (start_all w n [] es)))) (same_name y x g) ∙ forward_started x w n [] es h
    by false g = ap forward_of (started_elsewhere x y n (start_all w n [] es) (same_turned x y ∙ g))

-- the entries after it
pub entries_answered : (limits : Limits) (s : Story) (y : ConnectionName) (packet : Packet) → current_connection s.past s.keeper.client ≡ Some y → copies_at (at_own s y packet) s.past s.keeper.client ≡ []
    → entries_of limits (at_own s y packet ∷ s.past) s.keeper.client
    ≡ started (window_at limits (at_own s y packet ∷ s.past)) (length s.past) (current_connection s.past s.keeper.client) (answered s limits y packet ++ [])
entries_answered limits s y packet e copies =
    let there = session_there s.past s.keeper.client y e in
    entries_next limits (at_own s y packet) s.past s.keeper.client there.0 refl (stays_on y packet (Mark.Handled s.keeper.client) (current_connection s.past s.keeper.client) refl) there.1
    ∙ ap (λ ps. started (window_at limits (at_own s y packet ∷ s.past)) (length s.past) (current_connection s.past s.keeper.client) (answered s limits y packet ++ map (Entry.Queued (length s.past)) (queued ps))) copies

-- what the place does to them
pub answers_on : (limits : Limits) (s : Story) (y : ConnectionName) (packet : Packet) (more : List (Forward Publication)) → current_connection s.past s.keeper.client ≡ Some y
    → copies_at (at_own s y packet) s.past s.keeper.client ≡ []
    → SendsAt limits (at_own s y packet) s.past (current_connection s.past s.keeper.client) s.connections
    (more ++ map publishing (rows_at (window_at limits (at_own s y packet ∷ s.past)) (current_connection s.past s.keeper.client) (answered s limits y packet ++ [])))
    → GoesOn limits s (at_own s y packet) (answered s limits y packet) [] more
answers_on limits s y packet more e copies sends =
    record {
      current = current_same (at_own s y packet) s.past s.keeper.client refl (stays_on y packet (Mark.Handled s.keeper.client) (current_connection s.past s.keeper.client) refl);
      entries = entries_answered limits s y packet e copies;
      sound = sound_answered (commands.Packet y packet) (Mark.Handled s.keeper.client) (length s.past) s.keeper.client (entries_of limits s.past s.keeper.client) (sound_entries limits s.past s.keeper.client);
      sends = sends;
    }

-- the answer is the client's own
pub own_if : (s : Story) (es fs : List Entry) → (if same_client s.keeper.client s.keeper.client then es else fs) ≡ es
own_if s es fs = ap (λ b. if b then es else fs) (same_self s.keeper.client)
