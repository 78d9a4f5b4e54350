-- A session of a client that was served began again, and the client did not take in the CONNACK yet: its story is that of a new
-- client, and what the client still keeps goes with that CONNACK.
use Rattle.std.proofs.Common.{◌≡◌, ℕ, zero, suc, Bool, true, false, if◌then◌else◌, List, [], ◌∷◌, ◌++◌, Some, refl, sym, ◌∙◌, ap, ap₂, subst, inl, inr, ◌⊎◌}
use Rattle.std.specs.Prelude.{slice_get}
use Rattle.packet.specs.declared.packet.Packet.{Packet}
use Rattle.packet.specs.declared.packet.Packet.TheVariants as packets
use Rattle.broker_spec.specs.Connection.{ConnectionName}
use Rattle.broker_spec.specs.Place.{Client, Place, Past, Limits}
use Rattle.broker_spec.specs.AnswersInOrder.{answers_at}
use Rattle.broker_spec.specs.Commands.{place_of}
use Rattle.client_base.specs.Keeper.{Written, Keeper, ids_in_use, next_own_number, Own, all_own}
use Rattle.client_base.specs.Handled.{packet_handled, lost}
use Rattle.client_base.specs.Written.{plain, writes_first, written_publish}
use Rattle.exactly_once.specs.Sides.{ClientConnection, Side}
use Rattle.exactly_once.specs.Sends.{sends_to, put_to}
use Rattle.exactly_once.specs.Story.{Story, StoryStep, with_side}
use Rattle.exactly_once.specs.StoryCommands.{command_of, with_one_counted, any_named, is_packet_of, names_client}
use Rattle.exactly_once.specs.StoryTrace.{StoryTrace}
use Rattle.exactly_once.specs.StoryTrace.StoryTrace.{goes_on}
use Rattle.exactly_once.specs.Story.StoryStep.{takes, others_take, receives, opens_anew, loses, disconnects, publishes_one, subscribes, unsubscribes}
use Rattle.exactly_once.specs.InStep.{began_again, IsInStep, WasWelcome}
use Rattle.exactly_once.specs.Inside.Shape.{NamesApart}
use Rattle.exactly_once.proofs.sessions.StepsBefore.{began_stays}
use Rattle.exactly_once.proofs.sessions.Beside.{kept_of, IsHeadKept, AreGone, HasBeside, IsKept, IsLeft, flags_after, with_connections, none_kept, gone_counted, goes_received, find, later_other, later_named}
use Rattle.exactly_once.proofs.sessions.Anew.{waiting, session_lost, settles}
use Rattle.std.proofs.lemmas.List.{append-nil}
use Rattle.lists.specs.Lists.{Each}
use Rattle.session_base.specs.Identifiers.{least_free}
use Rattle.client_base.specs.OrderTheorems.{AreNumbered}
use Rattle.client_base.proofs.NumbersStay.{AreAllNumbered, joined_numbers}

-- what goes with a client that awaits the CONNACK of its newest connection
pub record Awaits (limits : Limits) (c : Client) (flags : List Bool) (past : Past) (keeper : Keeper) (κ : ClientConnection) (others : List ClientConnection) : Type 0 where
  pub client : keeper.client ≡ c
  pub offline : keeper.is_online ≡ false
  pub served : keeper.was_served ≡ true
  pub unasked : keeper.requests ≡ []
  pub again : began_again past c κ.name ≡ true
  pub unconfirmed : κ.confirmed ≡ false
  pub unhandled : κ.handled ≡ 0
  pub more : List Packet
  pub first : put_to limits past κ.name ≡ session_lost ∷ more
  pub head : IsHeadKept flags
  pub gone : AreGone flags (κ ∷ others)
  -- whatever it published before
  pub told : (earlier : List Own) → AreNumbered 0 earlier → StoryTrace limits c (with_connections past (waiting c earlier [] keeper.is_open) (kept_of flags (κ ∷ others)))

pub record HasAwaiting (limits : Limits) (c : Client) (flags : List Bool) (s : Story) : Type 0 where
  pub newest : ClientConnection
  pub others : List ClientConnection
  pub are : s.connections ≡ newest ∷ others
  pub awaits : Awaits limits c flags s.past s.keeper newest others

-- ---- a place

-- what is sent to it still begins so
first_more : (limits : Limits) (place : Place) (past : Past) (x : ConnectionName) (more : List Packet) → put_to limits past x ≡ session_lost ∷ more
    → put_to limits (place ∷ past) x ≡ session_lost ∷ (more ++ sends_to x (answers_at limits place past))
unfolding put_to
first_more limits place past x more e = ap (λ xs. xs ++ sends_to x (answers_at limits place past)) e

-- a place, with the story after it
placed : (limits : Limits) (c : Client) (flags : List Bool) (past : Past) (keeper : Keeper) (κ κ' : ClientConnection) (others later : List ClientConnection) (place : Place) → (a : Awaits limits c flags past keeper κ others)
    → κ'.name ≡ κ.name → κ'.confirmed ≡ κ.confirmed → κ'.handled ≡ κ.handled → AreGone flags (κ' ∷ later)
    → ((earlier : List Own) → AreNumbered 0 earlier → StoryTrace limits c (with_connections (place ∷ past) (waiting c earlier [] keeper.is_open) (kept_of flags (κ' ∷ later)))) → Awaits limits c flags (place ∷ past) keeper κ' later
placed limits c flags past keeper κ κ' others later place a name confirmed packet_handled gone told =
    record {
      client = a.client;
      offline = a.offline;
      served = a.served;
      unasked = a.unasked;
      again = began_stays place past c κ'.name (ap (began_again past c) name ∙ a.again);
      unconfirmed = confirmed ∙ a.unconfirmed;
      unhandled = packet_handled ∙ a.unhandled;
      more = a.more ++ sends_to κ'.name (answers_at limits place past);
      first = first_more limits place past κ'.name a.more (ap (put_to limits past) name ∙ a.first);
      head = a.head;
      gone = gone;
      told = told;
    }

-- a packet of one that is kept, or of one that is left out
told_taken : (limits : Limits) (c : Client) (flags : List Bool) (past : Past) (keeper : Keeper) (connections : List ClientConnection) (i : ℕ) (μ : ClientConnection) (w : Written) → keeper.client ≡ c
    → slice_get μ.written μ.taken ≡ Some w → StoryTrace limits c (with_connections past keeper (kept_of flags connections)) → IsKept flags connections i μ ⊎ IsLeft flags connections i μ
    → StoryTrace limits c (with_connections (place_of limits past (command_of μ.name μ.taken w.packet) ∷ past) keeper (kept_of flags (with_one_counted i connections)))
told_taken limits c flags past keeper connections i μ w client next told (inl k) =
    subst (λ (l : List ClientConnection). StoryTrace limits c (with_connections (place_of limits past (command_of μ.name μ.taken w.packet) ∷ past) keeper l)) (sym k.counted) (goes_on told (takes k.j μ w k.stands next))
told_taken limits c flags past keeper connections i μ w client next told (inr l) =
    subst (λ (l : List ClientConnection). StoryTrace limits c (with_connections (place_of limits past (command_of μ.name μ.taken w.packet) ∷ past) keeper l)) (sym l.counted)
    (goes_on told
    (others_take (command_of μ.name μ.taken w.packet) (later_other past keeper.client μ.name μ.taken w.packet l.taken)
    (later_named μ.name μ.taken w.packet (kept_of flags connections) l.taken l.none)))

taken_next : (limits : Limits) (c : Client) (flags : List Bool) (past : Past) (keeper : Keeper) (κ : ClientConnection) (others : List ClientConnection) (i : ℕ) (μ : ClientConnection) (w : Written) → NamesApart (κ ∷ others)
    → (a : Awaits limits c flags past keeper κ others) → slice_get (κ ∷ others) i ≡ Some μ → slice_get μ.written μ.taken ≡ Some w
    → HasAwaiting limits c flags (with_connections (place_of limits past (command_of μ.name μ.taken w.packet) ∷ past) keeper (with_one_counted i (κ ∷ others)))
taken_next limits c flags past keeper κ others zero μ w apart a stands next =
    record {
      newest = record κ { taken = suc κ.taken };
      others = others;
      are = refl;
      awaits = placed limits c flags past keeper κ (record κ { taken = suc κ.taken }) others others (place_of limits past (command_of μ.name μ.taken w.packet)) a refl refl refl
          (gone_counted 0 flags (κ ∷ others) a.gone)
          (λ earlier numbers. told_taken limits c flags past (waiting c earlier [] keeper.is_open) (κ ∷ others) 0 μ w refl next (a.told earlier numbers) (find flags (κ ∷ others) 0 μ apart a.gone stands));
    }
taken_next limits c flags past keeper κ others (suc i) μ w apart a stands next =
    record {
      newest = κ;
      others = with_one_counted i others;
      are = refl;
      awaits = placed limits c flags past keeper κ κ others (with_one_counted i others) (place_of limits past (command_of μ.name μ.taken w.packet)) a refl refl refl
          (gone_counted (suc i) flags (κ ∷ others) a.gone)
          (λ earlier numbers. told_taken limits c flags past (waiting c earlier [] keeper.is_open) (κ ∷ others) (suc i) μ w refl next (a.told earlier numbers) (find flags (κ ∷ others) (suc i) μ apart a.gone stands));
    }

-- ---- the CONNACK

first_is : (limits : Limits) (past : Past) (κ : ClientConnection) (more : List Packet) (packet : Packet) → put_to limits past κ.name ≡ session_lost ∷ more → κ.handled ≡ 0
    → slice_get (put_to limits past κ.name) κ.handled ≡ Some packet → session_lost ≡ packet
first_is limits past κ more packet first unhandled next =
    let e : Some session_lost ≡ Some packet = sym (ap₂ slice_get first unhandled) ∙ next in cc

-- what a packet does to a new client, it does to the client
heard_same : (limits : Limits) (c : Client) (flags : List Bool) (past : Past) (keeper : Keeper) (κ : ClientConnection) (others : List ClientConnection) (a : Awaits limits c flags past keeper κ others) (packet : Packet) → keeper.is_open ≡ true
    → slice_get (put_to limits past κ.name) κ.handled ≡ Some packet
    → packet_handled packet (let side : Side = record { keeper = waiting c (all_own keeper) [] true; connection = κ } in side) ≡ packet_handled packet (let side : Side = record { keeper = keeper; connection = κ } in side)
heard_same limits c flags past keeper κ others a packet opened next =
    ap (λ p. packet_handled p (let side : Side = record { keeper = waiting c (all_own keeper) [] true; connection = κ } in side)) (sym is)
    ∙ ap (λ d. packet_handled session_lost (let side : Side = record { keeper = waiting d (all_own keeper) [] true; connection = κ } in side)) (sym a.client)
    ∙ sym (settles keeper κ a.offline a.served a.unasked opened)
    ∙ ap (λ p. packet_handled p (let side : Side = record { keeper = keeper; connection = κ } in side)) is
  where
    is : session_lost ≡ packet
    is = first_is limits past κ a.more packet a.first a.unhandled next

settled : (limits : Limits) (c : Client) (flags : List Bool) (past : Past) (keeper : Keeper) (κ : ClientConnection) (others : List ClientConnection) (a : Awaits limits c flags past keeper κ others) (packet : Packet) → AreNumbered 0 (all_own keeper) → keeper.is_open ≡ true
    → slice_get (put_to limits past κ.name) κ.handled ≡ Some packet
    → HasBeside limits c flags (with_side (with_connections past keeper (κ ∷ others)) others (packet_handled packet (let side : Side = record { keeper = keeper; connection = κ } in side)))
settled limits c flags past keeper κ others a packet numbers opened next = subst P (heard_same limits c flags past keeper κ others a packet opened next) heard
  where
    P : Side → Type 0
    P side = HasBeside limits c flags (with_side (with_connections past keeper (κ ∷ others)) others side)

    now : StoryTrace limits c (with_connections past (waiting c (all_own keeper) [] true) (kept_of flags (κ ∷ others)))
    now = subst (λ (b : Bool). StoryTrace limits c (with_connections past (waiting c (all_own keeper) [] b) (kept_of flags (κ ∷ others)))) opened (a.told (all_own keeper) numbers)

    heard : P (packet_handled packet (let side : Side = record { keeper = waiting c (all_own keeper) [] true; connection = κ } in side))
    heard = goes_received limits c (with_connections past (waiting c (all_own keeper) [] true) (κ ∷ others)) flags κ others packet a.head a.gone now refl refl next

-- ---- the events

-- with the same connections, which do not change
abbrev pub kept_awaiting : (limits : Limits) (c : Client) (flags : List Bool) (past : Past) (keeper : Keeper) (later : Keeper) (κ : ClientConnection) (others : List ClientConnection)
    → (a : Awaits limits c flags past keeper κ others) → later.client ≡ keeper.client → later.is_online ≡ false → later.was_served ≡ keeper.was_served → later.requests ≡ []
    → ((earlier : List Own) → AreNumbered 0 earlier → StoryTrace limits c (with_connections past (waiting c earlier [] later.is_open) (kept_of flags (κ ∷ others)))) → Awaits limits c flags past later κ others
kept_awaiting limits c flags past keeper later κ others a client offline served unasked told =
    record {
      client = client ∙ a.client;
      offline = offline;
      served = served ∙ a.served;
      unasked = unasked;
      again = a.again;
      unconfirmed = a.unconfirmed;
      unhandled = a.unhandled;
      more = a.more;
      first = a.first;
      head = a.head;
      gone = a.gone;
      told = told;
    }

written_none : (κ : ClientConnection) (others : List ClientConnection) → writes_first [] (κ ∷ others) ≡ κ ∷ others
written_none κ others = ap (λ (ws : List Written). record κ { written = ws } ∷ others) (append-nil κ.written)

not_both : (b : Bool) → b ≡ false → b ≡ true → ⊥
not_both b e f = let g : true ≡ false = sym f ∙ e in cc

-- it takes it in: what it kept is earlier from then on
pub record IsSettled (limits : Limits) (c : Client) (flags : List Bool) (s t : Story) : Type 0 where
  pub beside : HasBeside limits c flags t
  pub moved : t.keeper.earlier ≡ all_own s.keeper

moves : (keeper : Keeper) (κ : ClientConnection) → keeper.is_online ≡ false → keeper.was_served ≡ true → (packet_handled session_lost (let side : Side = record { keeper = keeper; connection = κ } in side)).keeper.earlier ≡ all_own keeper
moves keeper κ offline served = rw (offline, served) refl

-- a client that awaits that CONNACK continues awaiting it, or takes it in; as long as it is in step
-- it opens no further connection
pub awaiting_goes : (limits : Limits) (c : Client) (flags : List Bool) (s t : Story) → NamesApart s.connections → HasAwaiting limits c flags s → (h : StoryStep limits s t) → AreAllNumbered s.keeper → IsInStep t
    → HasAwaiting limits c (flags_after flags h) t ⊎ IsSettled limits c (flags_after flags h) s t
awaiting_goes limits c flags s t apart b (takes i κ w stands next) numbers step =
    inl (subst (λ (l : List ClientConnection). HasAwaiting limits c flags (with_connections (place_of limits s.past (command_of κ.name κ.taken w.packet) ∷ s.past) s.keeper (with_one_counted i l))) (sym b.are)
    (taken_next limits c flags s.past s.keeper b.newest b.others i κ w (subst NamesApart b.are apart) b.awaits (sym (ap (λ (l : List ClientConnection). slice_get l i) b.are) ∙ stands) next))
awaiting_goes limits c flags s t apart b (others_take command other none) numbers step =
    inl (record {
      newest = b.newest;
      others = b.others;
      are = b.are;
      awaits = placed limits c flags s.past s.keeper b.newest b.newest b.others b.others (place_of limits s.past command) b.awaits refl refl refl b.awaits.gone
          (λ earlier numbers. goes_on (b.awaits.told earlier numbers)
          (others_take command (λ h. other (subst (λ (d : Client). names_client s.past d command) (sym b.awaits.client) h))
          (none_kept (is_packet_of command) flags (b.newest ∷ b.others) (sym (ap (any_named (is_packet_of command)) b.are) ∙ none))));
    })
awaiting_goes limits c flags s t apart b (receives κ others packet are opened next) numbers step =
    let both : b.newest ∷ b.others ≡ κ ∷ others = sym b.are ∙ are in
    let one : b.newest ≡ κ = cc in
    let rest : b.others ≡ others = cc in
    let a = subst (λ (z : ClientConnection). Awaits limits c flags s.past s.keeper z others) one (subst (λ (l : List ClientConnection). Awaits limits c flags s.past s.keeper b.newest l) rest b.awaits) in
    inr (record {
      beside = settled limits c flags s.past s.keeper κ others a packet (joined_numbers s.keeper.earlier s.keeper.own numbers.0 numbers.1) opened next;
      moved = ap (λ p. (packet_handled p (let side : Side = record { keeper = s.keeper; connection = κ } in side)).keeper.earlier) (sym (first_is limits s.past κ a.more packet a.first a.unhandled next))
          ∙ moves s.keeper κ a.offline a.served;
    })
awaiting_goes limits c flags s t apart b (opens_anew x fresh none uncounted) numbers step =
    let welcome = (subst (Each (WasWelcome s.past s.keeper.client)) b.are step).0 in
    absurd (not_both b.newest.confirmed b.awaits.unconfirmed (welcome (ap (λ (d : Client). began_again s.past d b.newest.name) b.awaits.client ∙ b.awaits.again)))
awaiting_goes limits c flags s t apart b loses numbers step =
    inl (record {
      newest = b.newest;
      others = b.others;
      are = b.are;
      awaits = kept_awaiting limits c flags s.past s.keeper (lost s.keeper) b.newest b.others b.awaits refl refl refl refl (λ earlier all. goes_on (b.awaits.told earlier all) loses);
    })
awaiting_goes limits c flags s t apart b disconnects numbers step =
    inl (record {
      newest = b.newest;
      others = b.others;
      are = ap (λ (o : Bool). if o then writes_first (plain packets.Disconnect ∷ []) s.connections else s.connections) b.awaits.offline ∙ b.are;
      awaits = kept_awaiting limits c flags s.past s.keeper (lost s.keeper) b.newest b.others b.awaits refl refl refl refl (λ earlier all. goes_on (b.awaits.told earlier all) loses);
    })
awaiting_goes limits c flags s t apart b (publishes_one p needs) numbers step =
    inl (record {
      newest = b.newest;
      others = b.others;
      are = ap (λ (o : Bool). writes_first (if o then written_publish false (next_own_number s.keeper) (least_free (ids_in_use s.keeper)) p ∷ [] else []) s.connections) b.awaits.offline
          ∙ ap (writes_first []) b.are ∙ written_none b.newest b.others;
      awaits = kept_awaiting limits c flags s.past s.keeper t.keeper b.newest b.others b.awaits refl b.awaits.offline refl b.awaits.unasked b.awaits.told;
    })
awaiting_goes limits c flags s t apart b (subscribes p on id) numbers step = absurd (not_both s.keeper.is_online b.awaits.offline on)
awaiting_goes limits c flags s t apart b (unsubscribes p on id) numbers step = absurd (not_both s.keeper.is_online b.awaits.offline on)
