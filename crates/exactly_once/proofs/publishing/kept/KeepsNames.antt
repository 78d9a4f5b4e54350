-- Each event keeps names of connections apart, and a session that is not clean.
use Rattle.std.proofs.Common.{◌≡◌, ℕ, zero, suc, Bool, true, false, ◌||◌, if◌then◌else◌, List, [], ◌∷◌, Option, Some, None, refl, ap, sym, ◌∙◌, subst, inl, inr}
use Rattle.std.specs.Prelude.{slice_get}
use Rattle.packet.specs.declared.packet.Packet.{Packet}
use Rattle.packet.specs.declared.packet.Packet.TheVariants as packets
use Rattle.broker_spec.specs.Connection.{ConnectionName, same_connection}
use Rattle.broker_spec.specs.Place.{Client, Mark, Place, Past, Limits, same_client}
use Rattle.broker_spec.specs.Sessions.{accepts, clean_session_of}
use Rattle.broker_spec.specs.Marks.{mark_of}
use Rattle.broker_spec.specs.Commands.{place_of}
use Rattle.broker_spec.specs.declared.command.Command.{Command}
use Rattle.broker_spec.specs.declared.command.Command.TheVariants as commands
use Rattle.broker_spec.proofs.ClientsInOrder.{same_is}
use Rattle.client_base.specs.Keeper.{Written}
use Rattle.exactly_once.specs.Sides.{ClientConnection}
use Rattle.client_base.specs.Written.{plain}
use Rattle.exactly_once.specs.Story.{Story, StoryStep}
use Rattle.exactly_once.specs.StoryCommands.{any_named, with_one_counted, command_of, names_client}
use Rattle.client_base.specs.Called.{written_for}
use Rattle.client_base.specs.Connected.{opening_connect}
use Rattle.client_base.specs.Written.{writes_first}
use Rattle.exactly_once.specs.Story.StoryStep.{takes, others_take, receives, opens_anew, loses, disconnects, publishes_one, subscribes, unsubscribes}
use Rattle.exactly_once.specs.Inside.Shape.{NamesApart, IsSoundStory}
use Rattle.exactly_once.specs.Inside.ConnectionShape.{ConnectionInShape}
use Rattle.exactly_once.proofs.places.Counts.{only_there}
use Rattle.exactly_once.proofs.places.After.{IsKeptSession, IsSpared, session_spared, session_opens}
use Rattle.exactly_once.proofs.publishing.Grown.{handled_grows}
use Rattle.exactly_once.proofs.publishing.Last.{each_there}
use Rattle.exactly_once.proofs.places.Spared.{taken_spares, other_spares}

-- ---- names

pub counted_named : (test : ConnectionName → Bool) (i : ℕ) (connections : List ClientConnection) → any_named test (with_one_counted i connections) ≡ any_named test connections
counted_named test i [] = refl
counted_named test zero (κ ∷ connections) = refl
counted_named test (suc i) (κ ∷ connections) = ap (λ b. test κ.name || b) (counted_named test i connections)

pub counted_apart : (i : ℕ) (connections : List ClientConnection) → NamesApart connections → NamesApart (with_one_counted i connections)
counted_apart i [] a = a
counted_apart zero (κ ∷ connections) a = a
counted_apart (suc i) (κ ∷ connections) a = (counted_named (same_connection κ.name) i connections ∙ a.0, counted_apart i connections a.1)

written_apart : (more : List Written) (connections : List ClientConnection) → NamesApart connections → NamesApart (writes_first more connections)
written_apart more [] a = a
written_apart more (κ ∷ connections) a = a

either_apart : (b : Bool) (more : List Written) (connections : List ClientConnection) → NamesApart connections → NamesApart (if b then writes_first more connections else connections)
either_apart true more connections a = written_apart more connections a
either_apart false more connections a = a

pub events_keep_names : (limits : Limits) (s t : Story) → NamesApart s.connections → StoryStep limits s t → NamesApart t.connections
events_keep_names limits s t a (takes i κ w stands next) = counted_apart i s.connections a
events_keep_names limits s t a (others_take command other none) = a
events_keep_names limits s t a (receives κ others packet are opened next) =
    let mine = subst NamesApart are a in
    (ap (λ x. any_named (same_connection x) others) (handled_grows κ s.keeper packet).name ∙ mine.0, mine.1)
events_keep_names limits s t a (opens_anew x fresh none uncounted) = (fresh, a)
events_keep_names limits s t a loses = a
events_keep_names limits s t a disconnects = either_apart s.keeper.is_online (plain packets.Disconnect ∷ []) s.connections a
events_keep_names limits s t a (publishes_one p needs) = written_apart (written_for p s.keeper) s.connections a
events_keep_names limits s t a (subscribes p on id) = written_apart (plain (packets.Subscribe p) ∷ []) s.connections a
events_keep_names limits s t a (unsubscribes p on id) = written_apart (plain (packets.Unsubscribe p) ∷ []) s.connections a

-- ---- the session

-- the client's own Connects are without CleanSession, and no others open anything for it
abbrev pub OpensKept : Client → Place → Type 0
OpensKept c place = (opened : ConnectionName × Bool) → accepts place.command place.mark c ≡ Some opened → opened.1 ≡ false

pub session_kept : (place : Place) (past : Past) (c : Client) → OpensKept c place → IsSpared place.command past c → IsKeptSession (clean_session_of past c) → IsKeptSession (clean_session_of (place ∷ past) c)
session_kept place past c kept spared s = by (accepts place.command place.mark c) refl
  where
    by : (o : Option (ConnectionName × Bool)) → accepts place.command place.mark c ≡ o → IsKeptSession (clean_session_of (place ∷ past) c)
    by (Some opened) e = inr (session_opens place past c opened e ∙ ap (λ b. Some b) (kept opened e))
    by None e = subst IsKeptSession (sym (session_spared place past c e spared s)) s

pub kept_connect : (x : ConnectionName) (c d : Client) (mark : Mark) → OpensKept c (record { command = commands.Connect x d false; mark = mark })
kept_connect x c d Mark.Accepted opened e =
    let found : Some (x, false) ≡ Some opened = (only_there (same_client d c) (Some (x, false)) opened e).1 in
    let same : (x, false) ≡ opened = cc in
    ap (λ (o : ConnectionName × Bool). o.1) (sym same)
kept_connect x c d _ opened e = cc

kept_packet : (x : ConnectionName) (n : ℕ) (packet : Packet) (c : Client) (mark : Mark) → OpensKept c (record { command = command_of x (suc n) packet; mark = mark })
kept_packet x n (packets.Connect q) c mark opened e = cc
kept_packet x n _ c mark opened e = cc

kept_taken : (limits : Limits) (past : Past) (c : Client) (κ : ClientConnection) (w : Written) (n : ℕ) (mark : Mark) → ConnectionInShape limits past c κ → slice_get κ.written n ≡ Some w
    → OpensKept c (record { command = command_of κ.name n w.packet; mark = mark })
kept_taken limits past c κ w zero mark shape next =
    let first : Some (opening_connect c) ≡ Some w = sym (ap (λ ws. slice_get ws 0) shape.written) ∙ next in
    let same : opening_connect c ≡ w = cc in
    subst (λ (v : Written). OpensKept c (record { command = command_of κ.name 0 v.packet; mark = mark })) same (kept_connect κ.name c c mark)
kept_taken limits past c κ w (suc n) mark shape next = kept_packet κ.name n w.packet c mark

pub kept_other : (past : Past) (c : Client) (command : Command) (mark : Mark) → (names_client past c command → ⊥) → OpensKept c (record { command = command; mark = mark })
kept_other past c (commands.Connect x d clean) Mark.Accepted other opened e = absurd (other (same_is d c (only_there (same_client d c) (Some (x, clean)) opened e).0))
kept_other past c (commands.Connect x d clean) _ other opened e = cc
kept_other past c (commands.Packet x packet) mark other opened e = cc
kept_other past c (commands.Lost x) mark other opened e = cc
kept_other past c (commands.Start b) mark other opened e = cc
kept_other past c (commands.Expel d) mark other opened e = cc

pub events_keep_session : (limits : Limits) (s t : Story) → IsSoundStory limits s → StoryStep limits s t → IsKeptSession (clean_session_of t.past s.keeper.client)
events_keep_session limits s t sound (takes i κ w stands next) =
    let this = each_there (ConnectionInShape limits s.past s.keeper.client) i s.connections κ stands sound.shape.connections in
    let command = command_of κ.name κ.taken w.packet in
    session_kept (place_of limits s.past command) s.past s.keeper.client (kept_taken limits s.past s.keeper.client κ w κ.taken (mark_of limits s.past command) this next)
    (inl (taken_spares κ.name κ.taken w.packet s.keeper.client)) sound.shape.session
events_keep_session limits s t sound (others_take command other none) =
    session_kept (place_of limits s.past command) s.past s.keeper.client (kept_other s.past s.keeper.client command (mark_of limits s.past command) other) (other_spares s.past s.keeper.client command other) sound.shape.session
events_keep_session limits s t sound (receives κ others packet are opened next) = sound.shape.session
events_keep_session limits s t sound (opens_anew x fresh none uncounted) = sound.shape.session
events_keep_session limits s t sound loses = sound.shape.session
events_keep_session limits s t sound disconnects = sound.shape.session
events_keep_session limits s t sound (publishes_one p needs) = sound.shape.session
events_keep_session limits s t sound (subscribes p on id) = sound.shape.session
events_keep_session limits s t sound (unsubscribes p on id) = sound.shape.session
