-- Each event keeps it true that no other client is on one of the client's connections.
use Rattle.std.proofs.Common.{◌≡◌, ℕ, zero, suc, Bool, true, false, not, ◌||◌, if◌then◌else◌, List, [], ◌∷◌, Option, Some, None, refl, ap, sym, ◌∙◌, subst, arith, inl, inr, ◌⊎◌}
use Rattle.std.specs.Prelude.{slice_get}
use Rattle.std.proofs.lemmas.Bool.{both_ways, cases_Bool}
use Rattle.packet.specs.declared.packet.Packet.{Packet}
use Rattle.packet.specs.declared.packet.Packet.TheVariants as packets
use Rattle.broker_spec.specs.Connection.{ConnectionName, same_connection}
use Rattle.broker_spec.specs.Place.{Client, Mark, Place, Past, Limits, same_client}
use Rattle.broker_spec.specs.Sessions.{accepts, ends_any, newest_connection, current_connection}
use Rattle.broker_spec.specs.Marks.{mark_of}
use Rattle.broker_spec.specs.Commands.{place_of}
use Rattle.broker_spec.specs.declared.command.Command.{Command}
use Rattle.broker_spec.specs.declared.command.Command.TheVariants as commands
use Rattle.broker_spec.proofs.ClientsInOrder.{same_is, same_self}
use Rattle.client_base.specs.Keeper.{Written}
use Rattle.exactly_once.specs.Sides.{ClientConnection}
use Rattle.client_base.specs.Written.{plain}
use Rattle.exactly_once.specs.Story.{Story, StoryStep}
use Rattle.exactly_once.specs.StoryCommands.{any_named, is_packet_of, packet_count, with_one_counted, command_of}
use Rattle.client_base.specs.Called.{written_for}
use Rattle.client_base.specs.Connected.{opening_connect, new_connection}
use Rattle.client_base.specs.Written.{writes_first}
use Rattle.exactly_once.specs.Story.StoryStep.{takes, others_take, receives, opens_anew, loses, disconnects, publishes_one, subscribes, unsubscribes}
use Rattle.exactly_once.specs.Inside.Shape.{IsSoundStory}
use Rattle.exactly_once.specs.Inside.ConnectionShape.{ConnectionInShape}
use Rattle.broker_spec.proofs.ConnectionNames.{same_name}
use Rattle.exactly_once.proofs.places.Counts.{only_there, current_counted}
use Rattle.exactly_once.proofs.places.Owned.{NobodyElse}
use Rattle.exactly_once.proofs.publishing.Grown.{handled_grows}
use Rattle.exactly_once.proofs.publishing.kept.KeepsNames.{counted_named}
use Rattle.exactly_once.proofs.publishing.Last.{each_there}

-- ---- a place

-- it opens one of the client's connections only for the client
abbrev pub OpensOwn : Client → List ClientConnection → Place → Type 0
OpensOwn c connections place =
    (d : Client) (opened : ConnectionName × Bool) → accepts place.command place.mark d ≡ Some opened → any_named (same_connection opened.0) connections ≡ true → same_client d c ≡ true

pub nobody_placed : (place : Place) (past : Past) (c : Client) (connections : List ClientConnection) → OpensOwn c connections place → NobodyElse past c connections → NobodyElse (place ∷ past) c connections
unfolding current_connection
nobody_placed place past c connections own nobody d x current named = by (accepts place.command place.mark d) refl current
  where
    by : (o : Option (ConnectionName × Bool)) → accepts place.command place.mark d ≡ o → newest_connection o (ends_any place d (current_connection past d)) (current_connection past d) ≡ Some x
        → same_client d c ≡ true
    by (Some opened) e f =
        let same : x ≡ opened.0 = cc in
        own d opened e (subst (λ (y : ConnectionName). any_named (same_connection y) connections ≡ true) same named)
    by None e f = nobody d x (only_there (not (ends_any place d (current_connection past d))) (current_connection past d) x f).1 named

-- a Connect of the client
pub own_connect : (x : ConnectionName) (c : Client) (connections : List ClientConnection) (clean : Bool) (mark : Mark) → OpensOwn c connections (record { command = commands.Connect x c clean; mark = mark })
own_connect x c connections clean Mark.Accepted d opened e named =
    let same = same_is c d (only_there (same_client c d) (Some (x, clean)) opened e).0 in
    subst (λ (k : Client). same_client k c ≡ true) same (same_self c)
own_connect x c connections clean _ d opened e named = cc

own_packet : (x : ConnectionName) (n : ℕ) (packet : Packet) (c : Client) (connections : List ClientConnection) (mark : Mark)
    → OpensOwn c connections (record { command = command_of x (suc n) packet; mark = mark })
own_packet x n (packets.Connect q) c connections mark d opened e named = cc
own_packet x n _ c connections mark d opened e named = cc

own_taken : (limits : Limits) (past : Past) (c : Client) (connections : List ClientConnection) (κ : ClientConnection) (w : Written) (n : ℕ) (mark : Mark) → ConnectionInShape limits past c κ
    → slice_get κ.written n ≡ Some w → OpensOwn c connections (record { command = command_of κ.name n w.packet; mark = mark })
own_taken limits past c connections κ w zero mark shape next =
    let first : Some (opening_connect c) ≡ Some w = sym (ap (λ ws. slice_get ws 0) shape.written) ∙ next in
    let same : opening_connect c ≡ w = cc in
    subst (λ (v : Written). OpensOwn c connections (record { command = command_of κ.name 0 v.packet; mark = mark })) same (own_connect κ.name c connections false mark)
own_taken limits past c connections κ w (suc n) mark shape next = own_packet κ.name n w.packet c connections mark

-- a command of none of them
pub other_opens : (c : Client) (connections : List ClientConnection) (command : Command) (mark : Mark) → any_named (is_packet_of command) connections ≡ false
    → OpensOwn c connections (record { command = command; mark = mark })
other_opens c connections (commands.Connect x k clean) Mark.Accepted none d opened e named =
    let found : Some (x, clean) ≡ Some opened = (only_there (same_client k d) (Some (x, clean)) opened e).1 in
    let same : (x, clean) ≡ opened = cc in
    absurd (both_ways (any_named (same_connection x) connections) none (subst (λ (o : ConnectionName × Bool). any_named (same_connection o.0) connections ≡ true) (sym same) named))
other_opens c connections (commands.Connect x k clean) _ none d opened e named = cc
other_opens c connections (commands.Packet x packet) mark none d opened e named = cc
other_opens c connections (commands.Lost x) mark none d opened e named = cc
other_opens c connections (commands.Start b) mark none d opened e named = cc
other_opens c connections (commands.Expel k) mark none d opened e named = cc

-- ---- connections

-- the same names
pub nobody_named : (past : Past) (c : Client) (connections later : List ClientConnection) → ((test : ConnectionName → Bool) → any_named test later ≡ any_named test connections)
    → NobodyElse past c connections → NobodyElse past c later
nobody_named past c connections later same nobody d x current named = nobody d x current (sym (same (same_connection x)) ∙ named)

pub written_named : (more : List Written) (connections : List ClientConnection) (test : ConnectionName → Bool) → any_named test (writes_first more connections) ≡ any_named test connections
written_named more [] test = refl
written_named more (κ ∷ connections) test = refl

-- a new one has no client
pub nobody_opened : (past : Past) (c : Client) (connections : List ClientConnection) (κ : ClientConnection) → packet_count κ.name past ≡ 0 → NobodyElse past c connections → NobodyElse past c (κ ∷ connections)
nobody_opened past c connections κ none nobody d x current named = by (cases_Bool (same_connection x κ.name))
  where
    by : (same_connection x κ.name ≡ true) ⊎ (same_connection x κ.name ≡ false) → same_client d c ≡ true
    by (inl e) =
        let some = current_counted past d x current in
        let count : packet_count x past ≡ packet_count κ.name past = ap (λ y. packet_count y past) (same_name x κ.name e) in
        absurd (omega (arith, some, count, none))
    by (inr e) = nobody d x current (sym (ap (λ b. b || any_named (same_connection x) connections) e) ∙ named)

pub events_keep_nobody : (limits : Limits) (s t : Story) → IsSoundStory limits s → StoryStep limits s t → NobodyElse t.past s.keeper.client t.connections
events_keep_nobody limits s t sound (takes i κ w stands next) =
    let this = each_there (ConnectionInShape limits s.past s.keeper.client) i s.connections κ stands sound.shape.connections in
    let command = command_of κ.name κ.taken w.packet in
    nobody_named (place_of limits s.past command ∷ s.past) s.keeper.client s.connections (with_one_counted i s.connections) (λ test. counted_named test i s.connections)
    (nobody_placed (place_of limits s.past command) s.past s.keeper.client s.connections
    (own_taken limits s.past s.keeper.client s.connections κ w κ.taken (mark_of limits s.past command) this next) sound.shape.nobody_else)
events_keep_nobody limits s t sound (others_take command other none) =
    nobody_placed (place_of limits s.past command) s.past s.keeper.client s.connections (other_opens s.keeper.client s.connections command (mark_of limits s.past command) none) sound.shape.nobody_else
events_keep_nobody limits s t sound (receives κ others packet are opened next) =
    nobody_named s.past s.keeper.client s.connections t.connections
    (λ test. ap (λ x. test x || any_named test others) (handled_grows κ s.keeper packet).name ∙ sym (ap (any_named test) are)) sound.shape.nobody_else
events_keep_nobody limits s t sound (opens_anew x fresh none uncounted) =
    nobody_opened s.past s.keeper.client s.connections (new_connection s.keeper.client x) uncounted sound.shape.nobody_else
events_keep_nobody limits s t sound loses = sound.shape.nobody_else
events_keep_nobody limits s t sound disconnects = by s.keeper.is_online
  where
    by : (b : Bool) → NobodyElse s.past s.keeper.client (if b then writes_first (plain packets.Disconnect ∷ []) s.connections else s.connections)
    by true = nobody_named s.past s.keeper.client s.connections (writes_first (plain packets.Disconnect ∷ []) s.connections) (written_named (plain packets.Disconnect ∷ []) s.connections) sound.shape.nobody_else
    by false = sound.shape.nobody_else
events_keep_nobody limits s t sound (publishes_one p needs) =
    nobody_named s.past s.keeper.client s.connections t.connections (written_named (written_for p s.keeper) s.connections) sound.shape.nobody_else
events_keep_nobody limits s t sound (subscribes p on id) =
    nobody_named s.past s.keeper.client s.connections t.connections (written_named (plain (packets.Subscribe p) ∷ []) s.connections) sound.shape.nobody_else
events_keep_nobody limits s t sound (unsubscribes p on id) =
    nobody_named s.past s.keeper.client s.connections t.connections (written_named (plain (packets.Unsubscribe p) ∷ []) s.connections) sound.shape.nobody_else
