-- A session that has ended, of which the client still receives packets: a place of the list does
-- not change what it receives.
use Rattle.std.proofs.Common.{◌≡◌, ◌≤◌, ℕ, zero, suc, Bool, true, false, ◌||◌, List, [], ◌∷◌, length, Some, None, refl, sym, ◌∙◌, ap, subst, arith, inl, inr, ◌⊎◌}
use Rattle.std.specs.Prelude.{slice_get, is_some}
use Rattle.std.proofs.lemmas.Bool.{both_ways}
use Rattle.packet.specs.declared.packet.Packet.{Packet}
use Rattle.packet.specs.declared.packet.Packet.TheVariants as packets
use Rattle.lists.proofs.Tests.{or_none}
use Rattle.broker_spec.specs.Connection.{ConnectionName, same_connection}
use Rattle.broker_spec.specs.Place.{Client, Mark, Place, Past, Limits}
use Rattle.broker_spec.specs.Sessions.{accepts, clean_session_of, current_connection}
use Rattle.broker_spec.specs.AnswersInOrder.{answers_at}
use Rattle.broker_spec.specs.Marks.{mark_of}
use Rattle.broker_spec.specs.Commands.{place_of}
use Rattle.broker_spec.specs.declared.command.Command.{Command}
use Rattle.broker_spec.specs.declared.command.Command.TheVariants as commands
use Rattle.client_base.specs.Keeper.{Written}
use Rattle.exactly_once.specs.Sides.{ClientConnection}
use Rattle.exactly_once.specs.Sends.{sends_to}
use Rattle.exactly_once.specs.Story.{Story}
use Rattle.exactly_once.specs.StoryCommands.{any_named, command_of, with_one_counted, is_packet_of}
use Rattle.exactly_once.specs.InStep.{has_begun, AreWelcome}
use Rattle.exactly_once.proofs.connections.GoRight.{place_to_nobody}
use Rattle.exactly_once.proofs.places.Sessions.{current_has_session}
use Rattle.exactly_once.proofs.places.Owned.{NobodyElse}
use Rattle.exactly_once.proofs.places.Kinds.{nobodys_mark}
use Rattle.exactly_once.proofs.Packets.{at_packet}
use Rattle.exactly_once.proofs.publishing.Last.{each_there}
use Rattle.exactly_once.proofs.sessions.Beside.{with_connections, other_name}
use Rattle.broker_spec.proofs.ClientsInOrder.{same_is}
use Rattle.broker_spec.proofs.ConnectionNames.{same_name, same_itself}
use Rattle.exactly_once.specs.Inside.Shape.{NamesApart}
use Rattle.exactly_once.proofs.sessions.Anew.{IsUntouched}
use Rattle.exactly_once.proofs.sessions.Again.{accepted_at}
use Rattle.exactly_once.proofs.sessions.EachPlaced.{IsOwnCommand, counted_none}
use Rattle.exactly_once.proofs.sessions.Life.{IsLife}
use Rattle.exactly_once.proofs.sessions.LifePlaces.{life_command}
use Rattle.exactly_once.proofs.sessions.Parted.{accepted_or_not, none_older, at_accepted}
use Rattle.exactly_once.proofs.sessions.Lingering.{Lingers, lingers_placed}

-- ---- nothing is sent to its newest connection

nobody_there : (past : Past) (c : Client) (x : ConnectionName) (connections : List ClientConnection) → clean_session_of past c ≡ None → NobodyElse past c connections → any_named (same_connection x) connections ≡ true
    → (d : Client) → current_connection past d ≡ Some x → ⊥
nobody_there past c x connections none nobody named d current =
    let same = same_is d c (nobody d x current named) in
    let mine : current_connection past c ≡ Some x = subst (λ (k : Client). current_connection past k ≡ Some x) same current in
    both_ways (is_some (clean_session_of past c)) (ap is_some none) (current_has_session past c x mine)

nothing_answered : (limits : Limits) (past : Past) (x y : ConnectionName) (packet : Packet) → sends_to y (answers_at limits (at_packet x packet Mark.Unmarked) past) ≡ []
nothing_answered limits past x y (packets.Publish p) = refl
nothing_answered limits past x y (packets.Subscribe q) = refl
nothing_answered limits past x y _ = refl

head_named : (x : ConnectionName) (connections : List ClientConnection) (newest : ClientConnection) (count : ℕ) (others : List ClientConnection) → newest.name ≡ x → connections ≡ record newest { taken = count } ∷ others
    → any_named (same_connection x) connections ≡ true
head_named x connections newest count others name are =
    ap (any_named (same_connection x)) are ∙ ap (λ b. b || any_named (same_connection x) others) (ap (same_connection x) name ∙ same_itself x)

-- ---- a packet that the client wrote

-- an own Connect is not the newest connection's, of which a packet was taken
first_taken : (i : ℕ) (connections : List ClientConnection) (κ newest : ClientConnection) (count : ℕ) (others : List ClientConnection) → NamesApart connections → slice_get connections i ≡ Some κ
    → connections ≡ record newest { taken = count } ∷ others → 1 ≤ count → κ.taken ≡ 0 → κ.name ≡ newest.name → ⊥
first_taken i connections κ newest count others names at are some new name =
    by i (subst NamesApart are names) (subst (λ (cs : List ClientConnection). slice_get cs i ≡ Some κ) are at)
  where
    by : (i : ℕ) → NamesApart (record newest { taken = count } ∷ others) → slice_get (record newest { taken = count } ∷ others) i ≡ Some κ → ⊥
    by zero names at =
        let same : record newest { taken = count } ≡ κ = cc in
        let e : count ≡ κ.taken = ap (λ (z : ClientConnection). z.taken) same in
        omega (arith, some, new, e)
    by (suc j) names at =
        both_ways (same_connection κ.name newest.name) (other_name newest.name others j κ names.0 at) (ap (same_connection κ.name) (sym name) ∙ same_itself κ.name)

-- nor is an older one's accepted, if the client is in step
after_newest : (limits : Limits) (c : Client) (past : Past) (i : ℕ) (κ newest : ClientConnection) (count : ℕ) (others : List ClientConnection) → clean_session_of past c ≡ None → has_begun past c ≡ true
    → slice_get (record newest { taken = count } ∷ others) i ≡ Some κ → 1 ≤ count → κ.taken ≡ 0 → κ.confirmed ≡ false
    → AreWelcome (accepted_at κ.name c ∷ past) c (with_one_counted i (record newest { taken = count } ∷ others)) → ⊥
after_newest limits c past zero κ newest count others none begun at some new unconfirmed step =
    let same : record newest { taken = count } ≡ κ = cc in
    let e : count ≡ κ.taken = ap (λ (z : ClientConnection). z.taken) same in
    omega (arith, some, new, e)
after_newest limits c past (suc j) κ newest count others none begun at some new unconfirmed step =
    none_older past c j κ (record newest { taken = count }) others none begun at unconfirmed step

pub lingers_takes : (limits : Limits) (c : Client) (s : Story) (i : ℕ) (κ : ClientConnection) (w : Written) → IsLife limits c s → (l : Lingers limits c s) → slice_get s.connections i ≡ Some κ → slice_get κ.written κ.taken ≡ Some w
    → AreWelcome (place_of limits s.past (command_of κ.name κ.taken w.packet) ∷ s.past) c (with_one_counted i s.connections)
    → Lingers limits c (with_connections (place_of limits s.past (command_of κ.name κ.taken w.packet) ∷ s.past) s.keeper (with_one_counted i s.connections))
lingers_takes limits c s i κ w life l stands next step = by (life_command limits c s i κ w life stands next)
  where
    command : Command
    command = command_of κ.name κ.taken w.packet

    x : ConnectionName
    x = l.newest.name

    untouched : κ.taken ≡ 0 → IsUntouched limits s.past c κ
    untouched = each_there (λ (μ : ClientConnection). μ.taken ≡ 0 → IsUntouched limits s.past c μ) i s.connections κ stands life.connections.untouched

    named : any_named (same_connection x) s.connections ≡ true
    named = head_named x s.connections l.newest l.count l.others refl l.are

    nobody : (d : Client) → current_connection s.past d ≡ Some x → ⊥
    nobody = nobody_there s.past c x s.connections l.since.none life.connections.nobody named

    Goal : Type 0
    Goal = Lingers limits c (with_connections (place_of limits s.past command ∷ s.past) s.keeper (with_one_counted i s.connections))

    silent : (b : Bool) → is_packet_of command x ≡ b → IsOwnCommand c κ w.packet command → sends_to x (answers_at limits (place_of limits s.past command) s.past) ≡ []
    silent false e kind = place_to_nobody limits (place_of limits s.past command) s.past x e nobody
    silent true e (inr k) =
        let same : κ.name ≡ x = same_name κ.name x (sym (ap (λ d. is_packet_of d x) k.1) ∙ e) in
        ap (λ d. sends_to x (answers_at limits (place_of limits s.past d) s.past)) k.1
        ∙ ap (λ p. sends_to x (answers_at limits p s.past))
        (nobodys_mark limits s.past c s.connections κ.name w.packet life.connections.nobody (ap (λ y. any_named (same_connection y) s.connections) same ∙ named) (λ current. nobody c (current ∙ ap (λ y. Some y) same)))
        ∙ nothing_answered limits s.past κ.name x w.packet
    silent true e (inl k) = absurd (first_taken i s.connections κ l.newest l.count l.others life.connections.names stands l.are l.since.some k.0 (same_name κ.name x (sym (ap (λ d. is_packet_of d x) k.1) ∙ e)))

    stays : IsOwnCommand c κ w.packet command → accepts command (mark_of limits s.past command) c ≡ None → Goal
    stays kind closed = lingers_placed limits c (place_of limits s.past command) s.past s.keeper i s.connections closed l (silent (is_packet_of command x) refl kind)

    older : κ.taken ≡ 0 → place_of limits s.past command ≡ accepted_at κ.name c → ⊥
    older new at =
        after_newest limits c s.past i κ l.newest l.count l.others l.since.none l.since.begun (subst (λ (cs : List ClientConnection). slice_get cs i ≡ Some κ) l.are stands) l.since.some new
        (ap (λ (z : ClientConnection). z.confirmed) (untouched new).is)
        (subst (λ (q : Place). AreWelcome (q ∷ s.past) c (with_one_counted i (record l.newest { taken = l.count } ∷ l.others))) at
        (subst (λ (cs : List ClientConnection). AreWelcome (place_of limits s.past command ∷ s.past) c (with_one_counted i cs)) l.are step))

    by : IsOwnCommand c κ w.packet command → Goal
    by (inr k) = stays (inr k) (ap (λ d. accepts d (mark_of limits s.past d) c) k.1)
    by (inl k) = two (accepted_or_not κ.name c c false (mark_of limits s.past (commands.Connect κ.name c false)))
      where
        two : (mark_of limits s.past (commands.Connect κ.name c false) ≡ Mark.Accepted) ⊎ (accepts (commands.Connect κ.name c false) (mark_of limits s.past (commands.Connect κ.name c false)) c ≡ None) → Goal
        two (inr closed) = stays (inl k) (ap (λ d. accepts d (mark_of limits s.past d) c) k.1 ∙ closed)
        two (inl mark) = absurd (older k.0 (at_accepted limits s.past c κ.name command k.1 mark))

-- ---- a command of others, and a further Expel

pub lingers_other : (limits : Limits) (c : Client) (s : Story) (command : Command) → IsLife limits c s → (l : Lingers limits c s) → accepts command (mark_of limits s.past command) c ≡ None
    → is_packet_of command l.newest.name ≡ false → Lingers limits c (record s { past = place_of limits s.past command ∷ s.past })
lingers_other limits c s command life l closed other =
    let named = head_named l.newest.name s.connections l.newest l.count l.others refl l.are in
    let place = place_of limits s.past command in
    subst (λ (cs : List ClientConnection). Lingers limits c (with_connections (place ∷ s.past) s.keeper cs)) (counted_none s.connections)
    (lingers_placed limits c place s.past s.keeper (length s.connections) s.connections closed l
    (place_to_nobody limits place s.past l.newest.name other (nobody_there s.past c l.newest.name s.connections l.since.none life.connections.nobody named)))

pub lingers_expelled : (limits : Limits) (c : Client) (s : Story) → IsLife limits c s → Lingers limits c s → Lingers limits c (record s { past = place_of limits s.past (commands.Expel c) ∷ s.past })
lingers_expelled limits c s life l = lingers_other limits c s (commands.Expel c) life l refl refl

pub none_of_head : (test : ConnectionName → Bool) (connections : List ClientConnection) (newest : ClientConnection) (count : ℕ) (others : List ClientConnection) → connections ≡ record newest { taken = count } ∷ others
    → any_named test connections ≡ false → test newest.name ≡ false
none_of_head test connections newest count others are none = (or_none (test newest.name) (any_named test others) (sym (ap (any_named test) are) ∙ none)).0
