-- While a session lasts each event keeps which of a client's publications are new in it and before it.
use Rattle.std.proofs.Common.{◌≡◌, ◌<◌, ◌≤◌, ◌+◌, ℕ, Bool, true, false, if◌then◌else◌, List, [], ◌∷◌, ◌++◌, length, Some, refl, sym, ◌∙◌, ap, ap₂, subst, arith, append_assoc, inl, inr, ◌⊎◌}
use Rattle.std.proofs.lemmas.List.{length-append}
use Rattle.packet.specs.declared.connack.Connack.TheVariants as connacks
use Rattle.packet.specs.declared.packet.Packet.{Packet}
use Rattle.packet.specs.declared.packet.Packet.TheVariants as packets
use Rattle.lists.specs.Lists.{Each}
use Rattle.lists.proofs.OfEach.{each_then}
use Rattle.broker_spec.specs.Place.{Client, Place, Past, Limits}
use Rattle.broker_spec.specs.Sessions.{begins}
use Rattle.broker_spec.specs.NobodyTheorems.{IsSteady}
use Rattle.broker_spec.specs.Received.{is_new}
use Rattle.broker_spec.specs.Commands.{place_of}
use Rattle.client_base.specs.Keeper.{Keeper, next_own_number}
use Rattle.broker_spec.specs.declared.command.Command.{Command}
use Rattle.std.specs.Prelude.{slice_get}
use Rattle.exactly_once.proofs.keeping.StoryTrace.{told_stories_are_sound}
use Rattle.exactly_once.specs.Sends.{put_to}
use Rattle.exactly_once.specs.Sides.{ClientConnection}
use Rattle.exactly_once.specs.Story.{Story, StoryStep}
use Rattle.exactly_once.specs.StoryCommands.{command_of, packet_count, is_packet_of}
use Rattle.exactly_once.specs.Story.StoryStep.{takes, others_take, receives, opens_anew, loses, disconnects, publishes_one, subscribes, unsubscribes}
use Rattle.exactly_once.specs.Carried.{carries, more_by, new_numbers}
use Rattle.exactly_once.specs.InStep.{sessions_begun, IsInStep}
use Rattle.exactly_once.specs.Inside.Shape.{HeldInShape}
use Rattle.exactly_once.proofs.keeping.KeepsServed.{packet_at}
use Rattle.exactly_once.proofs.publishing.kept.Numbers.{same_numbers}
use Rattle.exactly_once.proofs.carrying.KeepsNumbers.{AreWithin, numbers_keep}
use Rattle.exactly_once.proofs.carrying.KeepsPlaces.{none_carried}
use Rattle.exactly_once.proofs.sessions.Beside.{kept_of, IsHeadKept, flags_after, none_kept, goes_beside, with_connections}
use Rattle.exactly_once.proofs.sessions.Awaiting.{HasAwaiting, IsSettled, awaiting_goes}
use Rattle.exactly_once.proofs.sessions.CarriedAlike.{kept_numbers}
use Rattle.exactly_once.proofs.sessions.Life.{IsCounted, IsLife}
use Rattle.exactly_once.proofs.sessions.LifePlaces.{life_command}
use Rattle.exactly_once.proofs.sessions.PublishedGrows.{next_grows, handled_earlier}
use Rattle.exactly_once.proofs.sessions.SaysLasting.{HasSound, stands_sound, takes_alike}
use Rattle.exactly_once.proofs.sessions.Numbered.{HasOlds, Numbered}
use Rattle.exactly_once.proofs.sessions.Numbered.Numbered.{lasts, awaits}

-- ---- which are new

pub counted_all_within : (past : Past) (connections : List ClientConnection) → Each (IsCounted past) connections → AreWithin past connections
counted_all_within past connections h =
    each_then (IsCounted past) (λ (κ : ClientConnection). packet_count κ.name past ≤ length κ.written) connections (λ κ g. let a = g.counted in let b = g.within in omega (arith, a, b)) h

placed : (new : Bool) (command : Command) (past : Past) (l l' k k' : List ClientConnection) (olds : List ℕ) → new_numbers l' past ≡ new_numbers l past → new_numbers k' past ≡ new_numbers k past
    → more_by new (carries l' command past) ≡ more_by new (carries k' command past) → new_numbers l past ≡ olds ++ new_numbers k past
    → new_numbers l' past ++ more_by new (carries l' command past) ≡ olds ++ (new_numbers k' past ++ more_by new (carries k' command past))
placed new command past l l' k k' olds e f more is =
    ap₂ (λ a b. a ++ b) (e ∙ is ∙ ap (λ xs. olds ++ xs) (sym f)) more ∙ append_assoc olds (new_numbers k' past) (more_by new (carries k' command past))

olds_is : (limits : Limits) (c : Client) (flags : List Bool) (s t : Story) (olds : List ℕ) → IsLife limits c s → HasSound limits c flags s
    → new_numbers s.connections s.past ≡ olds ++ new_numbers (kept_of flags s.connections) s.past → (h : StoryStep limits s t)
    → new_numbers t.connections s.past ≡ new_numbers s.connections s.past → new_numbers (kept_of (flags_after flags h) t.connections) s.past ≡ new_numbers (kept_of flags s.connections) s.past
    → new_numbers t.connections t.past ≡ olds ++ new_numbers (kept_of (flags_after flags h) t.connections) t.past
olds_is limits c flags s t olds life sound is (takes i κ w stands next) e f =
    let command = command_of κ.name κ.taken w.packet in
    placed (is_new command (place_of limits s.past command).mark) command s.past s.connections t.connections (kept_of flags s.connections) (kept_of flags t.connections) olds e f
    (takes_alike limits c flags s i κ w life sound stands next command (life_command limits c s i κ w life stands next)) is
olds_is limits c flags s t olds life sound is (others_take command other none) e f =
    let new = is_new command (place_of limits s.past command).mark in
    placed new command s.past s.connections s.connections (kept_of flags s.connections) (kept_of flags s.connections) olds refl refl
    (ap (more_by new) (none_carried s.connections command s.past none ∙ sym (none_carried (kept_of flags s.connections) command s.past (none_kept (is_packet_of command) flags s.connections none)))) is
olds_is limits c flags s t olds life sound is (receives κ others packet are opened next) e f = e ∙ is ∙ ap (λ xs. olds ++ xs) (sym f)
olds_is limits c flags s t olds life sound is (opens_anew x fresh none uncounted) e f = e ∙ is ∙ ap (λ xs. olds ++ xs) (sym f)
olds_is limits c flags s t olds life sound is loses e f = e ∙ is ∙ ap (λ xs. olds ++ xs) (sym f)
olds_is limits c flags s t olds life sound is disconnects e f = e ∙ is ∙ ap (λ xs. olds ++ xs) (sym f)
olds_is limits c flags s t olds life sound is (publishes_one p needs) e f = e ∙ is ∙ ap (λ xs. olds ++ xs) (sym f)
olds_is limits c flags s t olds life sound is (subscribes p on id) e f = e ∙ is ∙ ap (λ xs. olds ++ xs) (sym f)
olds_is limits c flags s t olds life sound is (unsubscribes p on id) e f = e ∙ is ∙ ap (λ xs. olds ++ xs) (sym f)

-- ---- sessions that began

fewer : (b : Bool) (n : ℕ) → (if b then 1 else 0) + n ≤ 1 → n ≤ 1
fewer true n h = omega (arith, h)
fewer false n h = omega (arith, h)

pub one_below : (place : Place) (past : Past) (c : Client) → sessions_begun (place ∷ past) c ≤ 1 → sessions_begun past c ≤ 1
one_below place past c h = fewer (begins place past c) (sessions_begun past c) h

pub one_before : (limits : Limits) (c : Client) (s t : Story) → StoryStep limits s t → sessions_begun t.past c ≤ 1 → sessions_begun s.past c ≤ 1
one_before limits c s t (takes i κ w stands next) h = one_below (place_of limits s.past (command_of κ.name κ.taken w.packet)) s.past c h
one_before limits c s t (others_take command other none) h = one_below (place_of limits s.past command) s.past c h
one_before limits c s t (receives κ others packet are opened next) h = h
one_before limits c s t (opens_anew x fresh none uncounted) h = h
one_before limits c s t loses h = h
one_before limits c s t disconnects h = h
one_before limits c s t (publishes_one p needs) h = h
one_before limits c s t (subscribes p on id) h = h
one_before limits c s t (unsubscribes p on id) h = h

-- ---- the rows

olds_goes : (limits : Limits) (c : Client) (flags : List Bool) (s t : Story) (bound later : ℕ) → IsLife limits c s → HasSound limits c flags s → bound ≤ later → (h : StoryStep limits s t)
    → HasOlds c flags s.past s.connections bound → HasOlds c (flags_after flags h) t.past t.connections later
olds_goes limits c flags s t bound later life sound less h o =
    let within = counted_all_within s.past s.connections life.connections.counted in
    record {
      olds = o.olds;
      is = olds_is limits c flags s t o.olds life sound o.is h (same_numbers s.connections t.connections s.past (numbers_keep limits s t within h))
          (same_numbers (kept_of flags s.connections) (kept_of (flags_after flags h) t.connections) s.past (kept_numbers limits flags s t sound.head sound.gone life.connections.names within h));
      rising = o.rising;
      below = each_then (λ n. n < bound) (λ n. n < later) o.olds (λ n under. omega (arith, under, less)) o.below;
      alone = λ one. o.alone (one_before limits c s t h one);
    }

-- what was published before stays so, since the session lasts
keeping : (flags : List Bool) (limits : Limits) (past : Past) (keeper : Keeper) (κ : ClientConnection) (others : List ClientConnection) (packet : Packet) (n : ℕ) → IsHeadKept flags
    → HeldInShape limits past keeper (kept_of flags (κ ∷ others)) → keeper.is_open ≡ true → keeper.is_online ≡ false → keeper.was_served ≡ true → slice_get (put_to limits past κ.name) n ≡ Some packet
    → (packet ≡ packets.Connack (connacks.Accepted false)) → ⊥
keeping [] limits past keeper κ others packet n head held opened off served next = packet_at (λ (p : Packet). (p ≡ packets.Connack (connacks.Accepted false)) → ⊥) (put_to limits past κ.name) n packet (held.2 opened off served) next
keeping (true ∷ flags) limits past keeper κ others packet n head held opened off served next =
    packet_at (λ (p : Packet). (p ≡ packets.Connack (connacks.Accepted false)) → ⊥) (put_to limits past κ.name) n packet (held.2 opened off served) next
keeping (false ∷ flags) limits past keeper κ others packet n head held opened off served next = absurd head

beside_earlier : (limits : Limits) (c : Client) (flags : List Bool) (s t : Story) → IsHeadKept flags → HeldInShape limits s.past s.keeper (kept_of flags s.connections) → StoryStep limits s t → t.keeper.earlier ≡ s.keeper.earlier
beside_earlier limits c flags s t head held (takes i κ w stands next) = refl
beside_earlier limits c flags s t head held (others_take command other none) = refl
beside_earlier limits c flags s t head held (receives κ others packet are opened next) =
    handled_earlier packet (record { keeper = s.keeper; connection = κ })
    (λ off served. keeping flags limits s.past s.keeper κ others packet κ.handled head (subst (λ (l : List ClientConnection). HeldInShape limits s.past s.keeper (kept_of flags l)) are held) opened off served next)
beside_earlier limits c flags s t head held (opens_anew x fresh none uncounted) = refl
beside_earlier limits c flags s t head held loses = refl
beside_earlier limits c flags s t head held disconnects = refl
beside_earlier limits c flags s t head held (publishes_one p needs) = refl
beside_earlier limits c flags s t head held (subscribes p on id) = refl
beside_earlier limits c flags s t head held (unsubscribes p on id) = refl

pub numbered_goes : (limits : Limits) → IsSteady limits → (c : Client) (flags : List Bool) (s t : Story) → IsLife limits c s → Numbered limits c flags s → (h : StoryStep limits s t) → IsInStep t
    → Numbered limits c (flags_after flags h) t
numbered_goes limits steady c flags s t life (lasts b o alone) h step =
    let told = told_stories_are_sound limits steady c (with_connections s.past s.keeper (kept_of flags s.connections)) b.told in
    let same = beside_earlier limits c flags s t b.head told.shape.held h in
    let long = ap length same in
    lasts (goes_beside limits c flags s t life.connections.names b h)
    (olds_goes limits c flags s t (length s.keeper.earlier) (length t.keeper.earlier) life (stands_sound limits steady c flags s life (inr b)) (omega (arith, long)) h o)
    (λ one. same ∙ alone (one_before limits c s t h one))
numbered_goes limits steady c flags s t life (awaits a o again) h step = by (awaiting_goes limits c flags s t life.connections.names a h life.keeper.numbers step)
  where
    sound : HasSound limits c flags s
    sound = stands_sound limits steady c flags s life (inl a)

    by : HasAwaiting limits c (flags_after flags h) t ⊎ IsSettled limits c (flags_after flags h) s t → Numbered limits c (flags_after flags h) t
    by (inl later) =
        awaits later (olds_goes limits c flags s t (next_own_number s.keeper) (next_own_number t.keeper) life sound (next_grows limits s t life.keeper.numbers h) h o) (λ one. again (one_before limits c s t h one))
    by (inr settled) =
        let moved = ap length settled.moved in
        let long = length-append s.keeper.earlier s.keeper.own in
        lasts settled.beside (olds_goes limits c flags s t (next_own_number s.keeper) (length t.keeper.earlier) life sound (omega (arith, moved, long)) h o)
        (λ one. absurd (again (one_before limits c s t h one)))
