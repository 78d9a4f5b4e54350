-- A client without a session, which receives nothing of an earlier one any more: each event keeps
-- what it accepted, until a session begins.
use Rattle.std.proofs.Common.{◌≡◌, ℕ, zero, suc, Bool, true, false, if◌then◌else◌, List, [], ◌∷◌, ◌++◌, length, Some, None, refl, sym, ◌∙◌, ap, subst, inl, inr, ◌⊎◌, ◌≤◌}
use Rattle.std.specs.Prelude.{slice_get}
use Rattle.packet.specs.declared.packet.Packet.TheVariants as packets
use Rattle.lists.specs.Lists.{Each}
use Rattle.broker_spec.specs.Place.{Client, Mark, Place, Past, Limits}
use Rattle.broker_spec.specs.Sessions.{accepts}
use Rattle.broker_spec.specs.Marks.{mark_of}
use Rattle.broker_spec.specs.Commands.{place_of, past_of}
use Rattle.broker_spec.specs.declared.command.Command.{Command}
use Rattle.broker_spec.specs.declared.command.Command.TheVariants as commands
use Rattle.client_base.specs.Keeper.{Written, Keeper}
use Rattle.client_base.specs.Called.{written_for}
use Rattle.client_base.specs.Connected.{new_connection}
use Rattle.client_base.specs.Handled.{packet_handled}
use Rattle.client_base.specs.Written.{plain, writes_first}
use Rattle.exactly_once.specs.Sides.{ClientConnection, Side}
use Rattle.exactly_once.specs.Story.{Story, StoryStep}
use Rattle.exactly_once.specs.StoryCommands.{command_of, with_one_counted, names_client}
use Rattle.exactly_once.specs.Story.StoryStep.{takes, others_take, receives, opens_anew, loses, disconnects, publishes_one, subscribes, unsubscribes}
use Rattle.exactly_once.specs.InStep.{AreWelcome, IsInStep, opened_in, sessions_begun}
use Rattle.exactly_once.proofs.keeping.CurrentOnes.{none_opened}
use Rattle.exactly_once.proofs.publishing.Last.{each_there}
use Rattle.exactly_once.proofs.subscribing.Given.{stays_handled}
use Rattle.exactly_once.proofs.sessions.Beside.{with_connections, kept_of}
use Rattle.exactly_once.proofs.sessions.Anew.{flags_of, IsUntouched}
use Rattle.exactly_once.proofs.sessions.Again.{accepted_at}
use Rattle.exactly_once.proofs.sessions.EachPlaced.{IsFresh, IsOwnCommand, own_fresh, counted_none}
use Rattle.exactly_once.proofs.sessions.Openings.{unopened}
use Rattle.exactly_once.proofs.sessions.AcceptedShares.{accepts_same, accepted_head, accepted_new}
use Rattle.exactly_once.proofs.sessions.Life.{HasConnections, HasKeeper, IsLife}
use Rattle.exactly_once.proofs.sessions.LifePlaces.{life_command}
use Rattle.exactly_once.proofs.sessions.Lasting.{Lasts}
use Rattle.exactly_once.proofs.sessions.BeginsAgain.{stands_anew, lasts_anew, StandsAnew}
use Rattle.exactly_once.proofs.sessions.Parted.{Parts, parts_placed, accepted_or_not, none_older, at_accepted}
use Rattle.exactly_once.proofs.sessions.NothingNew.{nothing_new_yet, again_begun}
use Rattle.exactly_once.specs.Carried.{new_numbers, is_this}

-- ---- what is left to show of each event: it stays so, or a session begins

pub record Begins (limits : Limits) (c : Client) (t : Story) : Type 0 where
  pub flags : List Bool
  pub stands : StandsAnew limits c flags t
  pub lasts : Lasts limits c flags t.past t.connections
  pub nothing : new_numbers (kept_of flags t.connections) t.past ≡ []
  pub again : sessions_begun t.past c ≤ 1 → ⊥

begins_first : (limits : Limits) (c : Client) (list : List Command) (past : Past) (keeper : Keeper) (κ : ClientConnection) (others : List ClientConnection) (place : Place) → past ≡ past_of limits list → place ≡ accepted_at κ.name c
    → mark_of limits past (commands.Connect κ.name c false) ≡ Mark.Accepted → κ.taken ≡ 0 → HasConnections limits c past (κ ∷ others) → HasKeeper c past keeper (κ ∷ others) → Each (IsFresh place c) (κ ∷ others)
    → Parts limits c past (κ ∷ others) → Begins limits c (with_connections (place ∷ past) keeper (record κ { taken = suc κ.taken } ∷ others))
begins_first limits c list past keeper κ others place is at mark new h k fresh p =
    subst (λ (q : Place). Begins limits c (with_connections (q ∷ past) keeper (record κ { taken = suc κ.taken } ∷ others))) (sym at)
    (record {
      flags = true ∷ flags_of others;
      stands = stands_anew limits list past c keeper κ others is p.none p.begun mark h new k;
      nothing = nothing_new_yet limits past c κ others h.untouched new;
      again = again_begun past c κ.name p.none p.begun;
      lasts = lasts_anew limits past c κ others p.none h (subst (λ (q : Place). Each (IsFresh q c) (κ ∷ others)) at fresh) p.all;
    })

parted_takes : (limits : Limits) (c : Client) (s : Story) (i : ℕ) (κ : ClientConnection) (w : Written) (connections : List ClientConnection) → IsLife limits c (record s { connections = connections })
    → Parts limits c s.past connections → slice_get connections i ≡ Some κ → slice_get κ.written κ.taken ≡ Some w
    → AreWelcome (place_of limits s.past (command_of κ.name κ.taken w.packet) ∷ s.past) c (with_one_counted i connections)
    → Parts limits c (place_of limits s.past (command_of κ.name κ.taken w.packet) ∷ s.past) (with_one_counted i connections)
    ⊎ Begins limits c (with_connections (place_of limits s.past (command_of κ.name κ.taken w.packet) ∷ s.past) s.keeper (with_one_counted i connections))
parted_takes limits c s i κ w connections life p stands next step = by (life_command limits c (record s { connections = connections }) i κ w life stands next)
  where
    command : Command
    command = command_of κ.name κ.taken w.packet

    untouched : κ.taken ≡ 0 → IsUntouched limits s.past c κ
    untouched = each_there (λ (μ : ClientConnection). μ.taken ≡ 0 → IsUntouched limits s.past c μ) i connections κ stands life.connections.untouched

    Goal : Type 0
    Goal = Parts limits c (place_of limits s.past command ∷ s.past) (with_one_counted i connections) ⊎ Begins limits c (with_connections (place_of limits s.past command ∷ s.past) s.keeper (with_one_counted i connections))

    stays : accepts command (mark_of limits s.past command) c ≡ None → Goal
    stays closed = inl (parts_placed limits c (place_of limits s.past command) s.past i connections closed p)

    begin : IsOwnCommand c κ w.packet command → κ.taken ≡ 0 → place_of limits s.past command ≡ accepted_at κ.name c → mark_of limits s.past (commands.Connect κ.name c false) ≡ Mark.Accepted → Goal
    begin kind new at mark = where_it_is i connections life p stands step
      where
        where_it_is : (j : ℕ) (l : List ClientConnection) → IsLife limits c (record s { connections = l }) → Parts limits c s.past l → slice_get l j ≡ Some κ
            → AreWelcome (place_of limits s.past command ∷ s.past) c (with_one_counted j l)
            → Parts limits c (place_of limits s.past command ∷ s.past) (with_one_counted j l) ⊎ Begins limits c (with_connections (place_of limits s.past command ∷ s.past) s.keeper (with_one_counted j l))
        where_it_is j [] life p stands step = absurd (cc)
        where_it_is (suc j) (μ ∷ others) life p stands step =
            absurd (none_older s.past c j κ μ others p.none p.begun stands (ap (λ (z : ClientConnection). z.confirmed) (untouched new).is)
            (subst (λ (q : Place). AreWelcome (q ∷ s.past) c (with_one_counted (suc j) (μ ∷ others))) at step))
        where_it_is zero (μ ∷ others) life p stands step =
            let same : κ ≡ μ = cc in
            let fresh = own_fresh limits s.past c 0 κ w.packet command (μ ∷ others) kind untouched stands life.connections.names in
            inr (begins_first limits c life.list s.past s.keeper μ others (place_of limits s.past command) life.past_is
            (at ∙ ap (λ (z : ClientConnection). accepted_at z.name c) same) (subst (λ (z : ClientConnection). mark_of limits s.past (commands.Connect z.name c false) ≡ Mark.Accepted) same mark)
            (subst (λ (z : ClientConnection). z.taken ≡ 0) same new) life.connections life.keeper fresh p)

    by : IsOwnCommand c κ w.packet command → Goal
    by (inr k) = stays (ap (λ d. accepts d (mark_of limits s.past d) c) k.1)
    by (inl k) = two (accepted_or_not κ.name c c false (mark_of limits s.past (commands.Connect κ.name c false)))
      where
        two : (mark_of limits s.past (commands.Connect κ.name c false) ≡ Mark.Accepted) ⊎ (accepts (commands.Connect κ.name c false) (mark_of limits s.past (commands.Connect κ.name c false)) c ≡ None) → Goal
        two (inr closed) = stays (ap (λ d. accepts d (mark_of limits s.past d) c) k.1 ∙ closed)
        two (inl mark) = begin (inl k) k.0 (at_accepted limits s.past c κ.name command k.1 mark) mark

-- ---- the first connection

parts_head : (limits : Limits) (c : Client) (past : Past) (κ κ' : ClientConnection) (others : List ClientConnection) → κ'.name ≡ κ.name → Parts limits c past (κ ∷ others) → Parts limits c past (κ' ∷ others)
parts_head limits c past κ κ' others name p =
    record {
      none = p.none;
      begun = p.begun;
      head = ap (opened_in past c) name ∙ p.head;
      all = λ start. accepts_same limits c past past (κ ∷ others) (κ' ∷ others) start refl (accepted_head past c start κ κ' others name (ap (is_this start) p.head)) (p.all start);
    }

parts_written : (limits : Limits) (c : Client) (past : Past) (more : List Written) (connections : List ClientConnection) → Parts limits c past connections → Parts limits c past (writes_first more connections)
parts_written limits c past more [] p = p
parts_written limits c past more (κ ∷ others) p = parts_head limits c past κ (record κ { written = κ.written ++ more }) others refl p

parts_maybe : (limits : Limits) (c : Client) (past : Past) (b : Bool) (more : List Written) (connections : List ClientConnection) → Parts limits c past connections
    → Parts limits c past (if b then writes_first more connections else connections)
parts_maybe limits c past true more connections p = parts_written limits c past more connections p
parts_maybe limits c past false more connections p = p

-- ---- the events

pub parted_goes : (limits : Limits) (c : Client) (s t : Story) → IsLife limits c s → Parts limits c s.past s.connections → StoryStep limits s t → IsInStep t → Parts limits c t.past t.connections ⊎ Begins limits c t
parted_goes limits c s t life p (takes i κ w stands next) step =
    parted_takes limits c s i κ w s.connections life p stands next
    (subst (λ (d : Client). AreWelcome (place_of limits s.past (command_of κ.name κ.taken w.packet) ∷ s.past) d (with_one_counted i s.connections)) life.keeper.client step)
parted_goes limits c s t life p (others_take command other none) step =
    let place = place_of limits s.past command in
    let mine = subst (λ (d : Client). names_client s.past d command → ⊥) life.keeper.client other in
    inl (subst (Parts limits c (place ∷ s.past)) (counted_none s.connections)
    (parts_placed limits c place s.past (length s.connections) s.connections (none_opened s.past c command place.mark mine) p))
parted_goes limits c s t life p (receives κ others packet are opened next) step =
    let side : Side = record { keeper = s.keeper; connection = κ } in
    inl (parts_head limits c s.past κ (packet_handled packet side).connection others (stays_handled packet side).name (subst (Parts limits c s.past) are p))
parted_goes limits c s t life p (opens_anew x fresh none uncounted) step =
    let κ = new_connection s.keeper.client x in
    inl (record {
      none = p.none;
      begun = p.begun;
      head = unopened s.past c x uncounted;
      all = λ start. accepts_same limits c s.past s.past s.connections (κ ∷ s.connections) start refl (accepted_new s.past c start κ s.connections refl) (p.all start);
    })
parted_goes limits c s t life p loses step = inl p
parted_goes limits c s t life p disconnects step = inl (parts_maybe limits c s.past s.keeper.is_online (plain packets.Disconnect ∷ []) s.connections p)
parted_goes limits c s t life p (publishes_one q needs) step = inl (parts_written limits c s.past (written_for q s.keeper) s.connections p)
parted_goes limits c s t life p (subscribes q on id) step = inl (parts_written limits c s.past (plain (packets.Subscribe q) ∷ []) s.connections p)
parted_goes limits c s t life p (unsubscribes q on id) step = inl (parts_written limits c s.past (plain (packets.Unsubscribe q) ∷ []) s.connections p)
