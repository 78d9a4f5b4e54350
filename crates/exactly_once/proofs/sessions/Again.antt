-- Where a session of a client that was served begins again: what its newest connection is sent begins with CONNACK 0 without
-- session present, and the client awaits it.
use Rattle.std.proofs.Common.{◌≡◌, ℕ, zero, suc, true, false, not, ◌&&◌, ◌||◌, if◌then◌else◌, List, [], ◌∷◌, ◌++◌, Some, None, refl, ◌∙◌, ap, ap₂, subst, length, arith}
use Rattle.std.specs.Prelude.{slice_get}
use Rattle.lists.specs.Lists.{IsDistinct}
use Rattle.packet.specs.declared.packet.Packet.{Packet}
use Rattle.broker_spec.specs.Connection.{ConnectionName}
use Rattle.broker_spec.specs.Place.{Client, Mark, Place, Past, Limits}
use Rattle.broker_spec.specs.Sessions.{begins, is_beginning, current_connection, clean_session_of}
use Rattle.broker_spec.specs.Marks.{mark_of}
use Rattle.broker_spec.specs.Commands.{place_of, past_of}
use Rattle.broker_spec.specs.Answers.{welcome}
use Rattle.broker_spec.specs.AnswersInOrder.{answers_at}
use Rattle.broker_spec.specs.Sends.{resent_outputs}
use Rattle.broker_spec.specs.Times.{entries_of}
use Rattle.broker_spec.specs.declared.command.Command.{Command}
use Rattle.broker_spec.specs.declared.command.Command.TheVariants as commands
use Rattle.client_base.specs.Keeper.{Keeper, ids_in_use}
use Rattle.client_base.specs.Connected.{opening_connect}
use Rattle.exactly_once.specs.Sides.{ClientConnection}
use Rattle.exactly_once.specs.Sends.{sends_to, put_to}
use Rattle.exactly_once.specs.StoryCommands.{command_of}
use Rattle.exactly_once.specs.StoryTrace.{StoryTrace, unserved}
use Rattle.exactly_once.specs.StoryTrace.StoryTrace.{goes_on}
use Rattle.exactly_once.specs.Story.StoryStep.{takes}
use Rattle.exactly_once.specs.InStep.{opens_on, has_begun, began_again}
use Rattle.exactly_once.specs.Inside.Shape.{NamesApart}
use Rattle.exactly_once.proofs.Takes.{same_name_self}
use Rattle.exactly_once.proofs.subscribing.places.Accepted.{opened}
use Rattle.exactly_once.proofs.subscribing.events.OtherConnects.{closed_none}
use Rattle.exactly_once.proofs.sessions.Beside.{kept_of, AreGone, with_connections}
use Rattle.exactly_once.proofs.sessions.Anew.{flags_of, IsUntouched, AreUntouched, waiting, session_lost, opens_again, is_zero}
use Rattle.exactly_once.proofs.sessions.Awaiting.{HasAwaiting}

-- the place of an accepted Connect of the client
abbrev pub accepted_at : ConnectionName → Client → Place
accepted_at x c = record { command = commands.Connect x c false; mark = Mark.Accepted }

-- it begins a session if there is none
pub begins_there : (past : Past) (c : Client) (x : ConnectionName) → clean_session_of past c ≡ None → begins (accepted_at x c) past c ≡ true
begins_there past c x none = ap₂ is_beginning (opened x c) none

-- and the CONNACK says so
told_so : (limits : Limits) (past : Past) (c : Client) (x : ConnectionName) → clean_session_of past c ≡ None → put_to limits past x ≡ [] → (more : List Packet) × (put_to limits (accepted_at x c ∷ past) x ≡ session_lost ∷ more)
unfolding put_to
told_so limits past c x none nothing =
    let place = accepted_at x c in
    let rest = resent_outputs x (length past) (entries_of limits (place ∷ past) c) in (
      sends_to x rest,
      ap (λ xs. xs ++ sends_to x (answers_at limits place past)) nothing
          ∙ closed_none x (current_connection past c) (welcome x (not (begins place past c)) ∷ rest)
          ∙ ap (λ b. sends_to x (welcome x (not b) ∷ rest)) (begins_there past c x none)
          ∙ ap (λ b. if b then session_lost ∷ sends_to x rest else sends_to x rest) (same_name_self x),
    )

-- it began again
pub again_there : (past : Past) (c : Client) (x : ConnectionName) → clean_session_of past c ≡ None → has_begun past c ≡ true → began_again (accepted_at x c ∷ past) c x ≡ true
again_there past c x none before =
    ap (λ b. b || began_again past c x)
    (ap₂ (λ a b. a && b) (ap (opens_on x) (opened x c) ∙ same_name_self x) (ap₂ (λ a b. a && b) (begins_there past c x none) before))

-- the connections that are kept: of none that is left out nothing was taken
pub all_gone : (connections : List ClientConnection) → AreGone (flags_of connections) connections
all_gone [] = tt
all_gone (κ ∷ connections) = by κ.taken refl (all_gone connections)
  where
    by : (n : ℕ) → κ.taken ≡ n → AreGone (flags_of connections) connections → AreGone (is_zero n ∷ flags_of connections) (κ ∷ connections)
    by zero e h = h
    by (suc n) e h = (omega (arith, e), h)

-- the Connect of the newest connection is taken and accepted, and no session is there
pub begins_awaiting : (limits : Limits) (list : List Command) (c : Client) (keeper : Keeper) (κ : ClientConnection) (others : List ClientConnection) → clean_session_of (past_of limits list) c ≡ None
    → has_begun (past_of limits list) c ≡ true → mark_of limits (past_of limits list) (commands.Connect κ.name c false) ≡ Mark.Accepted → IsDistinct (ids_in_use (unserved c [] []))
    → AreUntouched limits (past_of limits list) c (κ ∷ others) → NamesApart (κ ∷ others) → κ.taken ≡ 0
    → keeper.client ≡ c → keeper.is_online ≡ false → keeper.was_served ≡ true → keeper.requests ≡ []
    → HasAwaiting limits c (true ∷ flags_of others) (with_connections (accepted_at κ.name c ∷ past_of limits list) keeper (record κ { taken = suc κ.taken } ∷ others))
begins_awaiting limits list c keeper κ others none before mark apart fresh names new client offline served unasked =
    let past = past_of limits list in
    let u : IsUntouched limits past c κ = fresh.0 new in
    let told = told_so limits past c κ.name none u.queued in
    let next : slice_get κ.written κ.taken ≡ Some (opening_connect c) = ap (λ (z : ClientConnection). slice_get z.written z.taken) u.is in
    let command : command_of κ.name κ.taken (opening_connect c).packet ≡ commands.Connect κ.name c false = ap (λ n. command_of κ.name n (opening_connect c).packet) new in
    let place : place_of limits past (command_of κ.name κ.taken (opening_connect c).packet) ≡ accepted_at κ.name c =
    ap (place_of limits past) command ∙ ap (λ m. let p : Place = record { command = commands.Connect κ.name c false; mark = m } in p) mark in
    record {
      newest = record κ { taken = suc κ.taken };
      others = others;
      are = refl;
      awaits = record {
        client = client;
        offline = offline;
        served = served;
        unasked = unasked;
        again = again_there past c κ.name none before;
        unconfirmed = ap (λ (z : ClientConnection). z.confirmed) u.is;
        unhandled = ap (λ (z : ClientConnection). z.handled) u.is;
        more = told.0;
        first = told.1;
        head = tt;
        gone = all_gone others;
        told = λ earlier numbers. subst (λ (p : Place). StoryTrace limits c (with_connections (p ∷ past) (waiting c earlier [] keeper.is_open) (record κ { taken = suc κ.taken } ∷ kept_of (flags_of others) others))) place
            (goes_on (opens_again limits list c earlier [] κ others keeper.is_open none numbers tt apart fresh names new) (takes 0 κ (opening_connect c) refl next));
      };
    }
