-- After a place the sessions are those that its past says.
use Rattle.std.proofs.Common.{◌≡◌, ℕ, Bool, ◌⊎◌, inl, inr, Option, Some, None, List, [], ◌∷◌, length, refl, ap, ap₂, ◌∙◌, sym}
use Rattle.retained.specs.Retained.{RetainedTopics}
use Rattle.broker_spec.specs.Connection.{ConnectionName}
use Rattle.broker_spec.specs.Place.{Client, Mark, Place, Past, Limits, only_if}
use Rattle.broker_spec.specs.Sessions.{accepts, current_connection, clean_session_of}
use Rattle.broker_spec.specs.Subscriptions.{subscriptions_of}
use Rattle.broker_spec.specs.Received.{received_of}
use Rattle.broker_spec.specs.Owner.{insert_client, named_by, named}
use Rattle.broker_spec.specs.Retained.{retained_publications}
use Rattle.broker_spec.specs.Times.{window_at, entries_of}
use Rattle.broker_base.specs.ClientSession.{ClientSession, client_session}
use Rattle.broker_base.specs.SessionStep.{session_connected, session_by, session_touched}
use Rattle.broker_base.specs.State.{Sessions, keyed, table, session_in, put_session}
use Rattle.broker_base.specs.Step.{sessions_left, sessions_with, IsWindow}
use Rattle.broker_spec.specs.declared.command.Command.{Command}
use Rattle.broker_spec.specs.declared.command.Command.TheVariants as commands
use Rattle.broker_base.proofs.KeptAfter.{kept_with}
use Rattle.broker_base.proofs.PastsAtRest.{kept_step}
use Rattle.broker_spec.proofs.ClientsInOrder.{IsNamed, same_self, rising_named, session_is_named}
use Rattle.broker_base.proofs.SessionsInOrder.{session_found, put_is}
use Rattle.broker_base.proofs.OthersStay.{left_with, left_is}

-- the session of a client is found in the table
pub session_is : (limits : Limits) (past : Past) (c : Client) → session_in c (table (client_session limits past) (named past)) ≡ client_session limits past c
session_is limits past c = session_found (client_session limits past) c (named past) (rising_named past) (by (session_is_named past c))
  where
    by : (clean_session_of past c ≡ None) ⊎ IsNamed c (named past) → (client_session limits past c ≡ None) ⊎ IsNamed c (named past)
    by (inl e) = inl (ap (λ session. kept_with (length past) session (current_connection past c) (subscriptions_of past c) (received_of past c) (entries_of limits past c)) e)
    by (inr named) = inr named

keyed_left : (w : ℕ) (place : Place) (content : RetainedTopics) (c : Client) (o : Option ClientSession) (rows : Sessions) →
    sessions_left w place content (keyed c o rows) ≡ keyed c (left_with w place content c o) (sessions_left w place content rows)
keyed_left w place content c None rows = refl
keyed_left w place content c (Some kept) rows = refl

table_left : (w : ℕ) (place : Place) (content : RetainedTopics) (f : Client → Option ClientSession) (ds : List Client) →
    sessions_left w place content (table f ds) ≡ table (λ c. left_with w place content c (f c)) ds
table_left w place content f [] = refl
table_left w place content f (d ∷ ds) =
    keyed_left w place content d (f d) (table f ds) ∙ ap (λ rows. keyed d (left_with w place content d (f d)) rows) (table_left w place content f ds)

table_same : (f g : Client → Option ClientSession) (ds : List Client) → ((c : Client) → f c ≡ g c) → table f ds ≡ table g ds
table_same f g [] same = refl
table_same f g (d ∷ ds) same = ap₂ (λ o rows. keyed d o rows) (same d) (table_same f g ds same)

left_next : (limits : Limits) (later : ℕ) → IsWindow limits later → (place : Place) (past : Past) → ((c : Client) → accepts place.command place.mark c ≡ None) →
    sessions_left (window_at limits (place ∷ past)) place (retained_publications past) (table (client_session limits past) (named past)) ≡ table (client_session limits (place ∷ past)) (named past)
left_next limits later follows place past none =
    table_left (window_at limits (place ∷ past)) place (retained_publications past) (client_session limits past) (named past)
    ∙ table_same (λ c. left_with (window_at limits (place ∷ past)) place (retained_publications past) c (client_session limits past c)) (client_session limits (place ∷ past)) (named past)
    (λ c. left_is limits later follows place past c (none c) ∙ sym (kept_step limits later follows place past c))

abbrev pub at : Command → Mark → Place
at command mark = record { command = command; mark = mark }

sessions_opened : (limits : Limits) (later : ℕ) → IsWindow limits later → (past : Past) (x : ConnectionName) (c : Client) (clean : Bool) (place : Place) (w : ℕ) →
    place ≡ at (commands.Connect x c clean) Mark.Accepted → w ≡ window_at limits (place ∷ past) →
    put_session c (session_connected w (x, clean) (session_in c (table (client_session limits past) (named past))))
    (sessions_left w place (retained_publications past) (table (client_session limits past) (named past)))
    ≡ table (client_session limits (place ∷ past)) (insert_client c (named past))
sessions_opened limits later follows past x c clean place w is window =
    ap₂ (λ old rows. put_session c (session_connected w (x, clean) old) rows)
    (session_is limits past c) (table_left w place (retained_publications past) (client_session limits past) (named past))
    ∙ sym (put_is (client_session limits (place ∷ past)) (λ d. left_with w place (retained_publications past) d (client_session limits past d)) c
    (session_connected w (x, clean) (client_session limits past c)) (named past)
    (step c ∙ ap (λ opened. session_by w place (retained_publications past) c opened (client_session limits past c))
    (ap (λ (p : Place). accepts p.command p.mark c) is ∙ ap (λ b. only_if b (Some (x, clean))) (same_self c)))
    (λ d other. step d ∙ sym (ap (λ v. left_with v place (retained_publications past) d (client_session limits past d)) window
    ∙ left_is limits later follows place past d (ap (λ (p : Place). accepts p.command p.mark d) is ∙ ap (λ b. only_if b (Some (x, clean))) other)
    ∙ ap (λ v. session_touched v place (retained_publications past) d (client_session limits past d)) (sym window)))
    (rising_named past))
  where
    step : (d : Client) → client_session limits (place ∷ past) d ≡ session_touched w place (retained_publications past) d (client_session limits past d)
    step d = kept_step limits later follows place past d ∙ ap (λ v. session_touched v place (retained_publications past) d (client_session limits past d)) (sym window)

sessions_by : (limits : Limits) (later : ℕ) → IsWindow limits later → (past : Past) (command : Command) (mark : Mark) →
    sessions_with (window_at limits (at command mark ∷ past)) (at command mark) (retained_publications past) (table (client_session limits past) (named past)) command mark
    ≡ table (client_session limits (at command mark ∷ past)) (named_by command mark (named past))
sessions_by limits later follows past (commands.Connect x c clean) Mark.Accepted =
    sessions_opened limits later follows past x c clean (at (commands.Connect x c clean) Mark.Accepted) (window_at limits (at (commands.Connect x c clean) Mark.Accepted ∷ past)) refl refl
sessions_by limits later follows past command mark = left_next limits later follows (at command mark) past (λ c. refl)

pub sessions_are : (limits : Limits) (later : ℕ) → IsWindow limits later → (place : Place) (past : Past) →
    sessions_with (window_at limits (place ∷ past)) place (retained_publications past) (table (client_session limits past) (named past)) place.command place.mark
    ≡ table (client_session limits (place ∷ past)) (named (place ∷ past))
unfolding named
sessions_are limits later follows place past = sessions_by limits later follows past place.command place.mark
