-- Who is welcomed back after the start of a ballot has a session that was kept.
use Rattle.std.proofs.Common.{◌≡◌, ℕ, Bool, true, false, ◌||◌, if◌then◌else◌, not, List, ◌∷◌, ◌++◌, length, Option, Some, None, refl, sym, ap, ◌∙◌}
use Rattle.std.specs.Prelude.{is_some, nat_lt}
use Rattle.broker_spec.specs.Answers.{close_outputs, connect_answers, welcome}
use Rattle.broker_spec.specs.AnswersInOrder.{answers_of}
use Rattle.broker_spec.specs.declared.command.Command.TheVariants as commands
use Rattle.broker_spec.specs.Commands.{past_of, place_of, usual_limits}
use Rattle.broker_spec.specs.Connection.{ConnectionName, first_connection}
use Rattle.broker_spec.specs.Marks.{connect_mark}
use Rattle.broker_spec.specs.declared.command.Output.{Output}
use Rattle.broker_spec.specs.Owner.{clients}
use Rattle.broker_spec.specs.Sessions.{begins_session, current_connection, ends_any, is_beginning, newest_clean_session, clean_session_of}
use Rattle.broker_spec.specs.Place.{Client, Limits, Mark, Past, only_if, same_client}
use Rattle.broker_spec.specs.Sends.{resent_outputs}
use Rattle.broker_spec.specs.Times.{entries_of}
use Rattle.broker_spec.proofs.ClientsInOrder.{same_self}
use Rattle.recovery.proofs.of_one_node.ComesBack.{at_connect, gives_after, nobody_owns, none_current}
use Rattle.world_nodes.specs.RecoveryChecks.{is_welcome, welcomes_back}
use Rattle.world_nodes.specs.recoveries.Opened.{WelcomedAreKept}

-- a session is there and not clean
abbrev is_kept : Option Bool → Bool
is_kept session = not (begins_session false session)

kept_is : (s : Option Bool) → is_kept s ≡ true → s ≡ Some false
kept_is None e = cc
kept_is (Some false) e = refl
kept_is (Some true) e = cc

is_so : (s : Option Bool) → s ≡ Some false → is_kept s ≡ true
is_so s e = ap is_kept e

-- the start of a ballot leaves it
started : (limits : Limits) (past : Past) (ballot : ℕ) (c : Client) → clean_session_of (place_of limits past (commands.Start ballot) ∷ past) c ≡ Some false → clean_session_of past c ≡ Some false
unfolding clean_session_of
started limits past ballot c = by (clean_session_of past c) (ends_any (place_of limits past (commands.Start ballot)) c (current_connection past c))
  where
    by : (s : Option Bool) (over : Bool) → newest_clean_session None false over s ≡ Some false → s ≡ Some false
    by None over e = e
    by (Some false) over e = refl
    by (Some true) true e = cc
    by (Some true) false e = e

still : (limits : Limits) (past : Past) (ballot : ℕ) (c : Client) → clean_session_of past c ≡ Some false → clean_session_of (place_of limits past (commands.Start ballot) ∷ past) c ≡ Some false
unfolding clean_session_of
still limits past ballot c there =
    ap (newest_clean_session None false (ends_any (place_of limits past (commands.Start ballot)) c (current_connection past c))) there

-- the answer says it
tells : (limits : Limits) (past : Past) (x : ConnectionName) (c : Client) → ((d : Client) → current_connection past d ≡ None) →
    is_welcome (answers_of limits past (commands.Connect x c false)) ≡ is_kept (clean_session_of past c)
tells limits past x c none =
    ap (λ (m : Mark). is_welcome (connect_answers limits (at_connect x c m) past x c m)) (ap (connect_mark limits past c) (nobody_owns past x none))
    ∙ by (clean_session_of past c) refl (nat_lt (length (clients past)) limits.sessions)
  where
    rest : List Output
    rest = welcome x (not (is_beginning (only_if (same_client c c) (let o : Option (ConnectionName × Bool) = Some (x, false) in o)) (clean_session_of past c)))
        ∷ resent_outputs x (length past) (entries_of limits (at_connect x c Mark.Accepted ∷ past) c)

    accepted : is_welcome (connect_answers limits (at_connect x c Mark.Accepted) past x c Mark.Accepted) ≡ is_kept (clean_session_of past c)
    accepted =
        ap (λ (o : Option ConnectionName). is_welcome (close_outputs o ++ rest)) (none c)
        ∙ ap (λ (b : Bool). not (is_beginning (only_if b (let o : Option (ConnectionName × Bool) = Some (x, false) in o)) (clean_session_of past c))) (same_self c)

    answered : Mark → Bool
    answered m = is_welcome (connect_answers limits (at_connect x c m) past x c m)

    by : (s : Option Bool) → clean_session_of past c ≡ s → (t : Bool) → answered (if is_some s || t then Mark.Accepted else Mark.Full) ≡ is_kept (clean_session_of past c)
    by None e true = accepted
    by None e false = sym (ap is_kept e)
    by (Some v) e t = accepted

pub welcomed_are_kept : WelcomedAreKept
welcomed_are_kept client list = (
  λ welcomed. started usual_limits (past_of usual_limits list) 1 client (kept_is (clean_session_of after client) (sym told ∙ welcomed)),
  λ kept. told ∙ is_so (clean_session_of after client) (still usual_limits (past_of usual_limits list) 1 client kept),
)
  where
    after : Past
    after = place_of usual_limits (past_of usual_limits list) (commands.Start 1) ∷ past_of usual_limits list

    told : welcomes_back client list ≡ is_kept (clean_session_of after client)
    told =
        ap is_welcome (gives_after list 1 first_connection client)
        ∙ tells usual_limits after first_connection client (λ d. none_current usual_limits (past_of usual_limits list) 1 d)
