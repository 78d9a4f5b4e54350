-- A client whose session was kept is welcomed back after the start of a ballot.
use Rattle.std.proofs.Common.{◌≡◌, ℕ, Bool, true, false, ◌||◌, if◌then◌else◌, not, List, [], ◌∷◌, ◌++◌, length, map, Option, Some, None, refl, ap, ◌∙◌}
use Rattle.std.specs.Prelude.{◌==◌, flat_map, is_some, nat_lt}
use Rattle.lists.specs.Lists.{Each}
use Rattle.lists.proofs.OfEach.{each_append}
use Rattle.packet.specs.declared.packet.Packet.TheVariants as packets
use Rattle.broker_spec.specs.Answers.{close_outputs, connect_answers, welcome}
use Rattle.broker_spec.specs.AnswersInOrder.{answers_of}
use Rattle.machine.specs.Machine.{replay}
use Rattle.broker_spec.specs.declared.command.Command.{Command}
use Rattle.broker_spec.specs.declared.command.Command.TheVariants as commands
use Rattle.broker_spec.specs.Commands.{past_of, place_of, usual_limits}
use Rattle.broker_spec.specs.Connection.{ConnectionName, same_connection}
use Rattle.broker_spec.specs.Entries.{Entry}
use Rattle.broker_spec.specs.Marks.{connect_mark, mark_of}
use Rattle.broker_spec.specs.declared.command.Output.{Output}
use Rattle.broker_spec.specs.declared.command.Output.TheVariants.{Send}
use Rattle.broker_spec.specs.Owner.{clients, first_client, owner_of}
use Rattle.broker_spec.specs.Sessions.{any_connection, begins_session, current_connection, ends, ends_any, is_beginning, newest_connection, newest_clean_session, clean_session_of}
use Rattle.broker_spec.specs.Place.{Client, Limits, Mark, Past, Place, only_if, same_client}
use Rattle.broker_spec.specs.Readings.{released_below}
use Rattle.broker_spec.specs.Sends.{all_started, publish_output, resent_outputs, repeated_output, first_output}
use Rattle.broker_spec.specs.Times.{entries_of}
use Rattle.broker_spec.proofs.ClientsInOrder.{same_self}
use Rattle.world_base.specs.node_core.Core.{rules}
use Rattle.headline.proofs.of_packet_world.Answers.{past_push}
use Rattle.headline.proofs.of_packet_world.BrokerRules.{gives_answers}
use Rattle.recovery.specs.one_node.Welcome.{IsSentTo, KeptSessionsAreWelcomed}

-- ---- after the start of a ballot

-- no client has a connection
pub none_current : (limits : Limits) (past : Past) (ballot : ℕ) (c : Client) → current_connection (place_of limits past (commands.Start ballot) ∷ past) c ≡ None
unfolding current_connection
none_current limits past ballot c = by (current_connection past c)
  where
    by : (o : Option ConnectionName) → newest_connection None (any_connection (ends (commands.Start ballot) Mark.Unmarked) o) o ≡ None
    by None = refl
    by (Some x) = refl

-- and one that is not clean stays
still_there : (limits : Limits) (past : Past) (ballot : ℕ) (c : Client) → clean_session_of past c ≡ Some false → clean_session_of (place_of limits past (commands.Start ballot) ∷ past) c ≡ Some false
unfolding clean_session_of
still_there limits past ballot c there =
    ap (newest_clean_session None false (ends_any (place_of limits past (commands.Start ballot)) c (current_connection past c))) there

first_none : (test : Client → Bool) (cs : List Client) → ((c : Client) → test c ≡ false) → first_client test cs ≡ None
first_none test [] none = refl
first_none test (c ∷ cs) none = ap (λ (b : Bool). if b then Some c else first_client test cs) (none c) ∙ first_none test cs none

pub nobody_owns : (past : Past) (x : ConnectionName) → ((c : Client) → current_connection past c ≡ None) → owner_of past x ≡ None
nobody_owns past x none =
    first_none (λ (c : Client). any_connection (same_connection x) (current_connection past c)) (clients past)
    (λ c. ap (any_connection (same_connection x)) (none c))

-- ---- the Connect

abbrev pub at_connect : ConnectionName → Client → Mark → Place
at_connect x c mark = record { command = commands.Connect x c false; mark = mark }

accepted : (limits : Limits) (past : Past) (x : ConnectionName) (c : Client) → ((d : Client) → current_connection past d ≡ None) → clean_session_of past c ≡ Some false →
    mark_of limits past (commands.Connect x c false) ≡ Mark.Accepted
accepted limits past x c none there =
    ap (connect_mark limits past c) (nobody_owns past x none)
    ∙ ap (λ (s : Option Bool). if is_some s || nat_lt (length (clients past)) limits.sessions then Mark.Accepted else Mark.Full) there

begins_none : (past : Past) (x : ConnectionName) (c : Client) → clean_session_of past c ≡ Some false → is_beginning (only_if (same_client c c) (Some (x, false))) (clean_session_of past c) ≡ false
begins_none past x c there =
    ap (λ (b : Bool). is_beginning (only_if b (let o : Option (ConnectionName × Bool) = Some (x, false) in o)) (clean_session_of past c)) (same_self c)
    ∙ ap (begins_session false) there

answers_are : (limits : Limits) (past : Past) (x : ConnectionName) (c : Client) → ((d : Client) → current_connection past d ≡ None) → clean_session_of past c ≡ Some false →
    answers_of limits past (commands.Connect x c false)
    ≡ welcome x true ∷ resent_outputs x (length past) (entries_of limits (at_connect x c Mark.Accepted ∷ past) c)
answers_are limits past x c none there =
    ap (λ (mark : Mark). connect_answers limits (at_connect x c mark) past x c mark) (accepted limits past x c none there)
    ∙ ap (λ (o : Option ConnectionName). close_outputs o ++ connect_rest) (none c)
    ∙ ap (λ (b : Bool). welcome x (not b) ∷ resent_outputs x (length past) (entries_of limits (at_connect x c Mark.Accepted ∷ past) c)) (begins_none past x c there)
  where
    connect_rest : List Output
    connect_rest = welcome x (not (is_beginning (only_if (same_client c c) (let o : Option (ConnectionName × Bool) = Some (x, false) in o)) (clean_session_of past c)))
        ∷ resent_outputs x (length past) (entries_of limits (at_connect x c Mark.Accepted ∷ past) c)

-- ---- what is sent again

each_pubrel : (x : ConnectionName) (ids : List ℕ) → Each (IsSentTo x) (map (λ (id : ℕ). Send x (packets.Pubrel id)) ids)
each_pubrel x [] = tt
each_pubrel x (id ∷ ids) = (refl, each_pubrel x ids)

each_flat : {A : Type 0} (P : Output → Type 0) (f : A → List Output) → ((a : A) → Each P (f a)) → (list : List A) → Each P (flat_map f list)
each_flat P f each [] = tt
each_flat P f each (a ∷ list) = each_append P (f a) (flat_map f list) (each a) (each_flat P f each list)

again : (x : ConnectionName) (n : ℕ) (e : Entry) → Each (IsSentTo x) (repeated_output x n e)
again x n (Entry.Queued made p) = tt
again x n (Entry.Sent made p id start) = by (start == n)
  where
    by : (b : Bool) → Each (IsSentTo x) (if b then [] else publish_output x true id p ∷ [])
    by true = tt
    by false = (refl, tt)
again x n (Entry.Released made p id start release) = tt
again x n (Entry.Done made p id start release finish) = tt

first : (x : ConnectionName) (n : ℕ) (e : Entry) → Each (IsSentTo x) (first_output x n e)
first x n (Entry.Queued made p) = tt
first x n (Entry.Sent made p id start) = by (start == n)
  where
    by : (b : Bool) → Each (IsSentTo x) (if b then publish_output x false id p ∷ [] else [])
    by true = (refl, tt)
    by false = tt
first x n (Entry.Released made p id start release) = tt
first x n (Entry.Done made p id start release finish) = tt

each_resent : (x : ConnectionName) (n : ℕ) (es : List Entry) → Each (IsSentTo x) (resent_outputs x n es)
each_resent x n es =
    each_append (IsSentTo x) (map (λ (id : ℕ). Send x (packets.Pubrel id)) (released_below n es) ++ flat_map (repeated_output x n) es) (all_started x n es)
    (each_append (IsSentTo x) (map (λ (id : ℕ). Send x (packets.Pubrel id)) (released_below n es)) (flat_map (repeated_output x n) es)
    (each_pubrel x (released_below n es)) (each_flat (IsSentTo x) (repeated_output x n) (again x n) es))
    (each_flat (IsSentTo x) (first_output x n) (first x n) es)

-- ---- the law

-- what the machine gives then is what the model answers
pub gives_after : (list : List Command) (ballot : ℕ) (x : ConnectionName) (c : Client) → rules.gives (replay rules (list ++ commands.Start ballot ∷ [])) (commands.Connect x c false)
    ≡ answers_of usual_limits (place_of usual_limits (past_of usual_limits list) (commands.Start ballot) ∷ past_of usual_limits list) (commands.Connect x c false)
gives_after list ballot x c =
    gives_answers (list ++ commands.Start ballot ∷ []) (commands.Connect x c false)
    ∙ ap (λ (past : Past). answers_of usual_limits past (commands.Connect x c false)) (past_push usual_limits list (commands.Start ballot))

pub kept_sessions_are_welcomed : KeptSessionsAreWelcomed
kept_sessions_are_welcomed list ballot x c there =
    record {
      rest = resent_outputs x (length after) (entries_of usual_limits (at_connect x c Mark.Accepted ∷ after) c);
      gives = gives_after list ballot x c
          ∙ answers_are usual_limits after x c (λ d. none_current usual_limits (past_of usual_limits list) ballot d)
          (still_there usual_limits (past_of usual_limits list) ballot c there);
      sent = each_resent x (length after) (entries_of usual_limits (at_connect x c Mark.Accepted ∷ after) c);
    }
  where
    after : Past
    after = place_of usual_limits (past_of usual_limits list) (commands.Start ballot) ∷ past_of usual_limits list
