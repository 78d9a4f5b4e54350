-- EarlierMembers.antt: a message that was sent and has more than numbers does nothing, or sends
-- something or adds to the log: a NewBallot names the members of the ballot before, of which there
-- is at least one.
use Rattle.std.proofs.Common.{◌≡◌, ℕ, ◌<◌, ◌≤◌, ◌⊎◌, inl, inr, true, false, List, [], ◌∷◌, Some, None, Option, refl, ap, sym, ◌∙◌}
use Rattle.std.specs.Prelude.{◌==◌, ◌&&◌}
use Rattle.std.proofs.lemmas.Bool.{cases_Bool, cases_lt}
use Rattle.machine.specs.Machine.{Rules}
use Rattle.lists.specs.Lists.{In}
use Rattle.ballot_base.specs.declared.message.Body.{Body}
use Rattle.ballot_base.specs.declared.message.Body.TheVariants.{NewBallot, Join, State, Install, Installed, Activate, Activated, Superseded, Append, Held, Commit}
use Rattle.ballot_base.specs.Transfer.{install_effects, lacks, on_install, on_new_ballot, on_state, waits_for}
use Rattle.ballot_base.specs.declared.config.Config.{Config}
use Rattle.ballot_base.specs.declared.message.Effect.{Effect}
use Rattle.ballot_base.specs.Logs.{Log, places}
use Rattle.ballot_base.specs.Losses.{SendsAndAddsNothing}
use Rattle.ballot_base.specs.declared.message.Message.{Message}
use Rattle.ballot_base.specs.Protocol.{received}
use Rattle.ballot_base.specs.Replica.{ReplicaState, others}
use Rattle.ballot_base.specs.declared.status.Role.TheVariants.{Installing}
use Rattle.ballot_base.specs.StepOutcome.{Outcome, message_to_each, nothing_done}
use Rattle.ballot_base.specs.Service.{follows, on_append}
use Rattle.ballot_base.specs.TakenLog.{taken}
use Rattle.ballot_base.proofs.ChangeRows.{on_install-answers, on_install-stays, on_install-takes, on_install-unread, on_new_ballot-joins, on_new_ballot-stays, on_state-stays, on_state-takes, on_state-unread}
use Rattle.ballot_base.proofs.MessageRows.{on_append-elsewhere, on_append-gap, on_append-takes}
use Rattle.agreement.specs.Inside.Ballots.{Given, History}
use Rattle.agreement.specs.Inside.MessageMeaning.{SpeaksTruth}
use Rattle.agreement.specs.Moments.{Moment as WholeMoment, Moments as WholeMoments}
use Rattle.agreement.specs.World.{GroupWorld as WholeWorld}
use Rattle.agreement.specs.whole_logs.Messages.Body.{NewBallot as whole_new_ballot}
use Rattle.agreement.proofs.Agreed.MomentsKnown.{moments_known}
use Rattle.agreement.specs.cut_logs.Moments.{Moment, Moments, whole_moment}
use Rattle.agreement.specs.cut_logs.World.{whole_sent}
use Rattle.agreement.proofs.of_cut_logs.MomentsKept.{moments_stand}
use Rattle.agreement.proofs.of_cut_logs.Views.{in_whole}
use Rattle.master.specs.Copies.{has_numbers_alone}

-- ---- the members of the ballot before

-- a list with something in it is not empty
some_in : {m : ℕ} (xs : List ℕ) → In m xs → xs ≡ [] → ⊥
some_in [] i e = elim i [ ]
some_in (x ∷ xs) i e = cc

-- by what a NewBallot says about the ballots that were given
said_some : {S C O : Type 0} (w : WholeWorld S C O) (h : History C) (to from b p : ℕ) (members old : List ℕ) →
    ((a : ℕ) (g : Given) → h.given a ≡ Some g → In g.primary g.members) → SpeaksTruth w h to from (whole_new_ballot b members p old) → old ≡ [] → ⊥
said_some w h to from b p members old led (g, is_of, master, primary, own, before, (earlier, given, same)) none =
    some_in earlier.members (led p earlier given) (sym same ∙ none)

-- on whole logs
whole_some : {S C O : Type 0} (rules : Rules S C O) (config : Config) (a : WholeMoment S C O) (moments : List (WholeMoment S C O)) →
    WholeMoments rules config (a ∷ moments) → (to from b p : ℕ) (members old : List ℕ) →
    In (to, record { from = from; body = whole_new_ballot b members p old }) a.world.sent → old ≡ [] → ⊥
whole_some rules config a moments came to from b p members old sent =
    let k = moments_known rules config a moments came in
    let s = k.serves.sound in
    said_some a.world k.history to from b p members old s.ballots.led (s.said to _ sent)

-- a NewBallot names some earlier members
abbrev pub NamesSome : {C : Type 0} → Body C → Type 0
NamesSome (NewBallot b members p old) = old ≡ [] → ⊥
NamesSome (Join b p) = Unit {0}
NamesSome (State b log) = Unit {0}
NamesSome (Install b log) = Unit {0}
NamesSome (Installed b held) = Unit {0}
NamesSome (Activate b) = Unit {0}
NamesSome (Activated b) = Unit {0}
NamesSome (Superseded b) = Unit {0}
NamesSome (Append b place command) = Unit {0}
NamesSome (Held b held) = Unit {0}
NamesSome (Commit b held) = Unit {0}

-- each that was sent does
pub names_some : {S C O : Type 0} (rules : Rules S C O) (config : Config) (a : Moment S C O) (moments : List (Moment S C O)) → Moments rules config (a ∷ moments) →
    (to : ℕ) (message : Message C) → In (to, message) a.world.sent → NamesSome message.body
names_some {S = S} {C = C} {O = O} rules config a moments came to message sent = by_body message.from message.body sent
  where
    by_body : (from : ℕ) (body : Body C) → In (to, record { from = from; body = body }) a.world.sent → NamesSome body
    by_body from (NewBallot b members p old) i =
        let q = moments_stand rules config a moments came in
        whole_some rules config (whole_moment a) q.earlier q.kept.came to from b p members old (in_whole (whole_sent a.world.archive) i)
    by_body from (Join b p) i = tt
    by_body from (State b log) i = tt
    by_body from (Install b log) i = tt
    by_body from (Installed b held) i = tt
    by_body from (Activate b) i = tt
    by_body from (Activated b) i = tt
    by_body from (Superseded b) i = tt
    by_body from (Append b place command) i = tt
    by_body from (Held b held) i = tt
    by_body from (Commit b held) i = tt

-- ---- what such a message does

-- what sends something is not quiet
sends_some : {S C O : Type 0} {P : Type 0} (o : Outcome S C O) (s : ReplicaState S C) (e : Effect C O) (es : List (Effect C O)) →
    o ≡ record { state = s; effects = e ∷ es } → o.effects ≡ [] → P
sends_some {S = S} {C = C} {O = O} o s e es is none = let f = ap (λ (z : Outcome S C O). z.effects) (sym is) ∙ none in cc

-- a log is handed to members that lack it, or the master is asked
hands_some : {S C : Type 0} {P : Type 0} (O : Type 0) (r : ReplicaState S C) (members : List ℕ) → install_effects O r members ≡ [] → P
hands_some O r [] e = cc
hands_some O r (m ∷ members) e = cc

asks_some : {C : Type 0} {P : Type 0} (O : Type 0) (id : ℕ) (body : Body C) (members : List ℕ) → (members ≡ [] → ⊥) →
    message_to_each O id body members ≡ [] → P
asks_some O id body [] some e = absurd (some refl)
asks_some O id body (m ∷ members) some e = cc

quiet_new_ballot : {S C : Type 0} (O : Type 0) (r : ReplicaState S C) (b p : ℕ) (members old : List ℕ) → (old ≡ [] → ⊥) →
    (on_new_ballot O r b members p old).effects ≡ [] → on_new_ballot O r b members p old ≡ nothing_done O r
quiet_new_ballot {S = S} {C = C} O r b p members old some none = by_ballot (cases_lt r.joined b)
  where
    by_ballot : (r.joined < b) ⊎ (b ≤ r.joined) → on_new_ballot O r b members p old ≡ nothing_done O r
    by_ballot (inr high) = on_new_ballot-stays O r b members p old high
    by_ballot (inl low) =
        asks_some O r.id (Join b p) old some
        (ap (λ (z : Outcome S C O). z.effects) (sym (on_new_ballot-joins O r b members p old low)) ∙ none)

quiet_state : {S C O : Type 0} (rules : Rules S C O) (r : ReplicaState S C) (b : ℕ) (log : Log C) → (on_state rules r b log).effects ≡ [] →
    on_state rules r b log ≡ nothing_done O r
quiet_state {S = S} {C = C} {O = O} rules r b log none = by_log (cases_Bool (waits_for r b (places log))) (taken rules r log) refl
  where
    by_log : (waits_for r b (places log) ≡ true) ⊎ (waits_for r b (places log) ≡ false) → (t : Option (ReplicaState S C)) → taken rules r log ≡ t →
        on_state rules r b log ≡ nothing_done O r
    by_log (inr off) t e = on_state-stays rules r b log off
    by_log (inl on) None e = on_state-unread rules r b log on e
    by_log (inl on) (Some took) e =
        hands_some O (record took { held_in = b; role = Installing; lacking = others r.id r.members }) (others r.id r.members)
        (ap (λ (z : Outcome S C O). z.effects) (sym (on_state-takes rules r took b log on e)) ∙ none)

quiet_install : {S C O : Type 0} (rules : Rules S C O) (r : ReplicaState S C) (from b : ℕ) (log : Log C) → (on_install rules r from b log).effects ≡ [] →
    on_install rules r from b log ≡ nothing_done O r
quiet_install {S = S} {C = C} {O = O} rules r from b log none =
    by_log (cases_Bool (lacks r b (places log))) (cases_Bool (r.joined == b && r.held_in == b)) (taken rules r log) refl
  where
    by_log : (lacks r b (places log) ≡ true) ⊎ (lacks r b (places log) ≡ false) →
        ((r.joined == b && r.held_in == b) ≡ true) ⊎ ((r.joined == b && r.held_in == b) ≡ false) →
        (t : Option (ReplicaState S C)) → taken rules r log ≡ t → on_install rules r from b log ≡ nothing_done O r
    by_log (inl on) there None e = on_install-unread rules r from b log on e
    by_log (inl on) there (Some took) e = sends_some _ _ _ _ (on_install-takes rules r took from b log on e) none
    by_log (inr off) (inl there) t e = sends_some _ _ _ _ (on_install-answers rules r from b log off there) none
    by_log (inr off) (inr not) t e = on_install-stays rules r from b log off not

quiet_append : {S C : Type 0} (O : Type 0) (r : ReplicaState S C) (from b place : ℕ) (command : C) → (on_append O r from b place command).effects ≡ [] →
    on_append O r from b place command ≡ nothing_done O r
quiet_append O r from b place command none = by_place (cases_Bool (follows r b)) (cases_lt (places r.log) place)
  where
    by_place : (follows r b ≡ true) ⊎ (follows r b ≡ false) → (places r.log < place) ⊎ (place ≤ places r.log) →
        on_append O r from b place command ≡ nothing_done O r
    by_place (inr off) at = on_append-elsewhere O r from b place command off
    by_place (inl on) (inl gap) = on_append-gap O r from b place command on gap
    by_place (inl on) (inr within) = sends_some _ _ _ _ (on_append-takes O r from b place command on within) none

-- one that has more than numbers and sends nothing does nothing
pub quiet_does_nothing : {S C O : Type 0} (rules : Rules S C O) (r : ReplicaState S C) (from : ℕ) (body : Body C) → has_numbers_alone body ≡ false →
    NamesSome body → SendsAndAddsNothing r (received rules r from body) → received rules r from body ≡ nothing_done O r
quiet_does_nothing {O = O} rules r from (NewBallot b members p old) more some q = quiet_new_ballot O r b p members old some q.nothing_sent
quiet_does_nothing rules r from (State b log) more some q = quiet_state rules r b log q.nothing_sent
quiet_does_nothing rules r from (Install b log) more some q = quiet_install rules r from b log q.nothing_sent
quiet_does_nothing {O = O} rules r from (Append b place command) more some q = quiet_append O r from b place command q.nothing_sent
quiet_does_nothing rules r from (Join b p) more some q = cc
quiet_does_nothing rules r from (Installed b held) more some q = cc
quiet_does_nothing rules r from (Activate b) more some q = cc
quiet_does_nothing rules r from (Activated b) more some q = cc
quiet_does_nothing rules r from (Superseded b) more some q = cc
quiet_does_nothing rules r from (Held b held) more some q = cc
quiet_does_nothing rules r from (Commit b held) more some q = cc
