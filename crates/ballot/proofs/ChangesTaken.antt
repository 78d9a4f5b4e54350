-- ChangesTaken.antt: what a replica does with the messages between ballots is the row of the protocol.
use Rattle.std.proofs.Common.{◌≡◌, ℕ, ◌<◌, ◌⊎◌, inl, inr, Some, None, Bool, true, false, cond, List, [], ◌∷◌, length, refl, ap, sym, ◌∙◌, subst, arith}
use Rattle.std.specs.Prelude.{nat_lt, nat_le, ◌&&◌, ◌==◌}
use Rattle.std.specs.List.{list_any}
use Rattle.std.proofs.lemmas.Bool.{and_from, and_parts, eq-eqb, eqb-true}
use Rattle.machine.specs.Machine.{Rules}
use Rattle.ballot_base.specs.declared.message.Body.TheVariants.{Join, State, Installed, Activate}
use Rattle.ballot_base.specs.declared.message.Effect.{Effect}
use Rattle.ballot_base.specs.declared.status.Progress.{Progress}
use Rattle.ballot_base.specs.declared.status.Role.TheVariants.{Backup, Fetching, Installing}
use Rattle.ballot_base.specs.Replica.{ReplicaState, CountedReplica, is_installing, others}
use Rattle.ballot_base.specs.Logs.{Log, places}
use Rattle.ballot_base.specs.Losses.{SendsAndAddsNothing}
use Rattle.ballot_base.specs.TakenLog.{taken}
use Rattle.ballot_base.specs.Unread.{reads_none}
use Rattle.ballot.proofs.Heeding.{read_or_none}
use Rattle.ballot_base.specs.StepOutcome.{Outcome, message_to, message_to_each, master}
use Rattle.ballot_base.specs.Transfer.{waits_for, lacks, on_new_ballot, on_join, install_effects, on_state, on_install}
use Rattle.ballot_base.specs.Activation.{activates, on_installed, on_superseded}
use Rattle.ballot_base.proofs.ChangeRows.{on_new_ballot-joins, on_join-answers, on_state-takes, on_install-takes, on_install-answers, on_installed-counts, on_superseded-leaves}
use Rattle.ballot_base.specs.Sends.{Sends}
use Rattle.ballot.specs.Inside.{PlainStepOrLost, ReadingStepOrLost}
use Rattle.ballot.proofs.MessagesTaken.{went_sent, went_lost, went_whole}

-- a replica that took a row's state and then sent its messages did the row
pub went_said : {S C O : Type 0} {rules : Rules S C O} {unread : Bool} (old : CountedReplica S C) (o : Outcome S C O) (new : CountedReplica S C)
    (before after : List (Effect C O)) (sent : Bool) → new ≡ record { state = o.state; losses = old.losses } → Sends before after o.effects sent →
    ReadingStepOrLost rules old o unread sent new before after
went_said {S = S} {C = C} old o new before after sent e sends =
    went_sent old o new before after sent sends (ap (λ (z : CountedReplica S C). z.state) e) (ap (λ (z : CountedReplica S C). z.losses) e)

-- NewBallot of a ballot above
pub new_ballot_taken : {S C : Type 0} (O : Type 0) {rules : Rules S C O} (old new : CountedReplica S C) (ballot : ℕ) (members : List ℕ) (previous : ℕ)
    (previous_members receivers lacking : List ℕ) (progress : List Progress) (before after : List (Effect C O)) (sent : Bool) →
    old.state.joined < ballot → receivers ≡ previous_members → lacking ≡ [] → progress ≡ [] →
    Sends before after (message_to_each O old.state.id (Join ballot previous) receivers) sent →
    new.state ≡ record old.state {
      joined = ballot;
      role = Fetching;
      members = members;
      previous = previous;
      previous_members = previous_members;
      lacking = lacking;
      progress = progress;
    } → new.losses ≡ old.losses →
    PlainStepOrLost rules old (on_new_ballot O old.state ballot members previous previous_members) sent new before after
new_ballot_taken {S = S} {C = C} O {rules = rules} old new ballot members previous previous_members receivers lacking progress before after sent low r l p sends state losses =
    subst (λ (o : Outcome S C O). PlainStepOrLost rules old o sent new before after)
    (sym (on_new_ballot-joins O old.state ballot members previous previous_members low))
    (went_sent old _ new before after sent
    (subst (λ ms. Sends before after (message_to_each O old.state.id (Join ballot previous) ms) sent) r sends)
    (state
    ∙ ap (λ ms. let z : ReplicaState S C = record old.state {
      joined = ballot;
      role = Fetching;
      members = members;
      previous = previous;
      previous_members = previous_members;
      lacking = ms;
      progress = progress;
    } in z) l
    ∙ ap (λ ps. let z : ReplicaState S C = record old.state {
      joined = ballot;
      role = Fetching;
      members = members;
      previous = previous;
      previous_members = previous_members;
      lacking = [];
      progress = ps;
    } in z) p) losses)

-- Join that is answered
pub join_answered : {S C : Type 0} (O : Type 0) {rules : Rules S C O} (old mid new : CountedReplica S C) (from ballot previous : ℕ) (log : Log C)
    (before after : List (Effect C O)) (sent : Bool) →
    (nat_le old.state.joined ballot && nat_le previous old.state.held_in) ≡ true → log ≡ old.state.log →
    Sends before after (message_to O old.state.id (State ballot log) from ∷ []) sent →
    mid ≡ record old { state = cond (nat_lt old.state.joined ballot) (record old.state { joined = ballot; role = Backup }) old.state } →
    new.state ≡ mid.state → new.losses ≡ mid.losses →
    PlainStepOrLost rules old (on_join O old.state from ballot previous) sent new before after
join_answered {S = S} {C = C} O {rules = rules} old mid new from ballot previous log before after sent may l sends m state losses =
    subst (λ (o : Outcome S C O). PlainStepOrLost rules old o sent new before after) (sym (on_join-answers O old.state from ballot previous may))
    (went_sent old _ new before after sent
    (subst (λ us. Sends before after (message_to O old.state.id (State ballot us) from ∷ []) sent) l sends)
    (state ∙ ap (λ (z : CountedReplica S C). z.state) m)
    (losses ∙ ap (λ (z : CountedReplica S C). z.losses) m))

-- messages to some members, or to the master, are some
installs_some : {S C : Type 0} (O : Type 0) (r : ReplicaState S C) (members : List ℕ) → install_effects O r members ≡ [] → ⊥
installs_some O r [] e = cc
installs_some O r (member ∷ members) e = cc

-- State that is taken
pub state_taken : {S C O : Type 0} {rules : Rules S C O} (old took mid new : CountedReplica S C) (ballot : ℕ) (log : Log C) (unread : Bool)
    (lacking : List ℕ) (before after : List (Effect C O)) (sent : Bool) →
    waits_for old.state ballot (places log) ≡ true → taken rules old.state log ≡ Some took.state → took.losses ≡ old.losses →
    lacking ≡ others old.state.id old.state.members →
    mid ≡ record took { state = record took.state { held_in = ballot; role = Installing; lacking = lacking } } →
    Sends before after (install_effects O mid.state mid.state.lacking) sent →
    new.state ≡ mid.state → new.losses ≡ mid.losses →
    ReadingStepOrLost rules old (on_state rules old.state ballot log) unread sent new before after
state_taken {S = S} {C = C} {O = O} {rules = rules} old took mid new ballot log unread lacking before after sent waits is losses l m sends state count =
    let all : CountedReplica S C = record took { state = record took.state { held_in = ballot; role = Installing; lacking = others old.state.id old.state.members } } in
    let same : mid ≡ all =
    m ∙ ap (λ ms. let z : CountedReplica S C = record took { state = record took.state { held_in = ballot; role = Installing; lacking = ms } } in z) l in
    subst (λ (o : Outcome S C O). ReadingStepOrLost rules old o unread sent new before after) (sym (on_state-takes rules old.state took.state ballot log waits is))
    (went_sent old _ new before after sent
    (subst (λ (z : CountedReplica S C). Sends before after (install_effects O z.state z.state.lacking) sent) same sends)
    (state ∙ ap (λ (z : CountedReplica S C). z.state) same)
    (count ∙ ap (λ (z : CountedReplica S C). z.losses) same ∙ losses))

-- State that counts as lost: there was no memory, or its snapshot does not thaw
pub state_lost : {S C O : Type 0} {rules : Rules S C O} (old new : CountedReplica S C) (ballot : ℕ) (log : Log C) (before : List (Effect C O)) →
    waits_for old.state ballot (places log) ≡ true → new ≡ old →
    ReadingStepOrLost rules old (on_state rules old.state ballot log) (waits_for old.state ballot (places log) && reads_none rules old.state log) false new before before
state_lost {S = S} {C = C} {O = O} {rules = rules} old new ballot log before waits same =
    went_lost old (on_state rules old.state ballot log) new before before (ap (λ (z : CountedReplica S C). z.state) same) (ap (λ (z : CountedReplica S C). z.losses) same) refl (λ quiet. by_log quiet (read_or_none rules old.state log))
  where
    by_log : SendsAndAddsNothing old.state (on_state rules old.state ballot log) →
        ((took : ReplicaState S C) × (taken rules old.state log ≡ Some took) × (reads_none rules old.state log ≡ false))
        ⊎ ((taken rules old.state log ≡ None) × (reads_none rules old.state log ≡ true)) →
        (waits_for old.state ballot (places log) && reads_none rules old.state log) ≡ true
    by_log quiet (inr (none, is)) = and_from (waits_for old.state ballot (places log)) (reads_none rules old.state log) waits is
    by_log quiet (inl (took, is, other)) =
        let e = ap (λ (o : Outcome S C O). o.effects) (sym (on_state-takes rules old.state took ballot log waits is)) ∙ quiet.nothing_sent in
        absurd (installs_some O (record took { held_in = ballot; role = Installing; lacking = others old.state.id old.state.members }) (others old.state.id old.state.members) e)

-- a row whose condition does not hold reads nothing, and neither does one whose log was taken
pub not_read : {P : Type 0} (may none : Bool) → may ≡ false → (may && none) ≡ true → P
not_read true none other unread = cc
not_read false none other unread = cc

pub taken_is_read : {S C O P : Type 0} (rules : Rules S C O) (r took : ReplicaState S C) (log : Log C) (may : Bool) →
    taken rules r log ≡ Some took → (may && reads_none rules r log) ≡ true → P
taken_is_read {S = S} {C = C} {P = P} rules r took log may is unread = by_log (read_or_none rules r log)
  where
    none : reads_none rules r log ≡ true
    none = (and_parts may (reads_none rules r log) unread).1

    by_log : ((other : ReplicaState S C) × (taken rules r log ≡ Some other) × (reads_none rules r log ≡ false))
        ⊎ ((taken rules r log ≡ None) × (reads_none rules r log ≡ true)) → P
    by_log (inl (other, e, read)) = let f = sym none ∙ read in cc
    by_log (inr (e, other)) = let f = sym e ∙ is in cc

-- Install that is taken, one that counts as lost, and one that is only answered
pub install_taken : {S C O : Type 0} {rules : Rules S C O} (old took mid : CountedReplica S C) (from ballot held : ℕ) (log : Log C) (unread : Bool)
    (before after : List (Effect C O)) (sent : Bool) →
    lacks old.state ballot held ≡ true → held ≡ places log → taken rules old.state log ≡ Some took.state → took.losses ≡ old.losses →
    took.state.id ≡ old.state.id →
    mid ≡ record took { state = record took.state { joined = ballot; held_in = ballot; role = Backup } } →
    Sends before after (message_to O mid.state.id (Installed ballot held) from ∷ []) sent →
    ReadingStepOrLost rules old (on_install rules old.state from ballot log) unread sent mid before after
install_taken {S = S} {C = C} {O = O} {rules = rules} old took mid from ballot held log unread before after sent may h is losses id m said =
    let may' = subst (λ k. lacks old.state ballot k ≡ true) h may in
    let same : mid ≡ record { state = record took.state { joined = ballot; held_in = ballot; role = Backup }; losses = old.losses } =
    m ∙ ap (λ n. let z : CountedReplica S C = record { state = record took.state { joined = ballot; held_in = ballot; role = Backup }; losses = n } in z) losses in
    let named : mid.state.id ≡ old.state.id = ap (λ (z : CountedReplica S C). z.state.id) same ∙ id in
    subst (λ (o : Outcome S C O). ReadingStepOrLost rules old o unread sent mid before after) (sym (on_install-takes rules old.state took.state from ballot log may' is))
    (went_said old _ mid before after sent same
    (subst (λ k. Sends before after (message_to O old.state.id (Installed ballot k) from ∷ []) sent) h
    (subst (λ k. Sends before after (message_to O k (Installed ballot held) from ∷ []) sent) named said)))

pub install_lost : {S C O : Type 0} {rules : Rules S C O} (old new : CountedReplica S C) (from ballot held : ℕ) (log : Log C) (before : List (Effect C O)) →
    lacks old.state ballot held ≡ true → held ≡ places log → new ≡ old →
    ReadingStepOrLost rules old (on_install rules old.state from ballot log) (lacks old.state ballot (places log) && reads_none rules old.state log) false new before before
install_lost {S = S} {C = C} {O = O} {rules = rules} old new from ballot held log before may h same =
    went_lost old (on_install rules old.state from ballot log) new before before (ap (λ (z : CountedReplica S C). z.state) same) (ap (λ (z : CountedReplica S C). z.losses) same) refl (λ quiet. by_log quiet (read_or_none rules old.state log))
  where
    may' : lacks old.state ballot (places log) ≡ true
    may' = subst (λ k. lacks old.state ballot k ≡ true) h may

    by_log : SendsAndAddsNothing old.state (on_install rules old.state from ballot log) →
        ((took : ReplicaState S C) × (taken rules old.state log ≡ Some took) × (reads_none rules old.state log ≡ false))
        ⊎ ((taken rules old.state log ≡ None) × (reads_none rules old.state log ≡ true)) →
        (lacks old.state ballot (places log) && reads_none rules old.state log) ≡ true
    by_log quiet (inr (none, is)) = and_from (lacks old.state ballot (places log)) (reads_none rules old.state log) may' is
    by_log quiet (inl (took, is, other)) =
        let e = ap (λ (o : Outcome S C O). o.effects) (sym (on_install-takes rules old.state took from ballot log may' is)) ∙ quiet.nothing_sent in cc

pub install_answered : {S C O : Type 0} {rules : Rules S C O} (old : CountedReplica S C) (from ballot held : ℕ) (log : Log C) (unread : Bool)
    (before after : List (Effect C O)) (sent : Bool) →
    lacks old.state ballot held ≡ false → (old.state.joined == ballot && old.state.held_in == ballot) ≡ true → held ≡ places log →
    Sends before after (message_to O old.state.id (Installed ballot held) from ∷ []) sent →
    ReadingStepOrLost rules old (on_install rules old.state from ballot log) unread sent old before after
install_answered {S = S} {C = C} {O = O} {rules = rules} old from ballot held log unread before after sent other here h said =
    let off = subst (λ k. lacks old.state ballot k ≡ false) h other in
    subst (λ (o : Outcome S C O). ReadingStepOrLost rules old o unread sent old before after) (sym (on_install-answers rules old.state from ballot log off here))
    (went_said old _ old before after sent refl
    (subst (λ k. Sends before after (message_to O old.state.id (Installed ballot k) from ∷ []) sent) h said))

-- Installed of a member that lacked the log: others lack it, or it was the last
pub installed_noted : {S C : Type 0} (O : Type 0) {rules : Rules S C O} (old new : CountedReplica S C) (from ballot : ℕ) (lacking : List ℕ)
    (out : List (Effect C O)) →
    ((old.state.joined == ballot && is_installing old.state.role) && list_any (λ member. member == from) old.state.lacking) ≡ true →
    lacking ≡ others from old.state.lacking → (lacking ≡ [] → ⊥) →
    new ≡ record old { state = record old.state { lacking = lacking } } →
    PlainStepOrLost rules old (on_installed O old.state from ballot) true new out out
installed_noted {S = S} {C = C} O {rules = rules} old new from ballot lacking out may l some n =
    let none = λ (e : others from old.state.lacking ≡ []). some (l ∙ e) in
    let same : new ≡ record old { state = record old.state { lacking = others from old.state.lacking } } =
    n ∙ ap (λ ms. let z : CountedReplica S C = record old { state = record old.state { lacking = ms } } in z) l in
    subst (λ (o : Outcome S C O). PlainStepOrLost rules old o true new out out) (sym (on_installed-counts O old.state from ballot may))
    (by_others (others from old.state.lacking) none same)
  where
    by_others : (ms : List ℕ) → (ms ≡ [] → ⊥) → new ≡ record old { state = record old.state { lacking = ms } } →
        PlainStepOrLost rules old (record {
          state = record old.state { lacking = ms };
          effects = activates O (record old.state { lacking = ms }) ms;
        }) true new out out
    by_others [] some e = absurd (some refl)
    by_others (m ∷ ms) some e =
        went_whole old _ new out (ap (λ (z : CountedReplica S C). z.state) e) refl (ap (λ (z : CountedReplica S C). z.losses) e)

pub installed_last : {S C : Type 0} (O : Type 0) {rules : Rules S C O} (old new : CountedReplica S C) (from ballot joined : ℕ) (lacking : List ℕ)
    (before after : List (Effect C O)) (sent : Bool) →
    ((old.state.joined == ballot && is_installing old.state.role) && list_any (λ member. member == from) old.state.lacking) ≡ true →
    lacking ≡ others from old.state.lacking → lacking ≡ [] → joined ≡ old.state.joined →
    new ≡ record old { state = record old.state { lacking = lacking } } →
    Sends before after (message_to O new.state.id (Activate joined) master ∷ []) sent →
    PlainStepOrLost rules old (on_installed O old.state from ballot) sent new before after
installed_last {S = S} {C = C} O {rules = rules} old new from ballot joined lacking before after sent may l none j m said =
    let same : new ≡ record old { state = record old.state { lacking = others from old.state.lacking } } =
    m ∙ ap (λ ms. let z : CountedReplica S C = record old { state = record old.state { lacking = ms } } in z) l in
    subst (λ (o : Outcome S C O). PlainStepOrLost rules old o sent new before after) (sym (on_installed-counts O old.state from ballot may))
    (went_said old _ new before after sent same
    (subst (λ (es : List (Effect C O)). Sends before after es sent) (by_none (others from old.state.lacking) (sym l ∙ none)) here))
  where
    here : Sends before after (message_to O old.state.id (Activate old.state.joined) master ∷ []) sent
    here = subst (λ k. Sends before after (message_to O old.state.id (Activate k) master ∷ []) sent) j
        (subst (λ (z : CountedReplica S C). Sends before after (message_to O z.state.id (Activate joined) master ∷ []) sent) m said)

    by_none : (ms : List ℕ) → ms ≡ [] →
        message_to O old.state.id (Activate old.state.joined) master ∷ [] ≡ activates O (record old.state { lacking = ms }) ms
    by_none [] e = refl
    by_none (m ∷ ms) e = cc

-- Superseded at the primary that installs
pub superseded_left : {S C : Type 0} (O : Type 0) {rules : Rules S C O} (old new : CountedReplica S C) (ballot : ℕ) →
    (old.state.joined == ballot && is_installing old.state.role) ≡ true →
    new ≡ record old { state = record old.state { role = Backup } } →
    PlainStepOrLost rules old (on_superseded O old.state ballot) true new [] []
superseded_left {S = S} {C = C} O {rules = rules} old new ballot here n =
    subst (λ (o : Outcome S C O). PlainStepOrLost rules old o true new [] []) (sym (on_superseded-leaves O old.state ballot here))
    (went_whole old _ new [] (ap (λ (z : CountedReplica S C). z.state) n) refl (ap (λ (z : CountedReplica S C). z.losses) n))

-- a list is empty where its length is said to be zero
pub empty_is : {X : Type 0} (xs : List X) (n : ℕ) {b : Bool} → b ≡ (n == 0) → n ≡ length xs → b ≡ true → xs ≡ []
empty_is [] n e l t = refl
empty_is (x ∷ xs) n e l t = let z : n ≡ 0 = eqb-true n 0 (sym e ∙ t) in absurd (omega (arith, z, l))

pub not_empty_is : {X : Type 0} (xs : List X) (n : ℕ) {b : Bool} → b ≡ (n == 0) → n ≡ length xs → b ≡ false → xs ≡ [] → ⊥
not_empty_is [] n {b = b} e l f g = let z : (n == 0) ≡ true = eq-eqb n 0 l in let y : b ≡ true = e ∙ z in cc
not_empty_is (x ∷ xs) n e l f g = cc
