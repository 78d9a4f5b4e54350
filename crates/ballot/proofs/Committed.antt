-- Committed.antt: the helpers of a replica do the rows of the protocol.
use Rattle.std.proofs.Common.{◌≡◌, ℕ, ◌<◌, ◌≤◌, Bool, true, ◌&&◌, List, ◌++◌, refl, ap, sym, ◌∙◌, subst}
use Rattle.machine.specs.Machine.{Rules, replay_from}
use Rattle.ballot_base.specs.declared.message.Body.TheVariants.{Append, Commit}
use Rattle.ballot_base.specs.declared.message.Effect.{Effect}
use Rattle.ballot_base.specs.declared.status.Progress.{Progress}
use Rattle.ballot_base.specs.Replica.{ReplicaState, CountedReplica}
use Rattle.ballot_base.specs.Logs.{Log, part, places, pushed}
use Rattle.ballot_base.specs.StepOutcome.{Outcome, message_to_followed}
use Rattle.ballot_base.specs.Application.{outputs_from, outputs_to}
use Rattle.ballot_base.specs.Service.{least, commit_at, added}
use Rattle.ballot_base.proofs.StepRows.{commit_at-stays, commit_at-goes, added-is}
use Rattle.ballot_base.proofs.ThinnedEffects.{Thinned-same}
use Rattle.ballot_base.specs.Sends.{Sends}
use Rattle.ballot.specs.Inside.{MessagesOrLost}
use Rattle.ballot_base.proofs.SendsJoin.{Sends-nothing, Sends-then}

-- what was appended whole
Sends-whole : {C O : Type 0} (old new xs : List (Effect C O)) → new ≡ old ++ xs → Sends old new xs true
Sends-whole old new xs e =
    record { given = xs; appended = e; thinned = Thinned-same xs; exact = λ _. refl; idle = λ _. refl }

-- with nothing to commit the replica stays
pub commit_stays : {S C O : Type 0} (rules : Rules S C O) (old : CountedReplica S C) (held : ℕ) →
    held ≤ old.state.committed →
    old ≡ record { state = (commit_at rules old.state held).state; losses = old.losses }
commit_stays {S = S} {C = C} {O = O} rules old held below =
    ap (λ (o : Outcome S C O). let z : CountedReplica S C = record { state = o.state; losses = old.losses } in z)
    (sym (commit_at-stays rules old.state held below))

-- and nothing is handed out
pub commit_gives_nothing : {S C O : Type 0} (rules : Rules S C O) (r : ReplicaState S C) (held : ℕ)
    (out : List (Effect C O)) → held ≤ r.committed → Sends out out (commit_at rules r held).effects true
commit_gives_nothing {S = S} {C = C} {O = O} rules r held out below =
    subst (λ (o : Outcome S C O). Sends out out o.effects true)
    (sym (commit_at-stays rules r held below)) (Sends-nothing out)

-- places are committed
pub commit_goes : {S C O : Type 0} (rules : Rules S C O) (old new : CountedReplica S C) (held : ℕ) (machine : S) →
    old.state.committed < held →
    new ≡ record old { state = record old.state { committed = held; machine = machine } } →
    machine ≡ replay_from rules old.state.machine (part old.state.log old.state.committed held) →
    new ≡ record { state = (commit_at rules old.state held).state; losses = old.losses }
commit_goes {S = S} {C = C} {O = O} rules old new held machine above e done =
    e ∙ ap (λ t. let z : CountedReplica S C = record old { state = record old.state { committed = held; machine = t } } in z) done
    ∙ ap (λ (o : Outcome S C O). let z : CountedReplica S C = record { state = o.state; losses = old.losses } in z)
    (sym (commit_at-goes rules old.state held above))

-- their outputs are handed out, and the other members hear of it
pub commit_gives : {S C O : Type 0} (rules : Rules S C O) (r : ReplicaState S C) (held : ℕ) (machine : S)
    (log : Log C) (progress : List Progress) (start mid new : List (Effect C O)) (whole : Bool) →
    r.committed < held → machine ≡ r.machine → log ≡ r.log → progress ≡ r.progress →
    mid ≡ start ++ outputs_from rules machine r.committed (part log r.committed held) →
    Sends mid new (message_to_followed O r.id (Commit r.joined held) progress) whole →
    Sends start new (commit_at rules r held).effects whole
commit_gives {S = S} {C = C} {O = O} rules r held machine log progress start mid new whole above s l m e sent =
    let given : mid ≡ start ++ outputs_to rules r held =
    e ∙ ap (λ t. start ++ outputs_from rules t r.committed (part log r.committed held)) s
    ∙ ap (λ xs. start ++ outputs_from rules r.machine r.committed (part xs r.committed held)) l in
    let told : Sends mid new (message_to_followed O r.id (Commit r.joined held) r.progress) whole =
    subst (λ xs. Sends mid new (message_to_followed O r.id (Commit r.joined held) xs) whole) m sent in
    subst (λ (o : Outcome S C O). Sends start new o.effects whole)
    (sym (commit_at-goes rules r held above)) (Sends-then (Sends-whole start mid _ given) told)

-- a command that was sent, put into the log and committed is added
pub add_done : {S C O : Type 0} (rules : Rules S C O) (old grown after : CountedReplica S C) (command : C)
    (log : Log C) (progress : List Progress) (long held : ℕ) (sent told : Bool)
    (start mid later : List (Effect C O)) →
    Sends start mid (message_to_followed O old.state.id (Append old.state.joined (places old.state.log) command) old.state.progress) sent →
    log ≡ pushed old.state.log command →
    grown ≡ record { state = record old.state { log = log }; losses = old.losses } →
    long ≡ places log → progress ≡ old.state.progress → held ≡ least long progress →
    after ≡ record { state = (commit_at rules grown.state held).state; losses = grown.losses } →
    Sends mid later (commit_at rules grown.state held).effects told →
    MessagesOrLost old (added rules old.state command) (sent && told) after start later
add_done {S = S} {C = C} {O = O} rules old grown after command log progress long held sent told start mid later
    appends l p0 n0 m h0 a commits =
    let p : grown ≡ record { state = record old.state { log = pushed old.state.log command }; losses = old.losses } =
    p0 ∙ ap (λ xs. let z : CountedReplica S C = record { state = record old.state { log = xs }; losses = old.losses } in z) l in
    let h : held ≡ least (places (pushed old.state.log command)) old.state.progress =
    h0 ∙ ap (λ k. least k progress) (n0 ∙ ap places l) ∙ ap (least (places (pushed old.state.log command))) m in
    let r : ReplicaState S C = record old.state { log = pushed old.state.log command } in
    let o : Outcome S C O = commit_at rules r (least (places (pushed old.state.log command)) old.state.progress) in
    let same : commit_at rules grown.state held ≡ o =
    ap (λ (z : CountedReplica S C). commit_at rules z.state held) p ∙ ap (commit_at rules r) h in
    let all : Sends start later (message_to_followed O old.state.id (Append old.state.joined (places old.state.log) command) old.state.progress ++ o.effects) (sent && told) =
    Sends-then appends
    (subst (λ (z : Outcome S C O). Sends mid later z.effects told) same commits) in
    let state : after.state ≡ o.state = ap (λ (z : CountedReplica S C). z.state) a ∙ ap (λ (z : Outcome S C O). z.state) same in
    let losses : after.losses ≡ old.losses =
    ap (λ (z : CountedReplica S C). z.losses) a ∙ ap (λ (z : CountedReplica S C). z.losses) p in
    subst (λ (z : Outcome S C O). MessagesOrLost old z (sent && told) after start later) (sym (added-is rules old.state command)) (
      ap (λ s. let z : CountedReplica S C = record { state = s; losses = after.losses } in z) state
          ∙ ap (λ n. let z : CountedReplica S C = record { state = o.state; losses = n } in z) losses,
      all,
    )
