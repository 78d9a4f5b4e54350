-- What the master knows after an event of it.
use Rattle.std.proofs.Common.{◌≡◌, ℕ, ◌+◌, if◌then◌else◌, Bool, true, false, List, refl, ap, sym, ◌∙◌, subst, arith}
use Rattle.std.specs.Prelude.{◌↔◌, Err, None, Option, Result, Some}
use Rattle.std.specs.Result.{IsErrOf}
use mathlib.Core.List.{IsPrefix}
use Rattle.lists.specs.Lists.{In}
use Rattle.lists.specs.Lists.In.{here}
use Rattle.lists.proofs.Members.{in_right}
use Rattle.ballot_base.specs.LawfulConfig.{max_node}
use Rattle.ballot_base.specs.StepOutcome.{master}
use Rattle.ballot_base.specs.declared.config.Config.{Config}
use Rattle.ballot_base.specs.declared.message.Body.{Body}
use Rattle.ballot_base.specs.declared.message.Body.TheVariants.{Activated, Superseded}
use Rattle.ballot_base.specs.declared.message.Message.{Message}
use Rattle.broker_spec.specs.declared.command.Command.{Command}
use Rattle.agreement.specs.MasterState.{AssignRefusal, MasterState, opening_master}
use Rattle.agreement.specs.MasterState.AssignRefusal.{bad_members, ballots_spent}
use Rattle.agreement.specs.cut_logs.Masters.{MasterOutcome}
use Rattle.master.specs.Inside.{activation_answer}
use Rattle.master.specs.declared.activation.Activation.{Activation}
use Rattle.master.specs.declared.activation.Activation.TheVariants as activation
use Rattle.master.specs.declared.error.AssignError.{AssignError}
use Rattle.master.specs.declared.error.AssignError.TheVariants.{BadMembers, BallotsSpent}
use Rattle.run_history.specs.declared.event.MasterAct.{MasterAct}
use Rattle.run_history.specs.declared.event.MasterEvent.{MasterEvent}
use Rattle.run_history.specs.declared.event.RunEvent.{RunEvent}
use Rattle.run_history.specs.declared.event.RunEvent.TheVariants.{ByMaster}
use Rattle.run_history.specs.History.{IsMasterOf}
use Rattle.run_history.specs.Log.{events_by, opening_log, sent_in}
use Rattle.run_history.specs.Masters.{MasterDid, MasterView, event_with}
use Rattle.run_history.specs.Rules.{Added}
use Rattle.run_history.proofs.LongerLogs.{master_goes_on, master_stays, sent_more}
use Rattle.run_history.proofs.Prefixes.{prefix_trans}

-- the master as a run opens
pub opening_known : (nodes : ℕ) (config : Config) (linked : Bool) → IsMasterOf config (opening_log nodes config linked) (opening_master max_node config) 0
opening_known nodes config linked = record { has = refl; counted = omega arith }

-- the answer says whether the ballot was granted
pub answer_is : (granted : Bool) (answer : Activation) (ballot : ℕ) (body : Body Command) → answer ≡ (if granted then activation.Activated else activation.Superseded) → body ≡ activation_answer answer ballot
    → body ≡ (if granted then Activated ballot else Superseded ballot)
answer_is true answer ballot body is told = told ∙ ap (λ (a : Activation). activation_answer a ballot) is
answer_is false answer ballot body is told = told ∙ ap (λ (a : Activation). activation_answer a ballot) is

-- what is not refused is no error
pub no_refusal : (result : Result ℕ AssignError) (why : AssignError) (refused : Option AssignRefusal) → result ≡ Err why → refused ≡ None
    → IsErrOf result BadMembers ↔ (refused ≡ Some bad_members) → IsErrOf result BallotsSpent ↔ (refused ≡ Some ballots_spent) → ⊥
no_refusal result BadMembers refused is none bad spent = let so = bad.0 is in cc
no_refusal result BallotsSpent refused is none bad spent = let so = spent.0 is in cc

-- the master by the log with its event
pub master_after_added : (config : Config) (own seen log : List RunEvent) (event : MasterEvent) (state : MasterState) (count : ℕ) → IsPrefix own seen → IsMasterOf config own state count
    → Added seen count (ByMaster event) log → IsMasterOf config log event.after (count + 1)
master_after_added config own seen log event state count p is added =
    let here = master_stays config own added.before state count (prefix_trans own seen added.before p added.begins) is added.counted in
    subst (λ (l : List RunEvent). IsMasterOf config l event.after (count + 1)) (sym added.now) (master_goes_on config added.before state count event here)

-- the message of its event was sent
pub told_sent : (seen log : List RunEvent) (count : ℕ) (event : MasterEvent) → Added seen count (ByMaster event) log → In (event.receiver, event.message) (sent_in log)
told_sent seen log count event added =
    subst (λ (l : List RunEvent). In (event.receiver, event.message) (sent_in l)) (sym added.now)
    (subst (In (event.receiver, event.message)) (sym (sent_more added.before (ByMaster event))) (in_right (sent_in added.before) here))

-- the master did what was added
pub master_did : (old new : MasterView) (seen : List RunEvent) (act told : MasterAct) (after : MasterState) (receiver : ℕ) (message : Message Command) (outcome : MasterOutcome Command) (count : ℕ) → IsPrefix old.log seen
    → Added seen count (ByMaster (record { act = told; after = after; receiver = receiver; message = message })) new.log → told ≡ act → after ≡ outcome.state → receiver ≡ outcome.receiver → message ≡ record { from = master; body = outcome.body }
    → new.state ≡ outcome.state → events_by master old.log ≡ count → MasterDid old act outcome new
master_did old new seen act told after receiver message outcome count p added act_is after_is receiver_is message_is state counted =
    let event : ByMaster (record { act = told; after = after; receiver = receiver; message = message }) ≡ ByMaster (event_with act outcome) =
    λ i. ByMaster (record { act = act_is i; after = after_is i; receiver = receiver_is i; message = message_is i }) in
    let added' = subst (λ (e : RunEvent). Added seen count e new.log) event added in record {
      earlier = added'.before;
      begins = prefix_trans old.log seen added'.before p added'.begins;
      none_since = added'.counted ∙ sym counted;
      state = state;
      now = added'.now;
    }
