-- CommitGives.antt: a commit gives the outputs of the places that it newly applies.
use Rattle.std.proofs.Common.{◌≡◌, ℕ, ◌<◌, ◌≤◌, ◌⊎◌, inl, inr, List, [], ◌++◌, take, drop, refl, ap, sym, ◌∙◌, subst, arith}
use Rattle.std.proofs.lemmas.Bool.{cases_lt}
use Rattle.std.proofs.lemmas.List.{append-nil}
use Rattle.machine.specs.Machine.{Rules, replay}
use Rattle.agreement.specs.whole_logs.Application.{outputs_from, outputs_to, outputs_between}
use Rattle.agreement.specs.whole_logs.Messages.Body.{Commit}
use Rattle.agreement.specs.whole_logs.Messages.{Effect}
use Rattle.agreement.specs.whole_logs.Replica.{ReplicaState}
use Rattle.agreement.specs.whole_logs.StepOutcome.{Outcome, message_to_followed, sent_first}
use Rattle.agreement.specs.whole_logs.Service.{commit_at}
use Rattle.agreement.proofs.of_whole_logs.StepRows.{commit_at-goes, commit_at-stays}
use Rattle.agreement.specs.World.{outputs}
use Rattle.agreement.proofs.Effects.{outputs-append, outputs_of_messages}
use Rattle.agreement.proofs.Given.Places.{none_between}

-- what a commit after other messages leaves and gives
pub record CommitGives {S C O : Type 0} (rules : Rules S C O) (r : ReplicaState S C) (o : Outcome S C O) : Type 0 where
  pub role : o.state.role ≡ r.role
  pub log : o.state.log ≡ r.log
  pub rising : r.committed ≤ o.state.committed
  pub given : outputs o.effects ≡ outputs (outputs_between rules r.log r.committed o.state.committed)

pub commit_gives : {S C O : Type 0} (rules : Rules S C O) (r : ReplicaState S C) (held : ℕ) (firsts : List (Effect C O)) → outputs firsts ≡ [] →
    r.machine ≡ replay rules (take r.committed r.log) → CommitGives rules r (sent_first firsts (commit_at rules r held))
commit_gives {S = S} {C = C} {O = O} rules r held firsts dumb ran = by_order (cases_lt r.committed held)
  where
    told : List (Effect C O)
    told = message_to_followed O r.id (Commit r.joined held) r.progress

    by_order : (r.committed < held) ⊎ (held ≤ r.committed) → CommitGives rules r (sent_first firsts (commit_at rules r held))
    by_order (inl above) =
        subst (λ (o : Outcome S C O). CommitGives rules r (sent_first firsts o)) (sym (commit_at-goes rules r held above))
        (record {
          role = refl;
          log = refl;
          rising = omega (arith, above);
          given = outputs-append firsts (outputs_to rules r held ++ told)
              ∙ ap (λ us. us ++ outputs (outputs_to rules r held ++ told)) dumb
              ∙ outputs-append (outputs_to rules r held) told
              ∙ ap (λ us. outputs (outputs_to rules r held) ++ us) (outputs_of_messages r.id (Commit r.joined held) r.progress)
              ∙ append-nil (outputs (outputs_to rules r held))
              ∙ ap (λ t. outputs {C = C} {O = O} (outputs_from rules t r.committed (drop r.committed (take held r.log)))) ran;
        })
    by_order (inr below) =
        subst (λ (o : Outcome S C O). CommitGives rules r (sent_first firsts o)) (sym (commit_at-stays rules r held below))
        (record {
          role = refl;
          log = refl;
          rising = omega arith;
          given = ap outputs (append-nil firsts) ∙ dumb ∙ sym (none_between rules r.log r.committed);
        })
