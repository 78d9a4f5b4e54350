-- LinkedRuns.antt: the only node that was served is the one of the listener, and its run is one of linked nodes.
use Rattle.std.proofs.Common.{◌≡◌, ℕ, zero, suc, true, List, [], ◌∷◌, sym, subst, arith}
use Rattle.std.specs.List.{Contains}
use Rattle.std.specs.List.Sorted.{IsPermutation}
use Rattle.std.proofs.lemmas.List.Sorted.{Contains-permutation, IsPermutation-sym}
use Rattle.ballot_base.specs.declared.config.Config.{Config}
use Rattle.run_history.specs.Linked.{IsRun}
use Rattle.server.specs.Ends.{IsReportIn}
use Rattle.server.specs.Linked.{IsLinkedRun, alone}
use Rattle.server.specs.declared.linked_run.LinkedRun.{LinkedRun}

only : (n number : ℕ) → Contains (number ∷ []) n → n ≡ number
only n number (zero, less, is) = sym is
only n number (suc k, less, is) = absurd (omega (arith, less))

ended_so : (number : ℕ) (served : List ℕ) (run : LinkedRun)
    → IsRun true number alone run.log → IsReportIn number alone run.log run.report
    → IsPermutation (number ∷ []) served → Contains served run.report.number → IsLinkedRun number run
ended_so number served run linked report moved among = record {
  linked = linked;
  report = report;
  named =
      only run.report.number number
      (Contains-permutation served (number ∷ []) run.report.number (IsPermutation-sym (number ∷ []) served moved) among);
}

-- a run of so many nodes that opened alone, with one listener
pub linked_run : (nodes number : ℕ) (config : Config) (numbers served : List ℕ) (run : LinkedRun)
    → nodes ≡ number → config ≡ alone → numbers ≡ number ∷ []
    → IsRun true nodes config run.log → IsReportIn nodes config run.log run.report
    → IsPermutation numbers served → Contains served run.report.number → IsLinkedRun number run
linked_run nodes number config numbers served run all first one linked report moved among =
    ended_so number served run
    (subst (λ (n : ℕ). IsRun true n alone run.log) all (subst (λ (c : Config). IsRun true nodes c run.log) first linked))
    (subst (λ (n : ℕ). IsReportIn n alone run.log run.report) all (subst (λ (c : Config). IsReportIn nodes c run.log run.report) first report))
    (subst (λ (l : List ℕ). IsPermutation l served) one moved) among
