-- Commits.antt: an active primary commits what all members hold, and gives the outputs.
use Rattle.std.proofs.Common.{◌≡◌, ℕ, ◌+◌, ◌<◌, ◌≤◌, ◌⊎◌, inl, inr, List, [], ◌++◌, length, take, drop, Option, refl, ap, sym, ◌∙◌, subst, arith}
use Rattle.std.proofs.lemmas.Bool.{cases_lt}
use Rattle.std.proofs.lemmas.List.{append-nil}
use Rattle.machine.specs.Machine.{Rules, replay}
use Rattle.agreement.specs.whole_logs.Messages.{Message, Effect}
use Rattle.agreement.specs.whole_logs.Messages.Body.{Commit}
use Rattle.ballot_base.specs.declared.status.Progress.{Progress}
use Rattle.agreement.specs.whole_logs.Replica.{ReplicaState}
use Rattle.agreement.specs.whole_logs.StepOutcome.{Outcome, message_to_followed, sent_first}
use Rattle.agreement.specs.whole_logs.Application.{applied_to, outputs_from, outputs_to, outputs_between}
use Rattle.ballot_base.specs.Service.{least}
use Rattle.agreement.specs.whole_logs.Service.{commit_at}
use Rattle.agreement.proofs.of_whole_logs.StepRows.{commit_at-goes, commit_at-stays}
use Rattle.ballot_base.proofs.StepRows.{least-le}
use Rattle.agreement.specs.World.{GroupWorld, messages, outputs, moved}
use Rattle.lists.specs.Lists.{In}
use Rattle.agreement.specs.Inside.Ballots.{Line, History, IsChosenIn}
use Rattle.agreement.specs.Inside.Keeps.{KeepsAdding}
use Rattle.agreement.specs.Inside.MovesAt.{MovesAt, with_lines}
use Rattle.agreement.specs.Inside.Sound.{IsSoundWorld}
use Rattle.agreement.specs.Inside.SoundNodes.{IsActive, IsSoundNode}
use Rattle.agreement.specs.Inside.MessageMeaning.{SpeaksTruth}
use Rattle.lists.proofs.Members.{in_append}
use Rattle.agreement.proofs.Effects.{messages-append, outputs-append, outputs_of_messages, thinned_messages, thinned_outputs}
use Rattle.agreement.proofs.Serving.ActiveTicks.{said_to_progress, active_chosen, active_log, followed_other}
use Rattle.agreement.proofs.Frame.MoveLines.{tells_here}
use Rattle.agreement.proofs.Frame.Framing.{move_extends}
use Rattle.agreement.proofs.Frame.Giving.{left_more}
use Rattle.agreement.proofs.Frame.Joining.{IsSilent}
use Rattle.agreement.proofs.Frame.Leaving.{left_same}
use Rattle.agreement.proofs.Frame.Outputs.{least_le_reached, outs_from_silent}
use Rattle.agreement.proofs.Frame.Moved.{move_sound}
use Rattle.agreement.proofs.Serving.Ready.{Ready, committed_node}

-- what a primary sends first, and then with its commit
pub ready_keeps : {S C O : Type 0} (rules : Rules S C O) (w : GroupWorld S C O) (h : History C) (line : ℕ → Option (Line C)) (n : ℕ)
    (old r : ReplicaState S C) (adds : ℕ → C → Type 0) (firsts : List (Effect C O)) → IsSoundWorld rules w h → Ready rules w h line n old r adds → outputs firsts ≡ [] →
    r.id ≡ n + 1 → r.machine ≡ replay rules (take r.committed r.log) →
    ((to : ℕ) (m : Message C) → In (to, m) (messages firsts) → (m.from ≡ n + 1) × IsSilent m.body) →
    ((k : ℕ) (t : S) (given : List (Effect C O)) → MovesAt w h line n old (record r { committed = k; machine = t }) given →
    (to : ℕ) (m : Message C) → In (to, m) (messages firsts) →
    SpeaksTruth (moved w n (record r { committed = k; machine = t }) given) (with_lines h line) to m.from m.body) →
    KeepsAdding rules w h n adds (sent_first firsts (commit_at rules r (least (length r.log) r.progress)))
ready_keeps {S = S} {C = C} {O = O} rules w h line n old r adds firsts s q dumb id ran quiet says =
    by_order (cases_lt r.committed (least (length r.log) r.progress))
  where
    stays : KeepsAdding rules w h n adds (record { state = r; effects = firsts ++ [] })
    stays given thinned =
        let moves : MovesAt w h line n old r given = q.moves r.committed r.machine (omega arith) given
        (λ to m i. quiet to m (subst (λ (us : List (Effect C O)). In (to, m) (messages us)) (append-nil firsts) (thinned_messages thinned (to, m) i))) in
        record {
          history = with_lines h line;
          extends = move_extends w h line n old r given moves;
          active = λ c j. j;
          ballots = refl;
          added = q.added;
          tells = λ m b j t. tells_here w h line n old r given moves m b j t;
          sound = move_sound rules w h line n old r given s moves (q.node r.committed r.machine given moves)
              (λ to m i. says r.committed r.machine given moves to m
              (subst (λ (us : List (Effect C O)). In (to, m) (messages us)) (append-nil firsts) (thinned_messages thinned (to, m) i)))
              (left_same rules w h line n old r given moves
              (thinned_outputs thinned ∙ ap outputs (append-nil firsts) ∙ dumb) s.left);
        }

    goes : (k : ℕ) → r.committed < k → k ≤ length r.log → ((reached : Progress) → In reached r.progress → k ≤ reached.held) →
        KeepsAdding rules w h n adds (record {
          state = applied_to rules r k;
          effects = firsts ++ (outputs_to rules r k ++ message_to_followed O r.id (Commit r.joined k) r.progress);
        })
    goes k above within followed given thinned =
        record {
          history = with_lines h line;
          extends = move_extends w h line n old new given moves;
          active = λ c j. j;
          ballots = refl;
          added = q.added;
          tells = λ m b j t. tells_here w h line n old new given moves m b j t;
          sound = move_sound rules w h line n old new given s moves
              (committed_node rules (moved w n new given) (with_lines h line) n r (q.node k new.machine given moves) q.role k (omega (arith, above)) within followed)
              (λ to m i. by_part to m (split to m (thinned_messages thinned (to, m) i)))
              (left_more rules w h line n old new given moves s r.joined r.committed k a.leads.0 a.line a.activated a.leads.1 a.leads.2 a.lined
              above a.above q.after (omega arith) chosen outs);
        }
      where
        new : ReplicaState S C
        new = applied_to rules r k

        split : (to : ℕ) (m : Message C) →
            In (to, m) (messages (firsts ++ (outputs_to rules r k ++ message_to_followed O r.id (Commit r.joined k) r.progress))) →
            In (to, m) (messages firsts) ⊎ In (to, m) (messages (message_to_followed O r.id (Commit r.joined k) r.progress))
        split to m i =
            in_append (messages firsts) (messages (message_to_followed O r.id (Commit r.joined k) r.progress))
            (subst (λ (us : List (ℕ × Message C)). In (to, m) us)
            (messages-append firsts (outputs_to rules r k ++ message_to_followed O r.id (Commit r.joined k) r.progress)
            ∙ ap (λ us. messages firsts ++ us)
            (messages-append (outputs_to rules r k) (message_to_followed O r.id (Commit r.joined k) r.progress)
            ∙ ap (λ us. us ++ messages (message_to_followed O r.id (Commit r.joined k) r.progress))
            (outs_from_silent rules r.machine r.committed (drop r.committed (take k r.log))))) i)

        from_part : (to : ℕ) (m : Message C) →
            In (to, m) (messages firsts) ⊎ In (to, m) (messages (message_to_followed O r.id (Commit r.joined k) r.progress)) →
            (m.from ≡ n + 1) × IsSilent m.body
        from_part to m (inl i) = quiet to m i
        from_part to m (inr i) =
            said_to_progress O (λ to m. (m.from ≡ n + 1) × IsSilent m.body) r.id (Commit r.joined k) r.progress (λ reached j. (id, tt)) to m i

        moves : MovesAt w h line n old (applied_to rules r k) given
        moves = q.moves k new.machine (omega (arith, above)) given (λ to m i. from_part to m (split to m (thinned_messages thinned (to, m) i)))

        t : IsSoundNode (moved w n (applied_to rules r k) given) (with_lines h line) n r
        t = q.node k new.machine given moves

        a : IsActive (moved w n (applied_to rules r k) given) (with_lines h line) n r
        a = t.active q.role

        same : r.log ≡ a.line.list
        same = active_log (moved w n (applied_to rules r k) given) (with_lines h line) n r t a

        chosen : IsChosenIn (moved w n (applied_to rules r k) given) (with_lines h line) r.joined k
        chosen = active_chosen (moved w n (applied_to rules r k) given) (with_lines h line) n r a k
            (let e = ap length same in omega (arith, e, within)) followed

        outs : outputs given ≡ outputs (outputs_between rules a.line.list r.committed k)
        outs =
            thinned_outputs thinned
            ∙ outputs-append firsts (outputs_to rules r k ++ message_to_followed O r.id (Commit r.joined k) r.progress)
            ∙ ap (λ us. us ++ outputs (outputs_to rules r k ++ message_to_followed O r.id (Commit r.joined k) r.progress)) dumb
            ∙ outputs-append (outputs_to rules r k) (message_to_followed O r.id (Commit r.joined k) r.progress)
            ∙ ap (λ us. outputs (outputs_to rules r k) ++ us) (outputs_of_messages r.id (Commit r.joined k) r.progress)
            ∙ append-nil (outputs (outputs_to rules r k))
            ∙ ap (λ t. outputs (outputs_from rules t r.committed (drop r.committed (take k r.log)))) ran
            ∙ ap (λ us. outputs (outputs_between rules us r.committed k)) same

        by_part : (to : ℕ) (m : Message C) →
            In (to, m) (messages firsts) ⊎ In (to, m) (messages (message_to_followed O r.id (Commit r.joined k) r.progress)) →
            SpeaksTruth (moved w n new given) (with_lines h line) to m.from m.body
        by_part to m (inl i) = says k new.machine given moves to m i
        by_part to m (inr i) =
            said_to_progress O (λ to m. SpeaksTruth (moved w n new given) (with_lines h line) to m.from m.body) r.id (Commit r.joined k) r.progress
            (λ reached j. (
              a.leads.0,
              a.leads.1,
              id ∙ sym a.leads.2,
              followed_other (moved w n new given) (with_lines h line) n r a reached j,
              a.activated,
              chosen,
            )) to m i

    by_order : (r.committed < least (length r.log) r.progress) ⊎ (least (length r.log) r.progress ≤ r.committed) →
        KeepsAdding rules w h n adds (sent_first firsts (commit_at rules r (least (length r.log) r.progress)))
    by_order (inl above) =
        subst (λ (o : Outcome S C O). KeepsAdding rules w h n adds (sent_first firsts o)) (sym (commit_at-goes rules r (least (length r.log) r.progress) above))
        (goes (least (length r.log) r.progress) above (least-le (length r.log) r.progress)
        (λ reached j. least_le_reached (length r.log) reached r.progress j))
    by_order (inr below) =
        subst (λ (o : Outcome S C O). KeepsAdding rules w h n adds (sent_first firsts o)) (sym (commit_at-stays rules r (least (length r.log) r.progress) below))
        stays
