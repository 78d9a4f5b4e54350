-- InstallHeard.antt: what an Install says, and what its answer says.
use Rattle.std.proofs.Common.{◌≡◌, ℕ, zero, suc, ◌+◌, ◌≤◌, List, [], ◌∷◌, length, take, Some, refl, ap, sym, ◌∙◌, subst, arith}
use Rattle.std.specs.Prelude.{slice_get}
use Rattle.std.proofs.lemmas.List.{length-take-le}
use Rattle.machine.specs.Machine.{Rules}
use Rattle.agreement.specs.whole_logs.Messages.{Message, Effect}
use Rattle.agreement.specs.whole_logs.Messages.Body.{Install, Installed}
use Rattle.agreement.specs.whole_logs.Losses.{Thinned}
use Rattle.agreement.specs.whole_logs.Replica.{ReplicaState}
use Rattle.agreement.specs.whole_logs.StepOutcome.{message_to}
use Rattle.agreement.specs.World.{GroupWorld, messages, outputs}
use Rattle.lists.specs.Lists.{In, IsPrefixOf}
use Rattle.lists.specs.Lists.In.{here, there}
use Rattle.agreement.specs.Inside.Ballots.{Given, Line, History}
use Rattle.agreement.specs.Inside.Extension.{Extends}
use Rattle.agreement.specs.Inside.MovesAt.{MovesAt}
use Rattle.agreement.specs.Inside.Sound.{IsSoundWorld}
use Rattle.agreement.specs.Inside.MessageMeaning.{SpeaksTruth, IsOf}
use Rattle.lists.proofs.Prefixes.{prefix_length, take_prefix}
use Rattle.agreement.proofs.Effects.{thinned_messages, thinned_outputs}
use Rattle.agreement.proofs.Frame.SaysLater.{of_kept}
use Rattle.agreement.proofs.Frame.Telling.{TellsWithin, same_moves}

-- a list that begins with what was applied has it as its front
pub same_front : {C : Type 0} (k : ℕ) (xs ys : List C) → k ≤ length xs → IsPrefixOf (take k xs) ys → take k ys ≡ take k xs
same_front {C = C} k xs ys within p =
    take_prefix k p (let e = length-take-le k xs within in omega (arith, e)) ∙ twice k xs
  where
    twice : (k : ℕ) (xs : List C) → take k (take k xs) ≡ take k xs
    twice zero xs = refl
    twice (suc k) [] = refl
    twice (suc k) (x ∷ xs) = ap (λ us. x ∷ us) (twice k xs)

-- an Installed that is sent
pub record Sends {S C O : Type 0} (w : GroupWorld S C O) (h : History C) (n : ℕ) (old new : ReplicaState S C) (given : List (Effect C O)) : Type 0 where
  pub moves : MovesAt w h h.line n old new given
  pub silent : outputs given ≡ []

-- what an Install says, of the node that receives it
pub record InstallHeard {S C O : Type 0} (w : GroupWorld S C O) (h : History C) (n from b : ℕ) (log : List C) : Type 0 where
  pub ballot : Given
  pub is_of : IsOf h b ballot
  pub sender : from ≡ ballot.primary
  pub member : In (n + 1) ballot.members
  pub backup : n + 1 ≡ ballot.primary → ⊥
  pub line : Line C
  pub lined : h.line b ≡ Some line
  pub base : line.base ≡ log

pub install_heard : {S C O : Type 0} (w : GroupWorld S C O) (h : History C) (n from b : ℕ) (log : List C) → SpeaksTruth w h (n + 1) from (Install b log) →
    InstallHeard w h n from b log
install_heard w h n from b log (g, o, f, other, (l, lined, base)) =
    record { ballot = g; is_of = o; sender = f; member = other.0; backup = other.1; line = l; lined = lined; base = base }

-- the node sends Installed
pub installed_sends : {S C O : Type 0} (rules : Rules S C O) (w : GroupWorld S C O) (h : History C) (n from b : ℕ) (log : List C)
    (r new : ReplicaState S C) (given : List (Effect C O)) → IsSoundWorld rules w h → slice_get w.nodes n ≡ Some r →
    InstallHeard w h n from b log → r.joined ≤ b → b ≡ new.held_in → length log ≤ length new.log → r.joined ≤ new.joined → r.committed ≤ new.committed →
    Thinned given (message_to O r.id (Installed b (length log)) from ∷ []) → Sends w h n r new given
installed_sends {S = S} {C = C} {O = O} rules w h n from b log r new given s stands q low held short rises committed thinned =
    record {
      moves = same_moves w h n r new given stands rises committed (λ to m i. now to m (thinned_messages thinned (to, m) i));
      silent = thinned_outputs thinned;
    }
  where
    now : (to : ℕ) (m : Message C) → In (to, m) (messages (message_to O r.id (Installed b (length log)) from ∷ [])) →
        (m.from ≡ n + 1) × TellsWithin h.line r new m.body
    now to m (there i) = elim i [ ]
    now to m here =
        let e = ap length q.base in let f = prefix_length (s.lines.prefix b q.line q.lined) in (
          (s.nodes n r stands).id,
          record {
            low = low;
            held = held;
            short = short;
            told = q.line;
            lined = q.lined;
            within = omega (arith, e, f);
          },
        )

-- and says so rightly
pub installed_says : {S C O : Type 0} (w v : GroupWorld S C O) (h i : History C) (n from b id : ℕ) (log : List C) →
    InstallHeard w h n from b log → id ≡ n + 1 → Extends w h v i →
    (to : ℕ) (m : Message C) → In (to, m) (messages (message_to O id (Installed b (length log)) from ∷ [])) → SpeaksTruth v i to m.from m.body
installed_says w v h i n from b id log q is x to m (there j) = elim j [ ]
installed_says w v h i n from b id log q is x to m here =
    let y = x.lines b q.line q.lined in (
      q.ballot,
      of_kept w v h i b q.ballot x q.is_of,
      q.sender,
      (subst (λ k. In k q.ballot.members) (sym is) q.member, λ e. q.backup (sym is ∙ e)),
      (y.0, y.1, sym (ap length q.base) ∙ ap length (sym y.2)),
    )
