-- WholeTold.antt: what nodes acknowledged, by the messages of a group, is what they acknowledged by
-- those on whole logs.
use Rattle.std.proofs.Common.{◌≡◌, ℕ, ◌<◌, cond, max, List, [], ◌∷◌, map, get_or, refl, ap, ap₂, ◌∙◌}
use Rattle.std.specs.Prelude.{◌==◌}
use Rattle.ballot_base.specs.declared.message.Body.{Body}
use Rattle.ballot_base.specs.declared.message.Body.TheVariants.{NewBallot, Join, State, Install, Installed, Activate, Activated, Superseded, Append, Held, Commit}
use Rattle.ballot_base.specs.declared.message.Message.{Message}
use Rattle.agreement.specs.Inside.AcknowledgedLengths.{max_acknowledged as whole_most, acknowledged_by as whole_by}
use Rattle.agreement.specs.cut_logs.Whole.{whole_body}
use Rattle.agreement.specs.cut_logs.World.{whole_sent}
use Rattle.master.specs.Inside.{HasCounted, AcknowledgedIn}
use Rattle.master.specs.AcknowledgedLengths.{max_acknowledged, acknowledged_by}

-- a message says what it acknowledges on whole logs
told_by_whole : {C : Type 0} (b : ℕ) (archive : List C) (body : Body C) → acknowledged_by b body ≡ whole_by b (whole_body archive body)
told_by_whole b archive (NewBallot x members a old) = refl
told_by_whole b archive (Join x a) = refl
told_by_whole b archive (State x log) = refl
told_by_whole b archive (Install x log) = refl
told_by_whole b archive (Installed x held) = refl
told_by_whole b archive (Activate x) = refl
told_by_whole b archive (Activated x) = refl
told_by_whole b archive (Superseded x) = refl
told_by_whole b archive (Append x place command) = refl
told_by_whole b archive (Held x held) = refl
told_by_whole b archive (Commit x held) = refl

pub max_told_whole : {C : Type 0} (m b : ℕ) (archive : List C) (sent : List (ℕ × Message C)) →
    max_acknowledged m b sent ≡ whole_most m b (map (whole_sent archive) sent)
max_told_whole m b archive [] = refl
max_told_whole {C = C} m b archive (x ∷ sent) =
    ap₂ max (ap (λ k. cond (x.1.from == m) k 0) (told_by_whole b archive x.1.body)) (max_told_whole m b archive sent)

-- so the counters count what is acknowledged on whole logs
pub counted_whole : {C : Type 0} (archive : List C) (sent : List (ℕ × Message C)) (t : AcknowledgedIn) → HasCounted sent t →
    (m : ℕ) → m < 16 → get_or t.held m 0 ≡ whole_most m t.ballot (map (whole_sent archive) sent)
counted_whole archive sent t counted m low = counted m low ∙ max_told_whole m t.ballot archive sent
