-- MomentsTell.antt: what was acknowledged at the moments was acknowledged by the history.
use Rattle.std.proofs.Common.{◌≡◌, ℕ, ◌+◌, ◌<◌, ◌⊎◌, inl, inr, List, ◌∷◌, length, Some, ap, sym, ◌∙◌, subst, arith}
use Rattle.std.specs.Prelude.{slice_get}
use Rattle.machine.specs.Machine.{Rules}
use Rattle.lists.specs.Lists.{In, IsPrefixOf}
use Rattle.lists.specs.Lists.In.{here}
use Rattle.lists.proofs.Prefixes.{prefix_then, prefix_length}
use Rattle.agreement.specs.whole_logs.Messages.Body.{Held, Installed}
use Rattle.ballot_base.specs.declared.config.Config.{Config}
use Rattle.agreement.specs.whole_logs.Replica.{ReplicaState}
use Rattle.agreement.specs.Inside.Ballots.{Given, Line, Acknowledged}
use Rattle.agreement.specs.Inside.Ballots.Acknowledged.{told_by_held, told_by_installed, told_as_primary}
use Rattle.agreement.specs.Inside.OpeningHistory.{first_ballot}
use Rattle.agreement.specs.Moments.{Moment, HasConfig, WasActive, HasAcknowledged}
use Rattle.agreement.specs.Moments.HasConfig.{opened_with, was_assigned}
use Rattle.agreement.specs.Moments.HasAcknowledged.{told_as_log, told_by_message}
use Rattle.agreement.proofs.Agreed.MomentsAreKnown.{IsKnown}

-- a ballot that was active is activated in the history
pub active_known : {S C O : Type 0} (rules : Rules S C O) (config : Config) (a : Moment S C O) (moments : List (Moment S C O)) →
    (q : IsKnown rules config a moments) → (b : ℕ) → WasActive (a ∷ moments) b → In b q.history.activated
active_known rules config a moments q b (c, i, e) =
    let z = q.histories c i in
    z.3 b (subst (λ x. In x z.0.activated) e (subst (λ bs. In c.master.active bs) (sym z.1.master.newest) here))

-- the configuration of a ballot is what it was given, and its members are numbers of nodes
pub config_known : {S C O : Type 0} (rules : Rules S C O) (config : Config) (a : Moment S C O) (moments : List (Moment S C O)) →
    (q : IsKnown rules config a moments) → (b : ℕ) (c : Config) → HasConfig config (a ∷ moments) b c →
    (g : Given) × (q.history.given b ≡ Some g) × (g.members ≡ c.members) × (g.primary ≡ c.primary)
    × ((x : ℕ) → In x c.members → (n : ℕ) × (x ≡ n + 1))
config_known rules config a moments q b c (opened_with one same) = (
  first_ballot config,
  ap q.history.given one ∙ q.first,
  ap (λ (u : Config). u.members) (sym same),
  ap (λ (u : Config). u.primary) (sym same),
  λ x i. q.numbers x (subst (λ (u : Config). In x u.members) same i),
)
config_known rules config a moments q b c (was_assigned v i waits) =
    let z = q.histories v i in
    let y = (z.1.master.waits b c waits).2 in (
      y.0,
      z.2.given b y.0 y.1,
      y.3,
      y.4,
      λ x j. z.1.serving.waiting b c waits x j,
    )

-- a log at a moment begins the list of the ballot in which it is held
log_known : {S C O : Type 0} (rules : Rules S C O) (config : Config) (a : Moment S C O) (moments : List (Moment S C O)) →
    (q : IsKnown rules config a moments) → (c : Moment S C O) (n b : ℕ) (r : ReplicaState S C) → In c (a ∷ moments) →
    slice_get c.world.nodes n ≡ Some r → r.held_in ≡ b → 0 < b →
    (l : Line C) × (q.history.line b ≡ Some l) × IsPrefixOf r.log l.list
log_known rules config a moments q c n b r i stands held low =
    let z = q.histories c i in
    let y = (z.1.sound.nodes n r stands).placed.between (omega (arith, held, low)) in
    let lines = z.2.lines b y.2.0 (ap z.0.line (sym held) ∙ y.2.1) in
    (lines.0, lines.1, prefix_then y.2.3 lines.3)

-- what a node has acknowledged by the moments it has acknowledged by the history
pub told_known : {S C O : Type 0} (rules : Rules S C O) (config : Config) (a : Moment S C O) (moments : List (Moment S C O)) →
    (q : IsKnown rules config a moments) → (b n : ℕ) (xs : List C) → 0 < b → HasAcknowledged config (a ∷ moments) b n xs →
    (l : Line C) × (q.history.line b ≡ Some l) × IsPrefixOf xs l.list × Acknowledged a.world q.history (n + 1) b (length xs)
told_known {S = S} {C = C} {O = O} rules config a moments q b n xs low (told_as_log c r given i stands held has primary is) =
    let y = log_known rules config a moments q c n b r i stands held low in
    let front = subst (λ (us : List C). IsPrefixOf us y.0.list) is y.2 in
    let g = config_known rules config a moments q b given has in
    (y.0, y.1, front, told_as_primary g.0 y.0 g.1 (g.3 ∙ primary) y.1 (prefix_length front))
told_known {S = S} {C = C} {O = O} rules config a moments q b n xs low (told_by_message c r i stands held (receiver, sent) front) =
    let y = log_known rules config a moments q c n b r i stands held low in
    (y.0, y.1, prefix_then front y.2, by_sent sent)
  where
    by_sent : In (receiver, record { from = n + 1; body = Held b (length xs) }) c.world.sent
        ⊎ In (receiver, record { from = n + 1; body = Installed b (length xs) }) c.world.sent → Acknowledged a.world q.history (n + 1) b (length xs)
    by_sent (inl j) = told_by_held receiver (length xs) ((q.histories c i).2.sent _ j) (omega arith)
    by_sent (inr j) = told_by_installed receiver (length xs) ((q.histories c i).2.sent _ j) (omega arith)
