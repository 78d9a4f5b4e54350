-- Ticking.antt: a tick of a node in each role.
use Rattle.std.proofs.Common.{◌≡◌, ℕ, ◌+◌, List, [], ◌∷◌, Some, Option, refl, ap, sym, ◌∙◌, subst, arith}
use Rattle.std.specs.Prelude.{slice_get}
use Rattle.machine.specs.Machine.{Rules}
use Rattle.agreement.specs.whole_logs.Messages.{Message, Effect}
use Rattle.agreement.specs.whole_logs.Messages.Body.{Join, Install}
use Rattle.ballot_base.specs.declared.status.Role.{Role}
use Rattle.ballot_base.specs.declared.status.Role.TheVariants.{Backup, Fetching, Installing, Active}
use Rattle.agreement.specs.whole_logs.Replica.{ReplicaState}
use Rattle.agreement.specs.whole_logs.StepOutcome.{message_to_each}
use Rattle.agreement.specs.whole_logs.Transfer.{on_tick_fetching, install_effects}
use Rattle.agreement.specs.whole_logs.Service.{on_tick_active}
use Rattle.agreement.specs.whole_logs.Protocol.{ticked}
use Rattle.agreement.specs.World.{GroupWorld, messages, outputs, moved}
use Rattle.lists.specs.Lists.{In}
use Rattle.lists.specs.Lists.In.{here, there}
use Rattle.agreement.specs.Inside.Ballots.{Given, History}
use Rattle.agreement.specs.Inside.Keeps.{KeepsSoundness}
use Rattle.agreement.specs.Inside.Sound.{IsSoundWorld}
use Rattle.agreement.specs.Inside.SoundNodes.{IsFetching, IsInstalling, IsActive}
use Rattle.agreement.specs.Inside.MessageMeaning.{SpeaksTruth}
use Rattle.agreement.proofs.Frame.Framing.{within_of}
use Rattle.agreement.proofs.Frame.SaysLater.{says_kept}
use Rattle.agreement.proofs.Frame.Joining.{IsSilent, AreSilent, quiet_extends}
use Rattle.agreement.proofs.Changing.InstalledCounts.{all_installed}
use Rattle.agreement.proofs.Changing.NewBallots.{said_to_each, outputs_to_each}
use Rattle.agreement.proofs.Frame.Quiet.{before_quiet, quiet_keeps, keeps_nothing}

-- a step that changes no node, whose messages are so already and say nothing
pub speaking_keeps : {S C O : Type 0} (rules : Rules S C O) (w : GroupWorld S C O) (h : History C) (n : ℕ) (r : ReplicaState S C)
    (effects : List (Effect C O)) → IsSoundWorld rules w h → slice_get w.nodes n ≡ Some r → AreSilent (messages effects) →
    outputs effects ≡ [] → ((to : ℕ) (m : Message C) → In (to, m) (messages effects) → SpeaksTruth w h to m.from m.body) →
    KeepsSoundness rules w h n (record { state = r; effects = effects })
speaking_keeps rules w h n r effects s stands silent dumb says =
    quiet_keeps rules w h n r (record { state = r; effects = effects }) s stands (omega arith) (omega arith) silent dumb
    (λ given q. before_quiet rules w h n r r given s q)
    (λ given q to m i. says_kept w (moved w n r given) h h to m.from m.body (quiet_extends w h n r r given q) (λ b j. j)
    (within_of rules w h s) (says to m i))

-- the ballot that a leader leads, given twice
same_given : (o : Option Given) (x y : Given) → o ≡ Some x → o ≡ Some y → x ≡ y
same_given o x y e f = cc

-- a tick of a new primary that waits for a log
keeps_tick_fetching : {S C O : Type 0} (rules : Rules S C O) (w : GroupWorld S C O) (h : History C) (n : ℕ) (r : ReplicaState S C) →
    IsSoundWorld rules w h → slice_get w.nodes n ≡ Some r → IsFetching w h n r → KeepsSoundness rules w h n (on_tick_fetching O r)
keeps_tick_fetching {S = S} {C = C} {O = O} rules w h n r s stands (leads, low, none, (g, is_of, prev, (old, given, olds))) =
    speaking_keeps rules w h n r (message_to_each O r.id (Join r.joined r.previous) r.previous_members) s stands
    (said_to_each O (λ to m. IsSilent m.body) r.id (Join r.joined r.previous) r.previous_members (λ to i. tt))
    (outputs_to_each O r.id (Join r.joined r.previous) r.previous_members)
    (said_to_each O (λ to m. SpeaksTruth w h to m.from m.body) r.id (Join r.joined r.previous) r.previous_members
    (λ to i. (
      g,
      is_of,
      id ∙ sym (ap (λ (x : Given). x.primary) (same_given (h.given r.joined) g leads.0 is_of.given leads.1) ∙ leads.2),
      prev,
      (n, id, (r, stands, omega arith)),
      (old, subst (λ x. h.given x ≡ Some old) (sym prev) given, subst (λ ms. In to ms) olds i),
    )))
  where
    id : r.id ≡ n + 1
    id = (s.nodes n r stands).id

-- what a new primary says whose log is being installed
pub says_installs : {S C O : Type 0} (w : GroupWorld S C O) (h : History C) (n : ℕ) (r : ReplicaState S C) → r.id ≡ n + 1 → IsInstalling w h n r →
    (ms : List ℕ) → r.lacking ≡ ms → (to : ℕ) (m : Message C) → In (to, m) (messages (install_effects O r ms)) →
    SpeaksTruth w h to m.from m.body
says_installs {S = S} {C = C} {O = O} w h n r id j [] none to m (there i) = elim i [ ]
says_installs {S = S} {C = C} {O = O} w h n r id j [] none to m here =
    let g = j.later.0 in
    let primary : g.primary ≡ n + 1 =
    ap (λ (x : Given). x.primary) (same_given (h.given r.joined) g j.leads.0 j.later.1.given j.leads.1) ∙ j.leads.2 in
    (g, j.later.1, id ∙ sym primary, (j.line, j.lined, all_installed w h n r j none))
says_installs {S = S} {C = C} {O = O} w h n r id j (x ∷ ms) some to m i =
    said_to_each O (λ to m. SpeaksTruth w h to m.from m.body) r.id (Install r.joined r.log) (x ∷ ms)
    (λ to i.
    let g = j.later.0 in
    let one : g ≡ j.leads.0 = same_given (h.given r.joined) g j.leads.0 j.later.1.given j.leads.1 in
    let primary : g.primary ≡ n + 1 = ap (λ (x : Given). x.primary) one ∙ j.leads.2 in
    let lack = j.lacks to (subst (λ ms. In to ms) (sym some) i) in
    let member : In to g.members = subst (λ ms. In to ms) (j.leads.3 ∙ ap (λ (x : Given). x.members) (sym one)) lack.0 in
    (g, j.later.1, id ∙ sym primary, (member, λ e. lack.1 (e ∙ primary)), (j.line, j.lined, sym j.base)))
    to m i

pub silent_installs : {S C : Type 0} (O : Type 0) (r : ReplicaState S C) (ms : List ℕ) → AreSilent (messages (install_effects O r ms))
silent_installs O r [] to m here = tt
silent_installs O r [] to m (there i) = elim i [ ]
silent_installs O r (x ∷ ms) to m i =
    said_to_each O (λ to m. IsSilent m.body) r.id (Install r.joined r.log) (x ∷ ms) (λ to i. tt) to m i

pub dumb_installs : {S C : Type 0} (O : Type 0) (r : ReplicaState S C) (ms : List ℕ) → outputs (install_effects O r ms) ≡ []
dumb_installs O r [] = refl
dumb_installs O r (x ∷ ms) = outputs_to_each O r.id (Install r.joined r.log) (x ∷ ms)

-- these messages name their sender
pub from_installs : {S C : Type 0} (O : Type 0) (r : ReplicaState S C) (ms : List ℕ) (to : ℕ) (m : Message C) →
    In (to, m) (messages (install_effects O r ms)) → m.from ≡ r.id
from_installs O r [] to m here = refl
from_installs O r [] to m (there i) = elim i [ ]
from_installs O r (x ∷ ms) to m i =
    said_to_each O (λ to m. m.from ≡ r.id) r.id (Install r.joined r.log) (x ∷ ms) (λ to i. refl) to m i

-- a tick of a node
pub keeps_tick : {S C O : Type 0} (rules : Rules S C O) (w : GroupWorld S C O) (h : History C) (n : ℕ) (r : ReplicaState S C) →
    IsSoundWorld rules w h → slice_get w.nodes n ≡ Some r →
    (IsActive w h n r → KeepsSoundness rules w h n (on_tick_active O r)) →
    (role : Role) → r.role ≡ role → KeepsSoundness rules w h n (ticked O r role)
keeps_tick rules w h n r s stands active Backup e = keeps_nothing rules w h n r _ s stands refl
keeps_tick rules w h n r s stands active Fetching e = keeps_tick_fetching rules w h n r s stands ((s.nodes n r stands).fetching e)
keeps_tick {S = S} {C = C} {O = O} rules w h n r s stands active Installing e =
    let t = s.nodes n r stands in
    speaking_keeps rules w h n r (install_effects O r r.lacking) s stands
    (silent_installs O r r.lacking) (dumb_installs O r r.lacking)
    (says_installs w h n r t.id (t.installing e) r.lacking refl)
keeps_tick rules w h n r s stands active Active e = active ((s.nodes n r stands).active e)
