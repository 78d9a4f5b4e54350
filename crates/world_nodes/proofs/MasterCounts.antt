-- What nodes count stays what their messages tell, after what their master does.
use Rattle.std.proofs.Common.{◌≡◌, ◌⊎◌, inl, inr, ℕ, ◌+◌, Bool, true, false, if◌then◌else◌, [], ◌∷◌, ◌++◌, get_or, Option, Some, None, refl, sym, ap, ◌∙◌, subst}
use Rattle.std.specs.Prelude.{◌↔◌, Result, Err}
use Rattle.std.specs.Bool.{OnTrue, OnFalse}
use Rattle.std.specs.Result.{IsErrOf}
use Rattle.lists.specs.Lists.{In}
use Rattle.ballot_base.specs.declared.message.Body.{Body}
use Rattle.ballot_base.specs.declared.message.Body.TheVariants.{NewBallot, Activate, Activated, Superseded}
use Rattle.ballot_base.specs.declared.config.Config.{Config}
use Rattle.agreement.specs.MasterState.AssignRefusal.{bad_members, ballots_spent}
use Rattle.agreement.specs.MasterState.{AssignRefusal, MasterState, activating, assigning, is_granted, refusal}
use Rattle.broker_spec.specs.declared.command.Command.{Command}
use Rattle.world_base.specs.node_core.Core.{rules}
use Rattle.headline.specs.node_group.Group.{Group, moment_of_nodes, with_master}
use Rattle.master.specs.declared.error.AssignError.{AssignError}
use Rattle.master.specs.declared.error.AssignError.TheVariants.{BadMembers, BallotsSpent}
use Rattle.master.specs.Inside.{AcknowledgedIn}
use Rattle.master.proofs.Groups.{group_answers, group_gives}
use Rattle.world_nodes.specs.Nodes.{NodesState, NodesStandFor}
use Rattle.world_nodes.specs.Inside.{HaveCounted}
use Rattle.world_nodes.proofs.CountsGoOn.{Sent}
use Rattle.world_nodes.proofs.MasterActs.{answers_exactly, gives_exactly, group_answer, group_giving, master_turn, told_to}

-- ---- the master gives a ballot, and sends it to its primary or not

-- what is not refused is no error
pub no_refusal : (result : Result ℕ AssignError) (why : AssignError) (refused : Option AssignRefusal) → result ≡ Err why → refused ≡ None
    → IsErrOf result BadMembers ↔ (refused ≡ Some bad_members) → IsErrOf result BallotsSpent ↔ (refused ≡ Some ballots_spent) → ⊥
no_refusal result BadMembers refused is none bad spent = let so = bad.0 is in cc
no_refusal result BallotsSpent refused is none bad spent = let so = spent.0 is in cc

pub gives_counting : (old : NodesState) (config : Config) (state : MasterState) (body : Body Command) (more : Sent) (told : Bool) (losses : ℕ) (t next next' : AcknowledgedIn)
    → HaveCounted old t next → refusal old.master config ≡ None → state ≡ assigning old.master config
    → body ≡ NewBallot (old.master.given + 1) config.members old.master.active old.master.members
    → OnTrue told (more ≡ old.sent ++ (config.primary, record { from = 0; body = body }) ∷ []) → OnFalse told (more ≡ old.sent)
    → next'.ballot ≡ old.master.given + 1 → ((m : ℕ) → get_or next'.held m 0 ≡ 0) → HaveCounted (master_turn state more losses old) t next'
gives_counting old config state body more true losses t next next' c none state_is body_is kept lost ballot untold =
    let g = c.group in
    let given = gives_exactly old config none g c.stands in
    let message : Body Command = NewBallot (old.master.given + 1) config.members old.master.active old.master.members in
    let s = subst (λ (h : Group). NodesStandFor h (told_to (assigning old.master config) config.primary message old)) given.1 given.0.stands in
    record {
      group = group_giving config g;
      stands = record {
        master = s.master ∙ sym state_is;
        nodes = s.nodes;
        archive = s.archive;
        sent = s.sent ∙ sym (kept ∙ ap (λ (b : Body Command). old.sent ++ (config.primary, record { from = 0; body = b }) ∷ []) body_is);
      };
      counts = group_gives rules (moment_of_nodes g) (moment_of_nodes (group_giving config g)) config t next next' c.counts
          (ap (λ (m : MasterState). refusal m config) c.stands.master ∙ none) refl (inl refl) (ballot ∙ ap (λ (m : MasterState). m.given + 1) (sym c.stands.master)) untold;
    }
gives_counting old config state body more false losses t next next' c none state_is body_is kept lost ballot untold =
    let g = c.group in
    let h = with_master g (assigning g.master config) in
    record {
      group = h;
      stands = record {
        master = ap (λ (m : MasterState). assigning m config) c.stands.master ∙ sym state_is;
        nodes = c.stands.nodes;
        archive = c.stands.archive;
        sent = c.stands.sent ∙ sym lost;
      };
      counts = group_gives rules (moment_of_nodes g) (moment_of_nodes h) config t next next' c.counts
          (ap (λ (m : MasterState). refusal m config) c.stands.master ∙ none) refl (inr refl) (ballot ∙ ap (λ (m : MasterState). m.given + 1) (sym c.stands.master)) untold;
    }

-- ---- the master answers, and its message is sent or not

-- which counters correspond to the active ballot after an answer
abbrev pub TurnsOver : AcknowledgedIn → AcknowledgedIn → AcknowledgedIn → AcknowledgedIn → MasterState → MasterState → Type 0
TurnsOver t next t' next' m k =
    ((k.active ≡ m.active) × (t' ≡ t) × (next' ≡ next)) ⊎ ((k.active ≡ m.active → ⊥) × (t' ≡ next) × (next' ≡ t))

turns_in : (g : Group) (old : NodesState) (state : MasterState) (ballot : ℕ) (t next t' next' : AcknowledgedIn) → NodesStandFor g old
    → state ≡ activating old.master ballot old.master.waiting → TurnsOver t next t' next' old.master state
    → TurnsOver t next t' next' g.master (activating g.master ballot g.master.waiting)
turns_in g old state ballot t next t' next' s state_is turns =
    subst (λ (m : MasterState). TurnsOver t next t' next' m (activating m ballot m.waiting)) (sym s.master)
    (subst (λ (k : MasterState). TurnsOver t next t' next' old.master k) state_is turns)

pub answers_counting : (old : NodesState) (from ballot : ℕ) (state : MasterState) (body : Body Command) (more : Sent) (told : Bool) (losses : ℕ) (t next t' next' : AcknowledgedIn)
    → HaveCounted old t next → In (0, record { from = from; body = Activate ballot }) old.sent → state ≡ activating old.master ballot old.master.waiting
    → body ≡ (if is_granted old.master ballot old.master.waiting then Activated ballot else Superseded ballot)
    → OnTrue told (more ≡ old.sent ++ (from, record { from = 0; body = body }) ∷ []) → OnFalse told (more ≡ old.sent)
    → TurnsOver t next t' next' old.master state → HaveCounted (master_turn state more losses old) t' next'
answers_counting old from ballot state body more true losses t next t' next' c sent state_is body_is kept lost turns =
    let g = c.group in
    let answered = answers_exactly old from ballot sent g c.stands in
    let message : Body Command = if is_granted old.master ballot old.master.waiting then Activated ballot else Superseded ballot in
    let s = subst (λ (h : Group). NodesStandFor h (told_to (activating old.master ballot old.master.waiting) from message old)) answered.1 answered.0.stands in
    record {
      group = group_answer from ballot g;
      stands = record {
        master = s.master ∙ sym state_is;
        nodes = s.nodes;
        archive = s.archive;
        sent = s.sent ∙ sym (kept ∙ ap (λ (b : Body Command). old.sent ++ (from, record { from = 0; body = b }) ∷ []) body_is);
      };
      counts = group_answers rules (moment_of_nodes g) (moment_of_nodes (group_answer from ballot g)) from ballot t next t' next' c.counts
          (subst (λ (l : Sent). In (0, record { from = from; body = Activate ballot }) l) (sym c.stands.sent) sent) refl (inl refl)
          (turns_in g old state ballot t next t' next' c.stands state_is turns);
    }
answers_counting old from ballot state body more false losses t next t' next' c sent state_is body_is kept lost turns =
    let g = c.group in
    let h = with_master g (activating g.master ballot g.master.waiting) in
    record {
      group = h;
      stands = record {
        master = ap (λ (m : MasterState). activating m ballot m.waiting) c.stands.master ∙ sym state_is;
        nodes = c.stands.nodes;
        archive = c.stands.archive;
        sent = c.stands.sent ∙ sym lost;
      };
      counts = group_answers rules (moment_of_nodes g) (moment_of_nodes h) from ballot t next t' next' c.counts
          (subst (λ (l : Sent). In (0, record { from = from; body = Activate ballot }) l) (sym c.stands.sent) sent) refl (inr refl)
          (turns_in g old state ballot t next t' next' c.stands state_is turns);
    }
