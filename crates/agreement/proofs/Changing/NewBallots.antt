-- NewBallots.antt: a NewBallot that comes to the primary of the ballot.
use Rattle.std.proofs.Common.{◌≡◌, ℕ, ◌+◌, ◌<◌, ◌≤◌, ◌⊎◌, inl, inr, List, [], ◌∷◌, Some, None, Option, refl, sym, ◌∙◌, subst, arith}
use Rattle.std.specs.Prelude.{slice_get}
use Rattle.std.proofs.lemmas.Bool.{cases_lt}
use Rattle.machine.specs.Machine.{Rules}
use Rattle.agreement.specs.whole_logs.Messages.{Message, Body, Effect}
use Rattle.agreement.specs.whole_logs.Messages.Body.{NewBallot, Join}
use Rattle.ballot_base.specs.declared.status.Role.TheVariants.{Fetching}
use Rattle.agreement.specs.whole_logs.Replica.{ReplicaState}
use Rattle.agreement.specs.whole_logs.StepOutcome.{Outcome, message_to_each}
use Rattle.agreement.specs.whole_logs.Transfer.{on_new_ballot}
use Rattle.agreement.specs.World.{GroupWorld, messages, outputs, moved}
use Rattle.lists.specs.Lists.{In}
use Rattle.lists.specs.Lists.In.{here, there}
use Rattle.agreement.specs.Inside.Ballots.{Given, Line, History}
use Rattle.agreement.specs.Inside.BallotsStand.{Applied}
use Rattle.agreement.specs.Inside.Ballots.Acknowledged.{told_as_primary}
use Rattle.agreement.specs.Inside.BallotsStand.Applied.{nothing, in_ballot}
use Rattle.agreement.specs.Inside.Keeps.{KeepsSoundness}
use Rattle.agreement.specs.Inside.Sound.{IsSoundWorld}
use Rattle.agreement.specs.Inside.SoundNodes.{IsSoundNode}
use Rattle.agreement.specs.Inside.MessageMeaning.{SpeaksTruth}
use Rattle.lists.proofs.Places.{get_set}
use Rattle.agreement.proofs.Frame.Joining.{IsSilent, MovesQuietly}
use Rattle.agreement.proofs.Frame.Quiet.{before_quiet, quiet_keeps, keeps_nothing}
use Rattle.agreement.proofs.of_whole_logs.ChangeRows.{on_new_ballot-joins, on_new_ballot-stays}

-- a message to each of some nodes
pub said_to_each : {C : Type 0} (O : Type 0) (P : ℕ → Message C → Type 0) (id : ℕ) (body : Body C) (tos : List ℕ) →
    ((to : ℕ) → In to tos → P to (record { from = id; body = body })) →
    (to : ℕ) (m : Message C) → In (to, m) (messages (message_to_each O id body tos)) → P to m
said_to_each O P id body [] f to m i = elim i [ ]
said_to_each O P id body (x ∷ tos) f to m here = f x here
said_to_each O P id body (x ∷ tos) f to m (there i) = said_to_each O P id body tos (λ y j. f y (there j)) to m i

pub outputs_to_each : {C : Type 0} (O : Type 0) (id : ℕ) (body : Body C) (tos : List ℕ) → outputs (message_to_each O id body tos) ≡ []
outputs_to_each O id body [] = refl
outputs_to_each O id body (x ∷ tos) = outputs_to_each O id body tos

-- a ballot that its primary has not joined has no list
no_line_yet : {S C O : Type 0} (rules : Rules S C O) (w : GroupWorld S C O) (h : History C) (n : ℕ) (r : ReplicaState S C) (b : ℕ) (g : Given) →
    IsSoundNode w h n r → h.given b ≡ Some g → g.primary ≡ n + 1 → r.joined < b → (o : Option (Line C)) → h.line b ≡ o → h.line b ≡ None
no_line_yet rules w h n r b g s given primary low None e = e
no_line_yet rules w h n r b g s given primary low (Some l) e =
    let up = s.placed.told b 0 (told_as_primary g l given primary e (omega arith)) in
    let order = s.placed.order in absurd (omega (arith, up, order, low))

-- a NewBallot that is taken
new_ballot_taken : {S C O : Type 0} (rules : Rules S C O) (w : GroupWorld S C O) (h : History C) (n : ℕ) (r : ReplicaState S C)
    (from b a : ℕ) (members old : List ℕ) → IsSoundWorld rules w h → slice_get w.nodes n ≡ Some r →
    SpeaksTruth w h (n + 1) from (NewBallot b members a old) → r.joined < b →
    KeepsSoundness rules w h n (record {
      state = record r {
        joined = b;
        role = Fetching;
        members = members;
        previous = a;
        previous_members = old;
        lacking = [];
        progress = [];
      };
      effects = message_to_each O r.id (Join b a) old;
    })
new_ballot_taken {S = S} {C = C} {O = O} rules w h n r from b a members old s stands (g, is_of, master, to, same, prev, (before, given_before, olds)) low =
    quiet_keeps rules w h n r _ s stands (omega (arith, low)) (omega arith)
    (said_to_each O (λ to m. IsSilent m.body) r.id (Join b a) old (λ to i. tt)) (outputs_to_each O r.id (Join b a) old)
    (λ given q. node given q)
    (λ given q. said_to_each O (λ to m. SpeaksTruth (moved w n new given) h to m.from m.body) r.id (Join b a) old
    (λ to i. (
      g,
      is_of,
      id ∙ sym to_is,
      prev,
      (n, id, (new, get_set w.nodes n r new stands, omega arith)),
      (before, given_before, subst (λ ms. In to ms) olds i),
    )))
  where
    to_is : g.primary ≡ n + 1
    to_is = sym to

    id : r.id ≡ n + 1
    id = (s.nodes n r stands).id

    new : ReplicaState S C
    new = record r {
      joined = b;
      role = Fetching;
      members = members;
      previous = a;
      previous_members = old;
      lacking = [];
      progress = [];
    }

    node : (given : List (Effect C O)) → MovesQuietly w n r new given → IsSoundNode (moved w n new given) h n new
    node given q = let t = before_quiet rules w h n r new given s q in record {
      id = t.id;
      placed = record {
        order = (let o = t.placed.order in omega (arith, o, low));
        between = t.placed.between;
        told = t.placed.told;
        acknowledged_here = t.placed.acknowledged_here;
      };
      empty = t.empty;
      member = t.member;
      primary_log = t.primary_log;
      joined_by = inr (g, is_of.given, inl (subst (λ k. In k g.members) to_is (s.ballots.led b g is_of.given)));
      within = t.within;
      applied = by_applied t.applied;
      fetching = λ e. (
        (g, is_of.given, to_is, same),
        (let o = t.placed.order in omega (arith, o, low)),
        no_line_yet rules (moved w n new given) h n r b g t is_of.given to_is low (h.line b) refl,
        (g, is_of, prev, (before, subst (λ x. h.given x ≡ Some before) prev given_before, olds)),
      );
      installing = λ e. cc;
      active = λ e. cc;
    }
      where
        by_applied : Applied (moved w n new given) h r → Applied (moved w n new given) h new
        by_applied (nothing e) = nothing e
        by_applied (in_ballot c k l i up e chosen front) = in_ballot c k l i (omega (arith, up, low)) e chosen front

-- a NewBallot that comes
pub keeps_new_ballot : {S C O : Type 0} (rules : Rules S C O) (w : GroupWorld S C O) (h : History C) (n : ℕ) (r : ReplicaState S C)
    (from b a : ℕ) (members old : List ℕ) → IsSoundWorld rules w h → slice_get w.nodes n ≡ Some r →
    In (n + 1, record { from = from; body = NewBallot b members a old }) w.sent →
    KeepsSoundness rules w h n (on_new_ballot O r b members a old)
keeps_new_ballot {S = S} {C = C} {O = O} rules w h n r from b a members old s stands sent = by_order (cases_lt r.joined b)
  where
    by_order : (r.joined < b) ⊎ (b ≤ r.joined) → KeepsSoundness rules w h n (on_new_ballot O r b members a old)
    by_order (inl low) =
        subst (λ (o : Outcome S C O). KeepsSoundness rules w h n o) (sym (on_new_ballot-joins O r b members a old low))
        (new_ballot_taken rules w h n r from b a members old s stands (s.said (n + 1) _ sent) low)
    by_order (inr high) = keeps_nothing rules w h n r _ s stands (on_new_ballot-stays O r b members a old high)
