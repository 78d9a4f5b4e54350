-- Followed.antt: what messages of a way out make of a group on whole logs they make of one whose nodes cut their logs, but that nodes
-- that take a snapshot are ahead.
use Rattle.std.proofs.Common.{cond, Bool, ◌≡◌, ℕ, zero, suc, ◌+◌, ◌⊎◌, inl, inr, true, false, List, [], ◌∷◌, ◌++◌, map, set, Some, refl, ap, ap₂, sym, ◌∙◌, subst}
use Rattle.std.specs.Prelude.{slice_get}
use Rattle.std.proofs.lemmas.Bool.{cases_eq}
use Rattle.std.proofs.lemmas.List.{map-append}
use Rattle.lists.specs.Lists.{In, IsPrefixOf}
use Rattle.lists.proofs.Prefixes.{prefix_then}
use Rattle.lists.proofs.Members.{in_at}
use Rattle.lists.proofs.Places.{get_set, get_set_other}
use Rattle.machine.specs.Machine.{Rules}
use Rattle.agreement.proofs.Agreed.MomentsAgree.{machines_replay}
use Rattle.agreement.proofs.Agreed.MomentsKnown.{moments_known}
use Rattle.agreement.specs.MasterState.{MasterState, activating, is_granted}
use Rattle.agreement.specs.Moments.{Moment as WholeMoment, Moments as WholeMoments}
use Rattle.agreement.specs.Moments.Moments.{went_on as whole_went_on}
use Rattle.agreement.specs.Steps.MayHappen.{node_takes, master_hears as whole_hears}
use Rattle.agreement.specs.World.{messages as whole_messages, outputs as whole_outputs}
use Rattle.agreement.specs.whole_logs.Messages.{Body as WholeBody, Effect as WholeEffect, Message as WholeMessage}
use Rattle.agreement.specs.whole_logs.Messages.{Body as bodies}
use Rattle.agreement.specs.whole_logs.Losses.Thinned.{none as whole_none, keeps as whole_keeps}
use Rattle.agreement.specs.whole_logs.Losses.{Thinned as WholeThinned}
use Rattle.agreement.specs.whole_logs.Protocol.{received as whole_received}
use Rattle.agreement.specs.whole_logs.Protocol.Input.{Receives as whole_receives}
use Rattle.agreement.specs.whole_logs.Replica.{ReplicaState as WholeState}
use Rattle.agreement.specs.whole_logs.StepOutcome.{Outcome as WholeOutcome}
use Rattle.ballot_base.specs.declared.config.Config.{Config}
use Rattle.ballot_base.specs.declared.message.Body.{Body}
use Rattle.ballot_base.specs.declared.message.Body.TheVariants.{NewBallot, Join, State, Install, Installed, Activate, Activated, Superseded, Append, Held, Commit}
use Rattle.ballot_base.specs.declared.message.Effect.{Effect}
use Rattle.ballot_base.specs.declared.message.Effect.TheVariants.{To, Out}
use Rattle.ballot_base.specs.declared.message.Message.{Message}
use Rattle.ballot_base.specs.Losses.{Thinned}
use Rattle.ballot_base.specs.Losses.Thinned.{none, keeps}
use Rattle.ballot_base.specs.Protocol.{received}
use Rattle.ballot_base.specs.Protocol.Input.{Receives}
use Rattle.ballot_base.specs.Replica.{ReplicaState}
use Rattle.ballot_base.specs.StepOutcome.{Outcome}
use Rattle.agreement.specs.cut_logs.Moments.{IsAgreed, Moment, Moments}
use Rattle.agreement.specs.cut_logs.Moments.Moments.{went_on}
use Rattle.agreement.specs.cut_logs.Steps.MayHappen.{node_goes, master_hears}
use Rattle.agreement.specs.cut_logs.Steps.{MayHappen}
use Rattle.agreement.specs.cut_logs.Whole.{whole, whole_body, whole_effects, whole_message}
use Rattle.agreement.specs.cut_logs.World.{CutGroupWorld, messages, outputs, whole_sent}
use Rattle.agreement.specs.cut_logs.World.NodeGoes.{takes}
use Rattle.agreement.proofs.of_cut_logs.MomentsAgree.{agreed_grows, has_agreed}
use Rattle.agreement.proofs.of_cut_logs.MomentsKept.{StandsFor, moments_stand}
use Rattle.agreement.proofs.of_cut_logs.Views.{outputs_whole}
use Rattle.recovery.specs.replicas.Deliveries.{Delivered as WholeDelivered, after_activate as whole_after_activate, after_outcome as whole_after_outcome}
use Rattle.recovery.specs.replicas.Deliveries.Delivered.{all_came as all_came_whole, to_node as to_node_whole, to_master as to_master_whole}
use Rattle.recovery.specs.replicas.CutDeliveries.{Delivered, after_activate, after_outcome}
use Rattle.recovery.specs.replicas.CutDeliveries.Delivered.{all_came, to_node, to_master}
use Rattle.recovery.proofs.of_replicas.Ahead.{AreLike, IsLike, like_received, like_then}
use Rattle.recovery.proofs.of_replicas.LogsLike.{message_like, wholly}

-- ---- lists

pub thinned_same : {C O : Type 0} (xs : List (Effect C O)) → Thinned xs xs
thinned_same [] = none
thinned_same (x ∷ xs) = keeps (thinned_same xs)

pub whole_thinned_same : {C O : Type 0} (xs : List (WholeEffect C O)) → WholeThinned xs xs
whole_thinned_same [] = whole_none
whole_thinned_same (x ∷ xs) = whole_keeps (whole_thinned_same xs)

pub messages_whole : {C O : Type 0} (archive : List C) (es : List (Effect C O)) → map (whole_sent archive) (messages es) ≡ whole_messages (whole_effects archive es)
messages_whole archive [] = refl
messages_whole archive (To to m ∷ es) = ap (λ us. whole_sent archive (to, m) ∷ us) (messages_whole archive es)
messages_whole archive (Out place o ∷ es) = messages_whole archive es

pub get_back : {X Y : Type 0} (g : X → Y) (xs : List X) (n : ℕ) (y : Y) → slice_get (map g xs) n ≡ Some y → (x : X) × (slice_get xs n ≡ Some x) × (g x ≡ y)
get_back g [] n y e = cc
get_back g (x ∷ xs) zero y e = let same : g x ≡ y = cc in (x, refl, same)
get_back g (x ∷ xs) (suc n) y e = get_back g xs n y e

-- an Activate is the same on whole logs
activate_back : {C : Type 0} (archive : List C) (m : Message C) (from b : ℕ) → whole_message archive m ≡ (let x : WholeMessage C = record { from = from; body = bodies.Activate b } in x) →
    m ≡ record { from = from; body = Activate b }
activate_back {C = C} archive m from b e = by m.body refl (ap (λ (x : WholeMessage C). x.body) e)
  where
    from_is : m.from ≡ from
    from_is = ap (λ (x : WholeMessage C). x.from) e

    by : (body : Body C) → m.body ≡ body → whole_body archive body ≡ bodies.Activate b → m ≡ record { from = from; body = Activate b }
    by (Activate c) is f =
        let same : c ≡ b = cc in
        ap₂ (λ (x : ℕ) (y : Body C). let z : Message C = record { from = x; body = y } in z) from_is (is ∙ ap (λ x. let y : Body C = Activate x in y) same)
    by (NewBallot c members a old) is f = cc
    by (Join c a) is f = cc
    by (State c log) is f = cc
    by (Install c log) is f = cc
    by (Installed c held) is f = cc
    by (Activated c) is f = cc
    by (Superseded c) is f = cc
    by (Append c place d) is f = cc
    by (Held c held) is f = cc
    by (Commit c held) is f = cc

-- ---- moments

-- a node of the one is like that of the other
pub record NodeLike {S C O : Type 0} (rules : Rules S C O) (ballot : ℕ) (w : CutGroupWorld S C O) (n : ℕ) (p : WholeState S C) : Type 0 where
  pub replica : ReplicaState S C
  pub stands : slice_get w.nodes n ≡ Some replica
  pub like : IsLike rules ballot p (whole w.archive replica)

pub record MomentLike {S C O : Type 0} (rules : Rules S C O) (ballot : ℕ) (a : WholeMoment S C O) (b : Moment S C O) : Type 0 where
  pub master : b.master ≡ a.master
  pub sent : map (whole_sent b.world.archive) b.world.sent ≡ a.world.sent
  pub nodes : (n : ℕ) (p : WholeState S C) → slice_get a.world.nodes n ≡ Some p → NodeLike rules ballot b.world n p

-- moments continue
pub record Goes {S C O : Type 0} (rules : Rules S C O) (config : Config) (moments : List (Moment S C O)) (b : Moment S C O) : Type 0 where
  pub between : List (Moment S C O)
  pub came : Moments rules config (b ∷ (between ++ moments))
  pub grown : (xs ys : List C) → IsAgreed config moments xs → IsAgreed config (b ∷ (between ++ moments)) ys → IsPrefixOf xs ys

pub goes_one : {S C O : Type 0} (rules : Rules S C O) (config : Config) (moments : List (Moment S C O)) (b c : Moment S C O) → Goes rules config moments b →
    MayHappen rules b.master b.world c.master c.world → Goes rules config moments c
goes_one rules config moments b c g step =
    record {
      between = b ∷ g.between;
      came = went_on g.came step;
      grown = λ xs ys p q. let z = has_agreed rules config b (g.between ++ moments) g.came in
          prefix_then (g.grown xs z.0 p z.1) (agreed_grows rules config c (b ∷ (g.between ++ moments)) z.0 ys z.1 q);
    }

pub record Followed {S C O : Type 0} (rules : Rules S C O) (config : Config) (ballot : ℕ) (moments : List (Moment S C O)) (a : Moment S C O) (ks : List ℕ)
    (last : WholeMoment S C O) : Type 0 where
  pub end : Moment S C O
  pub delivered : Delivered rules ballot a ks end
  pub goes : Goes rules config moments end
  pub like : MomentLike rules ballot last end
  pub archive : end.world.archive ≡ a.world.archive
  -- and the moments on whole logs have continued
  pub whole_before : List (WholeMoment S C O)
  pub whole_came : WholeMoments rules config (last ∷ whole_before)

-- ---- a message comes to a node

module _ {S C O : Type 0} (rules : Rules S C O) (config : Config) (ballot : ℕ) (moments : List (Moment S C O)) (a : WholeMoment S C O) (earlier : List (WholeMoment S C O))
    (came : WholeMoments rules config (a ∷ earlier)) (b : Moment S C O) (goes : Goes rules config moments b) (like : MomentLike rules ballot a b)
    (k n : ℕ) (p : WholeState S C) (x : WholeMessage C) (sent : slice_get a.world.sent k ≡ Some (n + 1, x)) (stands : slice_get a.world.nodes n ≡ Some p) (runs : p.stopped ≡ false)
    (after : (whole_received {O = O} rules p x.from x.body).state.joined ≡ ballot) where
  abbrev pub node : NodeLike rules ballot b.world n p
  node = like.nodes n p stands

  abbrev pub r : ReplicaState S C
  r = node.replica

  abbrev pub original : (y : ℕ × Message C) × (slice_get b.world.sent k ≡ Some y) × (whole_sent b.world.archive y ≡ (n + 1, x))
  original = get_back (whole_sent b.world.archive) b.world.sent k (n + 1, x) (ap (λ l. slice_get l k) like.sent ∙ sent)

  abbrev pub m : Message C
  m = original.0.1

  receiver : original.0.0 ≡ n + 1
  receiver = ap (λ (y : ℕ × WholeMessage C). y.0) original.2

  pub is_x : whole_message b.world.archive m ≡ x
  is_x = ap (λ (y : ℕ × WholeMessage C). y.1) original.2

  pub stood : slice_get b.world.sent k ≡ Some (n + 1, m)
  stood = original.1 ∙ ap (λ i. Some (let y : ℕ × Message C = (i, m) in y)) receiver

  may : In (n + 1, m) b.world.sent
  may = in_at b.world.sent k (n + 1, m) stood

  like_stopped : (s : WholeState S C) → IsLike rules ballot p s → s.stopped ≡ p.stopped
  like_stopped s (inl same) = ap (λ (y : WholeState S C). y.stopped) same
  like_stopped s (inr z) = ap (λ (y : WholeState S C). y.stopped) z.is

  pub goes_r : r.stopped ≡ false
  goes_r = like_stopped (whole b.world.archive r) node.like ∙ runs

  -- the outcome on whole logs, of the replica that may be ahead
  abbrev pub o : WholeOutcome S C O
  o = whole_received rules p x.from x.body

  abbrev u : WholeOutcome S C O
  u = whole_received rules (whole b.world.archive r) x.from x.body

  ahead : AreLike rules ballot o u
  ahead =
      like_received rules ballot p (whole b.world.archive r) x.from x.body node.like
      ((moments_known rules config a earlier came).serves.sound.nodes n p stands).within
      (machines_replay rules config a earlier came n p stands runs) after

  joined_of : (s t : WholeState S C) → IsLike rules ballot s t → t.joined ≡ s.joined
  joined_of s t (inl same) = ap (λ (y : WholeState S C). y.joined) same
  joined_of s t (inr z) = ap (λ (y : WholeState S C). y.joined) z.is

  abbrev pub given : Outcome S C O
  given = received rules r m.from m.body

  told : AreLike rules ballot u (wholly b.world.archive given)
  told =
      subst (λ (y : WholeMessage C). AreLike rules ballot (whole_received rules (whole b.world.archive r) y.from y.body) (wholly b.world.archive given)) is_x
      (message_like rules config b.master b.world q.earlier q.kept n r node.stands goes_r m.from m.body may ballot
      (subst (λ (y : WholeMessage C). (whole_received {O = O} rules (whole b.world.archive r) y.from y.body).state.joined ≡ ballot) (sym is_x)
      (joined_of o.state u.state ahead.state ∙ after)))
    where
      q : StandsFor rules config b (goes.between ++ moments)
      q = moments_stand rules config b (goes.between ++ moments) goes.came

  pub all : AreLike rules ballot o (wholly b.world.archive given)
  all = record { state = like_then rules ballot o.state u.state (whole b.world.archive given.state) ahead.state told.state; effects = told.effects ∙ ahead.effects }

  quiet : whole_outputs o.effects ≡ [] → outputs given.effects ≡ []
  quiet silent = outputs_whole b.world.archive given.effects ∙ ap whole_outputs all.effects ∙ silent

  joined_now : given.state.joined ≡ ballot
  joined_now = joined_of o.state (whole b.world.archive given.state) all.state ∙ after

  like_now : MomentLike rules ballot (whole_after_outcome n o a) (after_outcome n given b)
  like_now =
      record {
        master = like.master;
        sent = map-append (whole_sent b.world.archive) b.world.sent (messages given.effects)
            ∙ ap₂ (λ (us vs : List (ℕ × WholeMessage C)). us ++ vs) like.sent (messages_whole b.world.archive given.effects ∙ ap whole_messages all.effects);
        nodes = λ i s e. by i s e (cases_eq i n);
      }
    where
      by : (i : ℕ) (s : WholeState S C) → slice_get (set a.world.nodes n o.state) i ≡ Some s → (i ≡ n) ⊎ (i ≡ n → ⊥) → NodeLike rules ballot (after_outcome n given b).world i s
      by i s e (inl same) =
          let f : Some o.state ≡ Some s = sym (get_set a.world.nodes n p o.state stands) ∙ ap (slice_get (set a.world.nodes n o.state)) (sym same) ∙ e in
          let g : o.state ≡ s = cc in
          record {
            replica = given.state;
            stands = ap (slice_get (set b.world.nodes n given.state)) same ∙ get_set b.world.nodes n r given.state node.stands;
            like = subst (λ (y : WholeState S C). IsLike rules ballot y (whole b.world.archive given.state)) g all.state;
          }
      by i s e (inr other) =
          let z = like.nodes i s (sym (get_set_other a.world.nodes n i o.state other) ∙ e) in
          record { replica = z.replica; stands = get_set_other b.world.nodes n i given.state other ∙ z.stands; like = z.like }

  goes_now : Goes rules config moments (after_outcome n given b)
  goes_now = goes_one rules config moments b (after_outcome n given b) goes (node_goes (takes n r (Receives m) node.stands goes_r may (inl (refl, thinned_same given.effects))))

  came_now : WholeMoments rules config (whole_after_outcome n o a ∷ a ∷ earlier)
  came_now = whole_went_on came (node_takes n p (whole_receives x) stands runs (in_at a.world.sent k (n + 1, x) sent) (inl (refl, whole_thinned_same o.effects)))

  then_to_node : whole_outputs o.effects ≡ [] → {ks : List ℕ} {last : WholeMoment S C O} → Followed rules config ballot moments (after_outcome n given b) ks last → Followed rules config ballot moments b (k ∷ ks) last
  then_to_node silent f =
      record { end = f.end; delivered = to_node k n r m stood node.stands goes_r (quiet silent) joined_now f.delivered; goes = f.goes; like = f.like; archive = f.archive; whole_before = f.whole_before; whole_came = f.whole_came }

-- ---- an Activate comes to the master

module _ {S C O : Type 0} (rules : Rules S C O) (config : Config) (ballot : ℕ) (moments : List (Moment S C O)) (a : WholeMoment S C O) (earlier : List (WholeMoment S C O))
    (came : WholeMoments rules config (a ∷ earlier)) (b : Moment S C O) (goes : Goes rules config moments b) (like : MomentLike rules ballot a b)
    (k from asked : ℕ) (sent : slice_get a.world.sent k ≡ Some (0, record { from = from; body = bodies.Activate asked })) where
  asks : slice_get b.world.sent k ≡ Some (0, record { from = from; body = Activate asked })
  asks = by (get_back (whole_sent b.world.archive) b.world.sent k (0, record { from = from; body = bodies.Activate asked }) (ap (λ l. slice_get l k) like.sent ∙ sent))
    where
      by : (y : ℕ × Message C) × (slice_get b.world.sent k ≡ Some y) × (whole_sent b.world.archive y ≡ (0, record { from = from; body = bodies.Activate asked })) →
          slice_get b.world.sent k ≡ Some (0, record { from = from; body = Activate asked })
      by ((to, m), at, is) =
          at ∙ ap₂ (λ (i : ℕ) (y : Message C). Some (let z : ℕ × Message C = (i, y) in z)) (ap (λ (y : ℕ × WholeMessage C). y.0) is)
          (activate_back b.world.archive m from asked (ap (λ (y : ℕ × WholeMessage C). y.1) is))

  answer : (granted : Bool) → whole_body b.world.archive (cond granted (Activated asked) (Superseded asked)) ≡ cond granted (bodies.Activated asked) (bodies.Superseded asked)
  answer true = refl
  answer false = refl

  like_then_heard : MomentLike rules ballot (whole_after_activate from asked a) (after_activate from asked b)
  like_then_heard =
      record {
        master = ap (λ (s : MasterState). activating s asked s.waiting) like.master;
        sent = map-append (whole_sent b.world.archive) b.world.sent _
            ∙ ap₂ (λ (us vs : List (ℕ × WholeMessage C)). us ++ vs) like.sent
            (ap (λ (y : WholeBody C). let z : ℕ × WholeMessage C = (from, record { from = 0; body = y }) in z ∷ [])
            (answer (is_granted b.master asked b.master.waiting) ∙ ap (λ (s : MasterState). cond (is_granted s asked s.waiting) (let y : WholeBody C = bodies.Activated asked in y) (bodies.Superseded asked)) like.master));
        nodes = λ i s e. let z = like.nodes i s e in record { replica = z.replica; stands = z.stands; like = z.like };
      }

  goes_heard : Goes rules config moments (after_activate from asked b)
  goes_heard = goes_one rules config moments b (after_activate from asked b) goes (master_hears from asked (in_at b.world.sent k _ asks))

  came_heard : WholeMoments rules config (whole_after_activate from asked a ∷ a ∷ earlier)
  came_heard = whole_went_on came (whole_hears from asked (in_at a.world.sent k _ sent))

  then_to_master : {ks : List ℕ} {last : WholeMoment S C O} → Followed rules config ballot moments (after_activate from asked b) ks last → Followed rules config ballot moments b (k ∷ ks) last
  then_to_master f = record { end = f.end; delivered = to_master k from asked asks f.delivered; goes = f.goes; like = f.like; archive = f.archive; whole_before = f.whole_before; whole_came = f.whole_came }

-- ---- all of them

pub followed : {S C O : Type 0} (rules : Rules S C O) (config : Config) (ballot : ℕ) (moments : List (Moment S C O)) {a last : WholeMoment S C O} {ks : List ℕ} →
    WholeDelivered rules ballot a ks last → (earlier : List (WholeMoment S C O)) → WholeMoments rules config (a ∷ earlier) → (b : Moment S C O) → Goes rules config moments b →
    MomentLike rules ballot a b → Followed rules config ballot moments b ks last
followed rules config ballot moments all_came_whole earlier came b goes like = record { end = b; delivered = all_came; goes = goes; like = like; archive = refl; whole_before = earlier; whole_came = came }
followed rules config ballot moments {a = a} (to_node_whole k n p x sent stands runs silent after d) earlier came b goes like =
    then_to_node rules config ballot moments a earlier came b goes like k n p x sent stands runs after silent
    (followed rules config ballot moments d (a ∷ earlier) (came_now rules config ballot moments a earlier came b goes like k n p x sent stands runs after) _
    (goes_now rules config ballot moments a earlier came b goes like k n p x sent stands runs after)
    (like_now rules config ballot moments a earlier came b goes like k n p x sent stands runs after))
followed rules config ballot moments {a = a} (to_master_whole k from asked sent d) earlier came b goes like =
    then_to_master rules config ballot moments a earlier came b goes like k from asked sent
    (followed rules config ballot moments d (a ∷ earlier) (came_heard rules config ballot moments a earlier came b goes like k from asked sent) _
    (goes_heard rules config ballot moments a earlier came b goes like k from asked sent)
    (like_then_heard rules config ballot moments a earlier came b goes like k from asked sent))
