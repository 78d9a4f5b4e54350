-- CutGroupsAnswer.antt: the primary of a led ballot answers the next command, whichever logs were cut.
use Rattle.std.proofs.Common.{◌≡◌, ℕ, ◌+◌, ◌*◌, ◌<◌, ◌⊎◌, inl, inr, false, List, [], ◌∷◌, ◌++◌, length, map, set, Some, refl, ap, ap₂, sym, ◌∙◌, subst, arith}
use Rattle.std.specs.Prelude.{slice_get}
use Rattle.std.proofs.lemmas.Bool.{cases_eq}
use Rattle.std.proofs.lemmas.List.{length-map, map-append}
use Rattle.lists.specs.Lists.{In}
use Rattle.lists.proofs.Places.{get_set, get_set_other}
use Rattle.machine.specs.Machine.{Rules, replay}
use Rattle.agreement.specs.Moments.{Moment as WholeMoment, Moments as WholeMoments}
use Rattle.agreement.specs.Moments.Moments.{went_on as whole_went_on}
use Rattle.agreement.specs.Steps.MayHappen.{node_takes}
use Rattle.agreement.specs.World.{messages as whole_messages, outputs as whole_outputs}
use Rattle.agreement.specs.whole_logs.Messages.{Effect as WholeEffect, Message as WholeMessage}
use Rattle.agreement.specs.whole_logs.Messages.{Body as bodies}
use Rattle.agreement.specs.whole_logs.Messages.{Effect as effects}
use Rattle.agreement.specs.whole_logs.Protocol.{received as whole_received, replica_step as whole_step}
use Rattle.agreement.specs.whole_logs.Protocol.Input.{Proposes as whole_proposes}
use Rattle.agreement.specs.whole_logs.Replica.{ReplicaState as WholeState}
use Rattle.agreement.specs.whole_logs.StepOutcome.{Outcome as WholeOutcome}
use Rattle.ballot_base.specs.declared.config.Config.{Config}
use Rattle.ballot_base.specs.declared.message.Body.{Body}
use Rattle.ballot_base.specs.declared.message.Body.TheVariants.{NewBallot, Join, State, Install, Installed, Activate, Activated, Superseded, Append, Held, Commit}
use Rattle.ballot_base.specs.declared.message.Effect.{Effect}
use Rattle.ballot_base.specs.declared.message.Effect.TheVariants.{To, Out}
use Rattle.ballot_base.specs.declared.message.Message.{Message}
use Rattle.ballot_base.specs.Protocol.{received, replica_step}
use Rattle.ballot_base.specs.Protocol.Input.{Proposes}
use Rattle.ballot_base.specs.Replica.{ReplicaState}
use Rattle.ballot_base.specs.StepOutcome.{Outcome}
use Rattle.ballot_base.specs.Service.{max_places}
use Rattle.agreement.specs.cut_logs.Moments.{Moment, Moments, whole_moment}
use Rattle.agreement.specs.cut_logs.Moments.Moments.{went_on}
use Rattle.agreement.specs.cut_logs.Steps.{MayHappen}
use Rattle.agreement.specs.cut_logs.Steps.MayHappen.{node_goes}
use Rattle.agreement.specs.cut_logs.Whole.{whole, whole_body, whole_effects, whole_message}
use Rattle.agreement.specs.cut_logs.World.{messages, whole_sent}
use Rattle.agreement.specs.cut_logs.World.NodeGoes.{takes}
use Rattle.agreement.proofs.of_cut_logs.MomentsAgree.{agreed_grows}
use Rattle.agreement.proofs.of_cut_logs.MomentsKept.{StandsFor, moments_stand}
use Rattle.agreement.proofs.of_cut_logs.Views.{get_whole, outputs_whole}
use Rattle.recovery.specs.replicas.Deliveries.{NumbersAreApart, Delivered as WholeDelivered, NodeIs, numbers_from}
use Rattle.recovery.specs.replicas.Deliveries.{after_outcome as whole_after_outcome}
use Rattle.recovery.specs.replicas.LedStates.{Follows, LeadsWhole}
use Rattle.recovery.specs.replicas.AnswerTheorems.{AnswersCommand as WholeAnswers, IsHeldByAll as WholeHeldByAll}
use Rattle.recovery.proofs.of_replicas.Answering.{commands_are_answered}
use Rattle.recovery.specs.replicas.NextAnswer.{AnswersCommand, AnswersLast, CutGroupsAnswer, IsHeldByAll}
use Rattle.recovery.specs.replicas.CutDeliveries.{after_outcome}
use Rattle.recovery.proofs.of_replicas.Ahead.{AreLike}
use Rattle.recovery.proofs.of_replicas.CutGroupsLed.{follows_still, node_still, serves_still}
use Rattle.recovery.proofs.of_replicas.Followed.{Followed, Goes, MomentLike, NodeLike, followed, get_back, messages_whole, thinned_same, whole_thinned_same}
use Rattle.recovery.proofs.of_replicas.Followed as following
use Rattle.recovery.proofs.of_replicas.LogsLike.{wholly}
use Rattle.recovery.proofs.of_replicas.SameRows.{IsSame, proposed_same}

-- ---- effects

record Splits {C O : Type 0} (archive : List C) (place : ℕ) (os : List O) (more : List (WholeEffect C O)) (es : List (Effect C O)) : Type 0 where
  rest : List (Effect C O)
  is : es ≡ map (Out place) os ++ rest
  same : whole_effects archive rest ≡ more

cons_parts : {X : Type 0} (x y : X) (xs ys : List X) → x ∷ xs ≡ y ∷ ys → (x ≡ y) × (xs ≡ ys)
cons_parts x y xs ys e = (cc, cc)

out_parts : {C O : Type 0} (p q : ℕ) (x y : O) → (let a : WholeEffect C O = effects.Out p x in a) ≡ effects.Out q y → (p ≡ q) × (x ≡ y)
out_parts p q x y e = (cc, cc)

-- what corresponds to outputs, and then more, are these outputs, and then more
splits : {C O : Type 0} (archive : List C) (place : ℕ) (os : List O) (more : List (WholeEffect C O)) (es : List (Effect C O)) →
    whole_effects archive es ≡ map (effects.Out place) os ++ more → Splits archive place os more es
splits archive place [] more es e = record { rest = es; is = refl; same = e }
splits archive place (o ∷ os) more [] e = cc
splits {C = C} {O = O} archive place (o ∷ os) more (To to m ∷ es) e =
    absurd (never (cons_parts (effects.To to (whole_message archive m)) (effects.Out place o) (whole_effects archive es) (map (effects.Out place) os ++ more) e).0)
  where
    never : (let a : WholeEffect C O = effects.To to (whole_message archive m) in a) ≡ effects.Out place o → ⊥
    never f = cc
splits {C = C} {O = O} archive place (o ∷ os) more (Out p x ∷ es) e =
    let z = cons_parts (effects.Out p x) (effects.Out place o) (whole_effects archive es) (map (effects.Out place) os ++ more) e in
    let y = out_parts p place x o z.0 in
    let t = splits archive place os more es z.1 in
    record { rest = t.rest; is = ap₂ (λ (a : Effect C O) (l : List (Effect C O)). a ∷ l) (ap₂ (λ (i : ℕ) (v : O). let a : Effect C O = Out i v in a) y.0 y.1) t.is; same = t.same }

-- a Held is the same on whole logs
held_back : {C : Type 0} (archive : List C) (m : Message C) (from b n : ℕ) → whole_message archive m ≡ (let x : WholeMessage C = record { from = from; body = bodies.Held b n } in x) →
    m ≡ record { from = from; body = Held b n }
held_back {C = C} archive m from b n e = by m.body refl (ap (λ (x : WholeMessage C). x.body) e)
  where
    from_is : m.from ≡ from
    from_is = ap (λ (x : WholeMessage C). x.from) e

    by : (body : Body C) → m.body ≡ body → whole_body archive body ≡ bodies.Held b n → m ≡ record { from = from; body = Held b n }
    by (Held c k) is f =
        let one : c ≡ b = cc in let two : k ≡ n = cc in
        ap₂ (λ (x : ℕ) (y : Body C). let z : Message C = record { from = x; body = y } in z) from_is (is ∙ ap₂ (λ x y. let z : Body C = Held x y in z) one two)
    by (Activate c) is f = cc
    by (NewBallot c members a old) is f = cc
    by (Join c a) is f = cc
    by (State c log) is f = cc
    by (Install c log) is f = cc
    by (Installed c held) is f = cc
    by (Activated c) is f = cc
    by (Superseded c) is f = cc
    by (Append c place d) is f = cc
    by (Commit c held) is f = cc

-- an outcome that answers on whole logs answers if they are cut
answers_cut : {S C O : Type 0} (rules : Rules S C O) (archive : List C) (ballot : ℕ) (log : List C) (c : C) (os : List ℕ) (m : ℕ) (ow : WholeOutcome S C O) (o : Outcome S C O) →
    WholeAnswers rules ballot log c os m ow → AreLike rules ballot ow (wholly archive o) → AnswersCommand rules archive ballot log c os m o
answers_cut rules archive ballot log c os m ow o z like =
    record {
      rest = s.rest;
      silent = outputs_whole archive s.rest ∙ ap whole_outputs s.same ∙ z.silent;
      gives = s.is;
      serves = serves_still rules ballot ballot (log ++ c ∷ []) os m ow.state (whole archive o.state) like.state z.serves;
    }
  where
    s : Splits archive (length log) (rules.gives (replay rules log) c) z.rest o.effects
    s = splits archive (length log) (rules.gives (replay rules log) c) z.rest o.effects (like.effects ∙ z.gives)

-- ---- the proposal

module _ {S C O : Type 0} (rules : Rules S C O) (config : Config) (a : Moment S C O) (moments : List (Moment S C O)) (came : Moments rules config (a ∷ moments)) (ballot index : ℕ)
    (r : ReplicaState S C) (log : List C) (os : List ℕ) (c : C) (stands : slice_get a.world.nodes index ≡ Some r)
    (serves : LeadsWhole ballot log os (index + 1) (whole a.world.archive r)) (room : length log < max_places) where
  q : StandsFor rules config a moments
  q = moments_stand rules config a moments came

  abbrev W : WholeState S C
  W = whole a.world.archive r

  there_now : slice_get (whole_moment a).world.nodes index ≡ Some W
  there_now = get_whole (whole a.world.archive) a.world.nodes index r stands

  abbrev o : Outcome S C O
  o = replica_step rules r (Proposes c)

  abbrev ow : WholeOutcome S C O
  ow = whole_step rules W (whole_proposes c)

  same : IsSame a.world.archive o ow
  same = let z = q.kept.nodes index r stands in proposed_same rules a.world.archive r c (record { within = z.0.within; low = z.1 })

  law : (os ≡ [] → WholeAnswers rules ballot log c [] (index + 1) ow)
      × ((front : List ℕ) (last : ℕ) → os ≡ front ++ last ∷ [] → NumbersAreApart os → (In (index + 1) os → ⊥) →
      ((m : ℕ) → In m os → NodeIs (Follows ballot log) (whole_moment a).world.nodes m) → WholeHeldByAll rules (whole_moment a) index ballot W log c front last)
  law = commands_are_answered rules config (whole_moment a) q.earlier q.kept.came ballot index W log os c there_now serves room

  pub alone : os ≡ [] → AnswersCommand rules a.world.archive ballot log c [] (index + 1) o
  alone none = answers_cut rules a.world.archive ballot log c [] (index + 1) ow o (law.0 none) (record { state = inl same.state; effects = same.effects })

  -- the moment after it
  abbrev first : Moment S C O
  first = after_outcome index o a

  abbrev first_whole : WholeMoment S C O
  first_whole = whole_after_outcome index ow (whole_moment a)

  first_like : MomentLike rules ballot first_whole first
  first_like =
      record {
        master = refl;
        sent = map-append (whole_sent a.world.archive) a.world.sent (messages o.effects)
            ∙ ap (λ (us : List (ℕ × WholeMessage C)). map (whole_sent a.world.archive) a.world.sent ++ us) (messages_whole a.world.archive o.effects ∙ ap whole_messages same.effects);
        nodes = λ i s e. by i s e (cases_eq i index);
      }
    where
      by : (i : ℕ) (s : WholeState S C) → slice_get (set (whole_moment a).world.nodes index ow.state) i ≡ Some s → (i ≡ index) ⊎ (i ≡ index → ⊥) → NodeLike rules ballot first.world i s
      by i s e (inl here) =
          let f : Some ow.state ≡ Some s = sym (get_set (whole_moment a).world.nodes index W ow.state there_now) ∙ ap (slice_get (set (whole_moment a).world.nodes index ow.state)) (sym here) ∙ e in
          let g : ow.state ≡ s = cc in
          record {
            replica = o.state;
            stands = ap (slice_get (set a.world.nodes index o.state)) here ∙ get_set a.world.nodes index r o.state stands;
            like = inl (same.state ∙ g);
          }
      by i s e (inr other) =
          let z = get_back (whole a.world.archive) a.world.nodes i s (sym (get_set_other (whole_moment a).world.nodes index i ow.state other) ∙ e) in
          record { replica = z.0; stands = get_set_other a.world.nodes index i o.state other ∙ z.1; like = inl z.2 }

  runs : r.stopped ≡ false
  runs = serves.leads.runs

  step : MayHappen rules a.master a.world first.master first.world
  step = node_goes (takes index r (Proposes c) stands runs tt (inl (refl, thinned_same o.effects)))

  first_goes : Goes rules config (a ∷ moments) first
  first_goes = record { between = []; came = went_on came step; grown = λ xs ys x y. agreed_grows rules config first (a ∷ moments) xs ys x y }

  first_came : WholeMoments rules config (first_whole ∷ whole_moment a ∷ q.earlier)
  first_came = whole_went_on q.kept.came (node_takes index W (whole_proposes c) there_now runs tt (inl (refl, whole_thinned_same ow.effects)))

  as_many : length (whole_moment a).world.sent ≡ length a.world.sent
  as_many = length-map a.world.sent (whole_sent a.world.archive)

  -- ---- with others

  module _ (front : List ℕ) (last : ℕ) (h : WholeHeldByAll rules (whole_moment a) index ballot W log c front last) where
    abbrev numbers : ℕ → List ℕ
    numbers k = numbers_from k (length front + 1) ++ numbers_from (k + (length front + 1)) (length front)

    abbrev Way : Type 0
    Way = Followed rules config ballot (a ∷ moments) first (numbers (length a.world.sent)) h.before

    way : Way
    way =
        followed rules config ballot (a ∷ moments) (subst (λ k. WholeDelivered rules ballot first_whole (numbers k) h.before) as_many h.delivered) (whole_moment a ∷ q.earlier) first_came first
        first_goes first_like

    abbrev answer : WholeMessage C
    answer = record { from = last; body = bodies.Held ballot (length log + 1) }

    module _ (w : Way) where
      came_last : slice_get h.before.world.sent (length a.world.sent + 2 * length front + 1) ≡ Some (index + 1, answer)
      came_last = subst (λ k. slice_get h.before.world.sent (k + 2 * length front + 1) ≡ Some (index + 1, answer)) as_many h.comes

      pub comes : slice_get w.end.world.sent (length a.world.sent + 2 * length front + 1) ≡ Some (index + 1, record { from = last; body = Held ballot (length log + 1) })
      comes = by (get_back (whole_sent w.end.world.archive) w.end.world.sent (length a.world.sent + 2 * length front + 1) (index + 1, answer)
          (ap (λ l. slice_get l (length a.world.sent + 2 * length front + 1)) w.like.sent ∙ came_last))
        where
          by : (y : ℕ × Message C) × (slice_get w.end.world.sent (length a.world.sent + 2 * length front + 1) ≡ Some y) × (whole_sent w.end.world.archive y ≡ (index + 1, answer)) →
              slice_get w.end.world.sent (length a.world.sent + 2 * length front + 1) ≡ Some (index + 1, record { from = last; body = Held ballot (length log + 1) })
          by ((to, m), at, is) =
              at ∙ ap₂ (λ (i : ℕ) (y : Message C). Some (let z : ℕ × Message C = (i, y) in z)) (ap (λ (y : ℕ × WholeMessage C). y.0) is)
              (held_back w.end.world.archive m last ballot (length log + 1) (ap (λ (y : ℕ × WholeMessage C). y.1) is))

      at_index : h.primary.index ≡ index
      at_index = let e = h.primary.number in omega (arith, e)

      stands_last : slice_get h.before.world.nodes index ≡ Some h.primary.replica
      stands_last = ap (slice_get h.before.world.nodes) (sym at_index) ∙ h.primary.stands

      pub last_answers : AnswersLast rules w.end index ballot log c (front ++ last ∷ []) last
      last_answers =
          record {
            replica = z.replica;
            stands = z.stands;
            runs = following.goes_r rules config ballot (a ∷ moments) h.before w.whole_before w.whole_came w.end w.goes w.like (length a.world.sent + 2 * length front + 1) index h.primary.replica
                answer came_last stands_last h.primary.is.0 h.primary.is.1.serves.leads.joined;
            answers = answers_cut rules w.end.world.archive ballot log c (front ++ last ∷ []) (index + 1) ended (received rules z.replica last (Held ballot (length log + 1))) h.primary.is.1
                (subst (λ (m : Message C). AreLike rules ballot ended (wholly w.end.world.archive (received rules z.replica m.from m.body))) is_held
                (following.all rules config ballot (a ∷ moments) h.before w.whole_before w.whole_came w.end w.goes w.like (length a.world.sent + 2 * length front + 1) index h.primary.replica
                answer came_last stands_last h.primary.is.0 h.primary.is.1.serves.leads.joined));
          }
        where
          ended : WholeOutcome S C O
          ended = whole_received rules h.primary.replica last (bodies.Held ballot (length log + 1))

          z : NodeLike rules ballot w.end.world index h.primary.replica
          z = w.like.nodes index h.primary.replica stands_last

          is_held : following.m rules config ballot (a ∷ moments) h.before w.whole_before w.whole_came w.end w.goes w.like (length a.world.sent + 2 * length front + 1) index h.primary.replica
              answer came_last stands_last h.primary.is.0 h.primary.is.1.serves.leads.joined ≡ record { from = last; body = Held ballot (length log + 1) }
          is_held = held_back w.end.world.archive _ last ballot (length log + 1)
              (following.is_x rules config ballot (a ∷ moments) h.before w.whole_before w.whole_came w.end w.goes w.like (length a.world.sent + 2 * length front + 1) index h.primary.replica
              answer came_last stands_last h.primary.is.0 h.primary.is.1.serves.leads.joined)

      pub held_by_all : IsHeldByAll rules a index ballot r log c front last
      held_by_all =
          record {
            no_outputs = outputs_whole a.world.archive o.effects ∙ ap whole_outputs same.effects ∙ h.no_outputs;
            before = w.end;
            delivered = w.delivered;
            archive = w.archive;
            master = w.like.master ∙ h.master;
            sent = sym (length-map w.end.world.sent (whole_sent w.end.world.archive)) ∙ ap length w.like.sent ∙ h.sent ∙ ap (λ k. k + 2 * (length front + 1)) as_many;
            comes = comes;
            primary = last_answers;
            each = λ m i. node_still rules ballot (Follows ballot (log ++ c ∷ [])) m h.before w.end w.like (follows_still rules ballot ballot (log ++ c ∷ []) m) (h.each m i);
          }

  pub with_others : (front : List ℕ) (last : ℕ) → os ≡ front ++ last ∷ [] → NumbersAreApart os → (In (index + 1) os → ⊥) →
      ((m : ℕ) → In m os → NodeIs (Follows ballot log) (whole_moment a).world.nodes m) → IsHeldByAll rules a index ballot r log c front last
  with_others front last e apart out each = let h = law.1 front last e apart out each in held_by_all front last h (way front last h)

pub cut_groups_answer : {S C O : Type 0} (rules : Rules S C O) → CutGroupsAnswer rules
cut_groups_answer rules config a moments came ballot index r log os c stands serves room =
    (alone rules config a moments came ballot index r log os c stands serves room, with_others rules config a moments came ballot index r log os c stands serves room)
