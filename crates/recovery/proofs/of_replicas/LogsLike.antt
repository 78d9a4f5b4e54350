-- LogsLike.antt: what a node takes does to a cut log what it does to the whole one, but that a
-- snapshot may leave the node ahead.
use Rattle.std.proofs.Common.{Bool, ◌≡◌, ℕ, ◌+◌, ◌<◌, ◌≤◌, ◌⊎◌, inl, inr, true, false, List, [], ◌∷◌, length, take, Some, refl, ap, sym, ◌∙◌, subst, arith}
use Rattle.std.specs.Prelude.{nat_lt, nat_le, slice_get, ◌&&◌, ◌||◌, ◌==◌}
use Rattle.std.proofs.lemmas.Bool.{and_parts, cases_Bool, cases_lt, eqb-true, lt-ltb, le-ltb}
use Rattle.std.proofs.lemmas.List.{take-take}
use Rattle.lists.specs.Lists.{In}
use Rattle.machine.specs.Machine.{Rules, replay}
use Rattle.agreement.proofs.Agreed.MomentsAgree.{machines_replay}
use Rattle.ballot_base.proofs.AppliesInOrder.{replay_goes_on}
use Rattle.agreement.proofs.of_whole_logs.ChangeRows.{on_install-answers, on_install-stays, on_install-takes, on_state-stays, on_state-takes}
use Rattle.agreement.specs.Moments.{Moment as WholeMoment}
use Rattle.agreement.specs.whole_logs.Application.{applied_to as whole_applied_to}
use Rattle.agreement.specs.whole_logs.Transfer.{install_effects as whole_install_effects, on_install as whole_on_install, on_state as whole_on_state}
use Rattle.agreement.specs.whole_logs.Messages.{Body as bodies}
use Rattle.agreement.specs.whole_logs.Messages.{Effect as WholeEffect}
use Rattle.agreement.specs.whole_logs.Messages.{Effect as effects}
use Rattle.agreement.specs.whole_logs.Protocol.{received as whole_received}
use Rattle.agreement.specs.whole_logs.Protocol.Input.{Receives as whole_receives}
use Rattle.agreement.specs.whole_logs.Replica.{ReplicaState as WholeState}
use Rattle.agreement.specs.whole_logs.StepOutcome.{Outcome as WholeOutcome, nothing_done as whole_nothing}
use Rattle.ballot_base.specs.declared.config.Config.{Config}
use Rattle.ballot_base.specs.declared.message.Body.{Body}
use Rattle.ballot_base.specs.declared.message.Body.TheVariants.{NewBallot, Join, State, Install, Installed, Activate, Activated, Superseded, Append, Held, Commit}
use Rattle.ballot_base.specs.declared.status.Role.TheVariants.{Backup, Installing}
use Rattle.ballot_base.specs.Transfer.{answers_installed, installs_taken, on_install, on_state}
use Rattle.ballot_base.specs.Logs.{Log, places}
use Rattle.ballot_base.specs.Protocol.{received}
use Rattle.ballot_base.specs.Protocol.Input.{Receives}
use Rattle.ballot_base.specs.Replica.{ReplicaState, is_active, is_fetching, others}
use Rattle.ballot_base.specs.StepOutcome.{Outcome}
use Rattle.ballot_base.specs.TakenLog.{read_into, taken, with_places, with_snapshot}
use Rattle.agreement.specs.MasterState.{MasterState}
use Rattle.agreement.specs.cut_logs.Matches.{IsBased}
use Rattle.agreement.specs.cut_logs.Whole.{whole, whole_body, whole_effects, whole_log, whole_message}
use Rattle.agreement.specs.cut_logs.World.{CutGroupWorld}
use Rattle.agreement.proofs.of_cut_logs.Agreed.{fronts_stay}
use Rattle.agreement.proofs.of_cut_logs.Changing.{whole_handed}
use Rattle.agreement.proofs.of_cut_logs.Fronts.{whole_front, whole_long}
use Rattle.agreement.proofs.of_cut_logs.GoesOn.{held_within}
use Rattle.agreement.proofs.of_cut_logs.Kept.{IsSnapshot, Kept}
use Rattle.agreement.proofs.of_cut_logs.LogsCome.{install_answers, install_nothing, install_takes, state_nothing, state_takes}
use Rattle.agreement.proofs.of_cut_logs.LogsGoOn.{TakesLog, moment}
use Rattle.agreement.proofs.of_cut_logs.LogsLearned.{install_took, state_took}
use Rattle.agreement.proofs.of_cut_logs.Plain.{IsPlainBody}
use Rattle.agreement.proofs.of_cut_logs.Taking.{places_taken, snapshot_learned, snapshot_taken}
use Rattle.agreement.proofs.of_cut_logs.Views.{get_whole, may_take_whole}
use Rattle.recovery.proofs.of_replicas.Ahead.{AreLike, IsAhead}
use Rattle.recovery.proofs.of_replicas.SameRows.{plain_same}

-- an outcome, on whole logs
abbrev pub wholly : {S C O : Type 0} → List C → Outcome S C O → WholeOutcome S C O
wholly archive o = record { state = whole archive o.state; effects = whole_effects archive o.effects }

-- a node that takes a log holds the whole of it then, and may have learned what is below its base
abbrev TookSo : {S C O : Type 0} → Rules S C O → List C → ReplicaState S C → Log C → ReplicaState S C → Type 0
TookSo {S} {C} rules archive r log took =
    (whole archive took ≡ (let x : WholeState S C = record (whole archive r) { log = whole_log archive log } in x))
    ⊎ ((r.committed < log.base) × (take r.committed (whole_log archive log) ≡ take r.committed (whole_log archive r.log))
    × (whole archive took ≡ whole_applied_to rules (let x : WholeState S C = record (whole archive r) { log = whole_log archive log } in x) log.base))

record Took {S C O : Type 0} (rules : Rules S C O) (archive : List C) (r : ReplicaState S C) (log : Log C) : Type 0 where
  took : ReplicaState S C
  is : taken rules r log ≡ Some took
  so : TookSo rules archive r log took

module _ {S C O : Type 0} (rules : Rules S C O) (config : Config) (m : MasterState) (w : CutGroupWorld S C O) (earlier : List (WholeMoment S C O))
    (k : Kept rules config m w earlier) (n : ℕ) (r : ReplicaState S C) (stands : slice_get w.nodes n ≡ Some r) (runs : r.stopped ≡ false) where
  abbrev pub W : WholeState S C
  W = whole w.archive r

  there_now : slice_get (moment m w).world.nodes n ≡ Some W
  there_now = get_whole (whole w.archive) w.nodes n r stands

  based : IsBased w.archive r
  based = let z = k.nodes n r stands in record { within = z.0.within; low = z.1 }

  held : r.committed ≤ places r.log
  held = held_within rules config m w earlier n r k stands

  pub replays : W.machine ≡ replay rules (take W.committed W.log)
  replays = machines_replay rules config (moment m w) earlier k.came n W there_now runs

  pub old_long : W.committed ≤ length W.log
  old_long = let a = whole_long w.archive r.log based.within in let h = held in omega (arith, a, h)

  long_of : (log : Log C) → IsSnapshot rules w.archive log → length (whole_log w.archive log) ≡ places log
  long_of log snap = whole_long w.archive log snap.within

  -- how it takes a log that was cut right
  took_log : (from ballot : ℕ) (body : Body C) (log : Log C) → In (n + 1, record { from = from; body = body }) w.sent → IsSnapshot rules w.archive log →
      TakesLog {O = O} rules w.archive r (Receives (record { from = from; body = body })) ballot log → Took rules w.archive r log
  took_log from ballot body log may snap t = by_base (cases_lt r.log.base log.base)
    where
      long : r.committed ≤ length (whole_log w.archive log)
      long = let a = whole_long w.archive log snap.within in let b = t.long in omega (arith, a, b)

      -- what was applied stays
      front : take r.committed (whole_log w.archive log) ≡ take r.committed (whole_log w.archive r.log)
      front =
          ap (take r.committed) (sym t.log_is)
          ∙ fronts_stay rules config (moment m w) earlier n W (whole_receives (whole_message w.archive (record { from = from; body = body }))) k.came there_now runs
          (may_take_whole w n (Receives (record { from = from; body = body })) may) old_long t.committed
          (subst (λ (us : List C). r.committed ≤ length us) (sym t.log_is) long)

      by_base : (r.log.base < log.base) ⊎ (log.base ≤ r.log.base) → Took rules w.archive r log
      by_base (inr low) =
          record {
            took = with_places r log;
            is = rw (le-ltb r.log.base log.base low) refl;
            so = inl (places_taken w.archive r log based low t.long
                (sym (take-take r.log.base r.committed (whole_log w.archive log) based.low)
                ∙ ap (take r.log.base) front
                ∙ take-take r.log.base r.committed (whole_log w.archive r.log) based.low
                ∙ whole_front w.archive r.log based.within));
          }
      by_base (inl over) = by_applied (cases_lt r.committed log.base)
        where
          machine : S
          machine = replay rules (take log.base w.archive)

          is_taken : taken rules r log ≡ Some (with_snapshot r log machine)
          is_taken = rw (lt-ltb r.log.base log.base over) (ap (read_into r log) (snap.read (omega (arith, over))))

          by_applied : (r.committed < log.base) ⊎ (log.base ≤ r.committed) → Took rules w.archive r log
          by_applied (inr low) = record { took = with_snapshot r log machine; is = is_taken; so = inl (snapshot_taken w.archive r log machine low) }
          by_applied (inl moments) =
              record {
                took = with_snapshot r log machine;
                is = is_taken;
                so = inr (moments, front, snapshot_learned rules w.archive r log machine snap.within moments refl (replays ∙ ap (replay rules) (sym front)));
              }

  -- after it took the log of a ballot, on whole logs
  learned_ahead : (ballot : ℕ) (p s : WholeState S C) (log : Log C) → log.base ≤ length w.archive → p.log ≡ whole_log w.archive log → p.committed ≡ r.committed → p.machine ≡ r.machine →
      take r.committed (whole_log w.archive log) ≡ take r.committed W.log → r.committed < log.base → s ≡ whole_applied_to rules p log.base → p.joined ≡ ballot → p.held_in ≡ ballot →
      is_active p.role ≡ false → is_fetching p.role ≡ false → IsAhead rules ballot p s
  learned_ahead ballot p s log within is committed machine front moments learned joined held passive fetched =
      record {
        places = log.base;
        is = learned ∙ ap (λ (x : S). let y : WholeState S C = record p { committed = log.base; machine = x } in y)
            (replay_goes_on rules p.machine p.log p.committed log.base (omega (arith, moments, committed))
            (machine ∙ replays ∙ ap (replay rules) (sym front ∙ ap (take r.committed) (sym is) ∙ ap (λ c. take c p.log) (sym committed))));
        more = omega (arith, moments, committed);
        within = subst (λ (us : List C). log.base ≤ length us) (sym is) (let z = whole_long w.archive log within in omega (arith, z));
        joined = joined;
        held = held;
        passive = passive;
        fetched = fetched;
      }

  -- State
  state_like : (from b : ℕ) (log : Log C) → In (n + 1, record { from = from; body = State b log }) w.sent → IsSnapshot rules w.archive log → (ballot : ℕ) →
      (whole_on_state O W b (whole_log w.archive log)).state.joined ≡ ballot →
      AreLike {O = O} rules ballot (whole_on_state O W b (whole_log w.archive log)) (wholly w.archive (on_state rules r b log))
  state_like from b log may snap ballot after = by (cases_Bool (r.joined == b && (is_fetching r.role && nat_le r.committed (places log))))
    where
      L : List C
      L = whole_log w.archive log

      long : length L ≡ places log
      long = long_of log snap

      test : (e : Bool) → (r.joined == b && (is_fetching r.role && nat_le r.committed (places log))) ≡ e → (W.joined == b && (is_fetching W.role && nat_le W.committed (length L))) ≡ e
      test e f = ap (λ i. r.joined == b && (is_fetching r.role && nat_le r.committed i)) long ∙ f

      new : WholeState S C
      new = record W { held_in = b; log = L; role = Installing; lacking = others r.id r.members }

      given : WholeOutcome S C O
      given = record { state = new; effects = whole_install_effects O new (others r.id r.members) }

      by_took : (r.joined == b && (is_fetching r.role && nat_le r.committed (places log))) ≡ true → Took rules w.archive r log →
          AreLike {O = O} rules ballot (whole_on_state O W b L) (wholly w.archive (on_state rules r b log))
      by_took e t =
          subst (λ (o : WholeOutcome S C O). AreLike rules ballot o (wholly w.archive (on_state rules r b log))) (sym row)
          (subst (λ (u : Outcome S C O). AreLike rules ballot given (wholly w.archive u)) (sym (state_took rules r t.took b log e t.is)) (by_so t.so))
        where
          row : whole_on_state O W b L ≡ given
          row = on_state-takes O W b L (test true e)

          with_it : ReplicaState S C
          with_it = record t.took { held_in = b; role = Installing; lacking = others r.id r.members }

          sends : whole_effects w.archive (installs_taken O r b (Some t.took)).effects ≡ whole_install_effects O (whole w.archive with_it) (others r.id r.members)
          sends = whole_handed O w.archive with_it (others r.id r.members)

          by_so : TookSo rules w.archive r log t.took → AreLike {O = O} rules ballot given (wholly w.archive (installs_taken O r b (Some t.took)))
          by_so (inl same) =
              let state : whole w.archive with_it ≡ new = ap (λ (x : WholeState S C). let y : WholeState S C = record x { held_in = b; role = Installing; lacking = others r.id r.members } in y) same in
              record { state = inl state; effects = sends ∙ ap (λ (x : WholeState S C). whole_install_effects O x (others r.id r.members)) state }
          by_so (inr (moments, front, learned)) =
              let state : whole w.archive with_it ≡ whole_applied_to rules new log.base =
              ap (λ (x : WholeState S C). let y : WholeState S C = record x { held_in = b; role = Installing; lacking = others r.id r.members } in y) learned in
              let mine : r.joined ≡ ballot = sym (ap (λ (o : WholeOutcome S C O). o.state.joined) row) ∙ after in
              record {
                state = inr (learned_ahead ballot new (whole w.archive with_it) log snap.within refl refl refl front moments state mine
                    (sym (eqb-true r.joined b (and_parts (r.joined == b) (is_fetching r.role && nat_le r.committed (places log)) e).0) ∙ mine) refl refl);
                effects = sends ∙ ap (λ (x : WholeState S C). whole_install_effects O x (others r.id r.members)) state ∙ alike (others r.id r.members);
              }
            where
              alike : (lacking : List ℕ) → whole_install_effects O (whole_applied_to rules new log.base) lacking ≡ whole_install_effects O new lacking
              alike [] = refl
              alike (x ∷ lacking) = refl

      by : ((r.joined == b && (is_fetching r.role && nat_le r.committed (places log))) ≡ true) ⊎ ((r.joined == b && (is_fetching r.role && nat_le r.committed (places log))) ≡ false) →
          AreLike {O = O} rules ballot (whole_on_state O W b L) (wholly w.archive (on_state rules r b log))
      by (inl e) = by_took e (took_log from b (State b log) log may snap (state_takes rules w.archive r from b log snap.within e))
      by (inr e) =
          subst (λ (o : WholeOutcome S C O). AreLike rules ballot o (wholly w.archive (on_state rules r b log))) (sym (on_state-stays O W b L (test false e)))
          (subst (λ (u : Outcome S C O). AreLike rules ballot (whole_nothing O W) (wholly w.archive u)) (sym (state_nothing rules r b log e)) (record { state = inl refl; effects = refl }))

  -- Install
  install_like : (from b : ℕ) (log : Log C) → In (n + 1, record { from = from; body = Install b log }) w.sent → IsSnapshot rules w.archive log → (ballot : ℕ) →
      (whole_on_install O W from b (whole_log w.archive log)).state.joined ≡ ballot →
      AreLike {O = O} rules ballot (whole_on_install O W from b (whole_log w.archive log)) (wholly w.archive (on_install rules r from b log))
  install_like from b log may snap ballot after =
      by (cases_Bool ((nat_lt r.joined b || (r.joined == b && nat_lt r.held_in b)) && nat_le r.committed (places log))) (cases_Bool (r.joined == b && r.held_in == b))
    where
      L : List C
      L = whole_log w.archive log

      long : length L ≡ places log
      long = long_of log snap

      lacks : Bool
      lacks = nat_lt r.joined b || (r.joined == b && nat_lt r.held_in b)

      test : (e : Bool) → (lacks && nat_le r.committed (places log)) ≡ e → (lacks && nat_le W.committed (length L)) ≡ e
      test e f = ap (λ i. lacks && nat_le r.committed i) long ∙ f

      answer : ℕ → WholeEffect C O
      answer i = effects.To from (record { from = r.id; body = bodies.Installed b i })

      new : WholeState S C
      new = record W { joined = b; held_in = b; log = L; role = Backup }

      given : WholeOutcome S C O
      given = record { state = new; effects = answer (length L) ∷ [] }

      by_took : (lacks && nat_le r.committed (places log)) ≡ true → Took rules w.archive r log →
          AreLike {O = O} rules ballot (whole_on_install O W from b L) (wholly w.archive (on_install rules r from b log))
      by_took e t =
          subst (λ (o : WholeOutcome S C O). AreLike rules ballot o (wholly w.archive (on_install rules r from b log))) (sym row)
          (subst (λ (u : Outcome S C O). AreLike rules ballot given (wholly w.archive u)) (sym (install_took rules r t.took from b log e t.is)) (by_so t.so))
        where
          row : whole_on_install O W from b L ≡ given
          row = on_install-takes O W from b L (test true e)

          with_it : ReplicaState S C
          with_it = record t.took { joined = b; held_in = b; role = Backup }

          by_so : TookSo rules w.archive r log t.took → AreLike {O = O} rules ballot given (wholly w.archive (answers_installed O r from b (places log) (Some t.took)))
          by_so (inl same) =
              record {
                state = inl (ap (λ (x : WholeState S C). let y : WholeState S C = record x { joined = b; held_in = b; role = Backup } in y) same);
                effects = ap (λ i. answer i ∷ []) (sym long);
              }
          by_so (inr (moments, front, learned)) =
              let mine : b ≡ ballot = sym (ap (λ (o : WholeOutcome S C O). o.state.joined) row) ∙ after in
              record {
                state = inr (learned_ahead ballot new (whole w.archive with_it) log snap.within refl refl refl front moments
                    (ap (λ (x : WholeState S C). let y : WholeState S C = record x { joined = b; held_in = b; role = Backup } in y) learned) mine mine refl refl);
                effects = ap (λ i. answer i ∷ []) (sym long);
              }

      by : ((lacks && nat_le r.committed (places log)) ≡ true) ⊎ ((lacks && nat_le r.committed (places log)) ≡ false) → ((r.joined == b && r.held_in == b) ≡ true) ⊎ ((r.joined == b && r.held_in == b) ≡ false) →
          AreLike {O = O} rules ballot (whole_on_install O W from b L) (wholly w.archive (on_install rules r from b log))
      by (inl e) other = by_took e (took_log from b (Install b log) log may snap (install_takes rules w.archive r from b log snap.within e))
      by (inr e) (inl g) =
          subst (λ (o : WholeOutcome S C O). AreLike rules ballot o (wholly w.archive (on_install rules r from b log))) (sym (on_install-answers O W from b L (test false e) g))
          (subst (λ (u : Outcome S C O). AreLike rules ballot (record { state = W; effects = answer (length L) ∷ [] }) (wholly w.archive u)) (sym (install_answers rules r from b log e g))
          (record { state = inl refl; effects = ap (λ i. answer i ∷ []) (sym long) }))
      by (inr e) (inr g) =
          subst (λ (o : WholeOutcome S C O). AreLike rules ballot o (wholly w.archive (on_install rules r from b log))) (sym (on_install-stays O W from b L (test false e) g))
          (subst (λ (u : Outcome S C O). AreLike rules ballot (whole_nothing O W) (wholly w.archive u)) (sym (install_nothing rules r from b log e g)) (record { state = inl refl; effects = refl }))

  plainly : (ballot from : ℕ) (body : Body C) → IsPlainBody body →
      AreLike {O = O} rules ballot (whole_received rules W from (whole_body w.archive body)) (wholly w.archive (received rules r from body))
  plainly ballot from body plain = let z = plain_same {O = O} rules w.archive r from body based plain in record { state = inl z.state; effects = z.effects }

  pub message_like : (from : ℕ) (body : Body C) → In (n + 1, record { from = from; body = body }) w.sent → (ballot : ℕ) →
      (whole_received {O = O} rules W from (whole_body w.archive body)).state.joined ≡ ballot →
      AreLike {O = O} rules ballot (whole_received rules W from (whole_body w.archive body)) (wholly w.archive (received rules r from body))
  message_like from (NewBallot b members a old) may ballot after = plainly ballot from (NewBallot b members a old) tt
  message_like from (Join b a) may ballot after = plainly ballot from (Join b a) tt
  message_like from (State b log) may ballot after = state_like from b log may (k.each_sent (n + 1) (record { from = from; body = State b log }) may).0 ballot after
  message_like from (Install b log) may ballot after = install_like from b log may (k.each_sent (n + 1) (record { from = from; body = Install b log }) may).0 ballot after
  message_like from (Installed b h) may ballot after = plainly ballot from (Installed b h) tt
  message_like from (Activate b) may ballot after = plainly ballot from (Activate b) tt
  message_like from (Activated b) may ballot after = plainly ballot from (Activated b) tt
  message_like from (Superseded b) may ballot after = plainly ballot from (Superseded b) tt
  message_like from (Append b place c) may ballot after = plainly ballot from (Append b place c) tt
  message_like from (Held b h) may ballot after = plainly ballot from (Held b h) tt
  message_like from (Commit b h) may ballot after = plainly ballot from (Commit b h) tt
