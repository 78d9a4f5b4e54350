-- Answering.antt: an Install that comes, taken or only answered.
use Rattle.std.proofs.Common.{◌≡◌, ℕ, ◌+◌, ◌<◌, ◌≤◌, ◌⊎◌, inl, inr, true, false, List, [], ◌∷◌, length, Some, refl, ap, sym, ◌∙◌, subst, arith}
use Rattle.std.specs.Prelude.{slice_get, nat_lt, nat_le, ◌&&◌, ◌||◌, ◌==◌}
use Rattle.std.proofs.lemmas.Bool.{cases_Bool, and_parts, or_cases, ltb-true, leb-true, eqb-true}
use Rattle.machine.specs.Machine.{Rules}
use Rattle.agreement.specs.whole_logs.Messages.Body.{Install, Installed}
use Rattle.agreement.specs.whole_logs.Replica.{ReplicaState}
use Rattle.agreement.specs.whole_logs.StepOutcome.{Outcome, message_to}
use Rattle.agreement.specs.whole_logs.Transfer.{on_install}
use Rattle.agreement.specs.World.{GroupWorld, moved}
use Rattle.lists.specs.Lists.{In, IsPrefixOf}
use Rattle.agreement.specs.Inside.Ballots.{Given, Line, History}
use Rattle.agreement.specs.Inside.Keeps.LineAdds.{as_it_was}
use Rattle.agreement.specs.Inside.Keeps.{KeepsSoundness}
use Rattle.agreement.specs.Inside.MovesAt.{MovesAt, with_lines}
use Rattle.agreement.specs.Inside.Sound.{IsSoundWorld}
use Rattle.agreement.specs.Inside.SoundNodes.{IsSoundNode}
use Rattle.lists.proofs.Prefixes.{prefix_length}
use Rattle.agreement.proofs.Effects.{thinned_messages}
use Rattle.agreement.proofs.Frame.MoveLines.{tells_here}
use Rattle.agreement.proofs.Frame.Framing.{within_of, move_extends}
use Rattle.agreement.proofs.Changing.InstallHeard.{InstallHeard, Sends, install_heard, installed_sends, installed_says}
use Rattle.agreement.proofs.Changing.Installs.{install_taken}
use Rattle.agreement.proofs.Frame.Leaving.{left_same}
use Rattle.agreement.proofs.Frame.Moved.{move_sound}
use Rattle.agreement.proofs.Frame.Quiet.{keeps_nothing}
use Rattle.agreement.proofs.of_whole_logs.ChangeRows.{on_install-takes, on_install-answers, on_install-stays}
use Rattle.agreement.proofs.Changing.SameNode.{same_node}

-- an Install that is answered
install_answered : {S C O : Type 0} (rules : Rules S C O) (w : GroupWorld S C O) (h : History C) (n : ℕ) (r : ReplicaState S C)
    (from b : ℕ) (log : List C) → IsSoundWorld rules w h → slice_get w.nodes n ≡ Some r → InstallHeard w h n from b log →
    r.joined ≡ b → r.held_in ≡ b →
    KeepsSoundness rules w h n (record { state = r; effects = message_to O r.id (Installed b (length log)) from ∷ [] })
install_answered {S = S} {C = C} {O = O} rules w h n r from b log s stands q joined held given thinned =
    record {
      history = with_lines h h.line;
      extends = move_extends w h h.line n r r given moves;
      active = λ c j. j;
      ballots = refl;
      added = λ b k e. as_it_was e;
      tells = λ m b k t. tells_here w h h.line n r r given moves m b k t;
      sound = move_sound rules w h h.line n r r given s moves (same_node w h n r given moves (within_of rules w h s) t)
          (λ to m i. installed_says w (moved w n r given) h (with_lines h h.line) n from b r.id log q t.id
          (move_extends w h h.line n r r given moves) to m (thinned_messages thinned (to, m) i))
          (left_same rules w h h.line n r r given moves sends.silent s.left);
    }
  where
    t : IsSoundNode w h n r
    t = s.nodes n r stands

    by_between : (g : Given) × (h.given r.held_in ≡ Some g) × ((l : Line C) × (h.line r.held_in ≡ Some l)
        × IsPrefixOf l.base r.log × IsPrefixOf r.log l.list) → length log ≤ length r.log
    by_between (g, is_given, (l, lined, base, list)) =
        let e : h.line b ≡ Some l = ap h.line (sym held) ∙ lined in
        let f = q.lined in let same : q.line ≡ l = cc in
        let long = prefix_length base in
        let a = ap length q.base in let c = ap (λ (y : Line C). length y.base) same in omega (arith, long, a, c)

    positive : 0 < r.held_in
    positive = let low = (s.ballots.previous b q.ballot q.is_of.given q.is_of.later).1 in omega (arith, low, held)

    sends : Sends w h n r r given
    sends = installed_sends rules w h n from b log r r given s stands q (omega (arith, joined)) (sym held)
        (by_between (t.placed.between positive)) (omega arith) (omega arith) thinned

    moves : MovesAt w h h.line n r r given
    moves = sends.moves

-- an Install that comes
pub keeps_install : {S C O : Type 0} (rules : Rules S C O) (w : GroupWorld S C O) (h : History C) (n : ℕ) (r : ReplicaState S C)
    (from b : ℕ) (log : List C) → IsSoundWorld rules w h → slice_get w.nodes n ≡ Some r →
    In (n + 1, record { from = from; body = Install b log }) w.sent → KeepsSoundness rules w h n (on_install O r from b log)
keeps_install {S = S} {C = C} {O = O} rules w h n r from b log s stands sent =
    by_condition (cases_Bool ((nat_lt r.joined b || (r.joined == b && nat_lt r.held_in b)) && nat_le r.committed (length log)))
    (cases_Bool (r.joined == b && r.held_in == b))
  where
    heard : InstallHeard w h n from b log
    heard = install_heard w h n from b log (s.said (n + 1) _ sent)

    below : ((nat_lt r.joined b) ≡ true) ⊎ ((r.joined == b && nat_lt r.held_in b) ≡ true) → (r.joined ≤ b) × (r.held_in < b)
    below (inl e) =
        let less = ltb-true r.joined b e in let order = (s.nodes n r stands).placed.order in
        (omega (arith, less), omega (arith, less, order))
    below (inr e) =
        let p = and_parts (r.joined == b) (nat_lt r.held_in b) e in
        let same = eqb-true r.joined b p.0 in (omega (arith, same), ltb-true r.held_in b p.1)

    by_condition : (((nat_lt r.joined b || (r.joined == b && nat_lt r.held_in b)) && nat_le r.committed (length log)) ≡ true)
        ⊎ (((nat_lt r.joined b || (r.joined == b && nat_lt r.held_in b)) && nat_le r.committed (length log)) ≡ false) →
        ((r.joined == b && r.held_in == b) ≡ true) ⊎ ((r.joined == b && r.held_in == b) ≡ false) →
        KeepsSoundness rules w h n (on_install O r from b log)
    by_condition (inl e) f =
        let p = and_parts (nat_lt r.joined b || (r.joined == b && nat_lt r.held_in b)) (nat_le r.committed (length log)) e in
        let z = below (or_cases (nat_lt r.joined b) (r.joined == b && nat_lt r.held_in b) p.0) in
        subst (λ (o : Outcome S C O). KeepsSoundness rules w h n o) (sym (on_install-takes O r from b log e))
        (install_taken rules w h n r from b log s stands heard z.0 z.1 (leb-true r.committed (length log) p.1))
    by_condition (inr e) (inl f) =
        let p = and_parts (r.joined == b) (r.held_in == b) f in
        subst (λ (o : Outcome S C O). KeepsSoundness rules w h n o) (sym (on_install-answers O r from b log e f))
        (install_answered rules w h n r from b log s stands heard (eqb-true r.joined b p.0) (eqb-true r.held_in b p.1))
    by_condition (inr e) (inr f) = keeps_nothing rules w h n r _ s stands (on_install-stays O r from b log e f)
