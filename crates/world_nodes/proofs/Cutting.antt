-- A node that has something to cut takes that item, and the record has what it had applied.
use Rattle.std.proofs.Common.{◌≡◌, inl, inr, ◌⊎◌, ◌<◌, ◌≤◌, ◌+◌, ◌-◌, ℕ, zero, suc, Bool, true, false, not, ◌&&◌, nat_lt, if◌then◌else◌, List, [], ◌∷◌, ◌++◌, length, take, drop, Option, Some, None, refl, sym, ap, ◌∙◌, subst, arith}
use Rattle.std.specs.Prelude.{get_or, slice_get}
use Rattle.std.proofs.lemmas.Bool.{and_parts, ltb-true, ltb-false}
use Rattle.ballot_base.specs.Compaction.{can_cut}
use Rattle.ballot_base.specs.Losses.{one_more}
use Rattle.ballot_base.specs.declared.message.Message.{Message}
use Rattle.ballot_base.specs.Replica.{status_of}
use Rattle.ballot_base.specs.declared.status.Status.{Status}
use Rattle.broker_spec.specs.declared.command.Command.{Command}
use Rattle.master.specs.Inside.{AcknowledgedIn}
use Rattle.agreement.specs.cut_logs.World.{messages, recorded}
use Rattle.master.proofs.Archived.{begins_by, recorded_by, taken_back}
use Rattle.world_base.specs.declared.node_core.item.Item.TheVariants.{Cut}
use Rattle.world_base.specs.node_core.Core.{CountedCore}
use Rattle.headline.specs.node_moves.Moves.NodeCall.{takes}
use Rattle.headline.specs.node_group.Group.{replica_of}
use Rattle.headline.proofs.of_node_group.Placed.{get_mapped}
use Rattle.headline.proofs.of_node_moves.BaseStays.{cut_step_base}
use Rattle.world_nodes.specs.Nodes.{NodesState, cores_of}
use Rattle.world_nodes.specs.ExactSteps.{CutsExactly, after_node_call}
use Rattle.world_nodes.specs.RunningNodes.{cutting, unless_stopped, unless_whole}
use Rattle.world_nodes.specs.Inside.{HaveCounted, TookItem}
use Rattle.world_nodes.specs.Steps.{CutsWithLosses, NodeCutOrLost, NodesLoseNothing, nodes_with_loss, recorded_if_cut}
use Rattle.world_nodes.proofs.Acts.{after_turn_with, core_in, not_one_more, same_core, whole_turn}
use Rattle.world_nodes.proofs.AgreedCounted.{within_at}

-- a place that is there
pub below_of : (nodes : List CountedCore) (n : ℕ) (core : CountedCore) → slice_get nodes n ≡ Some core → n < length nodes
below_of [] n core e = cc
below_of (z ∷ nodes) zero core e = omega arith
below_of (z ∷ nodes) (suc n) core e = let b = below_of nodes n core e in omega (arith, b)

-- ---- the node

module _ (old : NodesState) (at : ℕ) (core : CountedCore) (there : slice_get old.nodes at ≡ Some core) (can : can_cut core.core.replica.state ≡ true) where
  parts : (not core.core.replica.state.stopped ≡ true) × (nat_lt core.core.replica.state.log.base core.core.replica.state.committed ≡ true)
  parts = and_parts (not core.core.replica.state.stopped) (nat_lt core.core.replica.state.log.base core.core.replica.state.committed) can

  by_stopped : (b : Bool) → not b ≡ true → (if b then None else Some core) ≡ Some core
  by_stopped true e = absurd cc
  by_stopped false e = refl

  by_can : (b : Bool) → b ≡ true → (if b then Some core else None) ≡ Some core
  by_can true e = refl
  by_can false e = absurd cc

  -- it has something to cut
  pub is_cutting : cutting old.nodes (at + 1) ≡ Some core
  is_cutting =
      let place : suc at ≡ at + 1 = omega arith in
      subst (λ (n : ℕ). cutting old.nodes n ≡ Some core) place
      (ap (λ (o : Option CountedCore). unless_whole (unless_stopped o)) there
      ∙ ap unless_whole (by_stopped core.core.replica.state.stopped parts.0)
      ∙ by_can (can_cut core.core.replica.state) can)

  -- the record has the places below the base of its log
  pub recorded_below : (told next : AcknowledgedIn) → HaveCounted old told next → core.core.replica.state.log.base ≤ length old.archive
  recorded_below told next c =
      within_at old told next c at core.core.replica.state
      (get_mapped replica_of (cores_of old.nodes) at core.core (get_mapped core_in old.nodes at core there))

  -- ---- what the record has after it

  over : (new : CountedCore) → core.core.replica.state.log.base < new.core.replica.state.log.base → recorded_if_cut old.archive core new ≡ recorded old.archive core.core.replica.state
  over new up = by (nat_lt core.core.replica.state.log.base new.core.replica.state.log.base) refl
    where
      by : (c : Bool) → nat_lt core.core.replica.state.log.base new.core.replica.state.log.base ≡ c
          → (if c then recorded old.archive core.core.replica.state else old.archive) ≡ recorded old.archive core.core.replica.state
      by true e = refl
      by false e = absurd (let low = ltb-false core.core.replica.state.log.base new.core.replica.state.log.base e in omega (arith, low, up))

  not_over : (new : CountedCore) → new.core.replica.state.log.base ≤ core.core.replica.state.log.base → recorded_if_cut old.archive core new ≡ old.archive
  not_over new low = by (nat_lt core.core.replica.state.log.base new.core.replica.state.log.base) refl
    where
      by : (c : Bool) → nat_lt core.core.replica.state.log.base new.core.replica.state.log.base ≡ c
          → (if c then recorded old.archive core.core.replica.state else old.archive) ≡ old.archive
      by true e = absurd (let up = ltb-true core.core.replica.state.log.base new.core.replica.state.log.base e in omega (arith, low, up))
      by false e = refl

  -- it is cut back if the base of the log did not move
  pub record_after : (now more : List Command) (new : CountedCore) (before base later : ℕ) → base ≡ core.core.replica.state.log.base → later ≡ new.core.replica.state.log.base
      → more ≡ recorded old.archive core.core.replica.state → take before more ≡ old.archive → now ≡ (if nat_lt base later then more else take before more)
      → now ≡ recorded_if_cut old.archive core new
  record_after now more new before base later a b goes back is = is ∙ by (nat_lt base later) refl
    where
      by : (c : Bool) → nat_lt base later ≡ c → (if c then more else take before more) ≡ recorded_if_cut old.archive core new
      by true e = goes ∙ sym (over new (let up = ltb-true base later e in omega (arith, a, b, up)))
      by false e = back ∙ sym (not_over new (let low = ltb-false base later e in omega (arith, a, b, low)))

  -- as it was read and cut back
  pub archive_of : (told next : AcknowledgedIn) → HaveCounted old told next → (now more rest : List Command) (z new : CountedCore) (status : Status) (before base later : ℕ)
      → z ≡ get_or old.nodes at z → base ≡ z.core.replica.state.log.base → status ≡ status_of z.core.replica.state → rest ≡ z.core.replica.state.log.rest
      → before ≡ length old.archive → more ≡ old.archive ++ drop (length old.archive - base) (take (status.committed - base) rest)
      → later ≡ new.core.replica.state.log.base → now ≡ (if nat_lt base later then more else take before more) → now ≡ recorded_if_cut old.archive core new
  archive_of told next c now more rest z new status before base later found a b r whole is l back =
      let same = same_core old.nodes at core z there found in
      let base_is = a ∙ ap (λ (y : CountedCore). y.core.replica.state.log.base) same in
      let committed = ap (λ (y : Status). y.committed) b ∙ ap (λ (y : CountedCore). y.core.replica.state.committed) same in
      let rest_is = r ∙ ap (λ (y : CountedCore). y.core.replica.state.log.rest) same in
      let goes = recorded_by old.archive more rest base status.committed core.core.replica.state (recorded_below told next c) base_is committed rest_is is in
      record_after now more new before base later base_is l goes (taken_back old.archive more before (begins_by old.archive more _ is) whole) back

  -- ---- what it did

  whole_cut : (new : CountedCore) (more : List (ℕ × Message Command)) → TookItem core Cut new old.sent more true
      → after_turn_with at new more (recorded_if_cut old.archive core new) old.losses old
      ≡ record (after_node_call (at + 1 - 1) core (takes Cut) old) { archive = recorded old.archive core.core.replica.state }
  whole_cut new more t =
      let base : new.core.replica.state.log.base ≡ core.core.replica.state.committed =
      ap (λ (c : CountedCore). c.core.replica.state.log.base) (t.exact refl).0 ∙ cut_step_base core.core can in
      let up = ltb-true core.core.replica.state.log.base core.core.replica.state.committed parts.1 in
      let place : at ≡ at + 1 - 1 = omega arith in
      ap (λ (l : List Command). after_turn_with at new more l old.losses old) (over new (omega (arith, base, up)))
      ∙ ap (λ (n : NodesState). let k : NodesState = record n { archive = recorded old.archive core.core.replica.state } in k) (whole_turn old at core new Cut more t)
      ∙ ap (λ (k : ℕ). let n : NodesState = record (after_node_call k core (takes Cut) old) { archive = recorded old.archive core.core.replica.state } in n) place

  pub cut_takes : (new : CountedCore) (more : List (ℕ × Message Command)) (archive : List Command) (whole : Bool) (losses : ℕ) → TookItem core Cut new old.sent more whole
      → archive ≡ recorded_if_cut old.archive core new → losses ≡ (if whole && true then old.losses else one_more old.losses)
      → NodeCutOrLost (at + 1) old (after_turn_with at new more archive losses old)
  cut_takes new more archive true losses t is count =
      record {
        core = core;
        cuts = is_cutting;
        way = inl (
            ap (λ (k : ℕ). after_turn_with at new more archive k old) count
            ∙ ap (λ (l : List Command). after_turn_with at new more l old.losses old) is ∙ whole_cut new more t
            );
      }
  cut_takes new more archive false losses t is count =
      let place : at ≡ at + 1 - 1 = omega arith in
      record {
        core = core;
        cuts = is_cutting;
        way = inr (inl (
            record {
              node = new;
              wanted = t.wanted;
              kept = t.kept;
              runs = t.runs;
              thinned = t.thinned;
              is = ap (λ (k : ℕ). after_turn_with at new more archive k old) count
                  ∙ ap (λ (l : List Command). after_turn_with at new more l (one_more old.losses) old) is
                  ∙ ap (λ (l : List (ℕ × Message Command)). after_turn_with at new l (recorded_if_cut old.archive core new) (one_more old.losses) old) t.is
                  ∙ ap (λ (k : ℕ). after_turn_with k new (old.sent ++ messages t.kept) (recorded_if_cut old.archive core new) (one_more old.losses) old) place;
            }
            ));
      }

  -- there was no memory for the record
  pub cut_rests : (new : NodesState) → new ≡ nodes_with_loss old → NodeCutOrLost (at + 1) old new
  cut_rests new is = record { core = core; cuts = is_cutting; way = inr (inr is) }

-- what was undone is as if nothing had happened
pub is_with_loss : (old : NodesState) (archive : List Command) (losses : ℕ) → archive ≡ old.archive → losses ≡ one_more old.losses
    → (let n : NodesState = record old { archive = archive; losses = losses } in n) ≡ nodes_with_loss old
is_with_loss old archive losses is count =
    ap (λ (l : List Command). let n : NodesState = record old { archive = l; losses = losses } in n) is
    ∙ ap (λ (k : ℕ). let n : NodesState = record old { losses = k } in n) count

pub rests_counting : (n : NodesState) (archive : List Command) (losses : ℕ) (told next : AcknowledgedIn) → archive ≡ n.archive → HaveCounted n told next
    → HaveCounted (record n { archive = archive; losses = losses }) told next
rests_counting n archive losses told next is c =
    record {
      group = c.group;
      stands = record { master = c.stands.master; nodes = c.stands.nodes; archive = c.stands.archive ∙ sym is; sent = c.stands.sent };
      counts = c.counts;
    }

-- if nothing is counted it was a cut
pub cuts_exactly : (node : ℕ) (old new : NodesState) → NodeCutOrLost node old new → NodesLoseNothing old new → CutsExactly node old new
cuts_exactly node old new t none = by t.way
  where
    never : (later : NodesState) → new ≡ later → later.losses ≡ one_more old.losses → ⊥
    never later is counted = not_one_more old.losses none.1 (sym (ap (λ (n : NodesState). n.losses) is ∙ counted) ∙ none.0)

    by : (new ≡ record (after_node_call (node - 1) t.core (takes Cut) old) { archive = recorded old.archive t.core.core.replica.state })
        ⊎ CutsWithLosses (node - 1) t.core old new
        ⊎ (new ≡ nodes_with_loss old) → CutsExactly node old new
    by (inl is) = record { core = t.core; cuts = t.cuts; is = is }
    by (inr (inl loses)) = absurd (never _ loses.is refl)
    by (inr (inr is)) = absurd (never _ is refl)
