-- TakenBack.antt: a connection that is opened and lost at once, of which nothing is left.
use Rattle.std.proofs.Common.{◌≡◌, ◌-◌, List, [], ◌∷◌, ◌++◌, ℕ, false, Ok, length, take, reverse, refl, ap, sym, subst, ◌∙◌, arith}
use Rattle.std.proofs.lemmas.Bool.{both_ways}
use Rattle.std.proofs.lemmas.List.{length-append, take_at}
use Rattle.client_base.specs.Handled.{lost}
use Rattle.client_base.specs.History as history
use Rattle.client_base.specs.State as closing
use Rattle.client_base.specs.State.{ClientState}
use Rattle.client_base.specs.Steps.{Call, keeper_step}
use Rattle.client_base.proofs.FollowsHandled.{lost_stands}
use Rattle.client.specs.Core.{Core, gone}
use Rattle.world_base.specs.declared.node_connections.port.Port.{Port}
use Rattle.world_pipes.specs.declared.pair.PipePair.{PipePair}
use Rattle.world_pipes.specs.ModelSteps.{FollowsAll, after_losing}
use Rattle.world_pipes.specs.Piped.{SendsConnect, Piped, new_pair, piped, taken_back}
use Rattle.world_pipes.specs.StandsFor.{ArePipePairs, CanGoOut}
use Rattle.headline.specs.byte_world.Accepted.{accepted_at_qos2}
use Rattle.world_pipes.proofs.Pairs.{losing_goes, losing_publishes, same_pipes}

-- the model's client lost its connection, and opened none
pub opened_and_lost : (old : Piped) (core : Core) → core.state ≡ (keeper_step Call.Opens old.core.state).state → FollowsAll old (piped (gone core) old.pairs)
opened_and_lost old core opens m s =
    record {
      next = after_losing m;
      goes = losing_goes m;
      publishes = losing_publishes m;
      stands = record {
        keeper = subst (λ state. history.KeeperStandsFor (lost m.keeper) (closing.lost state)) (sym opens) (lost_stands m.keeper old.core.state s.keeper);
        fits = subst (λ state. CanGoOut (closing.lost state)) (sym opens)
            (record { keep_alive = s.fits.keep_alive; client = s.fits.client; released = s.fits.released; sent = s.fits.sent; queued = s.fits.queued });
        accepted = ap (λ (state : ClientState). accepted_at_qos2 state.accepted) opens ∙ s.accepted;
        many = s.many ∙ ap length (sym (same_pipes m));
        pairs = subst (ArePipePairs (reverse old.pairs)) (sym (same_pipes m)) s.pairs;
        held = λ up. absurd (both_ways false refl up);
      };
    }

all_but_last : (pairs : List PipePair) (pair : PipePair) → take (length (pairs ++ pair ∷ []) - 1) (pairs ++ pair ∷ []) ≡ pairs
all_but_last pairs pair =
    let longer = length-append pairs (pair ∷ []) in
    take_at pairs (pair ∷ []) (length (pairs ++ pair ∷ []) - 1) (let e : length pairs ≡ length (pairs ++ pair ∷ []) - 1 = omega (arith, longer) in e)

-- one that its node does not take
pub taking_back_follows : (node : ℕ) (port : Port) (old new : Piped) → SendsConnect node port (keeper_step Call.Opens old.core.state) old (Ok tt) new
    → FollowsAll old (taken_back new)
taking_back_follows node port old new (core, opens, is) =
    let bare : Core = record core { out = [] } in
    let pair : PipePair = record (new_pair node port) { up = core.out } in
    subst (λ p. FollowsAll old p)
    (sym (ap taken_back is ∙ ap (λ pairs. piped (gone bare) pairs) (all_but_last old.pairs pair))) (opened_and_lost old bare opens.0)

-- after it connections lead to the same nodes
pub taken_back_pairs : (node : ℕ) (port : Port) (old new : Piped) → SendsConnect node port (keeper_step Call.Opens old.core.state) old (Ok tt) new
    → (taken_back new).pairs ≡ old.pairs
taken_back_pairs node port old new (core, opens, is) =
    ap (λ p. (taken_back p).pairs) is ∙ all_but_last old.pairs (record (new_pair node port) { up = core.out })
