-- Ways.antt: connections and the model's, the newest of them apart.
use Rattle.std.proofs.Common.{◌≡◌, List, [], ◌∷◌, ◌++◌, length, false, reverse, refl, ap, sym, subst, ◌∙◌, slice_index_or, ◌-◌}
use Rattle.std.proofs.lemmas.List.{append-nil, reverse-append}
use Rattle.std.proofs.lemmas.Bool.{both_ways}
use Rattle.lists.specs.Lists.{Each}
use Rattle.packet.specs.Spelling.{IsPacket}
use Rattle.client_base.specs.Handled.{lost}
use Rattle.client_base.proofs.FollowsHandled.{lost_stands}
use Rattle.client.specs.Core.{Core, gone}
use Rattle.exactly_once.specs.Sides.{ClientConnection}
use Rattle.exactly_once.specs.Story.{StoryStep}
use Rattle.headline.specs.byte_world.World.{ClientPipes, Pipe, newly_written, sent_up}
use Rattle.headline.proofs.of_byte_world.OnTheWay.{newly_is}
use Rattle.world_pipes.specs.declared.pair.PipePair.{PipePair}
use Rattle.world_pipes.specs.ModelSteps.{FollowsLosing, after_losing}
use Rattle.world_pipes.specs.Steps.{ClientTrace, ClientStep, published_in_steps, published_with}
use Rattle.world_pipes.specs.Piped.{Piped, piped}
use Rattle.world_pipes.specs.StandsFor.{ArePipePairs, CanGoOut, IsPipePair}
use Rattle.world_pipes.proofs.Newest.{last_index}

-- ---- the newest

pub last_same : {X : Type 0} (older others : List X) (x y : X) → older ++ x ∷ [] ≡ others ++ y ∷ [] → x ≡ y
last_same older others x y e =
    sym (last_index older x x) ∙ ap (λ xs. slice_index_or xs (length xs - 1) x) e ∙ last_index others y x

pub newest_pair : (pairs older : List PipePair) (pair : PipePair) (pipes further : List Pipe) (p : Pipe) → pairs ≡ older ++ pair ∷ [] → pipes ≡ p ∷ further →
    ArePipePairs (reverse pairs) pipes → IsPipePair pair p × ArePipePairs (reverse older) further
newest_pair pairs older pair pipes further p splits is are =
    subst (λ all. ArePipePairs all (p ∷ further)) (ap reverse splits ∙ reverse-append older (pair ∷ [])) (subst (ArePipePairs (reverse pairs)) is are)

pub with_newest : (older : List PipePair) (pair : PipePair) (further : List Pipe) (p : Pipe) → IsPipePair pair p → ArePipePairs (reverse older) further →
    ArePipePairs (reverse (older ++ pair ∷ [])) (p ∷ further)
with_newest older pair further p one others =
    subst (λ all. ArePipePairs all (p ∷ further)) (sym (reverse-append older (pair ∷ []))) (one, others)

-- ---- nothing is written

none_newly : (connections : List ClientConnection) → newly_written connections connections ≡ []
none_newly [] = refl
none_newly (κ ∷ others) = newly_is κ κ others others [] (sym (append-nil κ.written))

pub none_sent : (pipes : List Pipe) → sent_up [] pipes ≡ pipes
none_sent [] = refl
none_sent (p ∷ pipes) = ap (λ u. record p { up = u } ∷ pipes) (append-nil p.up)

pub same_pipes : (m : ClientPipes) → sent_up (newly_written m.connections m.connections) m.pipes ≡ m.pipes
same_pipes m = ap (λ l. sent_up l m.pipes) (none_newly m.connections) ∙ none_sent m.pipes

-- ---- a lost connection

pub losing : (m : ClientPipes) → ClientStep m (after_losing m)
losing m =
    ClientStep.calls (record { past = []; connections = m.connections; keeper = lost m.keeper }) StoryStep.loses refl
    (subst (Each IsPacket) (sym (none_newly m.connections)) tt)

pub losing_silent : (m : ClientPipes) → published_with (losing m) ≡ []
unfolding losing
losing_silent m = refl

pub losing_goes : (m : ClientPipes) → ClientTrace m (after_losing m)
losing_goes m = ClientTrace.goes_on ClientTrace.stays (losing m)

pub losing_publishes : (m : ClientPipes) → published_in_steps (losing_goes m) ≡ []
unfolding losing_goes losing
losing_publishes m = refl

pub lost_fits : (core : Core) → CanGoOut core.state → CanGoOut (gone core).state
lost_fits core fits = record { keep_alive = fits.keep_alive; client = fits.client; released = fits.released; sent = fits.sent; queued = fits.queued }

pub losing_follows : (old : Piped) → FollowsLosing old (piped (gone old.core) old.pairs)
losing_follows old m s = (
  record {
    keeper = lost_stands m.keeper old.core.state s.keeper;
    fits = lost_fits old.core s.fits;
    accepted = s.accepted;
    many = s.many ∙ ap length (sym (same_pipes m));
    pairs = subst (ArePipePairs (reverse old.pairs)) (sym (same_pipes m)) s.pairs;
    held = λ up. absurd (both_ways false refl up);
  },
  losing_goes m,
  losing_publishes m,
)
