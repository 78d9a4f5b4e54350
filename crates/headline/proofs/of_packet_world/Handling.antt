-- What every world keeps, if a client handles a packet or opens a connection.
use Rattle.std.proofs.Common.{◌≡◌, ◌≤◌, ℕ, suc, Bool, true, false, ◌||◌, List, [], ◌∷◌, ◌++◌, length, set, take, Some, refl, ap, sym, ◌∙◌, subst, arith}
use Rattle.std.specs.Prelude.{slice_get}
use Rattle.std.proofs.lemmas.Bool.{both_ways}
use Rattle.packet.specs.declared.packet.Packet.{Packet}
use Rattle.broker_spec.specs.Connection.{ConnectionName, same_connection}
use Rattle.broker_spec.specs.Place.{Client}
use Rattle.broker_spec.specs.Commands.{past_of, usual_limits}
use Rattle.lists.specs.Lists.{IsPrefixOf}
use Rattle.lists.proofs.Prefixes.{prefix_get, prefix_take}
use Rattle.client_base.specs.Connected.{new_connection}
use Rattle.client_base.specs.Handled.{packet_handled}
use Rattle.exactly_once.specs.Sends.{put_to}
use Rattle.exactly_once.specs.Sides.{ClientConnection}
use Rattle.exactly_once.specs.Story.{StoryStep}
use Rattle.exactly_once.specs.StoryCommands.{any_named, packet_count}
use Rattle.exactly_once.specs.Lives.{Lived}
use Rattle.exactly_once.specs.Lives.Lived.{goes_on}
use Rattle.exactly_once.specs.Story.StoryStep.{receives, opens_anew}
use Rattle.exactly_once.proofs.keeping.KeepsShape.{same_story}
use Rattle.exactly_once.proofs.publishing.Grown.{handled_grows}
use Rattle.headline.specs.packet_world.World.{End, ClientEnds, PacketWorld, new_end, story_of, IsFresh, with_client}
use Rattle.headline.specs.packet_world.Steps.{after_packet, after_opening}
use Rattle.headline.proofs.of_packet_world.Lists.{each_get, stands_within}
use Rattle.headline.proofs.of_packet_world.Answers.{counted_in, nothing_put, put_front}
use Rattle.headline.proofs.of_packet_world.Ends.{PipeHolds, PipesHold, more_written}
use Rattle.headline.proofs.of_packet_world.Parted.{AllParted, is_named_by}
use Rattle.headline.proofs.of_packet_world.Holds.{IsTold, HasPipes, Holds, keeps_client, keeps_party}

-- ---- a packet is handled

pub keeps_handled : (w : PacketWorld) (i : ℕ) (c : ClientEnds) (κ : ClientConnection) (e : End) (others : List ClientConnection) (ends : List End) (packet : Packet) → Holds w → slice_get w.clients i ≡ Some c
    → c.connections ≡ κ ∷ others → c.ends ≡ e ∷ ends → c.keeper.is_open ≡ true → slice_get e.put κ.handled ≡ Some packet
    → Holds (with_client i (after_packet others (e ∷ ends) (packet_handled packet (record { keeper = c.keeper; connection = κ }))) w)
keeps_handled w i c κ e others ends packet h there' are ends_are opened next =
    let side = packet_handled packet (record { keeper = c.keeper; connection = κ }) in
    let grown = handled_grows κ c.keeper packet in
    let pipes : PipesHold w.agreed (κ ∷ others) (e ∷ ends) =
    subst (λ (cs : List ClientConnection). PipesHold w.agreed cs (e ∷ ends)) are (subst (λ (es : List End). PipesHold w.agreed c.connections es) ends_are (each_get (HasPipes w.agreed) w.clients i c h.pipes there')) in
    let put : IsPrefixOf e.put (put_to usual_limits (past_of usual_limits w.agreed) κ.name) =
    subst (λ (l : List Packet). IsPrefixOf l (put_to usual_limits (past_of usual_limits w.agreed) κ.name)) (sym pipes.0.shown)
    (put_front usual_limits (take e.seen w.agreed) w.agreed κ.name (prefix_take e.seen w.agreed)) in
    let happens : StoryStep usual_limits (story_of w.agreed c) (story_of w.agreed (after_packet others (e ∷ ends) side)) = receives κ others packet are opened (prefix_get κ.handled packet put next) in
    let same = same_story usual_limits (story_of w.agreed c) (story_of w.agreed (after_packet others (e ∷ ends) side)) happens in
    keeps_party w i c (after_packet others (e ∷ ends) side) h there'
    (subst (λ (d : Client). Lived usual_limits d (story_of w.agreed (after_packet others (e ∷ ends) side))) (sym same) (goes_on (each_get (IsTold w.agreed) w.clients i c h.told there') happens))
    (more_written w.agreed κ side.connection e (suc κ.handled) grown.more grown.name grown.taken grown.handled grown.written (stands_within e.put κ.handled packet next) pipes.0, pipes.1)
    (record { client = same; names = λ test. ap (λ x. test x || any_named test others) grown.name ∙ sym (ap (any_named test) are) })

-- ---- a connection is opened

nothing_before : {X : Type 0} (xs ys : List X) → IsPrefixOf xs ys → ys ≡ [] → xs ≡ []
nothing_before [] ys front e = refl
nothing_before (x ∷ xs) ys front e = let none : [] ≡ x ∷ (xs ++ front.rest) = sym e ∙ front.is in cc

pub fresh_uncounted : (w : PacketWorld) (x : ConnectionName) → Holds w → IsFresh x w.clients → packet_count x (past_of usual_limits w.agreed) ≡ 0
fresh_uncounted w x h fresh = counted_in usual_limits x w.agreed ∙ ap length (h.fresh x fresh)

opened_pipe : (w : PacketWorld) (d : Client) (x : ConnectionName) (seen : ℕ) → Holds w → IsFresh x w.clients → seen ≤ length w.agreed → PipeHolds w.agreed (new_connection d x) (new_end seen)
opened_pipe w d x seen h fresh within =
    let none = nothing_put usual_limits w.agreed x (fresh_uncounted w x h fresh) in
    record {
      read = omega arith;
      within = omega arith;
      up = h.fresh x fresh;
      seen = within;
      shown = sym (nothing_before (put_to usual_limits (past_of usual_limits (take seen w.agreed)) x) (put_to usual_limits (past_of usual_limits w.agreed) x)
          (put_front usual_limits (take seen w.agreed) w.agreed x (prefix_take seen w.agreed)) none);
      handled = omega arith;
    }

pub keeps_opened : (w : PacketWorld) (i : ℕ) (c : ClientEnds) (x : ConnectionName) (seen : ℕ) → Holds w → slice_get w.clients i ≡ Some c → IsFresh x w.clients → seen ≤ length w.agreed
    → AllParted (set w.clients i (after_opening x seen c)) → Holds (with_client i (after_opening x seen c) w)
keeps_opened w i c x seen h there' fresh within apart =
    let none = fresh_uncounted w x h fresh in
    let happens : StoryStep usual_limits (story_of w.agreed c) (story_of w.agreed (after_opening x seen c)) = opens_anew x (each_get (λ (z : ClientEnds). is_named_by x z ≡ false) w.clients i c fresh there')
    (nothing_put usual_limits w.agreed x none) none in
    keeps_client w i c (after_opening x seen c) h there'
    (goes_on (each_get (IsTold w.agreed) w.clients i c h.told there') happens)
    (opened_pipe w c.keeper.client x seen h fresh within, each_get (HasPipes w.agreed) w.clients i c h.pipes there')
    apart
    (λ y e. second (same_connection y x) (is_named_by y c) e)
  where
    second : (a b : Bool) → (a || b) ≡ false → b ≡ false
    second false b e = e
    second true b e = absurd (both_ways true e refl)
