-- What the steps of a world publish is what its clients published, over all their sessions.
use Rattle.std.proofs.Common.{◌≡◌, ◌==◌, ℕ, Bool, true, false, if◌then◌else◌, List, [], ◌∷◌, ◌++◌, length, map, Some, set, refl, sym, ap, ap₂, ◌∙◌, subst, inl, inr, ◌⊎◌, arith}
use Rattle.std.specs.Prelude.{slice_get}
use Rattle.std.proofs.lemmas.Bool.{both_ways}
use Rattle.std.proofs.lemmas.List.{append_assoc, append-nil, map-append}
use Rattle.packet.specs.declared.packet.Packet.{Packet}
use Rattle.session_base.specs.Identifiers.{least_free}
use Rattle.session_base.specs.Publication.{is_answered}
use Rattle.session_base.specs.declared.publication.Publication.{Publication}
use Rattle.ballot_base.specs.declared.config.Config.{Config}
use Rattle.agreement.proofs.of_cut_logs.MomentsAgree.{has_agreed}
use Rattle.broker_spec.specs.Commands.{usual_limits}
use Rattle.broker_spec.specs.Place.{Client}
use Rattle.client_base.specs.Called.{adds_own}
use Rattle.client_base.specs.Handled.{packet_handled}
use Rattle.client_base.specs.Keeper.{Keeper, Own, all_own, ids_in_use, next_own_number}
use Rattle.client_base.specs.OrderTheorems.{AreNumbered}
use Rattle.exactly_once.specs.Carried.{own_publication, own_publications}
use Rattle.exactly_once.specs.Sides.{ClientConnection, Side}
use Rattle.exactly_once.specs.Story.{StoryStep, Story}
use Rattle.exactly_once.specs.Story.StoryStep.{takes, others_take, receives, opens_anew, loses, disconnects, publishes_one, subscribes, unsubscribes}
use Rattle.exactly_once.proofs.carrying.Handles.{handles as handles_kept}
use Rattle.headline.specs.packet_world.World.{ClientsAreApart}
use Rattle.headline.specs.packet_world.Steps.{is_call}
use Rattle.headline.proofs.of_packet_world.Lists.{each_by, each_get, set_get}
use Rattle.world_base.specs.node_core.Core.{rules}
use Rattle.headline.specs.node_group.Group.{moment_of_nodes}
use Rattle.headline.specs.node_group.Steps.{GroupTrace}
use Rattle.headline.specs.byte_world.Carried.{trace_of}
use Rattle.headline.specs.byte_world.Steps.{Reached, ByteWorldStep}
use Rattle.headline.specs.byte_world.Steps.Reached.{begins, goes_on}
use Rattle.headline.specs.byte_world.Steps.ByteWorldStep.{group_goes, calls, connects, is_taken_back, comes_up, goes_down, arrives, handles}
use Rattle.headline.specs.byte_world.Published.{from_client, published_by_call, published_in_step, published_of, published_on_way}
use Rattle.headline.specs.byte_world.World.{ClientPipes, ByteWorld, new_client}
use Rattle.headline.proofs.GoesBeside.{GoesBeside}
use Rattle.headline.proofs.LivedBeside.{lived_beside}
use Rattle.exactly_once.proofs.sessions.LivedIsLife.{lived_is_life}
use Rattle.headline.proofs.AllBeside.{goes_beside}
use Rattle.headline.proofs.Places.{each_of_made}

-- ---- of one client among all

of_both : (i : ℕ) (xs ys : List (ℕ × Publication)) → published_of i (xs ++ ys) ≡ published_of i xs ++ published_of i ys
of_both i [] ys = refl
of_both i ((j, p) ∷ xs) ys = by (j == i) (of_both i xs ys)
  where
    by : (b : Bool) → published_of i (xs ++ ys) ≡ published_of i xs ++ published_of i ys
        → (if b then p ∷ published_of i (xs ++ ys) else published_of i (xs ++ ys)) ≡ (if b then p ∷ published_of i xs else published_of i xs) ++ published_of i ys
    by true ih = ap (λ l. p ∷ l) ih
    by false ih = ih

of_itself : (i : ℕ) (ps : List Publication) → published_of i (from_client i ps) ≡ ps
of_itself i [] = refl
of_itself i (p ∷ ps) =
    let same : (i == i) ≡ true = grind arith in
    ap (λ (b : Bool). if b then p ∷ published_of i (from_client i ps) else published_of i (from_client i ps)) same ∙ ap (λ l. p ∷ l) (of_itself i ps)

of_another : (i j : ℕ) (ps : List Publication) → (i ≡ j → ⊥) → published_of i (from_client j ps) ≡ []
of_another i j [] other = refl
of_another i j (p ∷ ps) other = by (j == i) refl (of_another i j ps other)
  where
    by : (b : Bool) → (j == i) ≡ b → published_of i (from_client j ps) ≡ [] → (if b then p ∷ published_of i (from_client j ps) else published_of i (from_client j ps)) ≡ []
    by true e ih = absurd (other (let same : i ≡ j = grind (arith, e) in same))
    by false e ih = ih

-- ---- a call

said_more : (keeper : Keeper) (p : Publication) → own_publications (all_own (adds_own p keeper)) ≡ own_publications (all_own keeper) ++ p ∷ []
said_more keeper p =
    ap own_publications (sym (append_assoc keeper.earlier keeper.own (new (is_answered p.qos) keeper.is_online ∷ [])))
    ∙ map-append own_publication (all_own keeper) (new (is_answered p.qos) keeper.is_online ∷ [])
    ∙ ap (λ q. own_publications (all_own keeper) ++ q ∷ []) (same (is_answered p.qos) keeper.is_online)
  where
    new : Bool → Bool → Own
    new a on =
        if a then (if on then Own.Sent (next_own_number keeper) p (least_free (ids_in_use keeper)) else Own.Queued (next_own_number keeper) p (least_free (ids_in_use keeper)))
        else Own.Done (next_own_number keeper) p

    same : (a on : Bool) → own_publication (new a on) ≡ p
    same true true = refl
    same true false = refl
    same false on = refl

call_says : {s t : Story} (h : StoryStep usual_limits s t) → is_call h ≡ true → own_publications (all_own t.keeper) ≡ own_publications (all_own s.keeper) ++ published_by_call h
call_says (takes i κ w stands next) call = absurd (both_ways false refl call)
call_says (others_take command other none) call = absurd (both_ways false refl call)
call_says (receives κ others packet are opened next) call = absurd (both_ways false refl call)
call_says (opens_anew x fresh none uncounted) call = absurd (both_ways false refl call)
call_says {s = s} loses call = sym (append-nil (own_publications (all_own s.keeper)))
call_says {s = s} disconnects call = sym (append-nil (own_publications (all_own s.keeper)))
call_says {s = s} (publishes_one p needs) call = said_more s.keeper p
call_says {s = s} (subscribes p on id) call = sym (append-nil (own_publications (all_own s.keeper)))
call_says {s = s} (unsubscribes p on id) call = sym (append-nil (own_publications (all_own s.keeper)))

-- ---- a packet

packet_says : {nodes : ℕ} {config : Config} {cs : List Client} → ClientsAreApart cs → (v : ByteWorld) (went : GroupTrace nodes config v.group) (s : GoesBeside nodes config cs v went) (i : ℕ)
    (c : ClientPipes) (κ : ClientConnection) (packet : Packet) → slice_get v.clients i ≡ Some c
    → own_publications (all_own (packet_handled packet (let side : Side = record { keeper = c.keeper; connection = κ } in side)).keeper) ≡ own_publications (all_own c.keeper)
packet_says {config = config} apart v went s i c κ packet at =
    let list = has_agreed rules config (moment_of_nodes v.group) s.so.of.earlier s.so.of.moments in
    let h = lived_beside apart v went s list.0 list.1 i c at in
    let life = lived_is_life usual_limits h.story.keeper.client h.story h.lived in
    (handles_kept c.keeper κ packet (subst (λ (k : Keeper). AreNumbered (length k.earlier) k.own) h.keeper life.keeper.numbers.1)).said

-- ---- on the way to a world

-- of each client
abbrev AllPublished : ByteWorld → List (ℕ × Publication) → Type 0
AllPublished w asked = (i : ℕ) (c : ClientPipes) → slice_get w.clients i ≡ Some c → own_publications (all_own c.keeper) ≡ published_of i asked

-- nothing is published, and what was is kept
still : (w : ByteWorld) (asked : List (ℕ × Publication)) → AllPublished w asked → AllPublished w (asked ++ [])
still w asked all i c at = all i c at ∙ ap (published_of i) (sym (append-nil asked))

-- one client becomes another, which published this
becomes : (v : ByteWorld) (clients : List ClientPipes) (asked : List (ℕ × Publication)) (j : ℕ) (c later : ClientPipes) (more : List Publication) → clients ≡ set v.clients j later
    → slice_get v.clients j ≡ Some c → own_publications (all_own later.keeper) ≡ own_publications (all_own c.keeper) ++ more → AllPublished v asked
    → (i : ℕ) (d : ClientPipes) → slice_get clients i ≡ Some d → own_publications (all_own d.keeper) ≡ published_of i (asked ++ from_client j more)
becomes v clients asked j c later more are at says all i d there = by (set_get v.clients j i c later d at (ap (λ l. slice_get l i) (sym are) ∙ there))
  where
    by : ((i ≡ j) × (later ≡ d)) ⊎ ((i ≡ j → ⊥) × (slice_get v.clients i ≡ Some d)) → own_publications (all_own d.keeper) ≡ published_of i (asked ++ from_client j more)
    by (inl (same, is)) =
        ap (λ (z : ClientPipes). own_publications (all_own z.keeper)) (sym is) ∙ says
        ∙ ap₂ (λ (a b : List Publication). a ++ b) (all j c at) (sym (of_itself j more))
        ∙ sym (of_both j asked (from_client j more)) ∙ ap (λ (k : ℕ). published_of k (asked ++ from_client j more)) (sym same)
    by (inr (other, stood)) =
        all i d stood ∙ sym (append-nil (published_of i asked)) ∙ ap (λ (l : List Publication). published_of i asked ++ l) (sym (of_another i j more other))
        ∙ sym (of_both i asked (from_client j more))

step_says : {nodes : ℕ} {config : Config} {cs : List Client} → ClientsAreApart cs → (v w : ByteWorld) (went : GroupTrace nodes config v.group) → GoesBeside nodes config cs v went
    → (asked : List (ℕ × Publication)) → AllPublished v asked → (step : ByteWorldStep v w) → AllPublished w (asked ++ published_in_step step)
step_says apart v w went s asked all (group_goes node_call d is_apart) = still w asked all
step_says apart v w went s asked all (calls j c t h at call spelled) = becomes v w.clients asked j c _ (published_by_call h) refl at (call_says h call) all
step_says apart v w went s asked all (connects j n c port now d core end at unused after there_so spelled) =
    becomes v w.clients asked j c _ [] refl at (sym (append-nil (own_publications (all_own c.keeper)))) all
step_says apart v w went s asked all (is_taken_back n port now d core unused after none) = still w asked all
step_says apart v w went s asked all (comes_up j k c κ p piece rest now d has is) = becomes v w.clients asked j c _ [] refl has.client (sym (append-nil (own_publications (all_own c.keeper)))) all
step_says apart v w went s asked all (goes_down j k c κ p d has) = becomes v w.clients asked j c _ [] refl has.client (sym (append-nil (own_publications (all_own c.keeper)))) all
step_says apart v w went s asked all (arrives j k c κ p piece rest has is) = becomes v w.clients asked j c _ [] refl has.client (sym (append-nil (own_publications (all_own c.keeper)))) all
step_says apart v w went s asked all (handles j c κ others p pipes packet left at are piped opened cut spelled) =
    becomes v w.clients asked j c _ [] refl at (packet_says apart v went s j c κ packet at ∙ sym (append-nil (own_publications (all_own c.keeper)))) all

none_published : (cs : List Client) (i : ℕ) (c : ClientPipes) → slice_get (map new_client cs) i ≡ Some c → own_publications (all_own c.keeper) ≡ []
none_published cs i c at =
    each_get (λ (d : ClientPipes). own_publications (all_own d.keeper) ≡ []) (map new_client cs) i c
    (each_of_made new_client (λ (d : ClientPipes). own_publications (all_own d.keeper) ≡ []) cs (each_by (λ (d : Client). own_publications (all_own (new_client d).keeper) ≡ []) cs (λ k d there. refl))) at

-- what a client published is what the steps on the way say about it
pub own_published : {nodes : ℕ} {config : Config} {cs : List Client} → ClientsAreApart cs → (w : ByteWorld) (trail : Reached nodes config cs w) (i : ℕ) (c : ClientPipes)
    → slice_get w.clients i ≡ Some c → own_publications (all_own c.keeper) ≡ published_of i (published_on_way trail)
own_published {cs = cs} apart w (begins greatest can) i c at = none_published cs i c at
own_published apart w (goes_on {old = v} before step) i c at =
    step_says apart v w (trace_of before) (goes_beside apart v before) (published_on_way before) (own_published apart v before) step i c at
