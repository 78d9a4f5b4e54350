-- OwnSendsJoin.antt: what a node's own lane sends at first and then is what it sends.
use Rattle.std.proofs.Common.{◌≡◌, ℕ, List, [], ◌∷◌, ◌++◌, refl, ◌∙◌, sym, subst}
use mathlib.Core.List.{IsPrefix}
use Rattle.ballot_base.specs.declared.message.Message.{Message}
use Rattle.broker_spec.specs.declared.command.Command.{Command}
use Rattle.mailbox.specs.Ends.{LaneView}
use Rattle.world_base.specs.declared.node_core.item.Item.{Item}
use Rattle.post.specs.outbox.Queued.{IsPosted}
use Rattle.post.specs.outbox.Queued.IsPosted.{sent_to, ordered}
use Rattle.run_history.specs.declared.event.RunEvent.{RunEvent}
use Rattle.run_history.specs.Log.{sent_in}
use Rattle.run_history.specs.Sending.{WasSentTo}
use Rattle.run_history.proofs.LongerLogs.{in_later}
use Rattle.run_history.proofs.Prefixes.{prefix_self, prefix_trans}
use Rattle.server.specs.node_threads.LaneReports.{IsOwn, OwnLaneView, SendsMore, SendsOwn}
use Rattle.server.specs.node_threads.LaneReports.IsOwn.{tick, cut}
use Rattle.server.specs.node_threads.LaneReports.SendsOwn.{starts, ticks, cuts, hands}

-- ---- lists

own_join : (messages : List (ℕ × Message Command)) (number : ℕ) (before sent after : List Item)
    → SendsOwn messages number before sent → SendsOwn messages number sent after → SendsOwn messages number before after
own_join messages number before sent _ first starts = first
own_join messages number before sent _ first (ticks now rest) = ticks now (own_join messages number before sent _ first rest)
own_join messages number before sent _ first (cuts rest) = cuts (own_join messages number before sent _ first rest)
own_join messages number before sent _ first (hands item rest posted) = hands item (own_join messages number before sent _ first rest) posted

-- what was sent stays sent
pub posted_later : (xs ys : List RunEvent) (number : ℕ) (item : Item) → IsPrefix xs ys
    → IsPosted (sent_in xs) number item → IsPosted (sent_in ys) number item
posted_later xs ys number _ longer (sent_to message sent) = sent_to message (in_later (number, message) xs ys longer sent)
posted_later xs ys number item longer (ordered order) = ordered order

pub own_later : (xs ys : List RunEvent) (number : ℕ) (before after : List Item) → IsPrefix xs ys
    → SendsOwn (sent_in xs) number before after → SendsOwn (sent_in ys) number before after
own_later xs ys number before _ longer starts = starts
own_later xs ys number before _ longer (ticks now rest) = ticks now (own_later xs ys number before _ longer rest)
own_later xs ys number before _ longer (cuts rest) = cuts (own_later xs ys number before _ longer rest)
own_later xs ys number before _ longer (hands item rest posted) =
    hands item (own_later xs ys number before _ longer rest) (posted_later xs ys number item longer posted)

-- a queued item that is for this node may be queued for it by what was seen when it was sent
pub posted_here : (others sent : List (ℕ × Message Command)) (other number : ℕ) (item : Item)
    → IsPosted others other item → WasSentTo sent number item → IsPosted sent number item
posted_here others sent other number _ (sent_to message was) here = sent_to message here
posted_here others sent other number item (ordered order) here = ordered order

-- a tick or a cut was sent
pub own_sent : (messages : List (ℕ × Message Command)) (number : ℕ) (item : Item) (before after : List Item)
    → IsOwn item → after ≡ before ++ item ∷ [] → SendsOwn messages number before after
own_sent messages number _ before after (tick now) sent =
    subst (λ (items : List Item). SendsOwn messages number before items) (sym sent) (ticks now starts)
own_sent messages number _ before after cut sent =
    subst (λ (items : List Item). SendsOwn messages number before items) (sym sent) (cuts starts)

-- what was queued for the node was sent
pub own_queued : (messages : List (ℕ × Message Command)) (number : ℕ) (item : Item) (before after : List Item)
    → IsPosted messages number item → after ≡ before ++ item ∷ [] → SendsOwn messages number before after
own_queued messages number item before after posted sent =
    subst (λ (items : List Item). SendsOwn messages number before items) (sym sent) (hands item starts posted)

-- nothing was sent
pub own_same : (messages : List (ℕ × Message Command)) (number : ℕ) (before after : List Item)
    → after ≡ before → SendsOwn messages number before after
own_same messages number before after same =
    subst (λ (items : List Item). SendsOwn messages number before items) (sym same) starts

-- all that a lane sent, by a longer log
pub own_all : (xs ys : List RunEvent) (number : ℕ) (sent after : List Item) → IsPrefix xs ys
    → SendsOwn (sent_in xs) number [] sent → SendsOwn (sent_in ys) number sent after → SendsOwn (sent_in ys) number [] after
own_all xs ys number sent after longer first next =
    own_join (sent_in ys) number [] sent after (own_later xs ys number [] sent longer first) next

-- ---- lanes

pub sends_nothing : (own : OwnLaneView) → SendsMore own own
sends_nothing own = record { number = refl; log = prefix_self own.log; sends = starts }

pub sends_then : (first second third : OwnLaneView) → SendsMore first second → SendsMore second third → SendsMore first third
sends_then first second third one two = record {
  number = two.number ∙ one.number;
  log = prefix_trans first.log second.log third.log one.log two.log;
  sends =
      own_join (sent_in third.log) first.number first.lane.sent second.lane.sent third.lane.sent
      (own_later second.log third.log first.number first.lane.sent second.lane.sent two.log one.sends)
      (subst (λ (number : ℕ). SendsOwn (sent_in third.log) number second.lane.sent third.lane.sent) one.number two.sends);
}

-- the lane sent so while the log that it knows grew
pub sends_so : (own : OwnLaneView) (number : ℕ) (lane after : LaneView Item) (log later : List RunEvent)
    → record { number = number; lane = lane; log = log } ≡ own → IsPrefix log later
    → SendsOwn (sent_in later) number lane.sent after.sent
    → SendsMore own (record { number = number; lane = after; log = later })
sends_so own number lane after log later is longer sends =
    subst (λ (old : OwnLaneView). SendsMore old (record { number = number; lane = after; log = later })) is
    (record { number = refl; log = longer; sends = sends })
