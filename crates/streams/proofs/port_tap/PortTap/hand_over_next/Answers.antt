use Rattle.std.proofs.Common.{◌≡◌, ◌-◌, ◌++◌, ℕ, List, ap, sym, subst, ◌∙◌}
use mathlib.Core.List.{IsPrefix}
use Rattle.run_history.specs.declared.event.RunEvent.{RunEvent}
use Rattle.world_base.specs.node_connections.PendingOutput.{pending_bytes}
use Rattle.world_base.specs.node_core.PortOutput.{listed_at}
use Rattle.node_base.specs.connection.Written.{HandsOver}
use Rattle.node.specs.HandedBytes.{handed_at}
use Rattle.streams.specs.Taps.{HandsOut, IsNextTap, TapView, handed_by}
use Rattle.streams.proofs.HandedByTap.{counts_more, follows_all, handed_by_tap, not_shorter, still_counted}
use Rattle.streams.proofs.port_tap.PortTap.hand_over_next.Goals as goal

pub overflow_sub-len : goal.overflow_sub-len
overflow_sub-len g c =
    not_shorter c.args.out.now.items c.outgoing.new.out.items _ c.len-before.result c.len.result
    c.in_ok-handed.ensures.bytes (c.len-before.ensures ∙ c.args.out.now.ok.0) (c.len.ensures ∙ c.outgoing.new.out.ok.0)

pub invariant_of-self : goal.invariant_of-self
invariant_of-self g c =
    let linked = g.H.RunNaming.linked in
    let nodes = g.H.RunNaming.nodes in
    let config = g.H.RunNaming.config in
    let inside = c.self.inside in
    let node = c.args.node.now in
    let tap : TapView = record { number = inside.number; port = inside.port; handed = inside.handed; log = inside.seen } in
    let is : IsNextTap tap node = subst (λ (t : TapView). IsNextTap t node) (sym c.self.view_is) c.requires in
    let pending = pending_bytes (listed_at inside.port node.node.core) in
    let known = c.learn-2.new.self in
    let this : IsPrefix tap.log known = subst (λ (l : List RunEvent). IsPrefix l known) c.again-known.ensures c.learn-2.ensures.this in
    let that : IsPrefix node.log known = subst (λ (l : List RunEvent). IsPrefix l known) c.seen.ensures c.learn-2.ensures.that in
    let follows : handed_at nodes config (inside.number - 1) inside.port c.seen-2.result ≡ handed_by nodes config tap ++ pending =
    ap (handed_at nodes config (inside.number - 1) inside.port) c.seen-2.ensures
    ∙ follows_all linked nodes config tap node c.outgoing.new.self known c.self.invariant is c.is_on_record.ensures this that c.in_ok-handed.ensures.hands in
    let more = counts_more c.len-before.result c.len.result c.saturating_add-self-inside.result inside.handed c.args.out.now.items c.outgoing.new.out.items pending c.in_ok-handed.ensures.bytes (c.len-before.ensures ∙ c.args.out.now.ok.0) (c.len.ensures ∙ c.outgoing.new.out.ok.0) c.saturating_add-self-inside.ensures in
    still_counted (handed_at nodes config (inside.number - 1) inside.port c.seen-2.result) (handed_by nodes config tap) pending inside.handed c.saturating_add-self-inside.result follows c.self.invariant more

pub returns-clause-ok : goal.returns-clause-ok
returns-clause-ok g c =
    let linked = g.H.RunNaming.linked in
    let nodes = g.H.RunNaming.nodes in
    let config = g.H.RunNaming.config in
    let inside = c.self.inside in
    let node = c.args.node.now in
    let tap : TapView = record { number = inside.number; port = inside.port; handed = inside.handed; log = inside.seen } in
    let after : TapView = record { number = inside.number; port = inside.port; handed = c.saturating_add-self-inside.result; log = c.seen-2.result } in
    let is : IsNextTap tap node = subst (λ (t : TapView). IsNextTap t node) (sym c.self.view_is) c.requires in
    let pending = pending_bytes (listed_at inside.port node.node.core) in
    let known = c.learn-2.new.self in
    let this : IsPrefix tap.log known = subst (λ (l : List RunEvent). IsPrefix l known) c.again-known.ensures c.learn-2.ensures.this in
    let that : IsPrefix node.log known = subst (λ (l : List RunEvent). IsPrefix l known) c.seen.ensures c.learn-2.ensures.that in
    let follows : handed_at nodes config (inside.number - 1) inside.port c.seen-2.result ≡ handed_by nodes config tap ++ pending =
    ap (handed_at nodes config (inside.number - 1) inside.port) c.seen-2.ensures
    ∙ follows_all linked nodes config tap node c.outgoing.new.self known c.self.invariant is c.is_on_record.ensures this that c.in_ok-handed.ensures.hands in
    let more = counts_more c.len-before.result c.len.result c.saturating_add-self-inside.result inside.handed c.args.out.now.items c.outgoing.new.out.items pending c.in_ok-handed.ensures.bytes (c.len-before.ensures ∙ c.args.out.now.ok.0) (c.len.ensures ∙ c.outgoing.new.out.ok.0) c.saturating_add-self-inside.ensures in
    subst (λ (t : TapView). HandsOver (HandsOut linked nodes config) t c.in_ok-handed.handed after c.args.out.now.items c.outgoing.new.out.items) c.self.view_is
    (handed_by_tap linked nodes config tap node c.in_ok-handed.handed after c.args.out.now.items c.outgoing.new.out.items
    c.is_on_record.ensures is c.in_ok-handed.ensures.bytes c.in_ok-handed.ensures.answer follows
    (ap (λ (count : ℕ). record after { handed = count }) more))
