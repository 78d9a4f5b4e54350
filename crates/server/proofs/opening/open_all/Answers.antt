use Rattle.std.proofs.Common.{◌∙◌, ap, map, sym, arith}
use Rattle.std.proofs.lemmas.List.{length-map}
use Rattle.run_history.specs.Log.{opening_log}
use Rattle.run_history.specs.Parties.{NodeView}
use Rattle.server.proofs.NodesOpened.{adds_one, all_opened}
use Rattle.server.proofs.opening.open_all.Goals as goal

pub loop-index-preserved : goal.loop-index-preserved
loop-index-preserved g c =
    let nodes = g.H.RunNaming.nodes in
    let node = c.make-node.ensures.node in record {
      maker = c.make-node.ensures.next;
      so =
          adds_one nodes c.loop-index.index c.args.config.now g.H.RunNaming.linked (map (λ listener. listener.number) c.args.contexts.now.listeners.now) c.make-node.result
          c.is_some-is_served.result c.loop-index.opened c.add.new.self c.in_ok-add.ensures (c.is_some-is_served.ensures ∙ c.listener_of.ensures.is)
          (ap (λ (n : NodeView). n.index) node)
          (ap (λ (n : NodeView). n.log) node ∙ (c.requires.log ∙ ap (λ config. opening_log nodes config g.H.RunNaming.linked) (sym c.requires.config)))
          (ap (λ (n : NodeView). n.node) node ∙ c.in_ok-core.ensures.ok) c.loop-index.invariant.so;
    }

pub returns-clause-all : goal.returns-clause-all
returns-clause-all g c =
    all_opened c.args.config.now (map (λ listener. listener.number) c.args.contexts.now.listeners.now) c.loop-index.index c.loop-index.opened c.loop-index.invariant.so
    (omega (arith, c.if-len-contexts.false, c.len.ensures, length-map c.args.contexts.now.listeners.now (λ listener. listener.number)))
