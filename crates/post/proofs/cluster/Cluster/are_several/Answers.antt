use Rattle.std.proofs.Common.{◌∙◌}
use Rattle.post.proofs.NoneAmong.{several}
use Rattle.post.proofs.cluster.Cluster.are_several.Goals as goal

pub returns : goal.returns
returns g c = several _ c.self.inside.nodes.items _ (c.len.ensures ∙ c.self.inside.nodes.ok.0) c.self.view_is
