use mir.Syntax.{of_param}
use denote.Exit.{unseen}
use denote.Param.Send.{Quiet-if, sendable}
use Rattle.server.proofs.serving.serve_by.Goals as goal

pub scoped-requires : goal.scoped-requires
scoped-requires g c =
    let t = c.type_bounds in
    record {
      at = λ a. (
        record { owned = t.send-H.owned; leaving = λ k. Quiet-if (k (of_param 0)) unseen unseen (λ x w. tt) (λ x w. tt) },
        record { owned = t.send-J.owned; leaving = λ k. Quiet-if (k (of_param 1)) unseen unseen (λ x w. tt) (λ x w. tt) },
        record { owned = t.send-S.owned; leaving = λ k. Quiet-if (k (of_param 2)) unseen unseen (λ x w. tt) (λ x w. tt) },
        search (sendable, t.sync-H),
        search (sendable, t.sync-J),
        search (sendable, t.sync-R),
        search (sendable, t.sync-G),
      );
    }
