use Rattle.std.proofs.Common.{rules, refl, not, sym}
use Rattle.std.proofs.lemmas.Map.Made.{filter_same_pairs}
use Rattle.session_base.specs.Queue.{awaits_pubcomp}
use Rattle.session.proofs.session_queue.SessionQueue.on_pubcomp.Goals as goal

pub returns : goal.returns
returns c =
    let kept = filter_same_pairs _ (λ flight. not (awaits_pubcomp c.args.id flight)) _ (λ k v b w f' t. search rules) _ _ c.retain.ensures.filtered in
    rw (sym c.self.view_is, kept) refl
