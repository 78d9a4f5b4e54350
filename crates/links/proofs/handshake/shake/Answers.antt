use Rattle.links.proofs.of_message_form.Rooms.{at_err}
use Rattle.links.proofs.Hellos.{consumes_join}
use Rattle.links.proofs.Meeting.{no_proof, some_both, some_own, they_meet, whole_prefix}
use Rattle.links.proofs.handshake.shake.Goals as goal

pub returns-in_err-send-clause-some : goal.returns-in_err-send-clause-some
returns-in_err-send-clause-some g c =
    at_err _ _ (some_own c.args.party.now.side c.args.party.now.key.now c.args.party.now.hello c.bytes-own.result _ _ c.bytes-own.ensures c.send.ensures.prefix)

pub returns-in_err-other-clause-some : goal.returns-in_err-other-clause-some
returns-in_err-other-clause-some g c =
    at_err _ _ (some_own c.args.party.now.side c.args.party.now.key.now c.args.party.now.hello c.bytes-own.result _ _ c.bytes-own.ensures (whole_prefix _ _ c.bytes-own.result c.in_ok-send.ensures.whole))

pub returns-in_err-send-2-clause-some : goal.returns-in_err-send-2-clause-some
returns-in_err-send-2-clause-some g c =
    at_err _ _ (some_both c.args.party.now.side c.args.party.now.key.now c.args.party.now.hello c.bytes-own.result c.in_ok-other.said c.proof.result _ _ _ c.bytes-own.ensures c.proof.ensures
    c.in_ok-send.ensures.whole c.send-2.ensures.prefix)

pub returns-in_err-given-clause-some : goal.returns-in_err-given-clause-some
returns-in_err-given-clause-some g c =
    at_err _ _ (some_both c.args.party.now.side c.args.party.now.key.now c.args.party.now.hello c.bytes-own.result c.in_ok-other.said c.proof.result _ _ _ c.bytes-own.ensures c.proof.ensures
    c.in_ok-send.ensures.whole (whole_prefix _ _ c.proof.result c.in_ok-send-2.ensures.whole))

pub returns-then-not-is_proof-clause-fails : goal.returns-then-not-is_proof-clause-fails
returns-then-not-is_proof-clause-fails g c = (
  c.in_ok-other.said,
  c.in_ok-given.given,
  consumes_join _ _ _ c.in_ok-other.said c.in_ok-given.given c.in_ok-other.ensures.read c.in_ok-given.ensures.read,
  no_proof c.args.party.now.side c.args.party.now.key.now c.args.party.now.hello c.bytes-own.result c.in_ok-other.said c.in_ok-given.given c.is_proof.result c.bytes-own.ensures
      c.in_ok-given.ensures.size c.is_proof.ensures c.if-not-is_proof.true,
)

pub returns-then-not-is_proof-clause-some : goal.returns-then-not-is_proof-clause-some
returns-then-not-is_proof-clause-some g c =
    some_both c.args.party.now.side c.args.party.now.key.now c.args.party.now.hello c.bytes-own.result c.in_ok-other.said c.proof.result _ _ _ c.bytes-own.ensures c.proof.ensures
    c.in_ok-send.ensures.whole (whole_prefix _ _ c.proof.result c.in_ok-send-2.ensures.whole)

pub returns-clause-meets : goal.returns-clause-meets
returns-clause-meets g c =
    they_meet c.args.party.now.side c.args.party.now.key.now c.args.party.now.hello c.args.party.now.membership _ _ _ _ _ _ c.in_ok-other.other c.bytes-own.result c.in_ok-other.said c.in_ok-given.given
    c.proof.result c.is_proof.result c.session-sealer.result.0 c.session-sealer.result.1 c.bytes-own.ensures c.in_ok-other.ensures.size c.in_ok-other.ensures.said
    c.in_ok-other.ensures.read c.in_ok-given.ensures.read c.in_ok-send.ensures.whole c.in_ok-send-2.ensures.whole c.proof.ensures c.is_proof.ensures c.if-not-is_proof.false
    c.session-sealer.ensures.sends c.session-sealer.ensures.receives
