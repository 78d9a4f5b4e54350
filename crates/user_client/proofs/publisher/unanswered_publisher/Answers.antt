use Rattle.std.proofs.Common.{◌≡◌, false, sym, subst}
use Rattle.client_base.specs.Publications.{is_over_limit}
use Rattle.packet.specs.declared.packet.Packet.{Packet}
use Rattle.client.specs.Core.{publication_with}
use Rattle.user_client.specs.declared.user_client_error.UserClientError.{UserClientError}
use Rattle.user_client.specs.Refusals.{RefusesPacket, first_publish}
use Rattle.user_client.proofs.RefusedCalls.{told}
use Rattle.user_client.proofs.FirstPublication.{has_unkept}
use Rattle.user_client.proofs.RefusedFirst.{first_unkept}
use Rattle.user_client.proofs.publisher.unanswered_publisher.Goals as goal

pub returns-clause-made : goal.returns-clause-made
returns-clause-made c =
    has_unkept c.args.id c.args.retain c.args.qos c.args.topic c.args.payload c.new-caller.result c.in_ok-publish.publish
    c.requires c.new-caller.ensures c.in_ok-publish.ensures.made

pub returns-clause-fits : goal.returns-clause-fits
returns-clause-fits c =
    subst (λ (packet : Packet). is_over_limit packet ≡ false)
    (first_unkept c.args.id c.args.retain c.args.qos c.args.topic c.args.payload c.requires) c.in_ok-publish.ensures.fits

pub returns-in_err-publish-clause-err : goal.returns-in_err-publish-clause-err
returns-in_err-publish-clause-err c =
    let error = c.in_err-publish.field-0.0 in
    let refuses = RefusesPacket
    (first_publish c.args.id (publication_with c.args.retain c.args.qos c.args.topic c.args.payload)) in
    told c.from_residual.result (λ (it : UserClientError). it ≡ error) refuses c.from_residual.ensures.1
    (λ (it : UserClientError) is. subst refuses (sym is)
    (subst (λ (packet : Packet). RefusesPacket packet error)
    (first_unkept c.args.id c.args.retain c.args.qos c.args.topic c.args.payload c.requires) c.in_err-publish.ensures.err))
