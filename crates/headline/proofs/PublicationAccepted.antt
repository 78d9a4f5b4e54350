-- The run of the row continues: the client subscribes, publishes at QoS 2, and accepts what comes
-- back.
use Rattle.std.specs.List.{All}
use Rattle.std.specs.Str.{chars, is_utf8}
use lib.Utf8.{encode}
use Rattle.std.proofs.Common.{◌≡◌, ℕ, zero, suc, List, [], ◌++◌, refl, sym, arith}
use Rattle.std.proofs.lemmas.List.{append-nil}
use Rattle.packet.specs.declared.packet.Packet.TheVariants as packets
use Rattle.packet.specs.Spelling.{IsPacket, spelling}
use Rattle.packet.specs.Subscribe.{FitsSubscription}
use Rattle.packet_base.specs.Spelling.{IsId}
use Rattle.exactly_once.specs.Rows.{asks_for_news, news}
use Rattle.exactly_once.specs.Story.StoryStep.{publishes_one, subscribes}
use Rattle.headline.specs.Rows.{APublicationIsAccepted, list_done}
use Rattle.headline.proofs.RowGoes.{row_arrives, row_calls, row_down, row_handles, row_up}
use Rattle.headline.proofs.ServedNode.{both, it_completes, it_grants, it_hands, it_releases, it_takes, list_published, list_released, list_subscribed, publish, serving, suback, subscribe}
use Rattle.headline.proofs.ClientServed.{its_session, less_by, within_by}

-- ---- what is written can be spelled

id_whole : IsId 1
id_whole = (less_by _ _ refl, less_by _ _ refl)

-- a packet that holds only an identifier
pubrec_whole : IsPacket (packets.Pubrec 1)
pubrec_whole = (id_whole, tt, within_by _ _ refl)

pubrel_whole : IsPacket (packets.Pubrel 1)
pubrel_whole = (id_whole, tt, within_by _ _ refl)

pubcomp_whole : IsPacket (packets.Pubcomp 1)
pubcomp_whole = (id_whole, tt, within_by _ _ refl)

filters_whole : All FitsSubscription asks_for_news.filters
unfolding is_utf8 chars encode
filters_whole zero d low = refl
filters_whole (suc k) d low = absurd (omega (arith, low))

subscribe_whole : IsPacket subscribe
subscribe_whole = ((id_whole, filters_whole), less_by _ _ refl, within_by _ _ refl)

suback_whole : IsPacket suback
suback_whole = (id_whole, less_by _ _ refl, within_by _ _ refl)

publish_whole : IsPacket publish
unfolding is_utf8 chars encode
publish_whole = ((refl, id_whole), tt, within_by _ _ refl)

-- ---- the run

-- what it writes after PUBREC and the PUBLISH is one piece
one_piece : (spelling (packets.Pubrel 1) ++ []) ++ (spelling (packets.Pubrec 1) ++ []) ≡ both ++ []
unfolding spelling
one_piece = refl

pub a_publication_is_accepted : APublicationIsAccepted
a_publication_is_accepted =
    let asks = row_calls its_session _ _ (subscribes asks_for_news refl refl) refl refl (subscribe_whole, tt) in
    let asked = row_up asks (serving list_subscribed (spelling suback)) (spelling subscribe) [] 0 refl it_grants in
    let granted = row_down asked (serving list_subscribed []) (spelling suback) refl (it_hands list_subscribed (spelling suback)) in
    let told = row_arrives granted (spelling suback) [] (sym (append-nil (spelling suback))) in
    let subscribed = row_handles told suback [] _ refl refl suback_whole (sym (append-nil (spelling suback))) tt in
    let writes = row_calls subscribed _ _ (publishes_one news (λ e. refl)) refl refl (publish_whole, tt) in
    let answers : List ℕ = spelling (packets.Pubrec 1) ++ spelling publish in
    let taken = row_up writes (serving list_published answers) (spelling publish) [] 0 refl it_takes in
    let given = row_down taken (serving list_published []) answers refl (it_hands list_published answers) in
    let came = row_arrives given answers [] (sym (append-nil answers)) in
    let first = row_handles came (packets.Pubrec 1) (spelling publish) _ refl refl pubrec_whole refl (pubrel_whole, tt) in
    let second = row_handles first publish [] _ refl refl publish_whole (sym (append-nil (spelling publish))) (pubrec_whole, tt) in
    let ends : List ℕ = spelling (packets.Pubcomp 1) ++ spelling (packets.Pubrel 1) in
    let released = row_up second (serving list_released ends) both [] 0 one_piece it_releases in
    let handed = row_down released (serving list_released []) ends refl (it_hands list_released ends) in
    let back = row_arrives handed ends [] (sym (append-nil ends)) in
    let third = row_handles back (packets.Pubcomp 1) (spelling (packets.Pubrel 1)) _ refl refl pubcomp_whole refl tt in
    let fourth = row_handles third (packets.Pubrel 1) [] _ refl refl pubrel_whole (sym (append-nil (spelling (packets.Pubrel 1)))) (pubcomp_whole, tt) in
    let last = row_up fourth (serving list_done []) (spelling (packets.Pubcomp 1)) [] 0 refl it_completes in
    record { end = _; trail = last.trail; accepted = refl; done = refl; core = serving list_done []; stands = last.stands; log = refl }
