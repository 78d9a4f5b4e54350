-- ParcelsAgain.antt: a parcel that was written is read as it was.
use Rattle.std.proofs.Common.{◌≡◌, ℕ, suc, ◌<◌, ◌^◌, true, false, nat_le, List, [], ◌∷◌, ◌++◌, length, Ok, refl, sym, ap, ◌∙◌, arith, append_assoc, append-nil}
use Rattle.packet_base.specs.Spelling.{text, bit}
use Rattle.packet_base.specs.ClientId.{is_client}
use Rattle.packet_base.proofs.FieldsAgain.{text_again}
use Rattle.packet_base.proofs.Clients.{client_parts, client_short}
use Rattle.session_base.proofs.Fields.{flag_again}
use Rattle.ballot_base.specs.declared.status.Role.{Role}
use Rattle.ballot_base.specs.declared.status.Role.TheVariants as roles
use Rattle.ballot_base.specs.declared.status.Status.{Status}
use Rattle.ballot_base.specs.declared.message.Body.{Body}
use Rattle.ballot_base.specs.declared.message.Body.TheVariants as bodies
use Rattle.broker_spec.specs.declared.command.Command.{Command}
use Rattle.links.specs.message_form.Numbers.{wide_number, IsWide}
use Rattle.links.specs.message_form.Messages.{kind_of}
use Rattle.links.specs.message_form.CommandReading.{client_at}
use Rattle.links.proofs.of_message_form.CommandsAgain.{wide_again}
use Rattle.links.proofs.of_message_form.MessagesAgain.{written_is_read}
use Rattle.links.proofs.of_message_form.Lengths.{others_are_short}
use Rattle.links.specs.declared.parcel.Parcel.TheVariants as parcels
use Rattle.links.specs.Parcels.{role_number, status_bytes}
use Rattle.links.specs.ParcelReading.{role_at, status_at, welcome_at, report_at, expel_at, whole_notice}
use Rattle.links.specs.ParcelTheorems.{ParcelsAreRead, OtherParcelsAreShort}

client_again : (client rest : List ℕ) → is_client client ≡ true → client_at (text client ++ rest) ≡ Ok (client, rest)
unfolding client_at
client_again client rest h = let parts = client_parts client h in rw (text_again client rest (client_short client h) parts.0, parts.1) refl

role_again : (role : Role) (rest : List ℕ) → role_at (role_number role ∷ rest) ≡ Ok (role, rest)
unfolding role_at
role_again roles.Backup rest = refl
role_again roles.Fetching rest = refl
role_again roles.Installing rest = refl
role_again roles.Active rest = refl

-- four parts and the rest
regrouped : (a b c d rest : List ℕ) → (a ++ (b ++ (c ++ d))) ++ rest ≡ a ++ (b ++ (c ++ (d ++ rest)))
regrouped a b c d rest =
    append_assoc a (b ++ (c ++ d)) rest ∙ ap (λ (z : List ℕ). a ++ z) (append_assoc b (c ++ d) rest ∙ ap (λ (z : List ℕ). b ++ z) (append_assoc c d rest))

status_again : (status : Status) (rest : List ℕ) → IsWide status.ballot → IsWide status.held → IsWide status.committed →
    status_at (status_bytes status ++ rest) ≡ Ok (status, rest)
unfolding status_at
status_again status rest a b c =
    let tail = role_number status.role ∷ bit status.stopped ∷ [] in
    let end = role_number status.role ∷ bit status.stopped ∷ rest in
    ap (λ (z : List ℕ). status_at z) (regrouped (wide_number status.ballot) (wide_number status.held) (wide_number status.committed) tail rest)
    ∙ rw (
      wide_again status.ballot (wide_number status.held ++ (wide_number status.committed ++ end)) a,
      wide_again status.held (wide_number status.committed ++ end) b,
      wide_again status.committed end c,
      role_again status.role (bit status.stopped ∷ rest),
      flag_again status.stopped rest,
    ) refl

-- the kinds of messages are below those of notices
low : (body : Body Command) → nat_le 128 (kind_of body) ≡ false
low (bodies.NewBallot ballot members previous others) = refl
low (bodies.Join ballot previous) = refl
low (bodies.State ballot log) = refl
low (bodies.Install ballot log) = refl
low (bodies.Installed ballot held) = refl
low (bodies.Activate ballot) = refl
low (bodies.Activated ballot) = refl
low (bodies.Superseded ballot) = refl
low (bodies.Append ballot place command) = refl
low (bodies.Held ballot held) = refl
low (bodies.Commit ballot held) = refl

pub parcels_are_read : ParcelsAreRead
unfolding whole_notice welcome_at report_at expel_at
parcels_are_read (parcels.Message message) h = rw (low message.body, written_is_read message h) refl
parcels_are_read (parcels.Welcome number) h = refl
parcels_are_read (parcels.Report status) h =
    let read : status_at (status_bytes status) ≡ Ok (status, []) =
    ap (λ (z : List ℕ). status_at z) (sym (append-nil (status_bytes status))) ∙ status_again status [] h.0 h.1 h.2 in
    rw read refl
parcels_are_read (parcels.Expel client) h =
    let read : client_at (text client) ≡ Ok (client, []) =
    ap (λ (z : List ℕ). client_at z) (sym (append-nil (text client))) ∙ client_again client [] h in
    rw read refl
parcels_are_read parcels.Crash h = refl

text_len : (client : List ℕ) → length (text client) ≡ suc (suc (length client))
text_len client = refl

pub other_parcels_are_short : OtherParcelsAreShort
other_parcels_are_short (parcels.Message message) h e = others_are_short message h e
other_parcels_are_short (parcels.Welcome number) h e = omega arith
other_parcels_are_short (parcels.Report status) h e = omega arith
other_parcels_are_short (parcels.Expel client) h e =
    let goal : suc (length (text client)) < 2 ^ 21 = omega (arith, text_len client, client_short client h) in goal
other_parcels_are_short parcels.Crash h e = omega arith
