use Rattle.broker_base.proofs.of_rows.maps.OwnersStay.{owners_written}
use Rattle.broker_base.proofs.of_rows.maps.ContentOfSteps.{writing_keeps_content}
use Rattle.broker_base.proofs.of_rows.maps.PublishKeepsMaps.{publishing_keeps_owners, publishing_keeps_content}
use Rattle.broker_base.proofs.rows.map_theorems.maps_stay.Goals as goal

pub returns : goal.returns
returns c = record {
  owners = owners_written;
  content = writing_keeps_content;
  published_owners = publishing_keeps_owners;
  published_content = publishing_keeps_content;
}
