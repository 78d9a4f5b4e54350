use Rattle.admin.proofs.DevicesRead.{keeps_appended, on_ok}
use Rattle.admin.proofs.serving.serve_admin.Goals as goal

pub returns : goal.returns
returns g c =
    let (wanted, is_wanted, bytes_are) = c.in_ok-bytes.ensures in
    on_ok c.flush.result _ (record {
      request = c.bytes.result.now;
      read = rw c.bytes.ensures c.in_ok-reader.ensures;
      wanted = wanted;
      is_wanted = is_wanted;
      answered = keeps_appended _ _ _ _ (rw bytes_are at (rw c.deref.ensures.value at c.in_ok-write_all.ensures.bytes)) c.flush.ensures.bytes;
    })
