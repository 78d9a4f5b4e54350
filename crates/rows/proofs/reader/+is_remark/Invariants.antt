use Rattle.std.proofs.Common.{length}
use Rattle.rows.proofs.reader.+is_remark.Given as goal

abbrev pub decreases-is_remark : goal.decreases-is_remark
decreases-is_remark l = length l.text.now
