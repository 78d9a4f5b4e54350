use Rattle.notices.proofs.LinesLimited.{every_notice_is_counted}
use Rattle.notices.proofs.theorems.every_notice_is_counted.Goals as goal

pub returns : goal.returns
returns c = every_notice_is_counted
