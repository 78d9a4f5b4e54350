use Rattle.client_base.proofs.NumbersStay.{numbers_stay}
use Rattle.client_base.proofs.PublishingOrder.{goes_out}
use Rattle.client_base.proofs.theorems.publishing_order_is_kept.Goals as goal

pub returns : goal.returns
returns c = record { stay = numbers_stay; order = goes_out }
