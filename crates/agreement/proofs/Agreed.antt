-- Agreed.antt: the agreed list.
pub mod AgreedExists
pub mod AppliedAgreed
pub mod Agreeing
pub mod MaxAcknowledged
pub mod MomentsTell
pub mod MomentsChosen
pub mod MomentsAgree
pub mod MomentsGrow
pub mod MomentsAreKnown
pub mod KnownSteps
pub mod MomentsKnown
pub mod MomentsOrder
pub mod OneNodeTakes
pub mod OnePrimary
pub mod PlainSteps
pub mod TakenInOrder
