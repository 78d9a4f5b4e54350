-- The faults of a link's reader, by those of its parts.
use Rattle.topics.specs.declared.malformed.MalformedKind.{MalformedKind}
use Rattle.topics.specs.declared.malformed.MalformedKind.TheVariants as kinds
use Rattle.links.specs.declared.seal.frame_reader.FrameError.{FrameError}
use Rattle.links.specs.declared.seal.frame_reader.FrameError.TheVariants as frame_errors
use Rattle.links.specs.declared.frames.error.JoinError.{JoinError}
use Rattle.links.specs.declared.frames.error.JoinError.TheVariants as join_errors
use Rattle.links.specs.declared.link_fault.LinkFault.{LinkFault}
use Rattle.links.specs.declared.link_fault.LinkFault.TheVariants.{TooLong, Tag, Spent, Part, Malformed, Memory, Failed}

-- a reader of frames that has not failed before
abbrev pub frame_fault : FrameError → LinkFault
frame_fault frame_errors.TooLong = TooLong
frame_fault frame_errors.Tag = Tag
frame_fault frame_errors.Memory = Memory
frame_fault frame_errors.Failed = Spent

-- a joiner
abbrev pub join_fault : JoinError → LinkFault
join_fault (join_errors.Part fault) = Part fault
join_fault join_errors.Memory = Memory
join_fault join_errors.Failed = Failed

-- the reading of a parcel
abbrev pub kind_fault : MalformedKind → LinkFault
kind_fault kinds.Memory = Memory
kind_fault kind = Malformed kind
