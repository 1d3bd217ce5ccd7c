-- What C is told of a reply, and of an event that has no time.
use Rattle.std.specs.Prelude.{ℕ, pos, replicate}
use Rattle.inp_model.specs.declared.axis_info.AxisInfo.{AxisInfo}
use Rattle.inp_model.specs.declared.event.Event.{Event}
use Rattle.inp_model.specs.declared.taken.Taken.{Taken}
use Rattle.inp_model.specs.declared.reply.Reply.{Reply}
use Rattle.inp_model.specs.declared.reply.Reply.TheVariants.{Done, Opened, Took, Discarded, Bits, Axis, Cells, Again, Refused}
use Rattle.inp_model.specs.declared.reply.Refusal.{Refusal}
use Rattle.inp_model.specs.declared.reply.Refusal.TheVariants.{BadClient, NoDevice, BadKind, BadCode, BadInfo, Busy, NotGrabber, TooMany, LogFull, NoMemory}
use Rattle.inp_c.specs.declared.c_reply.CReply.{CReply}

-- an event that a reader synthesised or an owner takes has no time and no place
abbrev pub told_untimed : Event → Taken
told_untimed e = record { event = e; time = 0; place = 0 }

abbrev pub info_of_zeros : AxisInfo
info_of_zeros = record { value = pos 0; minimum = pos 0; maximum = pos 0; fuzz = pos 0; flat = pos 0; resolution = pos 0 }

abbrev pub reply_of_zeros : CReply
reply_of_zeros = record { reply = 0; at = 0; client = 0; count = 0; slot = pos 0; why = 0; words = replicate 12 0; info = info_of_zeros }

-- the number of each cause of a refusal
abbrev pub refusal_number : Refusal → ℕ
refusal_number BadClient = 1
refusal_number NoDevice = 2
refusal_number BadKind = 3
refusal_number BadCode = 4
refusal_number BadInfo = 5
refusal_number Busy = 6
refusal_number NotGrabber = 7
refusal_number TooMany = 8
refusal_number LogFull = 9
refusal_number NoMemory = 10

-- the number of the cause of a reply that is a refusal, else 0
abbrev pub told_refusal : Reply → ℕ
told_refusal (Refused at why) = refusal_number why
told_refusal _ = 0

-- what C is told of a reply; what is not named is 0
abbrev pub told : Reply → CReply
told (Done at) = record reply_of_zeros { at = at }
told (Opened at client ring) = record reply_of_zeros { reply = 1; at = at; client = client; count = ring }
told (Took at count) = record reply_of_zeros { reply = 2; at = at; count = count }
told (Discarded at count) = record reply_of_zeros { reply = 3; at = at; count = count }
told (Bits at words) = record reply_of_zeros { reply = 4; at = at; words = words }
told (Axis at info) = record reply_of_zeros { reply = 5; at = at; info = info }
told (Cells at count slot) = record reply_of_zeros { reply = 6; at = at; count = count; slot = slot }
told (Again at ends) = record reply_of_zeros { reply = 7; at = at; count = ends }
told (Refused at why) = record reply_of_zeros { reply = 8; at = at; why = refusal_number why }
