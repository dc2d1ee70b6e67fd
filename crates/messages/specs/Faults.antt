-- The fault of the message layer as the caller reads it.
use Rattle.refusals.specs.declared.reason.Reason.TheVariants.{Unreadable}
use Rattle.refusals.specs.declared.refusal.Refusal.{Refusal}
use Rattle.messages.specs.declared.fault.MessageFault.{MessageFault}
use Rattle.messages.specs.declared.fault.MessageFault.TheVariants.{Malformed}

-- A message that cannot be read is refused as unreadable, which is number 4 of the message layer.
abbrev pub message_refusal : MessageFault → Refusal
message_refusal (Malformed channel) = record { reason = Unreadable; channel = channel }
