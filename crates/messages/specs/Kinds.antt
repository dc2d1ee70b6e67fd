-- The number of each type of message.
use Rattle.std.specs.Prelude.{ℕ}
use Rattle.messages.specs.declared.kind.Kind.{Kind}
use Rattle.messages.specs.declared.kind.Kind.TheVariants.{Add, Fulfil, Fail, Signed, Revoked, Fee, Reestablish}

-- It stands first in the message, in two bytes.
abbrev pub kind_number : Kind → ℕ
kind_number Add = 128
kind_number Fulfil = 130
kind_number Fail = 131
kind_number Signed = 132
kind_number Revoked = 133
kind_number Fee = 134
kind_number Reestablish = 136
