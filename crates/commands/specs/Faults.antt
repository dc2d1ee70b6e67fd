-- What is said of each fault.
use Rattle.std.specs.Prelude.{ℕ, List, codes}
use Rattle.commands.specs.declared.fault.Fault.{Fault}
use Rattle.commands.specs.declared.fault.Fault.TheVariants.{NotPrintable, UnknownCommand, MissingWord, ExtraWord, NotHex, NotAValue, NotANumber, UnknownLock, NeitherKeyNorValue, NoMemory}

-- A line for each fault.
abbrev pub said_of : Fault → List ℕ
said_of NotPrintable = codes "a character that cannot be printed"
said_of UnknownCommand = codes "an unknown command"
said_of MissingWord = codes "a word is missing"
said_of ExtraWord = codes "a word too many"
said_of NotHex = codes "not hex, two digits a byte"
said_of NotAValue = codes "not a value of 64 hex digits"
said_of NotANumber = codes "not a number of 64 bits"
said_of UnknownLock = codes "neither the lock hash nor group"
said_of NeitherKeyNorValue = codes "neither key nor value"
said_of NoMemory = codes "memory is wanting"
