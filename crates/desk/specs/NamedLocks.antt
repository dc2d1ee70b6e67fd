-- The lock that a book names.
use Rattle.commands.specs.declared.command.LockName.{LockName}
use Rattle.commands.specs.declared.command.LockName.TheVariants.{Hash, Group}
use Rattle.locks.specs.Group.{Allowed, group_lock}
use Rattle.locks.specs.Meaning.{Meaning, hash_lock}

-- What a named lock means.
abbrev pub meaning_of : LockName → Meaning
meaning_of Hash = hash_lock
meaning_of (Group modulus order base) = group_lock modulus order base

-- Which locks can be made: the hash lock, and a group of allowed numbers.
abbrev pub Makeable : LockName → Type 0
Makeable Hash = Unit {0}
Makeable (Group modulus order base) = Allowed modulus order base
