-- What a lock that was made by its name means.
use Rattle.locks.specs.Group.{group_lock}
use Rattle.locks.specs.Meaning.{Meaning, hash_lock}
use Rattle.desk.specs.declared.named_lock.NamedLock.{NamedLock}
use Rattle.desk.specs.declared.named_lock.NamedLock.TheVariants.{Hash, Group}

abbrev pub lock_meaning : NamedLock → Meaning
lock_meaning (Hash lock) = hash_lock
lock_meaning (Group lock) = group_lock lock.modulus lock.order lock.base
