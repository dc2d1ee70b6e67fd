-- Worked figures of the group with modulus 23, order 11 and base 2.
use Rattle.std.specs.Prelude.{◌≡◌}
use Rattle.locks.specs.Group.{Allowed, as_value, group_lock}

-- Key 3 has the value 8, and the tweak 4 carries them to 7 and 13.
pub record Worked : Type 0 where
  pub made : Allowed 23 11 2
  pub value : (group_lock 23 11 2).value_of (as_value 3) ≡ as_value 8
  pub key : (group_lock 23 11 2).carried_key (as_value 3) (as_value 4) ≡ as_value 7
  pub carried : (group_lock 23 11 2).carried_value (as_value 8) (as_value 4) ≡ as_value 13
