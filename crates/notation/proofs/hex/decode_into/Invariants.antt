use Rattle.std.proofs.Common.{◌≡◌, ◌+◌, ◌*◌, length, take}
use Rattle.notation.specs.Hex.{bytes_from}
use Rattle.notation.proofs.Pairs.{then_read}
use Rattle.notation.proofs.hex.decode_into.Given as goal

abbrev pub invariant-loop-byte : goal.invariant-loop-byte
invariant-loop-byte l = record {
  left : 2 * l.byte-index + length l.digits ≡ 2 * length l.byte-items;
  read : then_read (take l.byte-index l.byte-items) (bytes_from l.digits) ≡ bytes_from l.fn.digits;
}
