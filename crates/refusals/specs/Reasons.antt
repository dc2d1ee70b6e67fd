-- The number, the layer and the words of each reason.
use Rattle.std.specs.Prelude.{ℕ, List, codes}
use Rattle.refusals.specs.declared.layer.Layer.{Layer}
use Rattle.refusals.specs.declared.layer.Layer.TheVariants.{Message, Channel, Node}
use Rattle.refusals.specs.declared.reason.Reason.{Reason}
use Rattle.refusals.specs.declared.reason.Reason.TheVariants.{NotReady, ShortBuffer, Full, Unreadable, OutOfBounds, ThirtyPending, ShortBalance, Unknown, Resolved, WrongKey, NotFunder, NothingToSign, AwaitsRevocation, WrongSignature, NothingToRevoke, WrongSecret, Unexpected, Forwarded, WrongTweak, NotCovered, NotSettled, NoPlace}

-- The number of each reason, the same wherever it comes.
abbrev pub reason_number : Reason → ℕ
reason_number NotReady = 1
reason_number ShortBuffer = 2
reason_number Full = 3
reason_number Unreadable = 4
reason_number OutOfBounds = 5
reason_number ThirtyPending = 6
reason_number ShortBalance = 7
reason_number Unknown = 8
reason_number Resolved = 9
reason_number WrongKey = 10
reason_number NotFunder = 11
reason_number NothingToSign = 12
reason_number AwaitsRevocation = 13
reason_number WrongSignature = 14
reason_number NothingToRevoke = 15
reason_number WrongSecret = 16
reason_number Unexpected = 17
reason_number Forwarded = 18
reason_number WrongTweak = 19
reason_number NotCovered = 20
reason_number NotSettled = 21
reason_number NoPlace = 22

-- Which layer refuses for a reason.
abbrev pub reason_layer : Reason → Layer
reason_layer NotReady = Node
reason_layer ShortBuffer = Channel
reason_layer Full = Channel
reason_layer Unreadable = Message
reason_layer OutOfBounds = Channel
reason_layer ThirtyPending = Channel
reason_layer ShortBalance = Channel
reason_layer Unknown = Channel
reason_layer Resolved = Channel
reason_layer WrongKey = Channel
reason_layer NotFunder = Channel
reason_layer NothingToSign = Channel
reason_layer AwaitsRevocation = Channel
reason_layer WrongSignature = Channel
reason_layer NothingToRevoke = Channel
reason_layer WrongSecret = Channel
reason_layer Unexpected = Channel
reason_layer Forwarded = Node
reason_layer WrongTweak = Node
reason_layer NotCovered = Node
reason_layer NotSettled = Node
reason_layer NoPlace = Node

-- What a reason says to the crew.
abbrev pub reason_words : Reason → List ℕ
reason_words NotReady = codes "the channel is not made, or is not in the condition that the call needs"
reason_words ShortBuffer = codes "the buffer is shorter than the message"
reason_words Full = codes "the log or list is full"
reason_words Unreadable = codes "the message cannot be read, or is not for this call"
reason_words OutOfBounds = codes "the amount, the expiry or the sum of the shares is out of bounds"
reason_words ThirtyPending = codes "thirty payments of that side are pending"
reason_words ShortBalance = codes "the balance does not contain the amount"
reason_words Unknown = codes "no such payment, update or number, or it is not irrevocable yet"
reason_words Resolved = codes "the payment is resolved already"
reason_words WrongKey = codes "the key does not open the lock value"
reason_words NotFunder = codes "only the funder sets the fee rate"
reason_words NothingToSign = codes "nothing new to sign, or no signature to send again"
reason_words AwaitsRevocation = codes "the newest commitment waits for a revocation"
reason_words WrongSignature = codes "the signature is not that of the commitment"
reason_words NothingToRevoke = codes "no commitment to revoke, or no revocation to send again"
reason_words WrongSecret = codes "the secret does not fit"
reason_words Unexpected = codes "the id or number is not the one expected"
reason_words Forwarded = codes "the payment is forwarded, so only relay resolves it"
reason_words WrongTweak = codes "the lock value carried by the tweak is not the incoming one"
reason_words NotCovered = codes "the incoming payment does not cover amount and fee, or expires too soon"
reason_words NotSettled = codes "the payment is not forwarded, or the onward payment is not settled yet"
reason_words NoPlace = codes "no place for another channel"
