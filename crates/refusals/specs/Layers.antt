-- The number of each layer.
use Rattle.std.specs.Prelude.{ℕ}
use Rattle.refusals.specs.declared.layer.Layer.{Layer}
use Rattle.refusals.specs.declared.layer.Layer.TheVariants.{Message, Channel, Node}

-- The message layer is the first, the channel layer the second, the node layer the third.
abbrev pub layer_number : Layer → ℕ
layer_number Message = 1
layer_number Channel = 2
layer_number Node = 3
