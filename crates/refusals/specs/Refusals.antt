-- What a refusal says.
use Rattle.std.specs.Prelude.{ℕ, List, ◌++◌, codes, decimal}
use Rattle.refusals.specs.Layers.{layer_number}
use Rattle.refusals.specs.Reasons.{reason_layer, reason_number, reason_words}
use Rattle.refusals.specs.declared.refusal.Refusal.{Refusal}

-- Its number, its layer and its channel, and then what it means.
abbrev pub refusal_text : Refusal → List ℕ
refusal_text r =
    codes "declined " ++ (decimal (reason_number r.reason) ++ (codes ", layer " ++ (decimal (layer_number (reason_layer r.reason)) ++ (codes ", channel " ++ (decimal r.channel ++ (codes ": " ++ reason_words r.reason))))))
