-- Amounts in text.
use Rattle.std.specs.Prelude.{ℕ, List, ◌++◌, codes, decimal}
use Rattle.money.specs.Amounts.{Amount}

-- One number for one asset.
abbrev pub satoshi_text : Amount → List ℕ
satoshi_text f = decimal (f 0)

-- Those of a basket, joined by commas.
abbrev pub basket_text : Amount → List ℕ
basket_text f = decimal (f 0) ++ (codes "," ++ (decimal (f 1) ++ (codes "," ++ (decimal (f 2) ++ (codes "," ++ decimal (f 3))))))
