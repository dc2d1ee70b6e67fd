-- The commitment that a draft stands for.
use Rattle.money.specs.declared.kind.Money.{Ghosts}
use Rattle.commitments.specs.declared.draft.Draft.{Draft}
use Rattle.commitments.specs.Commitments.{Commitment}
use Rattle.commitments.specs.Entries.{commitment_in}

-- The commitment of its two logs, from its opening terms.
abbrev pub drafted : {M : Type 0} → Ghosts M → Draft M → Commitment
drafted kind d = commitment_in kind d.number d.holder d.opening.now d.funders.now d.others.now
