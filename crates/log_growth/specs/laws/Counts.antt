-- Counts of splits, from those of their parts. Only clauses of private functions cite them.
use Rattle.std.specs.Prelude.{◌≡◌, ℕ, ◌+◌}
use Rattle.log_growth.specs.declared.counts.Growth.{Growth}

-- the counts of two parts together
pub record IsSum (first second both : Growth) : Type 0 where
  pub ends : both.ends ≡ first.ends + second.ends
  pub deep : both.deep ≡ first.deep + second.deep
  pub floors : both.floors ≡ first.floors + second.floors
  pub before : both.before ≡ first.before + second.before
  pub after : both.after ≡ first.after + second.after

-- the counts of a split are those of its parts, with its own floor where that is above the profit, and one box more of both proofs
pub record IsSplitCount (above : ℕ) (parts whole : Growth) : Type 0 where
  pub ends : whole.ends ≡ parts.ends
  pub deep : whole.deep ≡ parts.deep
  pub floors : whole.floors ≡ above + parts.floors
  pub before : whole.before ≡ 1 + parts.before
  pub after : whole.after ≡ 1 + parts.after

-- the counts of a split, from those of each of its parts
pub record IsSplitSum (above : ℕ) (first second whole : Growth) : Type 0 where
  pub parts : Growth
  pub sum : IsSum first second parts
  pub counts : IsSplitCount above parts whole
