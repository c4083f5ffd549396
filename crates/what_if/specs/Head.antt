-- The head of an old log.
use Rattle.std.specs.Prelude.{◌≡◌, ℕ, ◌==◌, Bool, false, if◌then◌else◌}
use Rattle.sum_lines.specs.declared.head.Front.{Front}
use Rattle.sum_lines.specs.declared.head.Front.TheVariants.{Plain, Headed, Bad}
use Rattle.what_if.specs.declared.old.LogHead.{LogHead}

-- the version by which the head of a log is looked at: 4 where its splits have caps of their own, and else 3, also where it has none
abbrev pub version_of : LogHead → ℕ
version_of head = if head.capped then 4 else 3

-- whether the splits of a log with such a front have caps of their own: those of version 4 do
abbrev pub HasCaps : Front → Bool → Type 0
HasCaps Plain capped = capped ≡ false
HasCaps (Headed head) capped = capped ≡ (head.version == 4)
HasCaps (Bad defect) capped = ⊥
