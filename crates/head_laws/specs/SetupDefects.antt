-- The first defect of the setups behind a head, as a function of the lines.
use Rattle.std.specs.Prelude.{◌≡◌, ◌↔◌, ◌+◌, ◌==◌, ◌^◌, ◌&&◌, ℕ, Bool, nat_lt, if◌then◌else◌, Option, Some, None, List, [], ◌∷◌, length, drop, bytes_eq}
use Rattle.std.specs.List.{slice_split}
use Rattle.std.specs.Option.{option_map_or}
use Rattle.std.specs.Str.Parse.{digits_value}
use Rattle.log_lines.specs.declared.defect.Defect.{Defect}
use Rattle.log_lines.specs.declared.grammar.Limits.{Limits}
use Rattle.log_lines.specs.Grammar.{follows}
use Rattle.sum_lines.specs.declared.head.Head.{Head}
use Rattle.setup_lines.specs.declared.setups.SetupSize.{SetupSize}
use Rattle.setup_lines.specs.Front.{IsBadSetup, setup_defect}
use Rattle.setup_lines.specs.Line.{setup_line}
use Rattle.setup_lines.specs.Setups.{size_of, with_setup}

-- a line, behind which so many parts stand, ends with a line feed and is the text of a unit that may come next
abbrev pub declares : Option ℕ → List ℕ → ℕ → ℕ → Bool
declares above part later unit = nat_lt 0 later && nat_lt unit (10 ^ 30) && bytes_eq (setup_line unit) part && follows above unit

-- the number behind "setup ", the first 6 bytes of a line that declares the setup of that unit
unfoldable pub unit_said : Option ℕ → List ℕ → ℕ → Option ℕ
unit_said above part later =
    let unit = digits_value 10 (drop 6 part) in
    if declares above part later unit then Some unit else None

-- the line and the kind of the first defect of the setups that parts between line feeds declare, from
-- the line of this number on: 24 where a unit is not there, 21 where there is no room for it. A part
-- that declares no setup, or that no line feed follows, ends them
unfoldable pub setups_defect : Limits → List SetupSize → Option ℕ → ℕ → List (List ℕ) → Option (ℕ × ℕ)
setups_defect limits sizes above number [] = None
setups_defect limits sizes above number (part ∷ parts) =
    option_map_or
    (λ unit. option_map_or (λ kind. Some (number, kind)) (setup_defect limits sizes unit)
    (setups_defect (with_setup limits (size_of sizes unit)) sizes (Some unit) (number + 1) parts))
    (unit_said above part (length parts)) None

-- the line and the kind of the first defect of the setups behind a head
abbrev pub setups_defect_behind : Limits → List SetupSize → Head → List ℕ → Option (ℕ × ℕ)
setups_defect_behind limits sizes head bytes =
    setups_defect limits sizes None (1 + head.count) (slice_split (λ byte. byte == 10) (drop head.bytes bytes))

-- the setups behind a head have this first defect exactly where the function finds it
abbrev pub SetupDefectsAre : Type 0
SetupDefectsAre =
    (limits : Limits) (sizes : List SetupSize) (head : Head) (bytes : List ℕ) (defect : Defect)
    → IsBadSetup limits sizes head bytes defect ↔ (setups_defect_behind limits sizes head bytes ≡ Some (defect.line, defect.kind))
