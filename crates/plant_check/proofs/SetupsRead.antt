-- What stands behind the sums of a head, where there are no setups, and where setups were read.
use Rattle.std.proofs.Common.{◌≡◌, ℕ, ◌+◌, ◌<◌, ◌≤◌, ◌^◌, List, [], length, inl, inr, refl, ap, arith}
use Rattle.std.specs.Prelude.{Option, Some, None, IfSome}
use Rattle.std.proofs.lemmas.List.Elements.{All-nil}
use Rattle.std.proofs.lemmas.List.FromFn.{length-map-range_with_len}
use Rattle.stn_edge.specs.Files.{FileMap, file_of}
use Rattle.stn_model.specs.declared.plant.Plant.{Plant}
use Rattle.stn_model.specs.Sound.{Sound}
use Rattle.log_lines.specs.declared.grammar.Limits.{Limits}
use Rattle.sum_lines.specs.declared.head.Head.{Head}
use Rattle.sum_lines.specs.Head.{IsHeadVersion}
use Rattle.sum_lines.specs.Line.{IsShort}
use Rattle.setup_lines.specs.declared.setups.SetupFront.{SetupFront}
use Rattle.setup_lines.specs.declared.setups.SetupFront.TheVariants as setting
use Rattle.setup_lines.specs.declared.setups.SetupSize.{SetupSize}
use Rattle.setup_lines.specs.declared.setups.Setups.{Setups}
use Rattle.setup_lines.specs.Front.{IsSetupFront, SetupsKeepLimits}
use Rattle.setup_lines.specs.Line.{setups_text}
use Rattle.setup_lines.specs.Setups.{setups_of}
use Rattle.setup_lines.proofs.Lines.{text-nil}
use Rattle.valid_log.specs.Heads.{AreSetups, no_setups, setup_size, setup_sizes}
use Rattle.plant_check.specs.Heads.{AreSetupsHeld, IsSetupsHeld}

-- no line and no byte is added where there are no setups
none_added : (limits : Limits) (sizes : List SetupSize) (head : Head) → no_setups limits head ≡ setups_of limits sizes head []
none_added limits sizes head =
    let count : head.count ≡ head.count + length {A = ℕ} [] = omega arith in
    let bytes : head.bytes ≡ head.bytes + length (setups_text []) = omega (arith, ap length text-nil) in
    λ i. record { units = []; head = record { version = head.version; sums = head.sums; lines = head.lines; count = count i; bytes = bytes i }; limits = limits }

-- so no setups are held, in whichever version
pub none_held : (limits : Limits) (sizes : List SetupSize) (head : Head) → head.bytes < 2 ^ 64 → IsSetupsHeld limits sizes head (no_setups limits head)
none_held limits sizes head few = record {
  kept = record {
    is = none_added limits sizes head;
    units = record { ascending = λ k less. absurd (omega arith); short = All-nil IsShort; there = All-nil (λ unit. unit < length sizes); room = λ some. absurd (omega arith) };
    bytes_most = few;
  };
  none = λ three. refl;
}

-- a head that is not of version 3 is of version 4
in_four : (version : ℕ) → IsHeadVersion version → (version ≡ 3 → ⊥) → version ≡ 4
in_four version (inl three) other = absurd (other three)
in_four version (inr four) other = four

-- setups that were read stand behind the head, where the files are told
pub four_stand : (limits : Limits) (sizes : List SetupSize) (head : Head) (files : Option FileMap) (name : List ℕ) (front : SetupFront) → IsHeadVersion head.version → (head.version ≡ 3 → ⊥)
    → IfSome files (λ m. IsSetupFront limits sizes head (file_of m name) front) → IfSome files (λ m. AreSetups limits sizes head (file_of m name) front)
four_stand limits sizes head None name front version other is = tt
four_stand limits sizes head (Some m) name front version other is = inr (in_four head.version version other, is)

-- and are held
pub four_held : (limits : Limits) (sizes : List SetupSize) (head : Head) (front : SetupFront) → (head.version ≡ 3 → ⊥) → SetupsKeepLimits limits sizes head front → AreSetupsHeld limits sizes head front
four_held limits sizes head (setting.Whole setups) other kept = record { kept = kept; none = λ three. absurd (other three) }
four_held limits sizes head (setting.Bad defect) other kept = tt

-- in version 3 there are none
pub three_stand : (limits : Limits) (sizes : List SetupSize) (head : Head) (files : Option FileMap) (name : List ℕ) (setups : Setups) → head.version ≡ 3 → setups ≡ no_setups limits head
    → IfSome files (λ m. AreSetups limits sizes head (file_of m name) (setting.Whole setups))
three_stand limits sizes head None name setups three is = tt
three_stand limits sizes head (Some m) name setups three is = inl (three, ap setting.Whole is)

-- a plant has few units
pub sizes_few : (plant : Plant) → Sound plant → length (setup_sizes plant) ≤ 65536
sizes_few plant sound = omega (arith, sound.counts.units, length-map-range_with_len (setup_size plant) 0 (length plant.units))
