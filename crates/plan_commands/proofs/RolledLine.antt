-- The line on what was earned before is a comment of a plant file.
use Rattle.std.proofs.Common.{◌≡◌, ℕ, ℤ, pos, negsuc, suc, ◌+◌, ◌%◌, ◌<◌, ◌≤◌, ◌^◌, List, [], ◌∷◌, ◌++◌, codes, decimal, unsigned_abs, sym, ap, ◌∙◌, arith, append_assoc}
use Rattle.std.specs.Fmt.{signed_decimal}
use Rattle.std.proofs.lemmas.Fmt.{decimal_by_steps_wide}
use Rattle.stn_model.specs.declared.plant.Plant.{Plant}
use Rattle.stn_model.specs.Sound.{Sound}
use Rattle.plant_make.specs.Meaning.{Puts}
use Rattle.plant_make.proofs.Remarks.{AreSeen, remark_line, puts_behind}
use Rattle.answer_texts.specs.Lines.{amount_line}
use Rattle.plan_commands.specs.Rolling.{IsRolledFile}

-- two texts of seen bytes, one behind the other
seen-append : (first second : List ℕ) → AreSeen first → AreSeen second → AreSeen (first ++ second)
seen-append [] second a b = b
seen-append (x ∷ first) second a b = (a.0, a.1, seen-append first second a.2 b)

-- the digits of a number are seen
seen-decimal : (n : ℕ) → n < 10 ^ 64 → AreSeen (decimal n)
seen-decimal n small =
    decimal_by_steps_wide (λ m digits. AreSeen digits) (λ m less. (omega arith, omega arith, tt))
    (λ m digits least is. seen-append digits ((48 + m % 10) ∷ []) is (omega arith, omega arith, tt)) n small

-- so is what is printed of an amount of money
seen-money : (amount : ℤ) → unsigned_abs amount ≤ 2 ^ 127 → AreSeen (signed_decimal amount)
seen-money (pos n) small = seen-decimal n (omega arith)
seen-money (negsuc n) small = (omega arith, omega arith, seen-decimal (suc n) (omega arith))

-- what the line says behind its '#'
abbrev remark_of : ℤ → List ℕ
remark_of earned = codes " rolled " ++ signed_decimal earned

seen-remark : (earned : ℤ) → unsigned_abs earned ≤ 2 ^ 127 → AreSeen (remark_of earned)
seen-remark earned small =
    seen-append (codes " rolled ") (signed_decimal earned) (omega arith, omega arith, (omega arith, omega arith, (omega arith, omega arith, (omega arith, omega arith, (omega arith, omega arith, (omega arith, omega arith, (omega arith, omega arith, (omega arith, omega arith, tt)))))))) (seen-money earned small)

-- the line is a comment
line-remark : (earned : ℤ) → amount_line (codes "# rolled ") earned ≡ remark_line (remark_of earned)
line-remark earned = sym (append_assoc (codes "# rolled ") (signed_decimal earned) (10 ∷ []))

-- behind it, the plant's file is a plant file as a whole
pub rolled_file : (earned : ℤ) (plant : Plant) (old new : List ℕ) → unsigned_abs earned ≤ 2 ^ 127 → Sound plant → old ≡ amount_line (codes "# rolled ") earned → Puts plant old new → IsRolledFile earned plant new
rolled_file earned plant old new small sound line puts =
    let remark = remark_of earned in
    let seen = seen-remark earned small in
    record {
      file = puts.text;
      line = puts.appended ∙ ap (λ (x : List ℕ). x ++ puts.text) line;
      puts = puts_behind plant remark old new sound seen (line ∙ line-remark earned) puts;
    }
