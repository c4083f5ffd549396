use Rattle.std.proofs.Common.{◌≡◌, refl, inl, inr, arith}
use Rattle.std.proofs.lemmas.Bool.{eqb-true, eq-eqb, cases_eq}
use Rattle.command_words.proofs.LogWords.{one_number}
use Rattle.command_words.proofs.command.is_no_log.Goals as goal

pub returns-in-Some : goal.returns-in-Some
returns-in-Some c =
    let number = c.in-Some.number in
    let said = c.in-Some.ensures in (
      λ zero g some most is.
          let same = one_number c.args.file.now c.args.stem.now number g (omega (arith, said.0)) (omega arith) said.1 is in
          let nothing : number ≡ 0 = eqb-true number 0 zero in
          omega arith,
      λ none. elim (cases_eq number 0) [
        | inl is ↦ eq-eqb number 0 is
        | inr differs ↦ absurd (none number (omega arith) (omega (arith, said.0)) said.1)
      ],
    )

pub returns-in-None : goal.returns-in-None
returns-in-None c = (λ yes g some most is. c.in-None.ensures g (omega arith) is, λ none. refl)
