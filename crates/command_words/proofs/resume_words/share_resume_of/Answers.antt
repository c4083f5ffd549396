use Rattle.std.proofs.Common.{ℕ, List, [], ◌∷◌, get_or, Bor, codes, arith, refl}
use Rattle.command_words.proofs.WordLemmas.{seven_words, not_empty}
use Rattle.command_words.proofs.resume_words.share_resume_of.Goals as goal

pub returns-in-Some : goal.returns-in-Some
returns-in-Some c =
    let no_word : Bor (List ℕ) = record { ref_ptr = (0, 0); now = [] } in
    let word : ℕ → List ℕ = λ n. (get_or c.args.words.now n no_word).now in
    let words = seven_words c.args.words.now no_word (codes "resume") (omega arith) (omega arith) c.if-eq.ensures in
    let said = c.in-Some.ensures in (
      word 3,
      (
        word 5 ∷ word 6 ∷ [],
        (
          words,
          not_empty _ c.if-not-is_empty.ensures,
          not_empty _ c.if-not-is_empty-2.ensures,
          record { named = not_empty _ c.if-not-is_empty-3.ensures; no_plant = c.if-differ.ensures.0 refl; no_plan = c.if-differ-2.ensures.0 refl },
          said.0,
          (word 5, (word 6, (refl, said.1))),
        ),
      ),
    )
