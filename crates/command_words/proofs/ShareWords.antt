-- Words on shares.
use Rattle.std.proofs.Common.{◌≡◌, ◌≢◌, ℕ, ◌<◌, List, decimal, sym, ◌∙◌, arith}
use Rattle.std.proofs.lemmas.Fmt.{decimal_injective}
use Rattle.command_words.specs.Words.{AreShares}

-- words of which the first is no number below the number of shares, which the second says, say no share
pub no_share : (word words : List ℕ) (count : ℕ) → count < 257 → words ≡ decimal count → ((n : ℕ) → n < count → word ≢ decimal n) → (n m : ℕ) → ¬ AreShares word words n m
no_share word words count few is none n m are =
    let same = decimal_injective m count (omega (arith, are.most)) (omega (arith, few)) (sym are.all_digits ∙ is) in
    none n (omega (arith, same, are.within)) are.digits
