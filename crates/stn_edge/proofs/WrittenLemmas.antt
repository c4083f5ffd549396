-- The steps of a loop that writes bytes piece by piece.
use Rattle.std.proofs.Common.{◌≡◌, ℕ, List, [], ◌++◌, take, drop, length, ◌-◌, Option, None, Some, refl, sym, ap, ◌∙◌, subst, append_assoc, append-nil, take-append-drop}
use Rattle.std.proofs.lemmas.List.{take_rest}
use Rattle.std.specs.Io.KnownBytes.{Appends, Keeps}
use Rattle.stn_edge.specs.Written.{IsRestLeft}

Appends-Appends : (old mid new : Option (List ℕ)) (done more : List ℕ) → Appends old mid done → Appends mid new more → Appends old new (done ++ more)
Appends-Appends None mid new done more h k = tt
Appends-Appends (Some xs) None new done more h k = absurd h
Appends-Appends (Some xs) (Some ys) None done more h k = absurd k
Appends-Appends (Some xs) (Some ys) (Some zs) done more h k = k ∙ ap (λ l. l ++ more) h ∙ append_assoc xs done more

Appends-Keeps : (old mid new : Option (List ℕ)) (done : List ℕ) → Appends old mid done → Keeps mid new → Appends old new done
Appends-Keeps None mid new done h k = tt
Appends-Keeps (Some xs) None new done h k = absurd h
Appends-Keeps (Some xs) (Some ys) None done h k = absurd k
Appends-Keeps (Some xs) (Some ys) (Some zs) done h k = k ∙ h

none_appended : (told : Option (List ℕ)) → Appends told told []
none_appended None = tt
none_appended (Some xs) = sym (append-nil xs)

-- at first all is left
pub all_left : (bytes : List ℕ) (told : Option (List ℕ)) → IsRestLeft bytes told told bytes
all_left bytes told = ([], refl, none_appended told)

-- after a write of n bytes the others are left
pub less_left : (bytes rest : List ℕ) (old mid new : Option (List ℕ)) (n : ℕ) → IsRestLeft bytes old mid rest → Appends mid new (take n rest)
    → IsRestLeft bytes old new (take (length rest - n) (drop n rest))
less_left bytes rest old mid new n left more =
    rw (take_rest rest n) (
      left.0 ++ take n rest,
      left.1 ∙ ap (λ l. left.0 ++ l) (sym (take-append-drop n rest)) ∙ sym (append_assoc left.0 (take n rest) (drop n rest)),
      Appends-Appends old mid new left.0 (take n rest) left.2 more,
    )

-- a write that fails leaves as much
pub still_left : (bytes rest : List ℕ) (old mid new : Option (List ℕ)) → IsRestLeft bytes old mid rest → Keeps mid new → IsRestLeft bytes old new rest
still_left bytes rest old mid new left kept = (left.0, left.1, Appends-Keeps old mid new left.0 left.2 kept)

-- where nothing is left, all was appended
pub none_left : (bytes rest : List ℕ) (old new : Option (List ℕ)) → IsRestLeft bytes old new rest → rest ≡ [] → Appends old new bytes
none_left bytes rest old new left empty =
    subst (Appends old new) (sym (left.1 ∙ ap (λ l. left.0 ++ l) empty ∙ append-nil left.0)) left.2
